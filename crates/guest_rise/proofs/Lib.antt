-- The laws that the proofs of this crate, and of the crates above it, cite.
pub mod GuestExactly
pub mod GuestRiseProof
pub mod GuestRisenProof
pub mod GuestTablesRise
pub mod StateExactlyProof
