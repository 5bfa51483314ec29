-- The laws that the proofs of this crate, and of the crates above it, cite.
pub mod FromMemory
pub mod GuestLaws
pub mod GuestPagesLaws
pub mod GuestTableLaws
pub mod SeenExactlyProof
pub mod SeenLaws
