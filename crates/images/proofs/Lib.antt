-- The laws that the proofs of this crate, and of the crates above it, cite.
pub mod AnyMemory
pub mod CarriedRowsProof
pub mod FingerprintA
pub mod FingerprintsProof
pub mod MovesProof
pub mod ReadBackProof
pub mod SecondInMemory
pub mod TablesMovedProof
