-- The laws that the proofs of this crate, and of the crates above it, cite.
pub mod ByTheLetterProof
pub mod LetterTest
pub mod PoolMovesProof
pub mod PoolProof
