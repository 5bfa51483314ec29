-- The laws that the proofs of this crate, and of the crates above it, cite.
pub mod DeterminedProof
pub mod Figures
pub mod ImageProof
pub mod LengthProof
pub mod LookupProof
pub mod TableProof
pub mod VerdictProof
pub mod FirstProof
