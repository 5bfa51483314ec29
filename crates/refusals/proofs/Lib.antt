-- The laws that the proofs of this crate, and of the crates above it, cite.
pub mod ExactlyProof
pub mod LinedProof
pub mod RefusedLines
pub mod StagesSettled
