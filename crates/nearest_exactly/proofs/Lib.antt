-- The laws that the proofs of this crate, and of the crates above it, cite.
pub mod NearestExactlyProof
pub mod TwentyExactly
pub mod WithoutInvlpgb
