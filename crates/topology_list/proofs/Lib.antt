-- The laws that the proofs of this crate, and of the crates above it, cite.
pub mod BuildsProof
pub mod ListedProof
pub mod RankLaws
