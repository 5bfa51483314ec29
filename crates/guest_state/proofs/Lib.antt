-- The laws that the proofs of this crate, and of the crates above it, cite.
pub mod CompactLaws
pub mod InUseLaws
pub mod StateLaws
