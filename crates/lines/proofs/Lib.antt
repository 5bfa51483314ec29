-- The laws that the proofs of this crate, and of the crates above it, cite.
pub mod LineExactlyProof
pub mod LineLaws
pub mod LinePromises
pub mod NumbersInUseLaws
pub mod NumbersNamedProof
pub mod ReadLineLaws
