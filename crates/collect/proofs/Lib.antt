-- The laws that the proofs of this crate, and of the crates above it, cite.
pub mod CollectLaws
pub mod FirstEntryOriginLaws
pub mod FullLaws
pub mod MaskLaws
pub mod WalkedPages
pub mod WalkingLaws
pub mod LawfulLaws
