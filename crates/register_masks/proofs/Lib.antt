-- The laws that the proofs of this crate, and of the crates above it, cite.
pub mod AlikeLaws
pub mod JoinedEntryLaws
pub mod PoolLaws
pub mod JoinedLaws
