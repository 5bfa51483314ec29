-- The laws that the proofs of this crate, and of the crates above it, cite.
pub mod BitLaws
pub mod ChangesLaws
pub mod FinishedRowLaws
pub mod IrrelevantLaws
pub mod NearestSearchLaws
pub mod SameLaws
pub mod TriedLaws
