-- The laws that the proofs of this crate, and of the crates above it, cite.
pub mod FeatureLaws
pub mod FinishedTable
pub mod FitLaws
pub mod MeetLaws
pub mod RemainsLaws
pub mod XsavesLaws
