-- The laws that the proofs of this crate, and of the crates above it, cite.
pub mod ImportLaws
pub mod ListEntriesLaws
pub mod PagesLaws
