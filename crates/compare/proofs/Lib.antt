-- The laws that the proofs of this crate, and of the crates above it, cite.
pub mod ByMasks
pub mod CompareLaws
pub mod DecidesProof
pub mod RowsComparedLaws
pub mod TablesDecideProof
pub mod RowsDecideProof
