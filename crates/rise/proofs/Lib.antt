-- The laws that the proofs of this crate, and of the crates above it, cite.
pub mod AddedDecide
pub mod AddedProof
pub mod KeptRowsLaws
pub mod LevelsProof
pub mod LocatedProof
pub mod PreorderProof
pub mod RiseProof
pub mod SameProof
pub mod SecondLaws
pub mod SecondProof
pub mod AroundProof
pub mod BeginningLaws
