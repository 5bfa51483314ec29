pub mod Counts
pub mod Sizes
pub mod Mask
pub mod SinglePage
pub mod CountsProof
pub mod BuiltRows
