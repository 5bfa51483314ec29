pub mod PageSets
pub mod Pass
pub mod PassLaws
pub mod Evaluation
