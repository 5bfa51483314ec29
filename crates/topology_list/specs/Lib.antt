pub mod Listed
pub mod RankLaws
pub mod ListedProof
pub mod Builds
pub mod BuildsProof
pub mod Writes
