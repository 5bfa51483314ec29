pub mod Written
pub mod Front
pub mod FrontLaws
pub mod WritesExactly
pub mod WritesExactlyProof
pub mod OnwardLaws
pub mod VerdictLaws
