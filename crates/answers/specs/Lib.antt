pub mod Answers
pub mod ComparedAnswers
pub mod LineAnswers
pub mod CarriedAnswers
pub mod PoolAnswers
pub mod NearestAnswers
pub mod Told
pub mod ToldProof
