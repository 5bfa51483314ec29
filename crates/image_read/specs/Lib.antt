pub mod ReadImage
pub mod ImageRuns
pub mod BeginsLaws
pub mod ReadIn
pub mod ReadingLaws
pub mod ReadHeld
pub mod WrittenAgain
