pub mod Checked
pub mod CheckedLaws
pub mod Finished
pub mod DropLaws
pub mod FinishedLaws
pub mod AnsweredLaws
pub mod HeldLaws
