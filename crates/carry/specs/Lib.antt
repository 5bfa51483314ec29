pub mod Carry
pub mod CarryLaws
pub mod CarriedInPlace
pub mod InPlaceLaws
pub mod AbsentRows
pub mod CarryImage
pub mod CarryImageLaws
