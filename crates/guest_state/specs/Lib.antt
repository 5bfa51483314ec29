pub mod Compact
pub mod State
pub mod InUse
pub mod CompactLaws
pub mod StateLaws
pub mod InUseLaws
