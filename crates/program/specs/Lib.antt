pub mod Output
pub mod ProgramBytes
pub mod ProgramBytesLaws
pub mod ProgramFits
