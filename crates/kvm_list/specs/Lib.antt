pub mod Words
pub mod WordsLaws
pub mod Format
pub mod FormatLaws
pub mod StoresLaws
