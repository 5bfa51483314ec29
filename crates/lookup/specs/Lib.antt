pub mod AskedLaws
pub mod Lookup
pub mod LookupLaws
