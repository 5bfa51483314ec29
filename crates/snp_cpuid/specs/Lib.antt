pub mod Exports
pub mod ExportsLaws
pub mod GuestExports
pub mod PoolExports
