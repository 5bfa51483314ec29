pub mod StateExactly
pub mod StateExactlyProof
pub mod GuestExactly
pub mod GuestRise
pub mod BuiltState
pub mod SeenRises
pub mod GuestRisen
pub mod GuestPreorder
