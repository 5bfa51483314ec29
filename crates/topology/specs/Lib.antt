pub mod Topology
pub mod TopologyLaws
pub mod ShiftChange
pub mod ShiftChangeProof
