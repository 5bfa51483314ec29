pub mod Gather
pub mod GatherLaws
pub mod Topologies
pub mod AcceptedLaws
pub mod ShortLaws
pub mod CountLaws
pub mod TopologyWriteLaws
