pub mod Built
pub mod Build
pub mod BuildLaws
pub mod InMemoryLaws
