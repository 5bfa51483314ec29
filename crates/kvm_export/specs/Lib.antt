pub mod Export
pub mod ExportPieces
pub mod RunRowLaws
pub mod ExportListLaws
pub mod Flags
