pub mod ListCells
pub mod Making
