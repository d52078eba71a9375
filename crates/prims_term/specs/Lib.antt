pub mod Left
pub mod Outcomes
pub mod Plans
pub mod Rows
pub mod Symbols
