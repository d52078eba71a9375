pub mod Cells
pub mod Outcomes
pub mod Placed
