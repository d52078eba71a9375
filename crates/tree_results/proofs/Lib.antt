pub mod Cells
pub mod NewVariables
pub mod Slices
