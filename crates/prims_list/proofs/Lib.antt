pub mod Plain
pub mod Sorted
