pub mod Cells
pub mod Heap
pub mod Seen
pub mod Words
