pub mod Rows
pub mod Steps
pub mod Walks
pub mod Parses
pub mod Shapes
pub mod Adding
pub mod Asked
