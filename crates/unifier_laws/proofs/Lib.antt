pub mod Trees
pub mod Steps
pub mod Solving
pub mod Orders
