pub mod Growing
pub mod Heaps
pub mod Making
pub mod Packing
pub mod Putting
pub mod Reading
pub mod Stacks
pub mod Terms
