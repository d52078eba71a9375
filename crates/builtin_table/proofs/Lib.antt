pub mod Applications
pub mod Bits
pub mod Powers
pub mod Remainders
pub mod Shifts
pub mod Sorting
