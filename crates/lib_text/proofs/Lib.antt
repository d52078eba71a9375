pub mod Accepted
pub mod Reading
pub mod Terms
