pub mod Collecting
pub mod Dropping
pub mod Goals
pub mod Laws
pub mod Rows
pub mod Run
pub mod Search
pub mod Trace
