pub mod Fates
pub mod Growing
pub mod Keeping
pub mod Lively
pub mod Numbers
pub mod Recording
pub mod Resolution
pub mod Resting
mod Rings
pub mod Room
mod Rows
pub mod Running
pub mod Sandboxed
pub mod Schedule
pub mod Seen
pub mod Showing
pub mod Starting
pub mod Turning
