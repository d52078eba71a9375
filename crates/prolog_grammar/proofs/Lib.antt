mod Agree
pub mod Complete
mod Found
pub mod Sound
mod Steps
mod Tokens
mod Turning
pub mod Viable
