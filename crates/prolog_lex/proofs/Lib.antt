mod Growth
mod Quoting
pub mod Spans
pub mod Standing
mod Turns
