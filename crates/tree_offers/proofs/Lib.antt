pub mod Over
pub mod Places
pub mod Putting
