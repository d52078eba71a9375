pub mod Checking
pub mod Input
pub mod Output
pub mod Printed
pub mod Refusal
pub mod Session
pub mod Stop
pub mod Words
