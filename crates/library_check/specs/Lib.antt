pub mod Bodies
pub mod Loaded
pub mod Tables
