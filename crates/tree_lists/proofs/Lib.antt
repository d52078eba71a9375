pub mod ForArguments
pub mod Grouping
pub mod Keys
