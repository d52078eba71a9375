pub mod Words
pub mod Numbers
pub mod Jobs
pub mod Parsers
pub mod Usage
