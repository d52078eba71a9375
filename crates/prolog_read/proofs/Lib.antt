pub mod Exact
pub mod Faults
pub mod Indexing
pub mod Least
pub mod Limits
pub mod Numbering
pub mod Placing
pub mod Sentences
