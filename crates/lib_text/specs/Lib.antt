pub mod Clauses
pub mod Text
