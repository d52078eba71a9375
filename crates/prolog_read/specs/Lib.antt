pub mod Clauses
pub mod Least
pub mod Lexemes
pub mod Outcome
pub mod Reads
pub mod Variables
pub mod Views
