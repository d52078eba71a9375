pub mod Bodies
pub mod ByPredicate
pub mod Clauses
pub mod Kept
pub mod Laws
pub mod Loaded
pub mod Source
pub mod Symbols
