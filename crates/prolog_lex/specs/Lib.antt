pub mod Lexed
pub mod Scanned
