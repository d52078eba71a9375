pub mod BodyLemmas
pub mod Keeping
pub mod ProgramLemmas
pub mod SourceLemmas
pub mod TextLemmas
