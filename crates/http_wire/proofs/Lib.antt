pub mod AnswerWholes
pub mod Fronts
pub mod Hearing
pub mod Names
pub mod Reading
pub mod Wholes
