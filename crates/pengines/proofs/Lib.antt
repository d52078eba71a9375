pub mod CommandWords
pub mod Dialogues
pub mod Judging
pub mod Lines
pub mod Reading
pub mod Told
