pub mod Acts
pub mod LinePlaces
pub mod LineStarts
pub mod Naming
pub mod OptionLists
pub mod Printed
pub mod Programs
pub mod RequestLines
pub mod Scripts
pub mod Sharing
pub mod TermShapes
mod Rereading
