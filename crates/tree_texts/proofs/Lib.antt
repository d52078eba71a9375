pub mod Joined
pub mod NextPart
pub mod Placing
