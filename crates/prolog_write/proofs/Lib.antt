pub mod Forms
pub mod Lengths
pub mod Pushing
pub mod Walk
