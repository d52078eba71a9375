pub mod Bodies
pub mod Kept
pub mod Lists
pub mod Loading
pub mod Rows
pub mod There
