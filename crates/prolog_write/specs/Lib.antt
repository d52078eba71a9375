pub mod Duties
pub mod State
pub mod Text
pub mod Total
