pub mod Laws
pub mod Machine
pub mod Read
pub mod Readings
pub mod Stack
pub mod Turn
