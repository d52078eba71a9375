pub mod Door
pub mod DoorState
pub mod Faults
pub mod Memory
pub mod Sink
pub mod Source
pub mod Times
pub mod Words
