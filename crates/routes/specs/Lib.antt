pub mod Paths
pub mod Params
pub mod Asked
pub mod Creations
pub mod Refusals
pub mod Routing
