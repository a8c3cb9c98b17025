pub mod Ports
pub mod Requests
pub mod Edges
