pub mod Seen
pub mod Ram
pub mod With
pub mod Outcomes
pub mod Registers
pub mod Fetch
