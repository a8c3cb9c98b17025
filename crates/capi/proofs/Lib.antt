pub mod Good
pub mod Joining
pub mod Calling
pub mod Meanings
