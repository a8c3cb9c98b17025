pub mod Appending
pub mod Filling
