pub mod Kinds
pub mod Charts
pub mod Histories
pub mod Lines
pub mod Samples
