pub mod Signals
pub mod Headers
pub mod Values
pub mod Changes
