pub mod Dividers
pub mod Counters
pub mod Quiets
