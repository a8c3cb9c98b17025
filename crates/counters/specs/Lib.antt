pub mod Counting
pub mod Timers
pub mod Buzzers
pub mod Basic
pub mod Quiet
