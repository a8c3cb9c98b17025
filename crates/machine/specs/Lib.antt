pub mod Tick
pub mod Quiet
pub mod Worked
