pub mod Ticking
pub mod Stepping
pub mod Running
pub mod Striding
pub mod Leaping
pub mod Drawing
pub mod Following
pub mod Boards
