pub mod Pieces
pub mod Numbers
pub mod Lines
pub mod Read
pub mod Messages
