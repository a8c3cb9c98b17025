pub mod Bytes
pub mod Describing
pub mod Refusals
pub mod Answers
pub mod Records
pub mod Playing
pub mod Wirings
