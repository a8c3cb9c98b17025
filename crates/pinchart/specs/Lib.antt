pub mod Walks
pub mod Recordings
