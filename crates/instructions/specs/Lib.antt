pub mod Operations
pub mod Execute
