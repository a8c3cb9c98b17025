pub mod Printing
pub mod Worked
