mod Counting
mod Lines
mod Unchanged
mod Walking
mod Whole
