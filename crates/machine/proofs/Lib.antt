mod Spans
mod Keeping
