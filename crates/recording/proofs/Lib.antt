mod Cutting
mod Digits
mod Examples
