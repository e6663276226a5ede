pub mod Templates
pub mod Symbols
