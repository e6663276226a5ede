pub mod Digits
pub mod Filled
mod Rows
pub mod Numbered
pub mod Refused
