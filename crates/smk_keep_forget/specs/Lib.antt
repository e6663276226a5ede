pub mod Answers
pub mod Seen
pub mod Turns
pub mod Steps
pub mod Cleaning
