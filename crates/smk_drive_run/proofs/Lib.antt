pub mod Counts
pub mod Choices
pub mod Steps
pub mod TargetLines
pub mod Makers
pub mod Ends
