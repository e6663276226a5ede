pub mod Histories
pub mod Choices
pub mod AtExit
pub mod Stamps
pub mod Trusted
