pub mod JobStates
pub mod Reasons
pub mod Updates
