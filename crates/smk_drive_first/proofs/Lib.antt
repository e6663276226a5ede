pub mod Sinks
pub mod Kept
pub mod Opens
