pub mod Read
pub mod Fill
pub mod Standing
pub mod Pairs
pub mod Counts
pub mod Combine
pub mod Calls
