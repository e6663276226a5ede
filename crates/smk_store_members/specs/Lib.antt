pub mod Members
pub mod Walks
pub mod Steps
