pub mod Wants
pub mod Guides
