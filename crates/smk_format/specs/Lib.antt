pub mod Fields
pub mod Commands
pub mod Found
pub mod Refused
