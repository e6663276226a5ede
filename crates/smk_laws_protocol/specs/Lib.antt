pub mod Protocol
pub mod Midway
pub mod Forgetting
