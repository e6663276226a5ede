mod Unused
pub mod Bare
pub mod Idle
