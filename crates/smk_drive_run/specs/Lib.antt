pub mod LoopKeeping
pub mod Keeping
