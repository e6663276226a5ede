pub mod Kept
pub mod Said
mod Placed
