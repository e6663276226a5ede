pub mod Heeding
pub mod Parts
pub mod Leaving
pub mod Refusing
