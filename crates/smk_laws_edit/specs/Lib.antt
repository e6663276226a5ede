pub mod Leaving
pub mod Edited
pub mod Unbegun
