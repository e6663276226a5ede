pub mod Rounds
pub mod Kits
