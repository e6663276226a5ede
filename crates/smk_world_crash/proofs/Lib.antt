pub mod Images
pub mod Gathered
pub mod Leading
