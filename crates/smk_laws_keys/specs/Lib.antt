pub mod Stamps
pub mod Keys
