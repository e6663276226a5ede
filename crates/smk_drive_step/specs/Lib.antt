pub mod Crews
pub mod Telling
pub mod Stamping
pub mod Beginning
