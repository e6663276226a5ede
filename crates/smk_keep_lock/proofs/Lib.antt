pub mod Acting
pub mod Staying
pub mod Named
pub mod Taking
pub mod Releasing
pub mod Telling
