pub mod Held
pub mod Waiting
pub mod Sighting
pub mod Touched
pub mod Placed
pub mod Stored
pub mod Images
pub mod Found
