pub mod Sight
pub mod Disk
pub mod Viewing
pub mod Telling
pub mod Reaching
