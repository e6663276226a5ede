pub mod Jobs
pub mod Reserves
pub mod Sights
pub mod Starts
pub mod Views
