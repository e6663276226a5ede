pub mod States
pub mod Sights
pub mod Duties
pub mod Runnable
pub mod Summed
