pub mod Staying
pub mod Starting
pub mod Opened
pub mod Chains
pub mod Courses
pub mod Standing
pub mod Owning
pub mod Between
