pub mod Placed
pub mod Settings
pub mod Told
pub mod Merging
pub mod Giving
pub mod Waited
pub mod Marked
