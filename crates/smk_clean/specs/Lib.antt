pub mod NothingStarts
pub mod Safe
pub mod Standing
pub mod Clean
pub mod Again
pub mod Locking
