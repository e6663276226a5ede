pub mod Chosen
pub mod Placed
pub mod Composed
