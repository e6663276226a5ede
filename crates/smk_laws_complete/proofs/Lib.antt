mod Again
mod Filling
pub mod Alone
pub mod Loaded
pub mod Known
pub mod Newly
pub mod Right
pub mod Fewer
pub mod Made
pub mod Meant
pub mod Meanings
pub mod Walked
pub mod Wanted
pub mod Calm
pub mod Goods
pub mod Parts
pub mod Standing
pub mod Ends
pub mod Makers
pub mod Came
pub mod Stops
pub mod Chains
