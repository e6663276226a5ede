mod Rows
pub mod Preferred
mod Sweeps
mod Named
mod Above
mod ByName
pub mod Listed
mod Growing
pub mod Spanning
mod Deep
mod Deciding
mod Covering
mod Placed
pub mod Picked
pub mod Indexed
pub mod Tried
pub mod Kept
