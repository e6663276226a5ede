pub mod Plans
mod Rows
pub mod Sought
