pub mod Tests
pub mod Outs
pub mod Copied
pub mod Entries
pub mod Stamped
pub mod FactsTold
pub mod Members
mod Sorted
mod Again
pub mod WholesTold
pub mod Stays
pub mod Reasoned
