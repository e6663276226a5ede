mod Lists
mod Refused
pub mod Told
mod Idle
mod Doubted
mod Assembled
pub mod Linked
mod Lent
