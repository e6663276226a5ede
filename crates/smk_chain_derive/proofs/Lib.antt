pub mod Refused
mod Lookups
mod Firsts
mod Spots
pub mod Stored
pub mod Seen
mod Lists
mod Spaced
mod Ordered
mod Chosen
pub mod Runnable
