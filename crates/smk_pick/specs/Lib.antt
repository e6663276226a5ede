pub mod Picks
pub mod Rooms
pub mod Shares
