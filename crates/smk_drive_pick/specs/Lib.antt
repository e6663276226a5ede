pub mod Picking
pub mod Told
pub mod Grounds
pub mod Spending
