pub mod Joining
pub mod Calls
pub mod Leading
pub mod Turned
pub mod Turning
pub mod Answering
pub mod Made
pub mod Notes
