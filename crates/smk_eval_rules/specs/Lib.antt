pub mod Items
pub mod Rules
pub mod Outputs
pub mod Kept
pub mod Logs
