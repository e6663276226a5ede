pub mod NamedLogs
pub mod Reading
pub mod Loaded
pub mod Valued
pub mod Listed
pub mod Derived
pub mod Planned
