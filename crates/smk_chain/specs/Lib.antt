pub mod Derive
pub mod Mean
pub mod Told
