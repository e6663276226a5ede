pub mod Clashes
pub mod Derived
