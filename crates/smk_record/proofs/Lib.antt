mod Rows
pub mod Digits
pub mod Loop
pub mod Inverts
pub mod Stamped
pub mod Appended
pub mod Lists
pub mod Directories
pub mod Rising
pub mod Above
pub mod Members
pub mod Fields
pub mod Exact
