pub mod Choosing
pub mod Numbers
pub mod Meaning
pub mod Needs
