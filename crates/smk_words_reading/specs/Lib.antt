pub mod Words
pub mod Asks
pub mod Reading
pub mod Asking
pub mod Ending
pub mod Laws
