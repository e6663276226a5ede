pub mod Faults
pub mod Closing
pub mod After
pub mod Making
