pub mod Course
pub mod Indices
pub mod Laws
pub mod Lines
pub mod Machine
pub mod Replans
pub mod Standing
