pub mod Texts
pub mod Lines
pub mod Rows
pub mod Writing
pub mod Parts
pub mod Print
pub mod Aside
