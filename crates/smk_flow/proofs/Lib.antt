pub mod Examples
pub mod Ruled
pub mod NoFault
pub mod Numbered
