pub mod Parts
pub mod Plans
pub mod Bases
pub mod Laws
