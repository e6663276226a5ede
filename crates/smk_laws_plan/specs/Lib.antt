pub mod Current
pub mod Plans
pub mod Signs
