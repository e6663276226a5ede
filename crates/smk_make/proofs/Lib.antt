pub mod Counting
pub mod Dues
pub mod Lower
pub mod Good
pub mod Current
pub mod Made
pub mod Ends
