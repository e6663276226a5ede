pub mod Letters
pub mod Expanding
pub mod Counting
pub mod Values
pub mod Expressions
