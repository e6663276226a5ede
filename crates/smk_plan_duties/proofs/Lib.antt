pub mod Numbered
pub mod Able
pub mod Served
pub mod Kept
pub mod Meant
pub mod OneMore
