pub mod Moments
pub mod Lawful
pub mod Refusals
pub mod Reports
