pub mod Faults
pub mod Previewing
pub mod Rounds
pub mod Fitness
pub mod Steps
pub mod Links
