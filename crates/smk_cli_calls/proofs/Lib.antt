pub mod SameKinds
pub mod Plain
pub mod OneByOne
pub mod Ended
pub mod Went
pub mod Driving
