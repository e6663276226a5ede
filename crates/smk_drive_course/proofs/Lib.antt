pub mod Fronts
pub mod OneMoment
pub mod HasMoment
pub mod Looks
pub mod OneRefusal
