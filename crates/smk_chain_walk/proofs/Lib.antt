pub mod Depths
mod Apart
pub mod Adding
pub mod Numbers
mod Links
mod Placed
mod Keeping
pub mod Visiting
mod Missing
mod RuleAt
mod Taken
mod Descent
mod Targets
pub mod Climbed
pub mod Covering
pub mod Tops
