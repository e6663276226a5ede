pub mod Tests
mod Apart
pub mod OwnReasons
mod Meaning
mod Told
mod ReadOthers
mod FirstPass
mod LastPass
mod Solved
mod ReadyNow
mod HeldBack
mod Flags
mod Numbers
mod Awaiting
mod UsedBy
mod ByRank
mod Needing
mod Building
mod HeldByLinks
mod Lacking
mod Steps
mod Still
mod Kept
mod LookUps
pub mod Linked
pub mod ByState
pub mod Counts
