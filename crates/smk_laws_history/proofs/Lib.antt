mod Refused
mod RefusedOrders
mod RefusedCalls
mod RefusedRuns
mod RefusedRemoval
mod Vouched
pub mod Valid
pub mod Same
pub mod Steps
pub mod CurrentEased
pub mod CurrentComplete
pub mod CurrentLaw
pub mod CurrentChoices
pub mod CurrentNeeded
mod RestoreNeeded
mod ExitRows
pub mod CurrentReads
pub mod CurrentTrusted
pub mod Finite
mod Copied
pub mod CurrentAtExit
pub mod CurrentStamps
pub mod HistoryImages
pub mod HistoryPlaces
pub mod HistoryChange
pub mod HistoryNew
pub mod HistoryEdit
pub mod HistoryRemove
pub mod HistoryTrees
pub mod HistoryLaw
pub mod HistoryListed
pub mod HistoryListedCalls
pub mod HistoryListedRuns
pub mod HistoryListedForgetting
mod HistoryExample
pub mod MoreListings
pub mod Listed
pub mod ChoiceOne
