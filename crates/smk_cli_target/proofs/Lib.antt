pub mod Empty
pub mod OneWorkflow
mod FirstFault
mod OneMet
mod Called
pub mod PlanStays
pub mod PlanPlaces
pub mod SparedWorlds
pub mod NextRun
mod Enough
mod Rows
mod ClashRow
