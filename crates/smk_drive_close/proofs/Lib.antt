mod Moved
mod Faults
mod Taken
mod Onward
mod Grown
mod Found
mod Halting
