mod Stamped
mod Begun
mod Placed
mod Known
mod Renumbered
