mod Sinks
mod Beside
mod Told
mod Sure
