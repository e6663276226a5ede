mod Begun
mod Opened
mod Next
