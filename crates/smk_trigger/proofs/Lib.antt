mod Differing
mod Answered
