pub mod Crash
