mod Five
mod Words
mod Runs
