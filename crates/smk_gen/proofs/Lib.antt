mod Numbers
mod Paths
mod Placed
mod PathTexts
