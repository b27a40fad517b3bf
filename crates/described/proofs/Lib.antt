mod Passed
mod Onward
mod Filling
mod Hex
mod Whole
