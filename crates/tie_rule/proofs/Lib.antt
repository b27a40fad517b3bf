mod Highest
mod Taken
