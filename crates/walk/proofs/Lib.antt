mod Turns
mod Known
mod Made
mod Sound
mod Advance
mod Listing
