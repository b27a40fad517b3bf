mod Masks
mod Limits
