mod Digits
mod Labels
mod Texts
