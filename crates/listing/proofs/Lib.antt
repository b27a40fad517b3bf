mod Kept
mod Held
mod Going
mod Written
mod Ends
mod Surveys
