mod Growing
mod Verdicts
