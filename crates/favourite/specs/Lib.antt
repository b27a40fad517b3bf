pub mod Choice
pub mod ChoiceLemmas
