pub mod Numbers
pub mod View
