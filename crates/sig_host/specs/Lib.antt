pub mod Words
pub mod Told
pub mod Answers
pub mod ReadBack
pub mod Alone
