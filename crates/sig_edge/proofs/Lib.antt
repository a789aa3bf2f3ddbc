pub mod ReadLemmas
pub mod TakenLemmas
pub mod TellingLemmas
