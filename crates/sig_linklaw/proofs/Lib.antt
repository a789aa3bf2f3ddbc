pub mod PairLemmas
pub mod LawLemmas
pub mod CrewLemmas
pub mod ReportLemmas
pub mod OrderLemmas
