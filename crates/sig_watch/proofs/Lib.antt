pub mod ArrivalLemmas
pub mod TableLemmas
pub mod WatcherLemmas
