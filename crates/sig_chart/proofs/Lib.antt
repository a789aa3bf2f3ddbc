pub mod RowLemmas
pub mod MarkLemmas
pub mod ThereLemmas
pub mod ArrowLemmas
pub mod BeginLemmas
pub mod AboveLemmas
pub mod QueuedLemmas
