pub mod SignalList
pub mod Pushes
pub mod LinkRules
pub mod WatchRules
pub mod Counting
pub mod SignalNames
pub mod Plainly
pub mod Hashing
