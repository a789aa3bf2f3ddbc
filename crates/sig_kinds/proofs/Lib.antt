pub mod LinkNameLemmas
pub mod WatchNameLemmas
pub mod KnownNames
pub mod ResemblingLists
pub mod FedSignals
