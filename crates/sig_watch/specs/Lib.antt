pub mod Arrivals
pub mod Tables
pub mod WatchTable
pub mod Hashing
pub mod ByWatcher
