pub mod ProcessCounts
