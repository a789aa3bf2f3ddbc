pub mod LinkTable
pub mod NextActive
pub mod Places
pub mod Tables
pub mod Hashing
