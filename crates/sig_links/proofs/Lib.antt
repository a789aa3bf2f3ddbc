pub mod NextLemmas
pub mod Peers
pub mod Places
pub mod Remaining
pub mod Sameness
