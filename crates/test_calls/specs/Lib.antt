pub mod Queues
pub mod Plays
