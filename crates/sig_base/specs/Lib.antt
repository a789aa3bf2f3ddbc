pub mod Flow
pub mod Reading
pub mod Served
pub mod Stored
pub mod Writing
