pub mod Ends
pub mod Streams
pub mod Told
