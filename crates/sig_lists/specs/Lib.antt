pub mod formers
pub mod Pushing
