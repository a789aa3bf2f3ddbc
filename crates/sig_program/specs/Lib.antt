pub mod Instructions
pub mod Parts
pub mod Scripts
pub mod ScriptNames
