pub mod ScriptText
pub mod ReadableScript
pub mod Printing
pub mod Generated
