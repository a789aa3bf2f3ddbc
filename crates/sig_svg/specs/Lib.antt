pub mod Escape
pub mod Markups
pub mod Places
pub mod Svg
