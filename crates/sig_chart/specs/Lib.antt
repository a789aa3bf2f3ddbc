pub mod Drawn
pub mod Finding
pub mod Laid
pub mod Shapes
pub mod Shown
pub mod Sorts
