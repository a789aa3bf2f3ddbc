pub mod sequence
