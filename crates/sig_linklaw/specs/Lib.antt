pub mod LinkLaw
pub mod LinkReport
