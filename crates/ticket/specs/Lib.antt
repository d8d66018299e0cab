pub mod Parts
pub mod Work
