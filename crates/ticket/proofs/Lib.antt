pub mod Parts
pub mod Working
