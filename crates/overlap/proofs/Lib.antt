pub mod Strings
pub mod Parts
pub mod Placed
pub mod Overlaps
