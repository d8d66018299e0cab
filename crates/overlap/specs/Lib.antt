pub mod Strings
pub mod Calls
pub mod Overlaps
