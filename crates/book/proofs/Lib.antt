pub mod Rows
pub mod Removing
pub mod Image
pub mod Sound
