pub mod Answering
pub mod Range
pub mod Blocks
pub mod Smallest
pub mod Testing
pub mod Calls
