pub mod Closing
pub mod Encoded
