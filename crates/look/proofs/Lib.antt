pub mod Unmarked
pub mod Posted
pub mod Looking
