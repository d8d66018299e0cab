pub mod Book
pub mod Kept
