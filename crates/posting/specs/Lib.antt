pub mod Calls
pub mod Posts
