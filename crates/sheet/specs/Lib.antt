pub mod Sheet
pub mod Tests
pub mod Calls
