pub mod Testing
pub mod SheetTesting
pub mod Simulation
pub mod Undone
pub mod Follows
