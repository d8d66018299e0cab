pub mod Testing
pub mod Simulation
pub mod Admitting
pub mod Singles
