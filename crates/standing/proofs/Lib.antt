pub mod Places
pub mod Writing
pub mod Admitted
pub mod Moving
