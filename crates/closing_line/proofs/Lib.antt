pub mod Adding
pub mod Places
pub mod Lines
pub mod Figures
