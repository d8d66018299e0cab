pub mod Modulus
pub mod Standing
