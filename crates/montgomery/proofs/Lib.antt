pub mod Negated
pub mod Reducing
pub mod Standing
