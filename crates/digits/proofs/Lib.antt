pub mod Settled
pub mod TopDigits
pub mod Characters
