pub mod Sum
pub mod Whole
pub mod Test
pub mod Bits
pub mod Machine
