pub mod Ledger
pub mod Plain
pub mod Marks
pub mod RowSums
pub mod Calls
