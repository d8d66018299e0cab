pub mod Exact
pub mod Interval
pub mod Counts
pub mod AnyRows
