pub mod Calls
pub mod Bookings
pub mod Follows
