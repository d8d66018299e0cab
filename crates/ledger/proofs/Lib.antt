pub mod Opening
pub mod Posting
pub mod MarkBytes
pub mod Counting
pub mod RowSums
pub mod Image
pub mod Entering
pub mod Decode
