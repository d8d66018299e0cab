pub mod Form
pub mod Many
pub mod Sheets
pub mod Each
pub mod Over
pub mod Laying
pub mod ReadTests
pub mod Made
