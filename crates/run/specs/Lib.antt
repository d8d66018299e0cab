pub mod Refusal
pub mod Run
pub mod Tests
pub mod Answers
pub mod Call
