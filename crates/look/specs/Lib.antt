pub mod Look
pub mod AsPosting
