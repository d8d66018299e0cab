pub mod WriteTests
