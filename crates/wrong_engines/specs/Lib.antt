pub mod WrongEngines
