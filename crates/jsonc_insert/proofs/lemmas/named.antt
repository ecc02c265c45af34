pub mod PathValues
pub mod PropertyValues
pub mod Values
pub mod Names
pub mod Creating
pub mod Writing
pub mod EnsureErrors
