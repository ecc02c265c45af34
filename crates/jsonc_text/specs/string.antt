pub mod Between
pub mod Escapes
pub mod Parsed
pub mod Quotes
pub mod Faults
