pub mod Made
pub mod Reads
pub mod Compact
