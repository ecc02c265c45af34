pub mod Views
pub mod Reads
pub mod Refusals
pub mod Lent
pub mod Made
