pub mod Blanks
pub mod Between
pub mod Found
pub mod Laws
pub mod Reads
pub mod Refusals
pub mod Scanner
pub mod Faults
