pub mod Leads
pub mod Parts
pub mod Inside
pub mod Gaps
pub mod Beside
pub mod Entries
