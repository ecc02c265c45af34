pub mod Diffs
pub mod Going
pub mod Lines
pub mod Scripts
