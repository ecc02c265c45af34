pub mod FirstLines
pub mod Scripts
pub mod Shown
