pub mod Asking
pub mod Pins
pub mod Rows
pub mod Sorted
pub mod Again
