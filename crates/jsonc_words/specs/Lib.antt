pub mod Calls
pub mod Commands
pub mod Inputs
pub mod Names
pub mod Reading
