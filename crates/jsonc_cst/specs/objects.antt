pub mod Calls
pub mod Members
pub mod Named
