pub mod Asked
pub mod Inputs
