pub mod Whole
pub mod Come
pub mod Above
pub mod Behind
pub mod Laws
pub mod Inserting
