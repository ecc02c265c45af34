pub mod Coming
pub mod Laws
pub mod Members
pub mod Worked
