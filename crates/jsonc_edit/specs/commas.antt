pub mod Commas
pub mod InTurn
pub mod Laws
pub mod Worked
