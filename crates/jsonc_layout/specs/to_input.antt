pub mod Given
pub mod Taken
pub mod Laws
pub mod Wanted
