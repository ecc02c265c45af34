pub mod Opened
pub mod Inserted
pub mod Laws
pub mod Worked
