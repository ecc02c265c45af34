pub mod Laws
pub mod Mends
pub mod Places
pub mod Told
