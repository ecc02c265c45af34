pub mod Places
pub mod Named
pub mod Values
pub mod Members
pub mod Laws
