pub mod Changes
pub mod Places
