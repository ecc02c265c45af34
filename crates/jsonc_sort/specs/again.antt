pub mod Again
pub mod Parted
