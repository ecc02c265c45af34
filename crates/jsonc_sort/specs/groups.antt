pub mod Again
pub mod Groups
