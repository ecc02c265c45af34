pub mod Asking
pub mod Groups
pub mod Keys
pub mod Order
