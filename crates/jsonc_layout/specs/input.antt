pub mod Views
pub mod Numbers
pub mod Rows
pub mod Copies
pub mod Named
