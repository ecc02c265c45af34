pub mod Growing
pub mod Making
pub mod Showing
pub mod Reading
pub mod Collapsed
pub mod Values
