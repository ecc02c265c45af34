pub mod Added
pub mod AscendingLists
pub mod Counted
pub mod Stretches
pub mod SettledOrder
