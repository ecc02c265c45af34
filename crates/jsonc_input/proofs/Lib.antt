pub mod Compacting
pub mod Values
