pub mod ValueLevels
pub mod Decimals
pub mod Spelled
pub mod Written
pub mod Depths
