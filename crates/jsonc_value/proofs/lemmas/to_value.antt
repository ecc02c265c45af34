pub mod Plains
pub mod Insertions
pub mod Grown
pub mod Documents
pub mod Stacked
pub mod Lending
