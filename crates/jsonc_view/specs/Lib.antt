pub mod Shown
pub mod Unique
pub mod Lists
pub mod Views
pub mod Made
pub mod Reads
pub mod Laws
pub mod Iter
