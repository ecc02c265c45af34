pub mod Routes
pub mod Asked
pub mod Words
pub mod Sorting
pub mod Making
pub mod Faults
pub mod Lines
pub mod Editing
