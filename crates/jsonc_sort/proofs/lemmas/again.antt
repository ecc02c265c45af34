pub mod Parted
pub mod Elements
pub mod ElementsRead
pub mod SecondSort
