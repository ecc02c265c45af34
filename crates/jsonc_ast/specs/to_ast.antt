pub mod Results
pub mod Trees
