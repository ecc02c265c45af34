pub mod string
