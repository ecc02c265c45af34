pub mod to_value
