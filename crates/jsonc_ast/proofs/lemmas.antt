pub mod to_ast
