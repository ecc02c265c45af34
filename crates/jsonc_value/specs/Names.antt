-- Names of properties.
use Rattle.std.specs.Prelude.{ℕ, Bool, List}
use Rattle.std.specs.Cow.{cow_str_bytes}
use Rattle.std.specs.Str.{bytes_eq}
use Rattle.std.specs.declared.borrow.CowStr.{CowStr}

-- whether a key is this name
abbrev pub is_named : {A : Type 0} → List ℕ → CowStr A → Bool
is_named name key = bytes_eq name (cow_str_bytes key)
