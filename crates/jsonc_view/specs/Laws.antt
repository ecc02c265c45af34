-- Laws of views.
use Rattle.std.specs.Prelude.{◌≡◌, ℕ, List, option_map}
use Rattle.std.specs.Map.{lookup}
use Rattle.std.specs.Str.{bytes_eq}
use Rattle.jsonc_text.specs.Plain.{Members, collapse, collapse_members}
use Rattle.jsonc_view.specs.Lists.{pairs_of}
use Rattle.jsonc_view.specs.Views.{last_named}

-- an object collapsed has at each name the last value of the name, collapsed
abbrev pub LastIsCollapsed : Type 0
LastIsCollapsed = (name : List ℕ) (ms : Members) → lookup (bytes_eq name) (pairs_of (collapse_members ms)) ≡ option_map collapse (last_named name (pairs_of ms))
