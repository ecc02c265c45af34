-- The names of the properties that were passed.
use Rattle.std.specs.Prelude.{◌≡◌, ℕ, Bool, ◌&&◌, nat_eq, List, [], ◌∷◌, ◌++◌, cond, Option, Some, None, String, string_bytes, chars}
use Rattle.std.specs.HashMap.{HashMap, get}
use Rattle.std.specs.List.{Contains}
use Rattle.std.specs.String.{string_eq}
use Rattle.jsonc_tree.specs.Tree.{Node}
use Rattle.jsonc_cst.specs.Ranges.{IsBefore}
use Rattle.jsonc_lint.specs.Findings.{IsFirst, IsPropertyOf, Repeats}

-- none of these nodes is such a one, or the first that is begins at this byte
abbrev pub FirstBegins : List Node → (ℕ → Type 0) → List ℕ → Option ℕ → Type 0
FirstBegins ns P row None = (m : ℕ) → Contains row m → P m → ⊥
FirstBegins ns P row (Some start) = (m : ℕ) × IsFirst P row m × IsBefore ns m start

module _ {A : Type 0} where
  -- the same object and the same name
  abbrev pub same_key : ℕ × String A → ℕ × String A → Bool
  same_key x y = nat_eq x.0 y.0 && string_eq x.1 y.1

  -- the node repeats no name of the nodes before it; or it repeats this one, and the first property of it begins there
  abbrev pub RepeatsAs : List Node → List ℕ → ℕ → Option (String A × ℕ) → Type 0
  RepeatsAs ns before n None = (v : List ℕ) (m : ℕ) → Repeats ns before n v m → ⊥
  RepeatsAs ns before n (Some answer) = (m : ℕ) × Repeats ns before n (chars (string_bytes answer.0)) m × IsBefore ns m answer.1

  module _ {S : Type 0} where
    -- the names are those of the properties among these nodes, each with the byte where the first property of the name in its object begins
    abbrev pub Knows : List Node → List ℕ → HashMap (ℕ × String A) ℕ S → Type 0
    Knows ns row names = (object : ℕ) (name : String A) → FirstBegins ns (IsPropertyOf ns object (chars (string_bytes name))) row (get same_key names (object, name))

    -- they are those of some nodes
    abbrev pub AreKnown : List Node → HashMap (ℕ × String A) ℕ S → Type 0
    AreKnown ns names = (row : List ℕ) × Knows ns row names

    -- the object has the name already, from a first property that begins there; or the name joins
    abbrev pub IsSeen : HashMap (ℕ × String A) ℕ S → ℕ → String A → ℕ → HashMap (ℕ × String A) ℕ S → Option (String A × ℕ) → Type 0
    IsSeen old object name start new None = (get same_key old (object, name) ≡ None)
        × ((q : ℕ × String A) → get same_key new q ≡ cond (same_key (object, name) q) (Some start) (get same_key old q))
    IsSeen old object name start new (Some answer) = (answer.0 ≡ name) × (get same_key old (object, name) ≡ Some answer.1) × (new ≡ old)

    -- whatever nodes the names are those of, this is true of the node, and the names become those of these nodes and this one
    abbrev pub IsAnswered : List Node → ℕ → HashMap (ℕ × String A) ℕ S → HashMap (ℕ × String A) ℕ S → Option (String A × ℕ) → Type 0
    IsAnswered ns n old new answer = (before : List ℕ) → Knows ns before old → RepeatsAs ns before n answer × Knows ns (before ++ n ∷ []) new
