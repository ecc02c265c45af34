-- The root's value by its kind: found, or set.
use Rattle.std.specs.Prelude.{◌≡◌, ℕ, Bool, true, false, List, Option, Some, None, if◌then◌else◌}
use Rattle.jsonc_text.specs.Plain.{Plain}
use Rattle.jsonc_tree.specs.Content.{Content, array, object}
use Rattle.jsonc_tree.specs.Tree.{Node, content_at}
use Rattle.jsonc_edit.specs.Reading.{IsReplaced}
use Rattle.jsonc_edit.specs.set.RootSet.{FirstValue}

abbrev pub is_object : Content → Bool
is_object object = true
is_object content = false

abbrev pub is_array : Content → Bool
is_array array = true
is_array content = false

-- where the value is of the kind it is answered, and where another stands none; where none stood one has been set, and is answered
abbrev pub FoundOrCreated : (Content → Bool) → Plain → List Node → List Node → Option ℕ → Option ℕ → Type 0
FoundOrCreated kind v old new None answer = (m : ℕ) × (answer ≡ Some m) × FirstValue old new v m
FoundOrCreated kind v old new (Some n) answer = (answer ≡ (if kind (content_at old n) then Some n else None)) × (new ≡ old)

-- where the value is of the kind it is answered; where another stood, or none, one has been set, and is answered
abbrev pub IsKept : List Node → List Node → ℕ → ℕ → Type 0
IsKept old new n m = (m ≡ n) × (new ≡ old)

abbrev pub KeptOrReplaced : Bool → Plain → List Node → List Node → ℕ → ℕ → Type 0
KeptOrReplaced true v old new n m = IsKept old new n m
KeptOrReplaced false v old new n m = IsReplaced old new n v m

abbrev pub FoundOrSet : (Content → Bool) → Plain → List Node → List Node → Option ℕ → ℕ → Type 0
FoundOrSet kind v old new None m = FirstValue old new v m
FoundOrSet kind v old new (Some n) m = KeptOrReplaced (kind (content_at old n)) v old new n m

-- a value of the kind has still to be set
abbrev pub LacksKind : (Content → Bool) → List Node → Option ℕ → Type 0
LacksKind kind ns None = Unit {0}
LacksKind kind ns (Some n) = kind (content_at ns n) ≡ false
