-- Laws of settings: what is put, and what is removed, seen at a path of names.
use Rattle.std.specs.Prelude.{◌≡◌, ◌↔◌, ◌⊎◌, ℕ, List, Option}
use Rattle.jsonc_text.specs.Plain.{Plain}
use Rattle.jsonc_text.specs.declared.edit.Over.{Over}
use Rattle.jsonc_text.specs.declared.edit.Over.TheVariants.{Keep}
use Rattle.jsonc_parser.specs.paths.Settings.{At, Put, Dropped, Differ, IsInTheWay}

-- no two values are at the names
abbrev pub HasOneAt : Option Plain → List (List ℕ) → Type 0
HasOneAt w names = (u v : Plain) → At w names u → At w names v → u ≡ v

-- at any path that differs from the names the same is there, or nothing, in both
abbrev pub IsSameElsewhere : List (List ℕ) → Option Plain → Option Plain → Type 0
IsSameElsewhere names x y = (path : List (List ℕ)) (u : Plain) → Differ path names → At x path u ↔ At y path u

-- a value of another kind is in the way, and is to stay
abbrev pub MustStay : Over → Option Plain → List (List ℕ) → Type 0
MustStay over w names = (over ≡ Keep) × IsInTheWay w names

-- the value can be put at the names, or else something must stay that is in the way, and never both
abbrev pub PutsOrMustStay : Plain → Over → Option Plain → List (List ℕ) → Type 0
PutsOrMustStay v over w names = ((x : Option Plain) × Put v over w names x) ⊎ MustStay over w names

abbrev pub NeverBoth : Plain → Over → Option Plain → List (List ℕ) → Type 0
NeverBoth v over w names = (x : Option Plain) → Put v over w names x → MustStay over w names → ⊥

-- it is put in one way
abbrev pub PutsInOneWay : Plain → Over → Option Plain → List (List ℕ) → Type 0
PutsInOneWay v over w names = (x y : Option Plain) → Put v over w names x → Put v over w names y → x ≡ y

-- something can be dropped exactly where something is, and in one way
abbrev pub DropsWhatIsThere : Option Plain → List (List ℕ) → Type 0
DropsWhatIsThere w names = ((x : Option Plain) × Dropped w names x) ↔ ((v : Plain) × At w names v)

abbrev pub DropsInOneWay : Option Plain → List (List ℕ) → Type 0
DropsInOneWay w names = (x y : Option Plain) → Dropped w names x → Dropped w names y → x ≡ y
