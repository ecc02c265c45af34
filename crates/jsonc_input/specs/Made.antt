-- What a receiver has made of a text, where that is a value for edits.
use Rattle.std.specs.Prelude.{◌≡◌, List}
use Rattle.std.specs.declared.string.String.{String}
use Rattle.jsonc_text.specs.OptionsOf.{parse_options}
use Rattle.jsonc_text.specs.Plain.{collapse, collapse_items, collapse_members}
use Rattle.jsonc_walk.specs.Located.{Located, LocatedName, value_at, items_at, members_at, LocatedMember, items_of, members_of}
use Rattle.jsonc_walk.specs.Handed.{Source}
use Rattle.jsonc_layout.specs.declared.input.value.CstInputValue.{CstInputValue}
use Rattle.jsonc_layout.specs.input.Views.{plain, chars_of, items_plain, members_plain}
use Rattle.jsonc_input.specs.declared.maker.InputMaker.{InputMaker}

module _ {A : Type 0} where
  abbrev pub source_in : InputMaker A → Source
  source_in m = record { bytes = m.text.now; options = parse_options m.options }

  -- the value, of equal names the last at the first place
  abbrev pub IsMade : CstInputValue A → Located → Type 0
  IsMade v x = plain v ≡ collapse (value_at x)

  abbrev pub IsName : String A → LocatedName → Type 0
  IsName k n = chars_of k ≡ n.name

  -- the elements of an array
  abbrev pub AreElements : List (CstInputValue A) → List Located → Type 0
  AreElements vs xs = items_plain vs ≡ collapse_items (items_at (items_of xs))

  -- the properties of an object
  abbrev pub AreProperties : List (String A × CstInputValue A) → List LocatedMember → Type 0
  AreProperties ps ms = members_plain ps ≡ collapse_members (members_at (members_of ms))
