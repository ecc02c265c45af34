-- Names of properties: what they say, and how they are written.
use Rattle.std.specs.Prelude.{ℕ, Bool, true, false, List, Option, Some, None, chars}
use Rattle.std.specs.declared.borrow.CowStr.{CowStr}
use Rattle.std.specs.declared.borrow.CowStr.TheVariants as cow
use Rattle.std.specs.declared.string.String.{String as Text}
use Rattle.std.specs.Cow.{IsOwnedStr, cow_str_bytes}
use Rattle.jsonc_walk.specs.Located.{LocatedName}
use Rattle.jsonc_walk.specs.declared.name.ObjectPropName.{ObjectPropName}
use Rattle.jsonc_walk.specs.declared.name.ObjectPropName.TheVariants.{String, Word}

module _ {A : Type 0} where
  -- a name with its range
  abbrev pub name_at : ObjectPropName A → LocatedName
  name_at (String s) = record { range = s.range; name = chars (cow_str_bytes s.value) }
  name_at (Word w) = record { range = w.range; name = chars w.value.now }

  -- the bytes of a name
  abbrev pub name_text : ObjectPropName A → List ℕ
  name_text (String s) = cow_str_bytes s.value
  name_text (Word w) = w.value.now

  abbrev owned_in : CowStr A → Option (Text A)
  owned_in (cow.Borrowed s) = None
  owned_in (cow.Owned s) = Some s

  -- the text that a name owns, if it owns one
  abbrev pub owned_text : ObjectPropName A → Option (Text A)
  owned_text (String s) = owned_in s.value
  owned_text (Word w) = None

  -- whether it is in quotes
  abbrev pub in_quotes : ObjectPropName A → Bool
  in_quotes (String s) = true
  in_quotes (Word w) = false

  -- the name is in quotes, and owns its text
  abbrev pub OwnsText : ObjectPropName A → Type 0
  OwnsText (String s) = IsOwnedStr s.value
  OwnsText (Word w) = ⊥
