-- A value as JSON text with no blanks (RFC 8259, 2 to 7).
use Rattle.std.specs.Prelude.{◌≡◌, ℕ, Bool, true, false, List, [], ◌∷◌, ◌++◌, encode_utf8_all, if◌then◌else◌, string_bytes}
use Rattle.std.specs.declared.string.String.{String}
use Rattle.jsonc_text.specs.Plain.{Plain, Items, no_items, item, Members, no_members, member}
use Rattle.jsonc_text.specs.Spelling.{spelled}
use Rattle.jsonc_text.specs.Words.{Keyword, keyword_text}

-- a comma and a text, or the text alone
abbrev pub after_comma : Bool → List ℕ → List ℕ
after_comma apart text = if apart then 0x2C ∷ text else text

abbrev mutual
  -- the text of a value
  pub compact : Plain → List ℕ
  compact Plain.null = keyword_text Keyword.null
  compact (Plain.boolean b) = keyword_text (Keyword.boolean b)
  compact (Plain.number s) = s
  compact (Plain.string s) = spelled s
  compact (Plain.array vs) = 0x5B ∷ compact_items false vs ++ 0x5D ∷ []
  compact (Plain.object ms) = 0x7B ∷ compact_members false ms ++ 0x7D ∷ []

  -- elements with commas between them; `apart`: and one before the first
  pub compact_items : (apart : Bool) → Items → List ℕ
  compact_items apart no_items = []
  compact_items apart (item v vs) = after_comma apart (compact v ++ compact_items true vs)

  -- properties likewise
  pub compact_members : (apart : Bool) → Members → List ℕ
  compact_members apart no_members = []
  compact_members apart (member name v ms) = after_comma apart ((spelled name ++ (0x3A ∷ compact v)) ++ compact_members true ms)

-- these characters have been appended
abbrev pub Appends : {A : Type 0} → String A → String A → List ℕ → Type 0
Appends old new cs = string_bytes new ≡ string_bytes old ++ encode_utf8_all cs
