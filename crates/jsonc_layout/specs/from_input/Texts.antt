-- Values whose strings, names and numbers are texts.
use Rattle.std.specs.Prelude.{ℕ, List, IsTrue}
use Rattle.std.specs.Str.{all_scalars}
use Rattle.jsonc_text.specs.Options.{Options}
use Rattle.jsonc_tree.specs.Values.{ValueOf, PropertyOf}
use Rattle.jsonc_layout.specs.from_input.Layout.{Layout}
use Rattle.jsonc_layout.specs.from_input.Laid.{laid, laid_property}
use Rattle.jsonc_text.specs.Plain.{Plain, Items, no_items, item, Members, no_members, member}

-- a list of characters
abbrev pub IsCharacters : List ℕ → Type 0
IsCharacters s = IsTrue (all_scalars s)

-- each string, name and number in the value is one
abbrev mutual
  pub IsOfTexts : Plain → Type 0
  IsOfTexts Plain.null = Unit {0}
  IsOfTexts (Plain.boolean b) = Unit {0}
  IsOfTexts (Plain.number s) = IsCharacters s
  IsOfTexts (Plain.string s) = IsCharacters s
  IsOfTexts (Plain.array vs) = AreOfTexts vs
  IsOfTexts (Plain.object ms) = AreNamedOfTexts ms

  pub AreOfTexts : Items → Type 0
  AreOfTexts no_items = Unit {0}
  AreOfTexts (item v vs) = IsOfTexts v × AreOfTexts vs

  pub AreNamedOfTexts : Members → Type 0
  AreNamedOfTexts no_members = Unit {0}
  AreNamedOfTexts (member name v ms) = IsCharacters name × IsOfTexts v × AreNamedOfTexts ms

-- the node of a value that is of texts has this value, and that of a property this name and this value
abbrev pub HasLaidValue : Options → Layout → Plain → Type 0
HasLaidValue o layout v = IsOfTexts v → ValueOf o (laid layout v).content (laid layout v).below v

abbrev pub HasLaidProperty : Options → Layout → List ℕ → Plain → Type 0
HasLaidProperty o layout name v = IsCharacters name → IsOfTexts v → PropertyOf o (laid_property layout name v).below name v
