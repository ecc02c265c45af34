-- What a receiver has made of a text, where that is a value.
use Rattle.std.specs.Prelude.{◌≡◌, ℕ, List, [], ◌∷◌, ◌++◌, length}
use Rattle.std.specs.Cow.{cow_str_bytes}
use Rattle.std.specs.Str.{IsUtf8}
use Rattle.std.specs.declared.borrow.CowStr.{CowStr}
use Rattle.indexmap.specs.IndexMap.{insert_all}
use Rattle.jsonc_text.specs.OptionsOf.{parse_options}
use Rattle.jsonc_text.specs.Plain.{collapse, collapse_items, collapse_members}
use Rattle.jsonc_walk.specs.Located.{Located, LocatedName, value_at, items_at, members_at, LocatedMember, items_of, members_of}
use Rattle.jsonc_walk.specs.Handed.{Source}
use Rattle.jsonc_value.specs.declared.to_value.values.ValueMaker.{ValueMaker}
use Rattle.jsonc_value.specs.declared.value.JsonValue.{JsonValue}
use Rattle.jsonc_value.specs.to_value.Lent.{AreLent, IsLent, texts, texts_in_elements, texts_in_properties}
use Rattle.jsonc_value.specs.to_value.Views.{plain, name_of, same_name, items_plain, members_plain}

module _ {A : Type 0} where
  abbrev pub source_in : ValueMaker A → Source
  source_in m = record { bytes = m.text.now; options = parse_options m.options }

  -- the value, collapsed
  abbrev pub IsCollapsed : JsonValue A → Located → Type 0
  IsCollapsed v x = plain v ≡ collapse (value_at x)

  -- the name, which is UTF-8
  abbrev pub IsName : CowStr A → LocatedName → Type 0
  IsName k n = (name_of k ≡ n.name) × IsUtf8 (cow_str_bytes k)

  -- the elements of an array
  abbrev pub AreElements : List (JsonValue A) → List Located → Type 0
  AreElements vs xs = items_plain vs ≡ collapse_items (items_at (items_of xs))

  -- each name is UTF-8
  abbrev pub AreTexts : List (CowStr A × JsonValue A) → Type 0
  AreTexts [] = Unit {0}
  AreTexts (p ∷ ps) = IsUtf8 (cow_str_bytes p.0) × AreTexts ps

  -- the properties of an object
  abbrev pub AreProperties : List (CowStr A × JsonValue A) → List LocatedMember → Type 0
  AreProperties ps ms = (members_plain ps ≡ collapse_members (members_at (members_of ms))) × AreTexts ps

  -- from s to t the same elements and properties of containers that have not ended
  abbrev pub SameOpen : ValueMaker A → ValueMaker A → Type 0
  SameOpen s t = (t.elements.items ≡ s.elements.items) × (t.properties.items ≡ s.properties.items)

  -- from s to t the text and the open containers stay, and the value is made of what was read, its strings and names lent by the text
  pub record IsMade (s t : ValueMaker A) (v : JsonValue A) (x : Located) : Type 0 where
    pub source : source_in t ≡ source_in s
    pub stacks : SameOpen s t
    pub collapsed : IsCollapsed v x
    pub lent : AreLent (source_in s) (texts v)

  pub record IsNamed (s t : ValueMaker A) (k : CowStr A) (n : LocatedName) : Type 0 where
    pub source : source_in t ≡ source_in s
    pub stacks : SameOpen s t
    pub name : IsName k n
    pub lent : IsLent (source_in s) k

  -- behind the elements that s has, t has those of an array that begins there
  pub record HoldsElements (s t : ValueMaker A) (start : ℕ) (xs : List Located) : Type 0 where
    pub elements : List (JsonValue A)
    pub begins : start ≡ length s.elements.items
    pub stacked : t.elements.items ≡ s.elements.items ++ elements
    pub same : t.properties.items ≡ s.properties.items
    pub are : AreElements elements xs
    pub source : source_in t ≡ source_in s
    pub lent : AreLent (source_in s) (texts_in_elements elements)

  -- behind the properties that s has, t has those of an object that begins there, each as it was read
  pub record HoldsProperties (s t : ValueMaker A) (start : ℕ) (ms : List LocatedMember) : Type 0 where
    pub properties : List (CowStr A × JsonValue A)
    pub begins : start ≡ length s.properties.items
    pub stacked : t.properties.items ≡ s.properties.items ++ properties
    pub same : t.elements.items ≡ s.elements.items
    pub are : AreProperties (insert_all same_name [] properties) ms
    pub source : source_in t ≡ source_in s
    pub lent : AreLent (source_in s) (texts_in_properties properties)
