-- Values with the place of each of their nodes, and the texts that they stand in.
use Rattle.std.specs.Prelude.{ℕ, ◌+◌, ◌-◌, ◌≤◌, ◌≡◌, List, [], ◌∷◌, Option, Some, None, length, IsTrue}
use Rattle.jsonc_text.specs.declared.common.Range.{Range}
use Rattle.jsonc_text.specs.Options.{Options}
use Rattle.jsonc_text.specs.Text.{rest, Spans}
use Rattle.jsonc_text.specs.Gaps.{Gap}
use Rattle.jsonc_text.specs.Lexemes.{LexemeKind, Lexeme}
use Rattle.jsonc_text.specs.Plain.{Plain, array, object, Items, no_items, item, Members, no_members, member}
use Rattle.jsonc_text.specs.Grammar.{literal_value, IsName, Separates, Closes}

-- a name, and its range
pub record LocatedName : Type 0 where
  pub range : Range
  pub name : List ℕ

mutual
  -- a leaf has its plain value
  pub data Located : Type 0 where
    leaf_at : Range → Plain → Located
    array_at : Range → LocatedItems → Located
    object_at : Range → LocatedMembers → Located

  pub data LocatedItems : Type 0 where
    no_items_at : LocatedItems
    item_at : Located → LocatedItems → LocatedItems

  -- a property has its range, its name and its value
  pub data LocatedMembers : Type 0 where
    no_members_at : LocatedMembers
    member_at : Range → LocatedName → Located → LocatedMembers → LocatedMembers

-- a property with the places of its nodes
pub record LocatedMember : Type 0 where
  pub range : Range
  pub name : LocatedName
  pub value : Located

-- located values, as the elements of an array
abbrev pub items_of : List Located → LocatedItems
items_of [] = no_items_at
items_of (x ∷ xs) = item_at x (items_of xs)

-- and as the properties of an object
abbrev pub members_of : List LocatedMember → LocatedMembers
members_of [] = no_members_at
members_of (m ∷ ms) = member_at m.range m.name m.value (members_of ms)

-- from where it begins to where it ends
abbrev pub range_at : Located → Range
range_at (leaf_at r v) = r
range_at (array_at r xs) = r
range_at (object_at r ms) = r

-- the plain value, without places
abbrev mutual
  pub value_at : Located → Plain
  value_at (leaf_at r v) = v
  value_at (array_at r xs) = array (items_at xs)
  value_at (object_at r ms) = object (members_at ms)

  pub items_at : LocatedItems → Items
  items_at no_items_at = no_items
  items_at (item_at x xs) = item (value_at x) (items_at xs)

  pub members_at : LocatedMembers → Members
  members_at no_members_at = no_members
  members_at (member_at r n x ms) = member n.name (value_at x) (members_at ms)

-- from the place i to the place j of a text stands what R says
pub record Between (bytes : List ℕ) (R : List ℕ → List ℕ → Type 0) (i j : ℕ) : Type 0 where
  pub spans : Spans bytes i j
  pub stands : R (rest bytes i) (rest bytes j)

-- what R says stands in the range
abbrev pub In : List ℕ → (List ℕ → List ℕ → Type 0) → Range → Type 0
In bytes R r = Between bytes R r.start r.end

-- t is this one character, and then r
abbrev pub One : ℕ → List ℕ → List ℕ → Type 0
One c t r = t ≡ c ∷ r

-- t is a gap and a closing bracket, and then r
abbrev pub Ends : Options → ℕ → List ℕ → List ℕ → Type 0
Ends o bracket t r = Gap o t (bracket ∷ r)

-- the same after a comma, where o allows one before the bracket
abbrev pub TrailingComma : Options → ℕ → List ℕ → List ℕ → Type 0
TrailingComma o bracket t r = IsTrue o.trailing_commas × Gap o t (bracket ∷ r)

-- t is what stands between a name and its value: a gap, `:` and a gap; and then r
abbrev pub Colon : Options → List ℕ → List ℕ → Type 0
Colon o t r = (u : List ℕ) × Gap o t (0x3A ∷ u) × Gap o u r

-- t is a text of a leaf's value, and then r
abbrev pub IsLeaf : Options → Plain → List ℕ → List ℕ → Type 0
IsLeaf o v t r = (k : LexemeKind) × Lexeme o k t r × (literal_value k ≡ Some v)

-- a container begins with one bracket, and ends with the other
pub record Brackets (bytes : List ℕ) (opening closing : ℕ) (r : Range) : Type 0 where
  pub opens : Between bytes (One opening) r.start (r.start + 1)
  pub closes : Between bytes (One closing) (r.end - 1) r.end
  pub order : r.start + 1 ≤ r.end - 1

-- a property in the range r begins with its name, and ends with its value in the range v
pub record IsNamed (o : Options) (bytes : List ℕ) (n : LocatedName) (r v : Range) : Type 0 where
  pub begins : n.range.start ≡ r.start
  pub name : In bytes (λ t r. IsName o t n.name r) n.range
  pub colon : Between bytes (Colon o) n.range.end v.start
  pub ends : v.end ≡ r.end

-- each node stands in its range, and between the nodes stand only gaps and punctuation
abbrev mutual
  pub IsLocated : Options → List ℕ → Located → Type 0
  IsLocated o bytes (leaf_at r v) = In bytes (IsLeaf o v) r
  IsLocated o bytes (array_at r xs) = Brackets bytes 0x5B 0x5D r × AreItems o bytes (r.start + 1) xs r.end
  IsLocated o bytes (object_at r ms) = Brackets bytes 0x7B 0x7D r × AreMembers o bytes (r.start + 1) ms r.end

  -- from the place after a `[` to the place after its `]`
  pub AreItems : Options → List ℕ → ℕ → LocatedItems → ℕ → Type 0
  AreItems o bytes i no_items_at j = Between bytes (Ends o 0x5D) i j
  AreItems o bytes i (item_at x xs) j = Between bytes (Gap o) i (range_at x).start × IsLocated o bytes x × AreFurtherItems o bytes (range_at x).end xs j

  -- from the place after an element to the place after the `]` of its array
  pub AreFurtherItems : Options → List ℕ → ℕ → LocatedItems → ℕ → Type 0
  AreFurtherItems o bytes i no_items_at j = Between bytes (Closes o 0x5D) i j
  AreFurtherItems o bytes i (item_at x xs) j
      = Between bytes (Separates o) i (range_at x).start × IsLocated o bytes x
      × AreFurtherItems o bytes (range_at x).end xs j

  -- the same of an object's properties, between `{` and `}`
  pub AreMembers : Options → List ℕ → ℕ → LocatedMembers → ℕ → Type 0
  AreMembers o bytes i no_members_at j = Between bytes (Ends o 0x7D) i j
  AreMembers o bytes i (member_at r n x ms) j
      = Between bytes (Gap o) i r.start × IsNamed o bytes n r (range_at x) × IsLocated o bytes x
      × AreFurtherMembers o bytes r.end ms j

  pub AreFurtherMembers : Options → List ℕ → ℕ → LocatedMembers → ℕ → Type 0
  AreFurtherMembers o bytes i no_members_at j = Between bytes (Closes o 0x7D) i j
  AreFurtherMembers o bytes i (member_at r n x ms) j
      = Between bytes (Separates o) i r.start × IsNamed o bytes n r (range_at x) × IsLocated o bytes x
      × AreFurtherMembers o bytes r.end ms j

-- the text is a gap, and has no value; or a gap, the value and a gap
abbrev pub IsLocatedDocument : Options → List ℕ → Option Located → Type 0
IsLocatedDocument o bytes None = Between bytes (Gap o) 0 (length bytes)
IsLocatedDocument o bytes (Some x) = Between bytes (Gap o) 0 (range_at x).start × IsLocated o bytes x × Between bytes (Gap o) (range_at x).end (length bytes)
