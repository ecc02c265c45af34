-- Which texts have which values (RFC 8259, 2 to 5; trailing commas and names without quotes after JSON5, 3 and 4).
use Rattle.std.specs.Prelude.{ℕ, ◌≡◌, Bool, true, false, List, [], ◌∷◌, ◌++◌, Option, Some, None, IsTrue, ◌⊎◌}
use Rattle.jsonc_text.specs.Options.{Options}
use Rattle.jsonc_text.specs.Gaps.{Gap}
use Rattle.jsonc_text.specs.Words.{Keyword}
use Rattle.jsonc_text.specs.Lexemes.{LexemeKind, Lexeme}
use Rattle.jsonc_text.specs.Plain.{Plain, Items, no_items, item, Members, no_members, member}

-- the value of a lexeme that is one
abbrev pub literal_value : LexemeKind → Option Plain
literal_value (LexemeKind.string v) = Some (Plain.string v)
literal_value (LexemeKind.number s) = Some (Plain.number s)
literal_value (LexemeKind.keyword (Keyword.boolean b)) = Some (Plain.boolean b)
literal_value (LexemeKind.keyword Keyword.null) = Some Plain.null
literal_value (LexemeKind.word s) = None
literal_value (LexemeKind.punctuation c) = None

-- a lexeme that is no string may name a property, where o allows it
abbrev pub may_name : LexemeKind → Bool
may_name (LexemeKind.word s) = true
may_name (LexemeKind.number s) = true
may_name (LexemeKind.keyword k) = true
may_name (LexemeKind.string v) = false
may_name (LexemeKind.punctuation c) = false

-- t is such a lexeme, whose name is its text, and then r
abbrev pub IsLooseName : Options → List ℕ → List ℕ → List ℕ → Type 0
IsLooseName o t name r = IsTrue o.loose_names × (t ≡ name ++ r) × (k : LexemeKind) × IsTrue (may_name k) × Lexeme o k t r

-- t is a name, a string or such a lexeme, and then r
abbrev pub IsName : Options → List ℕ → List ℕ → List ℕ → Type 0
IsName o t name r = Lexeme o (LexemeKind.string name) t r ⊎ IsLooseName o t name r

-- between two neighbours: a gap, a comma and a gap, or nothing but a gap where o allows it
pub data Separates (o : Options) : List ℕ → List ℕ → Type 0 where
  comma : {t u r : List ℕ} → Gap o t (0x2C ∷ u) → Gap o u r → Separates o t r
  no_comma : {t r : List ℕ} → IsTrue o.missing_commas → Gap o t r → Separates o t r

-- after the last: a gap and the closing bracket, before it a comma and a gap where o allows it
pub data Closes (o : Options) (bracket : ℕ) : List ℕ → List ℕ → Type 0 where
  plain : {t r : List ℕ} → Gap o t (bracket ∷ r) → Closes o bracket t r
  trailing_comma : {t u r : List ℕ} → IsTrue o.trailing_commas → Gap o t (0x2C ∷ u) → Gap o u (bracket ∷ r) → Closes o bracket t r

mutual
  -- t is a text of the value, and then r
  pub data IsValue (o : Options) : List ℕ → Plain → List ℕ → Type 0 where
    literal : (k : LexemeKind) {v : Plain} {t r : List ℕ} → Lexeme o k t r → literal_value k ≡ Some v → IsValue o t v r
    empty_array : {t r : List ℕ} → Gap o t (0x5D ∷ r) → IsValue o (0x5B ∷ t) (Plain.array no_items) r
    array : {vs : Items} {t u r : List ℕ} → Gap o t u → AreElements o u vs r → IsValue o (0x5B ∷ t) (Plain.array vs) r
    empty_object : {t r : List ℕ} → Gap o t (0x7D ∷ r) → IsValue o (0x7B ∷ t) (Plain.object no_members) r
    object : {ms : Members} {t u r : List ℕ} → Gap o t u → AreProperties o u ms r → IsValue o (0x7B ∷ t) (Plain.object ms) r

  -- t is one or more elements, what stands between them, the `]`, and then r
  pub data AreElements (o : Options) : List ℕ → Items → List ℕ → Type 0 where
    last_element : {v : Plain} {t u r : List ℕ} → IsValue o t v u → Closes o 0x5D u r → AreElements o t (item v no_items) r
    element : {v : Plain} {vs : Items} {t u w r : List ℕ} → IsValue o t v u → Separates o u w → AreElements o w vs r → AreElements o t (item v vs) r

  -- t is one or more properties, what stands between them, the `}`, and then r
  pub data AreProperties (o : Options) : List ℕ → Members → List ℕ → Type 0 where
    last_property : {name : List ℕ} {v : Plain} {t u r : List ℕ} → IsProperty o t name v u → Closes o 0x7D u r → AreProperties o t (member name v no_members) r
    property : {name : List ℕ} {v : Plain} {ms : Members} {t u w r : List ℕ} → IsProperty o t name v u → Separates o u w
        → AreProperties o w ms r → AreProperties o t (member name v ms) r

  -- t is a name, a gap, `:`, a gap and a value, and then r
  pub data IsProperty (o : Options) : List ℕ → List ℕ → Plain → List ℕ → Type 0 where
    named : {name : List ℕ} {v : Plain} {t u w x r : List ℕ} → IsName o t name u → Gap o u (0x3A ∷ w) → Gap o w x → IsValue o x v r → IsProperty o t name v r

-- t is a gap, and has no value; or a gap, a text of the value and a gap
abbrev pub IsDocument : Options → List ℕ → Option Plain → Type 0
IsDocument o t None = Gap o t []
IsDocument o t (Some v) = (u r : List ℕ) × Gap o t u × IsValue o u v r × Gap o r []
