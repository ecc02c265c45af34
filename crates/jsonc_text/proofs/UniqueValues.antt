-- A text has at most one value.
use Rattle.std.proofs.Common.{ℕ, ◌≡◌, ◌∙◌, sym, ap, false, not, ◌==◌, refl, List, [], ◌∷◌, Option, Some, None, IsTrue, arith, inl, inr, ◌⊎◌}
use Rattle.jsonc_text.specs.Options.{Options}
use Rattle.jsonc_text.specs.Text.{next, no, starts}
use Rattle.jsonc_text.specs.Gaps.{Gap}
use Rattle.jsonc_text.specs.Lexemes.{LexemeKind, Lexeme, is_punctuation}
use Rattle.jsonc_text.specs.Plain.{Plain, Items, item, Members, member}
use Rattle.jsonc_text.specs.Grammar.{IsValue, AreElements, AreProperties, IsProperty, IsName, IsDocument, literal_value, may_name, literal, empty_array, array, empty_object, object, last_element, element, last_property, property, named, Separates, comma, no_comma, Closes, plain, trailing_comma}
use Rattle.jsonc_text.proofs.Basics.{tails, apart, front_same}
use Rattle.jsonc_text.proofs.UniqueGaps.{begins_gap, gap_unique}
use Rattle.jsonc_text.proofs.Begins.{begins_literal, begins_item, IsLiteral, lexeme_begins}
use Rattle.jsonc_text.proofs.UniqueLexemes.{lexeme_unique}

value_is_literal : (k : LexemeKind) {v : Plain} → literal_value k ≡ Some v → IsLiteral k
value_is_literal (LexemeKind.string s) e = tt
value_is_literal (LexemeKind.number s) e = tt
value_is_literal (LexemeKind.word s) e = tt
value_is_literal (LexemeKind.keyword k) e = tt
value_is_literal (LexemeKind.punctuation c) e = cc

name_is_literal : (k : LexemeKind) → IsTrue (may_name k) → IsLiteral k
name_is_literal (LexemeKind.string s) e = tt
name_is_literal (LexemeKind.number s) e = tt
name_is_literal (LexemeKind.word s) e = tt
name_is_literal (LexemeKind.keyword k) e = tt
name_is_literal (LexemeKind.punctuation c) e = cc

item_begins : (t : List ℕ) → IsTrue (starts begins_literal (next t)) → IsTrue (starts begins_item (next t))
item_begins [] h = h
item_begins (c ∷ t) h = grind arith

pub not_gap : (t : List ℕ) → IsTrue (starts begins_item (next t)) → IsTrue (no begins_gap (next t))
not_gap [] h = refl
not_gap (c ∷ t) h = grind arith

pub gap_after : {o : Options} {t u r s : List ℕ} → t ≡ u → Gap o t r → Gap o u s → IsTrue (no begins_gap (next r)) → IsTrue (no begins_gap (next s)) → r ≡ s
gap_after p g h a b = gap_unique g (rw p h) a b

pub no_item_at : {c : ℕ} {t u : List ℕ} → begins_item c ≡ false → c ∷ t ≡ u → IsTrue (starts begins_item (next u)) → ⊥
no_item_at e p h = cc

no_item_in_end : {u : List ℕ} → [] ≡ u → IsTrue (starts begins_item (next u)) → ⊥
no_item_in_end {u = []} p h = cc
no_item_in_end {u = c ∷ u} p h = cc

literal_same : {k l : LexemeKind} {v w : Plain} → k ≡ l → literal_value k ≡ Some v → literal_value l ≡ Some w → v ≡ w
literal_same p e f = cc

items_same : {v w : Plain} {vs ws : Items} → v ≡ w → vs ≡ ws → item v vs ≡ item w ws
items_same p q = cc

members_same : {n m : List ℕ} {v w : Plain} {ms ns : Members} → n ≡ m → v ≡ w → ms ≡ ns → member n v ms ≡ member m w ns
members_same a p q = cc

string_same : {v w : List ℕ} → LexemeKind.string v ≡ LexemeKind.string w → v ≡ w
string_same p = cc

no_string : {k : LexemeKind} {v : List ℕ} → k ≡ LexemeKind.string v → IsTrue (may_name k) → ⊥
no_string p h = cc

-- a closing bracket
abbrev IsBracket : ℕ → Type 0
IsBracket c = (c ≡ 0x5D) ⊎ (c ≡ 0x7D)

bracket_stops : (c : ℕ) → IsBracket c → IsTrue (not (begins_gap c))
bracket_stops c (inl e) = rw e refl
bracket_stops c (inr e) = rw e refl

not_comma : (c : ℕ) → IsBracket c → IsTrue (not (c == 0x2C))
not_comma c (inl e) = rw e refl
not_comma c (inr e) = rw e refl

bracket_no_comma : (c : ℕ) {r s : List ℕ} → IsBracket c → c ∷ r ≡ 0x2C ∷ s → ⊥
bracket_no_comma c b e = apart (not_comma c b) e

bracket_no_item : (c : ℕ) → IsBracket c → begins_item c ≡ false
bracket_no_item c (inl e) = rw e refl
bracket_no_item c (inr e) = rw e refl

closes_unique : {o : Options} {c : ℕ} {t u r s : List ℕ} → IsBracket c → t ≡ u → Closes o c t r → Closes o c u s → r ≡ s
closes_unique {c = c} b p (plain g) (plain h) = tails (gap_after p g h (bracket_stops c b) (bracket_stops c b))
closes_unique {c = c} b p (plain g) (trailing_comma a h k) = absurd (bracket_no_comma c b (gap_after p g h (bracket_stops c b) refl))
closes_unique {c = c} b p (trailing_comma a h k) (plain g) = absurd (bracket_no_comma c b (gap_after (sym p) g h (bracket_stops c b) refl))
closes_unique {c = c} b p (trailing_comma a h k) (trailing_comma d g l) = tails (gap_after (tails (gap_after p h g refl refl)) k l (bracket_stops c b) (bracket_stops c b))

separates_unique : {o : Options} {t u r s : List ℕ} → t ≡ u → Separates o t r → Separates o u s → IsTrue (starts begins_item (next r)) → IsTrue (starts begins_item (next s)) → r ≡ s
separates_unique {r = r} {s = s} p (comma g h) (comma k l) a b = gap_after (tails (gap_after p g k refl refl)) h l (not_gap r a) (not_gap s b)
separates_unique {s = s} p (comma g h) (no_comma m l) a b = absurd (no_item_at refl (gap_after p g l refl (not_gap s b)) b)
separates_unique {r = r} p (no_comma m l) (comma g h) a b = absurd (no_item_at refl (gap_after (sym p) g l refl (not_gap r a)) a)
separates_unique {r = r} {s = s} p (no_comma m g) (no_comma n h) a b = gap_after p g h (not_gap r a) (not_gap s b)

closes_no_separates : {o : Options} {c : ℕ} {t u r s : List ℕ} → IsBracket c → t ≡ u → Closes o c t r → Separates o u s → IsTrue (starts begins_item (next s)) → ⊥
closes_no_separates {c = c} {s = s} b p (plain g) (comma k l) a = bracket_no_comma c b (gap_after p g k (bracket_stops c b) refl)
closes_no_separates {c = c} {s = s} b p (plain g) (no_comma m l) a = no_item_at (bracket_no_item c b) (gap_after p g l (bracket_stops c b) (not_gap s a)) a
closes_no_separates {c = c} {s = s} b p (trailing_comma d g h) (comma k l) a = no_item_at (bracket_no_item c b) (gap_after (tails (gap_after p g k refl refl)) h l (bracket_stops c b) (not_gap s a)) a
closes_no_separates {c = c} {s = s} b p (trailing_comma d g h) (no_comma m l) a = no_item_at refl (gap_after p g l refl (not_gap s a)) a

module _ (o : Options) where
  pub value_begins : {v : Plain} {t r : List ℕ} → IsValue o t v r → IsTrue (starts begins_item (next t))
  value_begins (literal k {t = t} {r = r} l e) = item_begins t (lexeme_begins o k t r (value_is_literal k e) l)
  value_begins (empty_array g) = refl
  value_begins (array g h) = refl
  value_begins (empty_object g) = refl
  value_begins (object g h) = refl

  pub elements_begin : {vs : Items} {t r : List ℕ} → AreElements o t vs r → IsTrue (starts begins_item (next t))
  elements_begin (last_element v g) = value_begins v
  elements_begin (element v s e) = value_begins v

  pub name_begins : {name t r : List ℕ} → IsName o t name r → IsTrue (starts begins_item (next t))
  name_begins {name} {t} {r} (inl l) = item_begins t (lexeme_begins o (LexemeKind.string name) t r tt l)
  name_begins {name} {t} {r} (inr l) = item_begins t (lexeme_begins o l.2 t r (name_is_literal l.2 l.3) l.4)

  pub properties_begin : {ms : Members} {t r : List ℕ} → AreProperties o t ms r → IsTrue (starts begins_item (next t))
  properties_begin (last_property (named n g h v) c) = name_begins n
  properties_begin (property (named n g h v) s e) = name_begins n

  pub no_literal : (c : ℕ) (k : LexemeKind) (t r : List ℕ) {v : Plain} → IsTrue (is_punctuation c) → Lexeme o k (c ∷ t) r → literal_value k ≡ Some v → ⊥
  no_literal c k t r m l e = both c m (lexeme_begins o k (c ∷ t) r (value_is_literal k e) l)
    where
      both : (c : ℕ) → IsTrue (is_punctuation c) → IsTrue (begins_literal c) → ⊥
      both c m b = grind arith

  name_unique : {n m : List ℕ} {t r s : List ℕ} → IsName o t n r → IsName o t m s → (n ≡ m) × (r ≡ s)
  name_unique {n} {m} {t} {r} {s} (inl l) (inl k) = let q = lexeme_unique o (LexemeKind.string n) (LexemeKind.string m) t r s l k in (string_same q.0, q.1)
  name_unique {n} {m} {t} {r} {s} (inl l) (inr k) =
      absurd (no_string (lexeme_unique o k.2 (LexemeKind.string n) t s r k.4 l).0 k.3)
  name_unique {n} {m} {t} {r} {s} (inr k) (inl l) =
      absurd (no_string (lexeme_unique o k.2 (LexemeKind.string m) t r s k.4 l).0 k.3)
  name_unique {n} {m} {t} {r} {s} (inr l) (inr k) =
      let p = (lexeme_unique o l.2 k.2 t r s l.4 k.4).1 in
      (front_same p (sym l.1 ∙ k.1), p)

  mutual
    pub value_unique : {v w : Plain} {t r s : List ℕ} → IsValue o t v r → IsValue o t w s → (v ≡ w) × (r ≡ s)
    value_unique (literal k {t = t} {r = r} l e) (literal j {r = s} m f) =
        let q = lexeme_unique o k j t r s l m in (literal_same q.0 e f, q.1)
    value_unique {r = r} (literal k l e) (empty_array {t = t} g) = absurd (no_literal 0x5B k t r refl l e)
    value_unique {r = r} (literal k l e) (array {t = t} g h) = absurd (no_literal 0x5B k t r refl l e)
    value_unique {r = r} (literal k l e) (empty_object {t = t} g) = absurd (no_literal 0x7B k t r refl l e)
    value_unique {r = r} (literal k l e) (object {t = t} g h) = absurd (no_literal 0x7B k t r refl l e)
    value_unique {s = s} (empty_array {t = t} g) (literal k l e) = absurd (no_literal 0x5B k t s refl l e)
    value_unique (empty_array g) (empty_array h) = (refl, tails (gap_unique g h refl refl))
    value_unique (empty_array g) (array {u = u} h e) = absurd (no_item_at refl (gap_unique g h refl (not_gap u (elements_begin e))) (elements_begin e))
    value_unique {s = s} (array {t = t} g e) (literal k l f) = absurd (no_literal 0x5B k t s refl l f)
    value_unique (array {u = u} h e) (empty_array g) = absurd (no_item_at refl (gap_unique g h refl (not_gap u (elements_begin e))) (elements_begin e))
    value_unique (array {u = u} g e) (array {u = w} h f) =
        let p = gap_unique g h (not_gap u (elements_begin e)) (not_gap w (elements_begin f)) in
        let q = elements_unique e (rw (sym p) at f) in (ap Plain.array q.0, q.1)
    value_unique {s = s} (empty_object {t = t} g) (literal k l e) = absurd (no_literal 0x7B k t s refl l e)
    value_unique (empty_object g) (empty_object h) = (refl, tails (gap_unique g h refl refl))
    value_unique (empty_object g) (object {u = u} h e) = absurd (no_item_at refl (gap_unique g h refl (not_gap u (properties_begin e))) (properties_begin e))
    value_unique {s = s} (object {t = t} g e) (literal k l f) = absurd (no_literal 0x7B k t s refl l f)
    value_unique (object {u = u} h e) (empty_object g) = absurd (no_item_at refl (gap_unique g h refl (not_gap u (properties_begin e))) (properties_begin e))
    value_unique (object {u = u} g e) (object {u = w} h f) =
        let p = gap_unique g h (not_gap u (properties_begin e)) (not_gap w (properties_begin f)) in
        let q = properties_unique e (rw (sym p) at f) in (ap Plain.object q.0, q.1)

    pub elements_unique : {vs ws : Items} {t r s : List ℕ} → AreElements o t vs r → AreElements o t ws s → (vs ≡ ws) × (r ≡ s)
    elements_unique (last_element v c) (last_element w d) =
        let q = value_unique v w in (items_same q.0 refl, closes_unique (inl refl) q.1 c d)
    elements_unique (last_element v c) (element w d e) =
        let q = value_unique v w in absurd (closes_no_separates (inl refl) q.1 c d (elements_begin e))
    elements_unique (element v d e) (last_element w c) =
        let q = value_unique v w in absurd (closes_no_separates (inl refl) (sym q.1) c d (elements_begin e))
    elements_unique (element v c e) (element w d f) =
        let q = value_unique v w in
        let p = separates_unique q.1 c d (elements_begin e) (elements_begin f) in
        let z = elements_unique e (rw (sym p) at f) in
        (items_same q.0 z.0, z.1)

    properties_unique : {ms ns : Members} {t r s : List ℕ} → AreProperties o t ms r → AreProperties o t ns s → (ms ≡ ns) × (r ≡ s)
    properties_unique (last_property v c) (last_property w d) =
        let q = property_unique v w in (members_same q.0 q.1 refl, closes_unique (inr refl) q.2 c d)
    properties_unique (last_property v c) (property w d e) =
        let q = property_unique v w in absurd (closes_no_separates (inr refl) q.2 c d (properties_begin e))
    properties_unique (property v d e) (last_property w c) =
        let q = property_unique v w in absurd (closes_no_separates (inr refl) (sym q.2) c d (properties_begin e))
    properties_unique (property v c e) (property w d f) =
        let q = property_unique v w in
        let p = separates_unique q.2 c d (properties_begin e) (properties_begin f) in
        let z = properties_unique e (rw (sym p) at f) in
        (members_same q.0 q.1 z.0, z.1)

    property_unique : {n m : List ℕ} {v w : Plain} {t r s : List ℕ} → IsProperty o t n v r → IsProperty o t m w s → (n ≡ m) × (v ≡ w) × (r ≡ s)
    property_unique (named {x = x} n g h v) (named {x = y} m k l w) =
        let q = name_unique n m in
        let p = gap_after (tails (gap_after q.1 g k refl refl)) h l (not_gap x (value_begins v)) (not_gap y (value_begins w)) in
        let z = value_unique v (rw (sym p) at w) in
        (q.0, z.0, z.1)

  -- a text has at most one value
  pub document_unique : (t : List ℕ) (v w : Option Plain) → IsDocument o t v → IsDocument o t w → v ≡ w
  document_unique t None None g h = refl
  document_unique t None (Some w) g (u, r, h, v, k) = absurd (no_item_in_end (gap_unique g h refl (not_gap u (value_begins v))) (value_begins v))
  document_unique t (Some w) None (u, r, h, v, k) g = absurd (no_item_in_end (gap_unique g h refl (not_gap u (value_begins v))) (value_begins v))
  document_unique t (Some v) (Some w) (u, r, g, a, h) (x, s, k, b, l) =
      let p = gap_unique g k (not_gap u (value_begins a)) (not_gap x (value_begins b)) in
      ap Some (value_unique a (rw (sym p) at b)).0
