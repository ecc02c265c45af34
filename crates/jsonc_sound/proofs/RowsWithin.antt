-- A row of a document in which a stretch of trivia stands: what is printed before it and behind it is printed in the row.
use Rattle.std.proofs.Common.{◌≡◌, ◌∙◌, ℕ, sym, ap, subst, refl, Bool, true, false, not, ◌&&◌, List, [], ◌∷◌, ◌++◌, Option, Some, None, is_some, IsTrue, chars, rules, append-nil, if◌then◌else◌}
use Rattle.std.proofs.lemmas.List.{append_assoc}
use Rattle.std.proofs.lemmas.Str.{chars-IsAscii}
use Rattle.jsonc_text.specs.Options.{Options}
use Rattle.jsonc_text.specs.Text.{next, starts}
use Rattle.jsonc_text.specs.Lexemes as lexemes
use Rattle.jsonc_text.specs.Lexemes.{LexemeKind, Lexeme}
use Rattle.jsonc_text.specs.Grammar.{may_name}
use Rattle.jsonc_text.proofs.Begins.{IsLiteral, begins_literal, lexeme_begins}
use Rattle.jsonc_tree.specs.Content.{Content, root, text_of}
use Rattle.jsonc_tree.specs.OrderedTree as ordered
use Rattle.jsonc_tree.specs.OrderedTree.{OrderedTree, none, more, own_leaf, leaves, followed_by, Replaced}
use Rattle.jsonc_layout.specs.nodes.Kinds.{is_trivia}
use Rattle.jsonc_sound.specs.Shape as shape
use Rattle.jsonc_sound.specs.Shape.{Trivia, IsLiteralBefore, IsNameBefore, token_then}
use Rattle.jsonc_sound.specs.Rows as rows
use Rattle.jsonc_sound.specs.Rows.{RowKind, opening, closing, Last}
use Rattle.jsonc_sound.specs.TriviaChanges.{AreTrivia, leaves_then}
use Rattle.jsonc_sound.specs.Adjacent.{first_char, or_else, last_printed}
use Rattle.jsonc_sound.specs.Alone as alone
use Rattle.jsonc_sound.specs.Alone.{ValueAlone, PartAlone, RowAlone, PropertyAlone, RootAlone, DocumentAlone}
use Rattle.jsonc_sound.specs.Spaces.{is_bare_leaf, first_printed, meet}
use Rattle.jsonc_sound.proofs.Spaces.{last_append, first_append}
use Rattle.jsonc_sound.proofs.Texts.{literal_leaf, name_leaf, opening_first, closing_first}

-- the row stands below a node of the tree; these leaves are before it, and those behind it
pub data Within (x : OrderedTree) : List Content → List Content → OrderedTree → Type 0 where
  here : {content : Content} {after : OrderedTree} → Within x (own_leaf content) (leaves after) (more content x after)
  deeper : {content : Content} {y after : OrderedTree} {f b : List Content} → Within x f b y → Within x (own_leaf content ++ f) (b ++ leaves after) (more content y after)
  later : {content : Content} {below y : OrderedTree} {f b : List Content} → Within x f b y → Within x ((own_leaf content ++ leaves below) ++ f) b (more content below y)

pub leaves_within : {x t : OrderedTree} {f b : List Content} → Within x f b t → leaves t ≡ f ++ (leaves x ++ b)
leaves_within here = refl
leaves_within {x} (deeper {content = content} {after = after} {f = f} {b = b} w) =
    ap (λ l. own_leaf content ++ (l ++ leaves after)) (leaves_within w)
    ∙ ap (λ l. own_leaf content ++ l) (append_assoc f (leaves x ++ b) (leaves after) ∙ ap (λ l. f ++ l) (append_assoc (leaves x) b (leaves after)))
    ∙ sym (append_assoc (own_leaf content) f (leaves x ++ (b ++ leaves after)))
leaves_within {x} (later {content = content} {below = below} {f = f} {b = b} w) =
    ap (λ l. own_leaf content ++ (leaves below ++ l)) (leaves_within w)
    ∙ sym (append_assoc (own_leaf content ++ leaves below) f (leaves x ++ b) ∙ append_assoc (own_leaf content) (leaves below) (f ++ (leaves x ++ b)))

-- the same leaves stand around what it is replaced by
pub record BothWithin (was now t u : OrderedTree) : Type 0 where
  pub front : List Content
  pub back : List Content
  pub old : Within was front back t
  pub new : Within now front back u

pub both_within : {was now t u : OrderedTree} → Replaced was now t u → BothWithin was now t u
both_within (ordered.here {content = content} {after = after}) = record { front = own_leaf content; back = leaves after; old = here; new = here }
both_within (ordered.deeper {content = content} {after = after} r) =
    let w = both_within r in record { front = own_leaf content ++ w.front; back = w.back ++ leaves after; old = deeper w.old; new = deeper w.new }
both_within (ordered.later {content = content} {below = below} r) =
    let w = both_within r in record { front = (own_leaf content ++ leaves below) ++ w.front; back = w.back; old = later w.old; new = later w.new }

-- something is printed
abbrev pub Prints : List Content → Type 0
Prints ls = IsTrue (is_some (first_printed ls))

abbrev pub LeafPrints : Content → Type 0
LeafPrints content = IsTrue (starts (λ c. true) (first_char content))

either_some : (x y : Option Content) → IsTrue (is_some y) → IsTrue (is_some (or_else x y))
either_some None y h = h
either_some (Some c) y h = refl

first_some : (x y : Option Content) → IsTrue (is_some x) → IsTrue (is_some (or_else x y))
first_some None y h = cc
first_some (Some c) y h = refl

prints_behind : (first second : List Content) → Prints second → Prints (first ++ second)
prints_behind first second h = subst (λ x. IsTrue (is_some x)) (sym (first_append first second)) (either_some (first_printed first) (first_printed second) h)

prints_before : (first second : List Content) → Prints first → Prints (first ++ second)
prints_before first second h = subst (λ x. IsTrue (is_some x)) (sym (first_append first second)) (first_some (first_printed first) (first_printed second) h)

leaf_prints : (content : Content) (rest : List Content) → LeafPrints content → Prints (content ∷ rest)
leaf_prints content rest h = by (starts (λ c. true) (first_char content)) h
  where
    by : (b : Bool) → IsTrue b → IsTrue (is_some (if b then Some content else first_printed rest))
    by true k = refl
    by false k = cc

pub last_some : (content : Content) (rest : List Content) → LeafPrints content → IsTrue (is_some (last_printed (content ∷ rest)))
last_some content rest h = either_some (last_printed rest) (if starts (λ c. true) (first_char content) then Some content else None) (by (starts (λ c. true) (first_char content)) h)
  where
    by : (b : Bool) → IsTrue b → IsTrue (is_some (if b then Some content else None))
    by true k = refl
    by false k = cc

pub same_if_some : (x y : Option Content) → IsTrue (is_some x) → or_else x y ≡ x
same_if_some None y h = cc
same_if_some (Some c) y h = refl

any_start : (p : ℕ → Bool) (n : Option ℕ) → IsTrue (starts p n) → IsTrue (starts (λ c. true) n)
any_start p None h = h
any_start p (Some c) h = refl

-- literals and names do
name_literal : (k : LexemeKind) → IsTrue (may_name k) → IsLiteral k
name_literal (lexemes.string v) h = cc
name_literal (lexemes.number s) h = tt
name_literal (lexemes.word s) h = tt
name_literal (lexemes.keyword k) h = tt
name_literal (lexemes.punctuation c) h = cc

lexeme_prints : (o : Options) (k : LexemeKind) (s : List ℕ) → IsLiteral k → Lexeme o k (chars s ++ []) [] → IsTrue (starts (λ c. true) (next (chars s)))
lexeme_prints o k s lit h = any_start begins_literal (next (chars s)) (subst (λ t. IsTrue (starts begins_literal (next t))) (append-nil (chars s)) (lexeme_begins o k (chars s ++ []) [] lit h))

pub literal_prints : (o : Options) (content : Content) → IsLiteralBefore o content [] → LeafPrints content
literal_prints o (Content.string s) h = lexeme_prints o (lexemes.string h.0) s tt h.1.1
literal_prints o (Content.number s) h = lexeme_prints o (lexemes.number (chars s)) s tt h.1
literal_prints o (Content.boolean true) h = subst (λ t. IsTrue (starts (λ c. true) (next t))) (sym (chars-IsAscii (text_of (Content.boolean true)) (search rules))) refl
literal_prints o (Content.boolean false) h = subst (λ t. IsTrue (starts (λ c. true) (next t))) (sym (chars-IsAscii (text_of (Content.boolean false)) (search rules))) refl
literal_prints o Content.null h = subst (λ t. IsTrue (starts (λ c. true) (next t))) (sym (chars-IsAscii (text_of Content.null) (search rules))) refl
literal_prints o content h = absurd h

pub name_prints : (o : Options) (content : Content) → IsNameBefore o content [] → LeafPrints content
name_prints o (Content.string s) h = literal_prints o (Content.string s) h
name_prints o (Content.word s) h = lexeme_prints o h.1.2 s (name_literal h.1.2 h.1.3) h.1.4
name_prints o content h = absurd h

mark_prints : (c : ℕ) (n : Option ℕ) → n ≡ Some c → IsTrue (starts (λ c. true) n)
mark_prints c None e = cc
mark_prints c (Some d) e = refl

-- the row begins with a leaf that is printed and no trivia, and ends with such a node
pub data Starts : OrderedTree → Type 0 where
  starts_with : {content : Content} {after : OrderedTree} → IsTrue (not (is_trivia content)) → LeafPrints content → own_leaf content ≡ content ∷ [] → Starts (more content none after)

pub data Ends : OrderedTree → Type 0 where
  ends_with : {content : Content} {below : OrderedTree} → IsTrue (not (is_trivia content)) → Prints (own_leaf content ++ leaves below) → Ends (more content below none)
  goes_on : {content : Content} {below after : OrderedTree} → Ends after → Ends (more content below after)

pub data Bounded : OrderedTree → Type 0 where
  nothing : Bounded none
  bounded : {row : OrderedTree} → Starts row → Ends row → Bounded row

pub ends_print : {row : OrderedTree} → Ends row → Prints (leaves row)
ends_print (ends_with {content = content} {below = below} n p) = subst Prints (append_assoc (own_leaf content) (leaves below) []) (prints_before (own_leaf content ++ leaves below) [] p)
ends_print (goes_on {content = content} {below = below} {after = after} e) = prints_behind (own_leaf content) (leaves below ++ leaves after) (prints_behind (leaves below) (leaves after) (ends_print e))

not_both : (b : Bool) → IsTrue b → IsTrue (not b) → ⊥
not_both true h k = cc
not_both false h k = cc

pub no_more : (fr : OrderedTree) (content : Content) (below rest : OrderedTree) → none ≡ followed_by fr (more content below rest) → ⊥
no_more none content below rest e = cc
no_more (more d y fr) content below rest e = cc

-- behind a leaf of trivia it ends so too
ends_behind : {row : OrderedTree} → Ends row → (fr : OrderedTree) (c : Content) (rest : OrderedTree) → IsTrue (is_trivia c) → row ≡ followed_by fr (more c none rest) → Ends rest
ends_behind (ends_with {content = content} n p) none c rest t e = let same : content ≡ c = cc in absurd (not_both (is_trivia c) t (subst (λ x. IsTrue (not (is_trivia x))) same n))
ends_behind (ends_with n p) (more d y fr) c rest t e = let same : none ≡ followed_by fr (more c none rest) = cc in absurd (no_more fr c none rest same)
ends_behind (goes_on {after = after} k) none c rest t e = let same : after ≡ rest = cc in subst Ends same k
ends_behind (goes_on {after = after} k) (more d y fr) c rest t e = let same : after ≡ followed_by fr (more c none rest) = cc in ends_behind k fr c rest t same

ends_past : (gone : List Content) (back : OrderedTree) → AreTrivia gone → Ends (leaves_then gone back) → Ends back
ends_past [] back h e = e
ends_past (c ∷ gone) back h e = ends_past gone back h.1 (ends_behind e none c (leaves_then gone back) h.0 refl)

-- Each row of a document but the root's is so bounded.
pub no_row : {x : OrderedTree} {f b : List Content} → Within x f b none → ⊥
no_row w = elim w [ ]

module _ (o : Options) where
  pub opening_print : (kind : RowKind) → LeafPrints (Content.token (opening kind))
  opening_print kind = mark_prints (opening kind) (first_char (Content.token (opening kind))) (opening_first kind)

  pub closing_print : (kind : RowKind) → LeafPrints (Content.token (closing kind))
  closing_print kind = mark_prints (closing kind) (first_char (Content.token (closing kind))) (closing_first kind)

  literal_no_trivia : (content : Content) → IsLiteralBefore o content [] → IsTrue (not (is_trivia content))
  literal_no_trivia (Content.string s) h = refl
  literal_no_trivia (Content.number s) h = refl
  literal_no_trivia (Content.boolean b) h = refl
  literal_no_trivia Content.null h = refl
  literal_no_trivia content h = absurd h

  name_no_trivia : (content : Content) → IsNameBefore o content [] → IsTrue (not (is_trivia content))
  name_no_trivia (Content.string s) h = refl
  name_no_trivia (Content.word s) h = refl
  name_no_trivia content h = absurd h

  value_no_trivia : {content : Content} {below : OrderedTree} → ValueAlone o content below → IsTrue (not (is_trivia content))
  value_no_trivia (alone.literal {content = content} h) = literal_no_trivia content h
  value_no_trivia (alone.an_array g) = refl
  value_no_trivia (alone.an_object g) = refl

  value_prints : {content : Content} {below : OrderedTree} → ValueAlone o content below → Prints (own_leaf content ++ leaves below)
  value_prints (alone.literal {content = content} h) = subst (λ l. Prints (l ++ [])) (sym (literal_leaf o content [] h)) (leaf_prints content [] (literal_prints o content h))
  value_prints (alone.an_array {row = row} g) = leaf_prints (Content.token 0x5B) (leaves row) (opening_print rows.of_values)
  value_prints (alone.an_object {row = row} g) = leaf_prints (Content.token 0x7B) (leaves row) (opening_print rows.of_properties)

  pub row_ends : {kind : RowKind} {last : Last} {row : OrderedTree} → RowAlone o kind last row → Ends row
  row_ends (alone.closes {kind = kind} m) = ends_with refl (leaf_prints (Content.token (closing kind)) [] (closing_print kind))
  row_ends (alone.trivia h g) = goes_on (row_ends g)
  row_ends (alone.element m p g) = goes_on (row_ends g)
  row_ends (alone.comma g) = goes_on (row_ends g)

  trivia_ends : {t r : OrderedTree} → Trivia o t r → Ends r → Ends t
  trivia_ends shape.nothing e = e
  trivia_ends (shape.trivia h g) e = goes_on (trivia_ends g e)

  property_bounded : {row : OrderedTree} → PropertyAlone o row → Bounded row
  property_bounded (alone.named {name = name} n g h v) =
      bounded (starts_with (name_no_trivia name n) (name_prints o name n) (name_leaf o name [] n)) (goes_on (trivia_ends g (goes_on (trivia_ends h (ends_with (value_no_trivia v) (value_prints v))))))

  value_bounded : {content : Content} {below : OrderedTree} → ValueAlone o content below → Bounded below
  value_bounded (alone.literal h) = nothing
  value_bounded (alone.an_array g) = bounded (starts_with refl (opening_print rows.of_values) refl) (goes_on (row_ends g))
  value_bounded (alone.an_object g) = bounded (starts_with refl (opening_print rows.of_properties) refl) (goes_on (row_ends g))

  part_bounded : {kind : RowKind} {content : Content} {below : OrderedTree} → PartAlone o kind content below → Bounded below
  part_bounded (alone.a_value v) = value_bounded v
  part_bounded (alone.a_property p) = property_bounded p

  trivia_in : {t r x : OrderedTree} {f b : List Content} → Trivia o t r → ((g c : List Content) → Within x g c r → Bounded x) → Within x f b t → Bounded x
  trivia_in {f = f} {b = b} shape.nothing k w = k f b w
  trivia_in (shape.trivia h g) k here = nothing
  trivia_in (shape.trivia h g) k (deeper w) = absurd (no_row w)
  trivia_in (shape.trivia h g) k (later w) = trivia_in g k w

  at_value : {content : Content} {below x : OrderedTree} {f b : List Content} → ValueAlone o content below → ((e c : List Content) → Within x e c below → Bounded x) → Within x f b (more content below none) → Bounded x
  at_value v inside here = value_bounded v
  at_value v inside (deeper {f = f} {b = b} w) = inside f b w
  at_value v inside (later w) = absurd (no_row w)

  behind_colon : {content : Content} {below u x : OrderedTree} {f b : List Content} → Trivia o u (more content below none) → ValueAlone o content below → ((e c : List Content) → Within x e c below → Bounded x) → Within x f b (token_then 0x3A u) → Bounded x
  behind_colon h v inside here = nothing
  behind_colon h v inside (deeper w) = absurd (no_row w)
  behind_colon h v inside (later w) = trivia_in h (λ e c k. at_value v inside k) w

  mutual
    value_in : {content : Content} {below x : OrderedTree} {f b : List Content} → ValueAlone o content below → Within x f b below → Bounded x
    value_in (alone.literal h) w = absurd (no_row w)
    value_in (alone.an_array g) here = nothing
    value_in (alone.an_array g) (deeper w) = absurd (no_row w)
    value_in (alone.an_array g) (later w) = row_in g w
    value_in (alone.an_object g) here = nothing
    value_in (alone.an_object g) (deeper w) = absurd (no_row w)
    value_in (alone.an_object g) (later w) = row_in g w

    part_in : {kind : RowKind} {content : Content} {below x : OrderedTree} {f b : List Content} → PartAlone o kind content below → Within x f b below → Bounded x
    part_in (alone.a_value v) w = value_in v w
    part_in (alone.a_property p) w = property_in p w

    row_in : {kind : RowKind} {last : Last} {row x : OrderedTree} {f b : List Content} → RowAlone o kind last row → Within x f b row → Bounded x
    row_in (alone.closes m) here = nothing
    row_in (alone.closes m) (deeper w) = absurd (no_row w)
    row_in (alone.closes m) (later w) = absurd (no_row w)
    row_in (alone.trivia h g) here = nothing
    row_in (alone.trivia h g) (deeper w) = absurd (no_row w)
    row_in (alone.trivia h g) (later w) = row_in g w
    row_in (alone.element m p g) here = part_bounded p
    row_in (alone.element m p g) (deeper w) = part_in p w
    row_in (alone.element m p g) (later w) = row_in g w
    row_in (alone.comma g) here = nothing
    row_in (alone.comma g) (deeper w) = absurd (no_row w)
    row_in (alone.comma g) (later w) = row_in g w

    property_in : {row x : OrderedTree} {f b : List Content} → PropertyAlone o row → Within x f b row → Bounded x
    property_in (alone.named n g h v) here = nothing
    property_in (alone.named n g h v) (deeper w) = absurd (no_row w)
    property_in (alone.named n g h v) (later w) = trivia_in g (λ e c k. behind_colon h v (λ i j l. value_in v l) k) w

  pub root_in : {stood : Bool} {row x : OrderedTree} {f b : List Content} → RootAlone o stood row → Within x f b row → Bounded x
  root_in alone.root_ends w = absurd (no_row w)
  root_in (alone.root_trivia h g) here = nothing
  root_in (alone.root_trivia h g) (deeper w) = absurd (no_row w)
  root_in (alone.root_trivia h g) (later w) = root_in g w
  root_in (alone.root_value v g) here = value_bounded v
  root_in (alone.root_value v g) (deeper w) = value_in v w
  root_in (alone.root_value v g) (later w) = root_in g w

  -- the root's row, or one that is bounded
  pub data InDocument (x : OrderedTree) (f b : List Content) : Type 0 where
    at_root : f ≡ [] → b ≡ [] → InDocument x f b
    further_in : Bounded x → InDocument x f b

  pub document_in : {t x : OrderedTree} {f b : List Content} → DocumentAlone o t → Within x f b t → InDocument x f b
  document_in {t} {x} {f} {b} (row, e, g) w = by row g (subst (Within x f b) e w)
    where
      by : (row : OrderedTree) → RootAlone o false row → {h c : List Content} → Within x h c (more root row none) → InDocument x h c
      by row g here = at_root refl refl
      by row g (deeper k) = further_in (root_in g k)
      by row g (later k) = absurd (no_row k)

  -- what is printed last before the stretch, and first behind it, is printed in its row
  front_same : {x : OrderedTree} (f : List Content) → Starts x → (front : OrderedTree) (c : Content) (rest : OrderedTree) → IsTrue (is_trivia c) → x ≡ followed_by front (more c none rest) → last_printed (f ++ leaves front) ≡ last_printed (leaves front)
  front_same f (starts_with {content = content} n p l) none c rest t e = let same : content ≡ c = cc in absurd (not_both (is_trivia c) t (subst (λ y. IsTrue (not (is_trivia y))) same n))
  front_same f (starts_with {content = content} n p l) (more d y front) c rest t e =
      let same : content ≡ d = cc in
      let own : own_leaf d ≡ d ∷ [] = subst (λ z. own_leaf z ≡ z ∷ []) same l in
      let some : IsTrue (is_some (last_printed (leaves (more d y front)))) = subst (λ l. IsTrue (is_some (last_printed (l ++ (leaves y ++ leaves front))))) (sym own) (last_some d (leaves y ++ leaves front) (subst LeafPrints same p)) in
      last_append f (leaves (more d y front)) ∙ same_if_some (last_printed (leaves (more d y front))) (last_printed f) some

  back_same : {x : OrderedTree} (b : List Content) → Ends x → (front back : OrderedTree) (c : Content) (gone : List Content) → AreTrivia (c ∷ gone) → x ≡ followed_by front (leaves_then (c ∷ gone) back) → first_printed (leaves back ++ b) ≡ first_printed (leaves back)
  back_same b ends front back c gone t e =
      let rest = ends_past gone back t.1 (ends_behind ends front c (leaves_then gone back) t.0 e) in
      first_append (leaves back) b ∙ same_if_some (first_printed (leaves back)) (first_printed b) (ends_print rest)

  pub none_meet_around : {t : OrderedTree} {f b : List Content} → DocumentAlone o t → (front back : OrderedTree) (c : Content) (gone : List Content) → AreTrivia (c ∷ gone) → Within (followed_by front (leaves_then (c ∷ gone) back)) f b t
      → meet (leaves front) (leaves back) ≡ false → meet (f ++ leaves front) (leaves back ++ b) ≡ false
  none_meet_around {t} {f} {b} g front back c gone h w m = by (document_in g w) refl
    where
      by : {x : OrderedTree} → InDocument x f b → x ≡ followed_by front (leaves_then (c ∷ gone) back) → meet (f ++ leaves front) (leaves back ++ b) ≡ false
      by (at_root p q) e =
          ap (λ l. meet (l ++ leaves front) (leaves back ++ b)) p ∙ ap (λ l. meet (leaves front) (leaves back ++ l)) q ∙ ap (meet (leaves front)) (append-nil (leaves back)) ∙ m
      by (further_in nothing) e = absurd (no_more front c none (leaves_then gone back) e)
      by (further_in (bounded s k)) e =
          ap (λ x. is_bare_leaf x && is_bare_leaf (first_printed (leaves back ++ b))) (front_same f s front c (leaves_then gone back) h.0 e)
          ∙ ap (λ x. is_bare_leaf (last_printed (leaves front)) && is_bare_leaf x) (back_same b k front back c gone h e) ∙ m
