-- What may follow a literal without quotes, and what rows begin and stretches end with.
use Rattle.std.proofs.Common.{ℕ, ◌≡◌, ◌∙◌, sym, ap, subst, refl, Bool, true, false, ◌&&◌, ◌==◌, inl, inr, List, [], ◌∷◌, ◌++◌, Option, Some, None, IsTrue, chars, if◌then◌else◌}
use Rattle.std.proofs.lemmas.List.{append_assoc}
use Rattle.jsonc_text.specs.Options.{Options}
use Rattle.jsonc_text.specs.Text.{next, starts, end_or}
use Rattle.jsonc_text.specs.Strings.{IsQuote, IsString}
use Rattle.jsonc_text.specs.Words.{EndsThere, goes_on}
use Rattle.jsonc_text.specs.Lexemes as lexemes
use Rattle.jsonc_text.specs.Lexemes.{LexemeKind, lexeme, CanEndBefore}
use Rattle.jsonc_text.proofs.LexemesAlone.{scanned_alone}
use Rattle.jsonc_text.proofs.Basics.{or_cases, and_both, test_eq}
use Rattle.jsonc_tree.specs.Content.{Content, token}
use Rattle.jsonc_tree.specs.OrderedTree.{OrderedTree, own_leaf, leaves, followed_by}
use Rattle.jsonc_sound.specs.Lines.{LinesEnd}
use Rattle.jsonc_sound.specs.Shape as shape
use Rattle.jsonc_sound.specs.Shape.{IsTrivia, Trivia, IsLiteralBefore, IsNameBefore, DocumentShaped}
use Rattle.jsonc_sound.specs.Rows as rows
use Rattle.jsonc_sound.specs.Rows.{RowKind, closing, Last, container_of, last_behind}
use Rattle.jsonc_sound.specs.Sound.{Sound}
use Rattle.jsonc_sound.specs.TreeChanges.{DocumentChanged}
use Rattle.jsonc_sound.proofs.Characters.{ends_names, text_ends_names, goes_on_apart}
use Rattle.jsonc_sound.proofs.Followers.{leaf_ends}
use Rattle.jsonc_sound.proofs.NumberEnds.{alike_names, may_follow_swapped}
use Rattle.jsonc_sound.specs.Adjacent.{one_or_none, EndsBefore, first_char, or_else, follower, LeavesEnd, last_printed, MayEndBefore, LastEnds}
use Rattle.jsonc_sound.specs.Alone as alone
use Rattle.jsonc_sound.specs.Alone.{ValueAlone, PartAlone, RowAlone, PropertyAlone, StretchAlone, may_come}
use Rattle.jsonc_sound.specs.Spaces.{is_bare, is_bare_leaf, first_printed, meet}
use Rattle.jsonc_sound.proofs.Leaves.{follower_append, nothing_printed, parted_leaves, last_serves}
use Rattle.jsonc_sound.proofs.Texts.{trivia_leaf, literal_leaf, name_leaf, comma_first, colon_first, opening_first, closing_first, row_hides}
use Rattle.jsonc_sound.proofs.NodesAlone.{value_alone, value_leaves}
use Rattle.jsonc_sound.proofs.SeamRows.{container_leaves, parted_lists, row_of, shaped_with_stretch}
use Rattle.jsonc_sound.proofs.SeamStretches.{gives_way}
use Rattle.jsonc_sound.proofs.Lines.{document_lines}
use Rattle.jsonc_sound.proofs.HeldValues.{document_held}
use Rattle.jsonc_tree.proofs.OrderedTrees.{leaves-followed_by}

-- what follows ends each name that is no word, and each value
abbrev pub Ends : Option ℕ → Type 0
Ends n = IsTrue (end_or ends_names n)

pub one_next : (m : Option ℕ) → next (one_or_none m) ≡ m
one_next None = refl
one_next (Some c) = refl

-- the leaf, if there is one, is no word
abbrev pub NoWord : Option Content → Type 0
NoWord None = Unit {0}
NoWord (Some (Content.word s)) = ⊥
NoWord (Some content) = Unit {0}

one_ends : (m : Option ℕ) → Ends m → Ends (next (one_or_none m))
one_ends m h = subst Ends (sym (one_next m)) h

keyword_serves : (n m : Option ℕ) → Ends m → EndsThere n → EndsThere m
keyword_serves n m h e = subst EndsThere (one_next m) (alike_names (one_or_none n) (one_or_none m) (one_ends m h) goes_on goes_on_apart (subst EndsThere (sym (one_next n)) e))

pub leaf_serves : (o : Options) (content : Content) (n m : Option ℕ) → NoWord (Some content) → Ends m → EndsBefore o content n → EndsBefore o content m
leaf_serves o (Content.number s) n m w h e = may_follow_swapped (one_or_none n) (one_or_none m) (alike_names (one_or_none n) (one_or_none m) (one_ends m h)) (chars s) e
leaf_serves o (Content.boolean b) n m w h e = keyword_serves n m h e
leaf_serves o Content.null n m w h e = keyword_serves n m h e
leaf_serves o (Content.word s) n m w h e = absurd w
leaf_serves o content n m w h e = tt

-- a word may end before a space as all others may
kind_serves : (k : LexemeKind) (s r : List ℕ) → CanEndBefore (lexeme k) s r → CanEndBefore (lexeme k) s (0x20 ∷ [])
kind_serves (lexemes.string v) s r h = tt
kind_serves (lexemes.number n) s r h = may_follow_swapped r (0x20 ∷ []) (alike_names r (0x20 ∷ []) refl) s h
kind_serves (lexemes.word n) s r h = refl
kind_serves (lexemes.keyword k) s r h = alike_names r (0x20 ∷ []) refl goes_on goes_on_apart h
kind_serves (lexemes.punctuation c) s r h = tt

space_serves_leaf : (o : Options) (content : Content) (n : Option ℕ) → EndsBefore o content n → EndsBefore o content (Some 0x20)
space_serves_leaf o (Content.word s) n e = (e.0, e.1, e.2, kind_serves e.0 (chars s) (one_or_none n) e.3)
space_serves_leaf o (Content.number s) n e = leaf_serves o (Content.number s) n (Some 0x20) tt refl e
space_serves_leaf o (Content.boolean b) n e = leaf_serves o (Content.boolean b) n (Some 0x20) tt refl e
space_serves_leaf o Content.null n e = leaf_serves o Content.null n (Some 0x20) tt refl e
space_serves_leaf o content n e = tt

-- the last of leaves that end does
pub last_of : (o : Options) (ls : List Content) (n : Option ℕ) → LeavesEnd o ls n → LastEnds o ls n
last_of o [] n h = tt
last_of o (content ∷ rest) n h = by (last_of o rest n h.1) (last_printed rest) refl (first_char content) refl
  where
    by : LastEnds o rest n → (x : Option Content) → last_printed rest ≡ x → (c : Option ℕ) → first_char content ≡ c → MayEndBefore o (or_else x (if starts (λ d. true) c then Some content else None)) n
    by ih (Some d) p c q = subst (λ x. MayEndBefore o x n) p ih
    by ih None p (Some c) q = subst (EndsBefore o content) (nothing_printed rest p n) h.0
    by ih None p None q = tt

last_space : (o : Options) (x : Option Content) (n : Option ℕ) → MayEndBefore o x n → MayEndBefore o x (Some 0x20)
last_space o None n h = tt
last_space o (Some content) n h = space_serves_leaf o content n h

pub space_serves : (o : Options) (ls : List Content) (n : Option ℕ) → LeavesEnd o ls n → LeavesEnd o ls (Some 0x20)
space_serves o ls n h = last_serves o ls n (Some 0x20) h (last_space o (last_printed ls) n (last_of o ls n h))

-- where the last is no word, what follows need only end names, and that only if the last is without quotes
pub serves_unless : (o : Options) (x : Option Content) (n m : Option ℕ) → NoWord x → (is_bare_leaf x ≡ true → Ends m) → MayEndBefore o x n → MayEndBefore o x m
serves_unless o None n m w f e = tt
serves_unless o (Some (Content.number s)) n m w f e = leaf_serves o (Content.number s) n m w (f refl) e
serves_unless o (Some (Content.boolean b)) n m w f e = leaf_serves o (Content.boolean b) n m w (f refl) e
serves_unless o (Some Content.null) n m w f e = leaf_serves o Content.null n m w (f refl) e
serves_unless o (Some (Content.word s)) n m w f e = absurd w
serves_unless o (Some content) n m w f e = tt

-- what stretches end with
abbrev pub own_last : Content → Option Content
own_last content = if starts (λ c. true) (first_char content) then Some content else None

pub last_append : (first second : List Content) → last_printed (first ++ second) ≡ or_else (last_printed second) (last_printed first)
last_append [] second = by (last_printed second)
  where
    by : (x : Option Content) → x ≡ or_else x None
    by None = refl
    by (Some c) = refl
last_append (content ∷ rest) second = ap (λ x. or_else x (own_last content)) (last_append rest second) ∙ by (last_printed second) (last_printed rest) (own_last content)
  where
    by : (x y z : Option Content) → or_else (or_else x y) z ≡ or_else x (or_else y z)
    by None y z = refl
    by (Some c) y z = refl

either_no_word : (x y : Option Content) → NoWord x → NoWord y → NoWord (or_else x y)
either_no_word None y h k = k
either_no_word (Some c) y h k = h

joined_no_word : (first second : List Content) → NoWord (last_printed first) → NoWord (last_printed second) → NoWord (last_printed (first ++ second))
joined_no_word first second h k = subst NoWord (sym (last_append first second)) (either_no_word (last_printed second) (last_printed first) k h)

pub own_no_word : (content : Content) → NoWord (Some content) → NoWord (own_last content)
own_no_word content h = by (starts (λ c. true) (first_char content))
  where
    by : (b : Bool) → NoWord (if b then Some content else None)
    by true = h
    by false = tt

-- a leaf that is none, and then others
leaf_no_word : {content : Content} (after : List Content) → own_leaf content ≡ content ∷ [] → NoWord (Some content) → NoWord (last_printed after) → NoWord (last_printed (own_leaf content ++ after))
leaf_no_word {content} after e h k = joined_no_word (own_leaf content) after (subst (λ l. NoWord (last_printed l)) (sym e) (own_no_word content h)) k

-- something that is no word stands last, whatever stands before it
record Covers (ls : List Content) : Type 0 where
  leaf : Content
  last : last_printed ls ≡ Some leaf
  no_word : NoWord (Some leaf)

covers_before : (first second : List Content) → Covers second → Covers (first ++ second)
covers_before first second c = record { leaf = c.leaf; last = last_append first second ∙ ap (λ x. or_else x (last_printed first)) c.last; no_word = c.no_word }

covered : (content : Content) (ls : List Content) → Covers ls → NoWord (last_printed (content ∷ ls))
covered content ls c = subst (λ x. NoWord (or_else x (own_last content))) (sym c.last) c.no_word

node_no_word : (a b c : List Content) → NoWord (last_printed (a ++ b)) → NoWord (last_printed c) → NoWord (last_printed (a ++ (b ++ c)))
node_no_word a b c h k = subst (λ l. NoWord (last_printed l)) (append_assoc a b c) (joined_no_word (a ++ b) c h k)

trivia_no_word : (o : Options) (content : Content) → IsTrivia o content → NoWord (Some content)
trivia_no_word o (Content.word s) h = absurd h
trivia_no_word o content h = tt

literal_no_word : (o : Options) (content : Content) (r : List ℕ) → IsLiteralBefore o content r → NoWord (Some content)
literal_no_word o (Content.word s) r h = absurd h
literal_no_word o content r h = tt

pub own_colon : own_last (token 0x3A) ≡ Some (token 0x3A)
own_colon = ap (λ x. if starts (λ d. true) x then Some (token 0x3A) else None) colon_first

-- a mark prints itself, and is no word
mark_covers : (c : ℕ) (ls : List Content) → first_char (token c) ≡ Some c → NoWord (last_printed ls) → Covers (token c ∷ ls)
mark_covers c ls e h = by (last_printed ls) refl h
  where
    own : own_last (token c) ≡ Some (token c)
    own = ap (λ x. if starts (λ d. true) x then Some (token c) else None) e

    by : (x : Option Content) → last_printed ls ≡ x → NoWord x → Covers (token c ∷ ls)
    by (Some d) p k = record { leaf = d; last = ap (λ x. or_else x (own_last (token c))) p; no_word = k }
    by None p k = record { leaf = token c; last = ap (λ x. or_else x (own_last (token c))) p ∙ own; no_word = tt }

module _ (o : Options) where
  trivia_covers : {t r : OrderedTree} → Trivia o t r → Covers (leaves r) → Covers (leaves t)
  trivia_covers shape.nothing c = c
  trivia_covers (shape.trivia {content = content} {t = t} h g) c = covers_before (own_leaf content) (leaves t) (trivia_covers g c)

  trivia_no_words : {t r : OrderedTree} → Trivia o t r → NoWord (last_printed (leaves r)) → NoWord (last_printed (leaves t))
  trivia_no_words shape.nothing k = k
  trivia_no_words (shape.trivia {content = content} {t = t} h g) k = leaf_no_word (leaves t) (trivia_leaf o content h) (trivia_no_word o content h) (trivia_no_words g k)

  mutual
    pub value_no_word : {content : Content} {below : OrderedTree} → ValueAlone o content below → NoWord (last_printed (own_leaf content ++ leaves below))
    value_no_word (alone.literal {content = content} h) = leaf_no_word [] (literal_leaf o content [] h) (literal_no_word o content [] h) tt
    value_no_word (alone.an_array {row = row} g) = joined_no_word (token 0x5B ∷ []) (leaves row) (own_no_word (token 0x5B) tt) (row_no_word g)
    value_no_word (alone.an_object {row = row} g) = joined_no_word (token 0x7B ∷ []) (leaves row) (own_no_word (token 0x7B) tt) (row_no_word g)

    part_no_word : {kind : RowKind} {content : Content} {below : OrderedTree} → PartAlone o kind content below → NoWord (last_printed (own_leaf content ++ leaves below))
    part_no_word (alone.a_value v) = value_no_word v
    part_no_word (alone.a_property p) = property_no_word p

    row_no_word : {kind : RowKind} {last : Last} {row : OrderedTree} → RowAlone o kind last row → NoWord (last_printed (leaves row))
    row_no_word {kind} (alone.closes m) = own_no_word (token (closing kind)) tt
    row_no_word (alone.trivia {content = content} {after = after} h g) = leaf_no_word (leaves after) (trivia_leaf o content h) (trivia_no_word o content h) (row_no_word g)
    row_no_word (alone.element {content = content} {below = below} {after = after} m p g) = node_no_word (own_leaf content) (leaves below) (leaves after) (part_no_word p) (row_no_word g)
    row_no_word (alone.comma {after = after} g) = joined_no_word (token 0x2C ∷ []) (leaves after) (own_no_word (token 0x2C) tt) (row_no_word g)

    property_no_word : {row : OrderedTree} → PropertyAlone o row → NoWord (last_printed (leaves row))
    property_no_word (alone.named {name = name} {content = content} {below = below} {after = after} {u = u} n g h v) =
        let value = node_no_word (own_leaf content) (leaves below) [] (value_no_word v) tt in
        let behind = trivia_covers g (mark_covers 0x3A (leaves u) colon_first (trivia_no_words h value)) in
        subst (λ l. NoWord (last_printed (l ++ leaves after))) (sym (name_leaf o name [] n)) (covered name (leaves after) behind)

  pub stretch_no_word : {kind : RowKind} {last to : Last} {stretch : OrderedTree} → StretchAlone o kind last stretch to → NoWord (last_printed (leaves stretch))
  stretch_no_word alone.stays = tt
  stretch_no_word (alone.past_trivia {content = content} {after = after} h g) = leaf_no_word (leaves after) (trivia_leaf o content h) (trivia_no_word o content h) (stretch_no_word g)
  stretch_no_word (alone.past_element {content = content} {below = below} {after = after} m p g) = node_no_word (own_leaf content) (leaves below) (leaves after) (part_no_word p) (stretch_no_word g)
  stretch_no_word (alone.past_comma {after = after} g) = joined_no_word (token 0x2C ∷ []) (leaves after) (own_no_word (token 0x2C) tt) (stretch_no_word g)

-- what rows begin with: where no literal without quotes is first, it ends names, if what follows does
abbrev pub Begins : List Content → Type 0
Begins ls = is_bare_leaf (first_printed ls) ≡ false → (n : Option ℕ) → Ends n → Ends (follower ls n)

pub either_ends : (x n : Option ℕ) → Ends x → Ends n → Ends (or_else x n)
either_ends None n h k = k
either_ends (Some c) n h k = h

pub leaf_begins : (content : Content) → (is_bare content ≡ false → Ends (first_char content)) → Begins (content ∷ [])
leaf_begins content f b n h = by (first_char content) f b
  where
    by : (x : Option ℕ) → (is_bare content ≡ false → Ends x) → is_bare_leaf (if starts (λ c. true) x then Some content else None) ≡ false → Ends (or_else x n)
    by None g b = h
    by (Some c) g b = g b

mark_begins : (c : ℕ) (ls : List Content) → first_char (token c) ≡ Some c → IsTrue (ends_names c) → Begins (token c ∷ ls)
mark_begins c ls e h b n k = subst (λ x. Ends (or_else x (follower ls n))) (sym e) h

-- leaves of which the first is known
first_none : (ls : List Content) → first_printed ls ≡ None → (n : Option ℕ) → follower ls n ≡ n
first_none [] e n = refl
first_none (content ∷ rest) e n = by (λ p. first_none rest p n) (first_char content) e
  where
    by : (first_printed rest ≡ None → follower rest n ≡ n) → (x : Option ℕ) → (if starts (λ c. true) x then Some content else first_printed rest) ≡ None → or_else x (follower rest n) ≡ n
    by ih None p = ih p
    by ih (Some c) p = cc

first_some : (ls : List Content) (content : Content) → first_printed ls ≡ Some content → (n m : Option ℕ) → follower ls n ≡ follower ls m
first_some [] content e n m = cc
first_some (first ∷ rest) content e n m = by (λ p. first_some rest content p n m) (first_char first) e
  where
    by : (first_printed rest ≡ Some content → follower rest n ≡ follower rest m) → (x : Option ℕ) → (if starts (λ c. true) x then Some first else first_printed rest) ≡ Some content → or_else x (follower rest n) ≡ or_else x (follower rest m)
    by ih None p = ih p
    by ih (Some c) p = refl

pub first_append : (a b : List Content) → first_printed (a ++ b) ≡ or_else (first_printed a) (first_printed b)
first_append [] b = refl
first_append (content ∷ rest) b = by (first_append rest b) (first_char content)
  where
    by : first_printed (rest ++ b) ≡ or_else (first_printed rest) (first_printed b) → (x : Option ℕ) → (if starts (λ c. true) x then Some content else first_printed (rest ++ b)) ≡ or_else (if starts (λ c. true) x then Some content else first_printed rest) (first_printed b)
    by e None = e
    by e (Some c) = refl

pub joined_begins : (a b : List Content) → Begins a → Begins b → Begins (a ++ b)
joined_begins a b f g e n h = subst Ends (sym (follower_append a b n)) (by (first_printed a) refl (subst (λ x. is_bare_leaf x ≡ false) (first_append a b) e))
  where
    by : (x : Option Content) → first_printed a ≡ x → is_bare_leaf (or_else x (first_printed b)) ≡ false → Ends (follower a (follower b n))
    by None p k = subst Ends (sym (first_none a p (follower b n))) (g k n h)
    by (Some c) p k = subst Ends (first_some a c p None (follower b n)) (f (ap is_bare_leaf p ∙ k) None refl)

quote_ends : (o : Options) (q : ℕ) → IsQuote o q → IsTrue (ends_names q)
quote_ends o q h =
    elim (or_cases (q == 0x22) _ h) [
      | inl e ↦ subst (λ c. IsTrue (ends_names c)) (sym (test_eq q 0x22 e)) refl
      | inr e ↦ subst (λ c. IsTrue (ends_names c)) (sym (test_eq q 0x27 (and_both (q == 0x27) _ e).0)) refl
    ]

string_first : (o : Options) (s r : List ℕ) → IsLiteralBefore o (Content.string s) r → Ends (first_char (Content.string s))
string_first o s r (v, (u, h)) = begins (chars s) (scanned_alone o (lexeme (lexemes.string v)) (chars s) r h).0
  where
    begins : (t : List ℕ) → IsString o t v [] → Ends (next t)
    begins t (q, x, k, e, d) = subst (λ y. Ends (next y)) (sym e) (quote_ends o q k)

pub literal_first : (o : Options) (content : Content) → IsLiteralBefore o content [] → is_bare content ≡ false → Ends (first_char content)
literal_first o (Content.string s) h b = string_first o s [] h
literal_first o (Content.number s) h b = cc
literal_first o (Content.boolean x) h b = cc
literal_first o Content.null h b = cc
literal_first o content h b = absurd h

pub name_first : (o : Options) (content : Content) → IsNameBefore o content [] → is_bare content ≡ false → Ends (first_char content)
name_first o (Content.string s) h b = string_first o s [] h
name_first o (Content.word s) h b = cc
name_first o content h b = absurd h

pub closing_ends : (kind : RowKind) → IsTrue (ends_names (closing kind))
closing_ends rows.of_values = refl
closing_ends rows.of_properties = refl

pub not_both : (a b : Bool) → a && b ≡ false → a ≡ true → b ≡ false
not_both true b e f = e
not_both false b e f = cc

own_begins : {content : Content} → own_leaf content ≡ content ∷ [] → (is_bare content ≡ false → Ends (first_char content)) → Begins (own_leaf content)
own_begins {content} e f = subst Begins (sym e) (leaf_begins content f)

node_begins : (a b c : List Content) → Begins (a ++ b) → Begins c → Begins (a ++ (b ++ c))
node_begins a b c f g = subst Begins (append_assoc a b c) (joined_begins (a ++ b) c f g)

module _ (o : Options) where
  trivia_begin : {t r : OrderedTree} → Trivia o t r → Begins (leaves r) → Begins (leaves t)
  trivia_begin shape.nothing f = f
  trivia_begin (shape.trivia {content = content} {t = t} h g) f =
      joined_begins (own_leaf content) (leaves t) (own_begins (trivia_leaf o content h) (λ b. text_ends_names (first_char content) (leaf_ends o content h))) (trivia_begin g f)

  value_begins : {content : Content} {below : OrderedTree} → ValueAlone o content below → Begins (own_leaf content ++ leaves below)
  value_begins (alone.literal {content = content} h) = joined_begins (own_leaf content) [] (own_begins (literal_leaf o content [] h) (literal_first o content h)) (λ b n k. k)
  value_begins (alone.an_array {row = row} g) = mark_begins 0x5B (leaves row) (opening_first rows.of_values) refl
  value_begins (alone.an_object {row = row} g) = mark_begins 0x7B (leaves row) (opening_first rows.of_properties) refl

  part_begins : {kind : RowKind} {content : Content} {below : OrderedTree} → PartAlone o kind content below → Begins (own_leaf content ++ leaves below)
  part_begins (alone.a_value v) = value_begins v
  part_begins (alone.a_property (alone.named {name = name} {after = after} {u = u} n g h v)) =
      joined_begins (own_leaf name) (leaves after) (own_begins (name_leaf o name [] n) (name_first o name n)) (trivia_begin g (mark_begins 0x3A (leaves u) colon_first refl))

  row_begins : {kind : RowKind} {last : Last} {row : OrderedTree} → RowAlone o kind last row → Begins (leaves row)
  row_begins (alone.closes {kind = kind} m) = mark_begins (closing kind) [] (closing_first kind) (closing_ends kind)
  row_begins (alone.trivia {content = content} {after = after} h g) =
      joined_begins (own_leaf content) (leaves after) (own_begins (trivia_leaf o content h) (λ b. text_ends_names (first_char content) (leaf_ends o content h))) (row_begins g)
  row_begins (alone.element {content = content} {below = below} {after = after} m p g) = node_begins (own_leaf content) (leaves below) (leaves after) (part_begins p) (row_begins g)
  row_begins (alone.comma {after = after} g) = mark_begins 0x2C (leaves after) comma_first refl

  -- a stretch before the rest of a row
  pub stretch_ends : {kind : RowKind} {stretch rest : OrderedTree} {last mid other : Last} (n m : Option ℕ) → StretchAlone o kind last stretch mid → RowAlone o kind other rest → LeavesEnd o (leaves stretch) n → meet (leaves stretch) (leaves rest) ≡ false
      → LastEnds o (leaves stretch) (follower (leaves rest) m)
  stretch_ends {stretch = stretch} {rest = rest} n m s g h e =
      let begins = λ (b : is_bare_leaf (last_printed (leaves stretch)) ≡ true). subst Ends (row_hides o g None m) (row_begins g (not_both _ _ e b) None refl) in
      serves_unless o (last_printed (leaves stretch)) n (follower (leaves rest) m) (stretch_no_word o s) begins (last_of o (leaves stretch) n h)

  pub shaped_where_none_meet : (t : OrderedTree) → DocumentShaped o t → (kind : RowKind) (front was now back : OrderedTree) (path : List ℕ) (u : OrderedTree)
      → DocumentChanged (container_of kind (followed_by front (followed_by was back))) (container_of kind (followed_by front (followed_by now back))) path t u
      → (to : Last) → StretchAlone o kind (last_behind rows.nothing_yet front) now to → IsTrue (may_come o to back)
      → LeavesEnd o (leaves now) None → meet (leaves front) (leaves (followed_by now back)) ≡ false → meet (leaves now) (leaves back) ≡ false
      → DocumentShaped o u
  shaped_where_none_meet t s kind front was now back path u c to k h alone_ends before behind =
      let old : OrderedTree = followed_by front (followed_by was back) in
      let value = document_held o c s in
      let way = gives_way o kind front was now back (row_of o kind old (value_alone o value.1)) to k h in
      let n = next value.0 in
      let held = (subst (λ a. LeavesEnd o a n) (container_leaves kind old) (value_leaves o value.1)).1 in
      let first = (parted_leaves o (leaves front) (leaves was ++ leaves back) n (subst (λ a. LeavesEnd o a n) (parted_lists front was back) held)).0 in
      let joins = subst (λ a. LastEnds o (leaves front) (follower a None)) (leaves-followed_by now back) (stretch_ends (follower (leaves was ++ leaves back) n) None way.before way.middle first before) in
      let ends = last_serves o (leaves now) None (follower (leaves back) None) alone_ends (stretch_ends None None k way.rest alone_ends behind) in
      shaped_with_stretch o t s kind front was now back path u c to k h joins ends

  pub sound_where_none_meet : (t : OrderedTree) → Sound o t → (kind : RowKind) (front was now back : OrderedTree) (path : List ℕ) (u : OrderedTree)
      → DocumentChanged (container_of kind (followed_by front (followed_by was back))) (container_of kind (followed_by front (followed_by now back))) path t u
      → (to : Last) → StretchAlone o kind (last_behind rows.nothing_yet front) now to → IsTrue (may_come o to back)
      → LinesEnd false (followed_by front (followed_by now back))
      → LeavesEnd o (leaves now) None → meet (leaves front) (leaves (followed_by now back)) ≡ false → meet (leaves now) (leaves back) ≡ false
      → Sound o u
  sound_where_none_meet t s kind front was now back path u c to k h l alone_ends before behind =
      record { shaped = shaped_where_none_meet t s.shaped kind front was now back path u c to k h alone_ends before behind; lines = document_lines (λ x. cc, tt, l) c s.lines }
