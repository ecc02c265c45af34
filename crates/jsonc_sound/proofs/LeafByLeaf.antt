-- The leaves of a document one by one: what they begin with, and that words are names.
use Rattle.std.proofs.Common.{ℕ, ◌≡◌, ◌∙◌, sym, ap, subst, refl, Bool, true, false, ◌==◌, List, [], ◌∷◌, ◌++◌, Option, Some, None, IsTrue}
use Rattle.std.proofs.lemmas.List.{append_assoc, append-nil}
use Rattle.jsonc_text.specs.Options.{Options}
use Rattle.jsonc_text.specs.Text.{starts}
use Rattle.jsonc_text.proofs.Basics.{test_eq}
use Rattle.jsonc_text.proofs.UniqueGaps.{comment_begins}
use Rattle.jsonc_tree.specs.Content.{Content, token}
use Rattle.jsonc_tree.specs.OrderedTree.{OrderedTree, own_leaf, leaves, Top}
use Rattle.jsonc_sound.specs.Lines.{LinesEnd}
use Rattle.jsonc_sound.specs.Shape as shape
use Rattle.jsonc_sound.specs.Shape.{IsTrivia, Trivia, IsLiteralBefore, IsNameBefore, DocumentShaped}
use Rattle.jsonc_sound.specs.ChangeLaws.{DiffersIn}
use Rattle.jsonc_sound.specs.Rows as rows
use Rattle.jsonc_sound.specs.Rows.{RowKind, closing, Last}
use Rattle.jsonc_sound.specs.Sound.{Sound, IsValueBefore}
use Rattle.jsonc_sound.specs.TreeChanges.{leaves_of, DocumentChanged}
use Rattle.jsonc_sound.proofs.Characters.{ends_names, text_ends_names}
use Rattle.jsonc_sound.proofs.Followers.{leaf_ends}
use Rattle.jsonc_sound.proofs.Lines.{document_lines}
use Rattle.jsonc_sound.proofs.HeldValues.{document_held}
use Rattle.jsonc_sound.specs.Adjacent.{first_char, or_else, follower, LeavesEnd, last_printed, LastEnds}
use Rattle.jsonc_sound.specs.Alone as alone
use Rattle.jsonc_sound.specs.Alone.{ValueAlone, PartAlone, RowAlone, PropertyAlone, RootAlone, DocumentAlone}
use Rattle.jsonc_sound.specs.Spaces.{is_bare, meet}
use Rattle.jsonc_sound.proofs.NodesAlone.{value_alone, value_leaves, document_alone, document_leaves}
use Rattle.jsonc_sound.proofs.Changed.{shaped_at_seams}
use Rattle.jsonc_sound.proofs.Leaves.{parted_leaves, last_serves}
use Rattle.jsonc_sound.proofs.Spaces.{Ends, NoWord, Begins, own_last, own_colon, own_no_word, literal_first, name_first, closing_ends, leaf_begins, joined_begins, value_no_word, last_of, serves_unless, not_both}
use Rattle.jsonc_sound.proofs.Texts.{trivia_leaf, literal_leaf, name_leaf, comma_first, colon_first, opening_first, closing_first}

abbrev pub is_word : Content → Bool
is_word (Content.word s) = true
is_word _ = false

-- a colon stands first, trivia passed over
abbrev pub leads_to_colon : List Content → Bool
leads_to_colon [] = false
leads_to_colon (Content.whitespace s ∷ rest) = leads_to_colon rest
leads_to_colon (Content.newline k ∷ rest) = leads_to_colon rest
leads_to_colon (Content.comment s ∷ rest) = leads_to_colon rest
leads_to_colon (Content.token c ∷ rest) = c == 0x3A
leads_to_colon (content ∷ rest) = false

abbrev pub is_comment : Content → Bool
is_comment (Content.comment s) = true
is_comment _ = false

abbrev pub begins_slash : Option ℕ → Bool
begins_slash n = starts (λ c. c == 0x2F) n

-- a leaf that is not bare ends names by its first character, and that of a comment is `/`
abbrev pub LeafBegins : Content → Type 0
LeafBegins content = (is_bare content ≡ false → Ends (first_char content)) × (is_comment content ≡ true → IsTrue (begins_slash (first_char content)))

-- so with each leaf, and behind each word is a colon
abbrev pub AllLeaves : List Content → Type 0
AllLeaves [] = Unit {0}
AllLeaves (content ∷ rest) = LeafBegins content × (is_word content ≡ true → IsTrue (leads_to_colon rest)) × AllLeaves rest

leads_on : (content : Content) (rest more_of_them : List Content) → (IsTrue (leads_to_colon rest) → IsTrue (leads_to_colon (rest ++ more_of_them))) → IsTrue (leads_to_colon (content ∷ rest)) → IsTrue (leads_to_colon (content ∷ (rest ++ more_of_them)))
leads_on (Content.whitespace s) rest m f h = f h
leads_on (Content.newline k) rest m f h = f h
leads_on (Content.comment s) rest m f h = f h
leads_on (Content.token c) rest m f h = h
leads_on content rest m f h = cc

leads_further : (first second : List Content) → IsTrue (leads_to_colon first) → IsTrue (leads_to_colon (first ++ second))
leads_further [] second h = cc
leads_further (content ∷ rest) second h = leads_on content rest second (leads_further rest second) h

pub joined_all : (first second : List Content) → AllLeaves first → AllLeaves second → AllLeaves (first ++ second)
joined_all [] second h k = k
joined_all (content ∷ rest) second h k = (h.0, λ w. leads_further rest second (h.1 w), joined_all rest second h.2 k)

pub behind_all : (first second : List Content) → AllLeaves (first ++ second) → AllLeaves second
behind_all [] second h = h
behind_all (content ∷ rest) second h = behind_all rest second h.2

pub node_all : (a b c : List Content) → AllLeaves (a ++ b) → AllLeaves c → AllLeaves (a ++ (b ++ c))
node_all a b c h k = subst AllLeaves (append_assoc a b c) (joined_all (a ++ b) c h k)

one_all : {content : Content} → own_leaf content ≡ content ∷ [] → LeafBegins content → is_word content ≡ false → AllLeaves (own_leaf content)
one_all {content} e f w = subst AllLeaves (sym e) (f, λ h. absurd (not_true (is_word content) w h), tt)
  where
    not_true : (b : Bool) → b ≡ false → b ≡ true → ⊥
    not_true true e h = cc
    not_true false e h = cc

pub mark_all : (c : ℕ) (ls : List Content) → first_char (token c) ≡ Some c → IsTrue (ends_names c) → AllLeaves ls → AllLeaves (token c ∷ ls)
mark_all c ls e h k = ((λ b. subst Ends (sym e) h, λ w. cc), λ w. cc, k)

trivia_word : (o : Options) (content : Content) → IsTrivia o content → is_word content ≡ false
trivia_word o (Content.word s) h = absurd h
trivia_word o content h = refl

literal_word : (o : Options) (content : Content) (r : List ℕ) → IsLiteralBefore o content r → is_word content ≡ false
literal_word o (Content.word s) r h = absurd h
literal_word o content r h = refl

trivia_slash : (o : Options) (content : Content) → IsTrivia o content → is_comment content ≡ true → IsTrue (begins_slash (first_char content))
trivia_slash o (Content.comment s) h w = comment_begins h.1.1
trivia_slash o content h w = cc

literal_slash : (o : Options) (content : Content) (r : List ℕ) → IsLiteralBefore o content r → is_comment content ≡ true → IsTrue (begins_slash (first_char content))
literal_slash o (Content.comment s) r h w = absurd h
literal_slash o content r h w = cc

name_slash : (o : Options) (content : Content) (r : List ℕ) → IsNameBefore o content r → is_comment content ≡ true → IsTrue (begins_slash (first_char content))
name_slash o (Content.comment s) r h w = absurd h
name_slash o content r h w = cc

pub literal_leads : (o : Options) (content : Content) (r : List ℕ) (rest : List Content) → IsLiteralBefore o content r → IsTrue (leads_to_colon (content ∷ rest)) → ⊥
literal_leads o (Content.whitespace s) r rest h k = absurd h
literal_leads o (Content.newline s) r rest h k = absurd h
literal_leads o (Content.comment s) r rest h k = absurd h
literal_leads o (Content.token c) r rest h k = absurd h
literal_leads o content r rest h k = cc

trivia_leads : (o : Options) (content : Content) (rest : List Content) → IsTrivia o content → IsTrue (leads_to_colon rest) → IsTrue (leads_to_colon (content ∷ rest))
trivia_leads o (Content.whitespace s) rest h k = k
trivia_leads o (Content.newline s) rest h k = k
trivia_leads o (Content.comment s) rest h k = k
trivia_leads o content rest h k = absurd h

module _ (o : Options) where
  pub trivia_one : (content : Content) → IsTrivia o content → AllLeaves (own_leaf content)
  trivia_one content h = one_all (trivia_leaf o content h) (λ b. text_ends_names (first_char content) (leaf_ends o content h), trivia_slash o content h) (trivia_word o content h)

  trivia_leaves_all : {t r : OrderedTree} → Trivia o t r → AllLeaves (leaves r) → AllLeaves (leaves t)
  trivia_leaves_all shape.nothing k = k
  trivia_leaves_all (shape.trivia {content = content} {t = t} h g) k = joined_all (own_leaf content) (leaves t) (trivia_one content h) (trivia_leaves_all g k)

  trivia_to_colon : {t r : OrderedTree} → Trivia o t r → IsTrue (leads_to_colon (leaves r)) → IsTrue (leads_to_colon (leaves t))
  trivia_to_colon shape.nothing k = k
  trivia_to_colon (shape.trivia {content = content} {t = t} h g) k =
      subst (λ l. IsTrue (leads_to_colon (l ++ leaves t))) (sym (trivia_leaf o content h)) (trivia_leads o content (leaves t) h (trivia_to_colon g k))

  mutual
    pub value_leaves_all : {content : Content} {below : OrderedTree} → ValueAlone o content below → AllLeaves (own_leaf content ++ leaves below)
    value_leaves_all (alone.literal {content = content} h) = joined_all (own_leaf content) [] (one_all (literal_leaf o content [] h) (literal_first o content h, literal_slash o content [] h) (literal_word o content [] h)) tt
    value_leaves_all (alone.an_array {row = row} g) = mark_all 0x5B (leaves row) (opening_first rows.of_values) refl (row_leaves_all g)
    value_leaves_all (alone.an_object {row = row} g) = mark_all 0x7B (leaves row) (opening_first rows.of_properties) refl (row_leaves_all g)

    pub part_leaves_all : {kind : RowKind} {content : Content} {below : OrderedTree} → PartAlone o kind content below → AllLeaves (own_leaf content ++ leaves below)
    part_leaves_all (alone.a_value v) = value_leaves_all v
    part_leaves_all (alone.a_property p) = property_leaves_all p

    row_leaves_all : {kind : RowKind} {last : Last} {row : OrderedTree} → RowAlone o kind last row → AllLeaves (leaves row)
    row_leaves_all (alone.closes {kind = kind} m) = mark_all (closing kind) [] (closing_first kind) (closing_ends kind) tt
    row_leaves_all (alone.trivia {content = content} {after = after} h g) = joined_all (own_leaf content) (leaves after) (trivia_one content h) (row_leaves_all g)
    row_leaves_all (alone.element {content = content} {below = below} {after = after} m p g) = node_all (own_leaf content) (leaves below) (leaves after) (part_leaves_all p) (row_leaves_all g)
    row_leaves_all (alone.comma {after = after} g) = mark_all 0x2C (leaves after) comma_first refl (row_leaves_all g)

    pub property_leaves_all : {row : OrderedTree} → PropertyAlone o row → AllLeaves (leaves row)
    property_leaves_all (alone.named {name = name} {content = content} {below = below} {after = after} {u = u} n g h v) =
        let value = node_all (own_leaf content) (leaves below) [] (value_leaves_all v) tt in
        let rest = trivia_leaves_all g (mark_all 0x3A (leaves u) colon_first refl (trivia_leaves_all h value)) in
        subst (λ l. AllLeaves (l ++ leaves after)) (sym (name_leaf o name [] n)) ((name_first o name n, name_slash o name [] n), λ w. trivia_to_colon g refl, rest)

  root_leaves_all : {stood : Bool} {row : OrderedTree} → RootAlone o stood row → AllLeaves (leaves row)
  root_leaves_all alone.root_ends = tt
  root_leaves_all (alone.root_trivia {content = content} {after = after} h g) = joined_all (own_leaf content) (leaves after) (trivia_one content h) (root_leaves_all g)
  root_leaves_all (alone.root_value {content = content} {below = below} {after = after} v g) = node_all (own_leaf content) (leaves below) (leaves after) (value_leaves_all v) (root_leaves_all g)

  pub document_leaves_all : {tree : OrderedTree} → DocumentAlone o tree → AllLeaves (leaves tree)
  document_leaves_all (row, e, g) = subst (λ t. AllLeaves (leaves t)) (sym e) (subst AllLeaves (sym (append-nil (leaves row))) (root_leaves_all g))

-- so they begin well
pub all_begin : (ls : List Content) → AllLeaves ls → Begins ls
all_begin [] h = λ b n k. k
all_begin (content ∷ rest) h = joined_begins (content ∷ []) rest (leaf_begins content h.0.0) (all_begin rest h.2)

-- and no word stands last before what is no colon
unprinted_leads : (content : Content) (rest second : List Content) → last_printed (content ∷ rest) ≡ None → IsTrue (leads_to_colon (content ∷ (rest ++ second))) → IsTrue (leads_to_colon (rest ++ second))
unprinted_leads (Content.whitespace s) rest second e h = h
unprinted_leads (Content.newline k) rest second e h = h
unprinted_leads (Content.comment s) rest second e h = h
unprinted_leads (Content.token c) rest second e h = absurd (no_colon (last_printed rest) e)
  where
    prints : own_last (token c) ≡ Some (token c)
    prints = ap (λ x. own_last (token x)) (test_eq c 0x3A h) ∙ own_colon ∙ ap (λ x. Some (token x)) (sym (test_eq c 0x3A h))

    no_colon : (x : Option Content) → or_else x (own_last (token c)) ≡ None → ⊥
    no_colon None f = let wrong : Some (token c) ≡ None = sym prints ∙ f in cc
    no_colon (Some d) f = cc
unprinted_leads content rest second e h = cc

unprinted_rest : (content : Content) (rest : List Content) → last_printed (content ∷ rest) ≡ None → last_printed rest ≡ None
unprinted_rest content rest e = by (last_printed rest) e
  where
    by : (x : Option Content) → or_else x (own_last content) ≡ None → x ≡ None
    by None f = refl
    by (Some d) f = cc

pub leads_past : (first second : List Content) → last_printed first ≡ None → IsTrue (leads_to_colon (first ++ second)) → IsTrue (leads_to_colon second)
leads_past [] second e h = h
leads_past (content ∷ rest) second e h = leads_past rest second (unprinted_rest content rest e) (unprinted_leads content rest second e h)

word_or_not : (content : Content) → (is_word content ≡ true → ⊥) → NoWord (Some content)
word_or_not (Content.word s) f = f refl
word_or_not content f = tt

pub last_is_no_word : (first second : List Content) → AllLeaves (first ++ second) → (IsTrue (leads_to_colon second) → ⊥) → NoWord (last_printed first)
last_is_no_word [] second h f = tt
last_is_no_word (content ∷ rest) second h f = by (last_is_no_word rest second h.2 f) (last_printed rest) refl
  where
    own : last_printed rest ≡ None → NoWord (own_last content)
    own p = own_no_word content (word_or_not content (λ w. f (leads_past rest second p (h.1 w))))

    by : NoWord (last_printed rest) → (x : Option Content) → last_printed rest ≡ x → NoWord (or_else x (own_last content))
    by ih None p = own p
    by ih (Some d) p = subst NoWord p ih

module _ (o : Options) where
  value_leads : {content : Content} {below : OrderedTree} (back : List Content) → ValueAlone o content below → IsTrue (leads_to_colon ((own_leaf content ++ leaves below) ++ back)) → ⊥
  value_leads back (alone.literal {content = content} h) k = literal_leads o content [] back h (subst (λ l. IsTrue (leads_to_colon ((l ++ []) ++ back))) (literal_leaf o content [] h) k)
  value_leads back (alone.an_array g) k = cc
  value_leads back (alone.an_object g) k = cc

  -- a value is replaced by another where none meet
  pub shaped_value_where_none_meet : (t : OrderedTree) → DocumentShaped o t → (was now : Top) (path : List ℕ) (u : OrderedTree) → DocumentChanged was now path t u → IsValueBefore o now []
      → (d : DiffersIn (leaves_of was) (leaves_of now) (leaves t) (leaves u)) → meet d.front (leaves_of now ++ d.back) ≡ false → meet (leaves_of now) d.back ≡ false
      → DocumentShaped o u
  shaped_value_where_none_meet t s was now path u c v d before behind =
      let all = subst AllLeaves d.before (document_leaves_all o (document_alone o s)) in
      let back = behind_all (leaves_of was) d.back (behind_all d.front (leaves_of was ++ d.back) all) in
      let node = value_alone o v in
      let old = value_alone o (document_held o c s).1 in
      let no_word = last_is_no_word d.front (leaves_of was ++ d.back) all (value_leads d.back old) in
      let ends = (parted_leaves o d.front (leaves_of was ++ d.back) None (subst (λ a. LeavesEnd o a None) d.before (document_leaves o s))).0 in
      let new = all_begin (leaves_of now ++ d.back) (joined_all (leaves_of now) d.back (value_leaves_all o node) back) in
      let first : LastEnds o d.front (follower (leaves_of now ++ d.back) None) =
      serves_unless o (last_printed d.front) (follower (leaves_of was ++ d.back) None) (follower (leaves_of now ++ d.back) None) no_word (λ b. new (not_both _ _ before b) None refl) (last_of o d.front _ ends) in
      let own = value_leaves o v in
      let last = serves_unless o (last_printed (leaves_of now)) None (follower d.back None) (value_no_word o node) (λ b. all_begin d.back back (not_both _ _ behind b) None refl) (last_of o (leaves_of now) None own) in
      shaped_at_seams o t s was now path u c node d first (last_serves o (leaves_of now) None (follower d.back None) own last)

  pub sound_value_where_none_meet : (t : OrderedTree) → Sound o t → (was now : Top) (path : List ℕ) (u : OrderedTree) → DocumentChanged was now path t u → IsValueBefore o now [] → LinesEnd false now.below
      → (d : DiffersIn (leaves_of was) (leaves_of now) (leaves t) (leaves u)) → meet d.front (leaves_of now ++ d.back) ≡ false → meet (leaves_of now) d.back ≡ false
      → Sound o u
  sound_value_where_none_meet t s was now path u c v l d before behind = record { shaped = shaped_value_where_none_meet t s.shaped was now path u c v d before behind; lines = document_lines l c s.lines }
