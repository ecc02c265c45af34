-- A comment leaves a document, under all options.
use Rattle.std.proofs.Common.{ℕ, ◌≡◌, ◌∙◌, sym, ap, subst, refl, Bool, true, false, List, [], ◌∷◌, ◌++◌, Option, Some, None, IsTrue, chars, rules, if◌then◌else◌}
use Rattle.std.proofs.lemmas.List.{append_assoc, append-nil}
use Rattle.std.proofs.lemmas.Str.{chars-IsAscii}
use Rattle.jsonc_text.specs.Options.{Options}
use Rattle.jsonc_text.specs.Text.{next, starts}
use Rattle.jsonc_text.specs.Words.{EndsWord, goes_on}
use Rattle.jsonc_text.specs.Lexemes as lexemes
use Rattle.jsonc_text.specs.Lexemes.{LexemeKind, lexeme, CanEndBefore}
use Rattle.jsonc_text.proofs.Basics.{test_eq}
use Rattle.jsonc_tree.specs.Content.{Content}
use Rattle.jsonc_tree.specs.declared.node.CstNewlineKind.{CstNewlineKind}
use Rattle.jsonc_tree.specs.declared.node.CstNewlineKind.TheVariants.{LineFeed, CarriageReturnLineFeed, CarriageReturn}
use Rattle.jsonc_tree.specs.OrderedTree.{OrderedTree, none, more, own_leaf, leaves}
use Rattle.jsonc_layout.specs.nodes.Kinds.{is_trivia}
use Rattle.jsonc_sound.specs.Lines.{is_line_comment, ends_line, LinesEnd, DocumentLinesEnd}
use Rattle.jsonc_sound.specs.Shape as shape
use Rattle.jsonc_sound.specs.Shape.{Trivia}
use Rattle.jsonc_sound.specs.ChangeLaws.{DiffersIn}
use Rattle.jsonc_sound.specs.Rows.{RowKind, Last}
use Rattle.jsonc_sound.specs.Sound.{Sound}
use Rattle.jsonc_sound.specs.TreeChanges.{IsElement}
use Rattle.jsonc_sound.specs.TriviaChanges.{AreTrivia, StretchChanged, EndsInComment, one_comment, line_comment}
use Rattle.jsonc_sound.proofs.Characters.{goes_on_apart}
use Rattle.jsonc_sound.proofs.FirstNodes.{no_element, line_comment_over, name_element}
use Rattle.jsonc_sound.proofs.NumberEnds.{alike_names, may_follow_swapped}
use Rattle.jsonc_sound.proofs.TriviaLeaves.{document_differs}
use Rattle.jsonc_sound.proofs.TriviaLines.{document_lines}
use Rattle.jsonc_sound.specs.Adjacent.{one_or_none, first_char, or_else, follower, LeavesEnd, last_printed, MayEndBefore, LastEnds}
use Rattle.jsonc_sound.specs.Alone as alone
use Rattle.jsonc_sound.specs.Alone.{ValueAlone, PartAlone, RowAlone, PropertyAlone, RootAlone, DocumentAlone}
use Rattle.jsonc_sound.specs.Spaces.{is_bare_leaf, first_printed, meet}
use Rattle.jsonc_sound.proofs.NodesAlone.{document_alone, document_leaves}
use Rattle.jsonc_sound.proofs.Changed.{alone_element}
use Rattle.jsonc_sound.proofs.LeafByLeaf.{AllLeaves, is_word, begins_slash, LeafBegins, leads_to_colon, leads_past, behind_all, all_begin, document_leaves_all}
use Rattle.jsonc_sound.proofs.Leaves.{parted_leaves}
use Rattle.jsonc_sound.proofs.Spaced.{space_first, space_trivia}
use Rattle.jsonc_sound.proofs.Spaces.{Ends, own_last, one_next, either_ends, last_of, space_serves, serves_unless, not_both}
use Rattle.jsonc_sound.proofs.Texts.{trivia_leaf, literal_leaf, colon_first}
use Rattle.jsonc_sound.proofs.Trivia.{sound_with_trivia}

-- line comments end with their lines, leaf by leaf
abbrev pub StartsLine : List Content → Type 0
StartsLine [] = Unit {0}
StartsLine (Content.newline k ∷ rest) = Unit {0}
StartsLine (content ∷ rest) = ⊥

abbrev pub LinesFlat : List Content → Type 0
LinesFlat [] = Unit {0}
LinesFlat (content ∷ rest) = (IsTrue (is_line_comment content) → StartsLine rest) × LinesFlat rest

starts_line : (after : OrderedTree) (z : List Content) → IsTrue (ends_line false after) → StartsLine (leaves after ++ z)
starts_line none z h = cc
starts_line (more (Content.newline k) below after) z h = tt
starts_line (more content below after) z h = cc

starts_root : (after : OrderedTree) → IsTrue (ends_line true after) → StartsLine (leaves after)
starts_root none h = tt
starts_root (more (Content.newline k) below after) h = tt
starts_root (more content below after) h = cc

pub no_line_leaf : (content : Content) (after : List Content) → IsElement content → LinesFlat after → LinesFlat (own_leaf content ++ after)
no_line_leaf Content.root after e l = l
no_line_leaf Content.object after e l = l
no_line_leaf Content.array after e l = l
no_line_leaf Content.property after e l = l
no_line_leaf (Content.comment s) after e l = cc
no_line_leaf content after e l = (λ h. cc, l)

pub regroup : (a b c d : List Content) → (a ++ b) ++ (c ++ d) ≡ (a ++ (b ++ c)) ++ d
regroup a b c d = sym (append_assoc (a ++ b) c d) ∙ ap (λ x. x ++ d) (append_assoc a b c)

module _ (o : Options) where
  trivia_lines : {t r : OrderedTree} (z : List Content) → Trivia o t r → LinesEnd false t → (LinesEnd false r → LinesFlat (leaves r ++ z)) → LinesFlat (leaves t ++ z)
  trivia_lines z shape.nothing l f = f l
  trivia_lines z (shape.trivia {content = content} {t = t} h g) l f = subst (λ x. LinesFlat ((x ++ leaves t) ++ z)) (sym (trivia_leaf o content h)) (λ k. starts_line t z (l.0 k), trivia_lines z g l.2 f)

  mutual
    value_lines : {content : Content} {below : OrderedTree} (z : List Content) → ValueAlone o content below → LinesEnd false below → LinesFlat z → LinesFlat ((own_leaf content ++ leaves below) ++ z)
    value_lines z (alone.literal {content = content} h) l f = subst (λ x. LinesFlat ((x ++ []) ++ z)) (sym (literal_leaf o content [] h)) (λ k. absurd (no_element content (alone_element o (alone.literal h)) (line_comment_over content k)), f)
    value_lines z (alone.an_array g) l f = (λ h. cc, row_lines z g l.2 f)
    value_lines z (alone.an_object g) l f = (λ h. cc, row_lines z g l.2 f)

    part_lines : {kind : RowKind} {content : Content} {below : OrderedTree} (z : List Content) → PartAlone o kind content below → LinesEnd false below → LinesFlat z → LinesFlat ((own_leaf content ++ leaves below) ++ z)
    part_lines z (alone.a_value v) l f = value_lines z v l f
    part_lines z (alone.a_property p) l f = property_lines z p l f

    row_lines : {kind : RowKind} {last : Last} {row : OrderedTree} (z : List Content) → RowAlone o kind last row → LinesEnd false row → LinesFlat z → LinesFlat (leaves row ++ z)
    row_lines z (alone.closes m) l f = (λ h. cc, f)
    row_lines z (alone.trivia {content = content} {after = after} h g) l f = subst (λ x. LinesFlat ((x ++ leaves after) ++ z)) (sym (trivia_leaf o content h)) (λ k. starts_line after z (l.0 k), row_lines z g l.2 f)
    row_lines z (alone.element {content = content} {below = below} {after = after} m p g) l f =
        subst LinesFlat (regroup (own_leaf content) (leaves below) (leaves after) z) (part_lines (leaves after ++ z) p l.1 (row_lines z g l.2 f))
    row_lines z (alone.comma g) l f = (λ h. cc, row_lines z g l.2 f)

    property_lines : {row : OrderedTree} (z : List Content) → PropertyAlone o row → LinesEnd false row → LinesFlat z → LinesFlat (leaves row ++ z)
    property_lines z (alone.named {name = name} {content = content} {below = below} {after = after} {u = u} n g h v) l f =
        let value = λ (k : LinesEnd false (more content below none)). subst (λ x. LinesFlat ((own_leaf content ++ x) ++ z)) (sym (append-nil (leaves below))) (value_lines z v k.1 f) in
        let rest = trivia_lines z g l.2 (λ k. (λ x. cc, trivia_lines z h k.2 value)) in
        subst LinesFlat (sym (append_assoc (own_leaf name) (leaves after) z)) (no_line_leaf name (leaves after ++ z) (name_element o name [] n) rest)

  root_lines : {stood : Bool} {row : OrderedTree} → RootAlone o stood row → LinesEnd true row → LinesFlat (leaves row)
  root_lines alone.root_ends l = tt
  root_lines (alone.root_trivia {content = content} {after = after} h g) l = subst (λ x. LinesFlat (x ++ leaves after)) (sym (trivia_leaf o content h)) (λ k. starts_root after (l.0 k), root_lines g l.2)
  root_lines (alone.root_value {content = content} {below = below} {after = after} v g) l = subst LinesFlat (append_assoc (own_leaf content) (leaves below) (leaves after)) (value_lines (leaves after) v l.1 (root_lines g l.2))

  document_flat : {t : OrderedTree} → DocumentAlone o t → DocumentLinesEnd t → LinesFlat (leaves t)
  document_flat (row, e, g) (below, same, l) =
      let first : below ≡ row = cc in
      subst (λ t. LinesFlat (leaves t)) (sym e) (subst LinesFlat (sym (append-nil (leaves row))) (root_lines g (subst (LinesEnd true) first l)))

-- what follows a line comment
line_followed : (first : List Content) (c : Content) (back : List Content) → LinesFlat (first ++ (c ∷ back)) → IsTrue (is_line_comment c) → StartsLine back
line_followed [] c back l h = l.0 h
line_followed (d ∷ first) c back l h = line_followed first c back l.1 h

newline_first : (k : CstNewlineKind) (n : Option ℕ) → EndsWord (or_else (first_char (Content.newline k)) n)
newline_first LineFeed n = subst (λ t. EndsWord (or_else (next t) n)) (sym (chars-IsAscii (10 ∷ []) (search rules))) refl
newline_first CarriageReturnLineFeed n = subst (λ t. EndsWord (or_else (next t) n)) (sym (chars-IsAscii (13 ∷ 10 ∷ []) (search rules))) refl
newline_first CarriageReturn n = subst (λ t. EndsWord (or_else (next t) n)) (sym (chars-IsAscii (13 ∷ []) (search rules))) refl

pub line_ends_words : (back : List Content) → StartsLine back → IsTrue (leads_to_colon back) → EndsWord (follower back None)
line_ends_words [] l h = cc
line_ends_words (Content.newline k ∷ rest) l h = newline_first k (follower rest None)
line_ends_words (content ∷ rest) l h = absurd l

-- a word stands before a colon
pub word_leads : (first second : List Content) (s : List ℕ) → AllLeaves (first ++ second) → last_printed first ≡ Some (Content.word s) → IsTrue (leads_to_colon second)
word_leads [] second s h e = cc
word_leads (content ∷ rest) second s h e = by (word_leads rest second s h.2) (last_printed rest) refl e
  where
    own_word : (b : Bool) → (if b then Some content else None) ≡ Some (Content.word s) → is_word content ≡ true
    own_word true p = ap (λ x. elim x as (λ _. Bool) [ None ↦ false | Some c ↦ is_word c ]) p
    own_word false p = cc

    by : (last_printed rest ≡ Some (Content.word s) → IsTrue (leads_to_colon second)) → (x : Option Content) → last_printed rest ≡ x → or_else x (own_last content) ≡ Some (Content.word s) → IsTrue (leads_to_colon second)
    by ih (Some d) p f = ih (p ∙ f)
    by ih None p f = leads_past rest second p (h.1 (own_word (starts (λ c. true) (first_char content)) f))

-- what leads to a colon ends names
leaf_leads : (content : Content) (rest : List Content) (n : Option ℕ) → (is_bare_free : LeafBegins content) → IsTrue (leads_to_colon (content ∷ rest)) → (IsTrue (leads_to_colon rest) → Ends (follower rest n)) → Ends (or_else (first_char content) (follower rest n))
leaf_leads (Content.whitespace s) rest n f h ih = either_ends (first_char (Content.whitespace s)) (follower rest n) (f.0 refl) (ih h)
leaf_leads (Content.newline k) rest n f h ih = either_ends (first_char (Content.newline k)) (follower rest n) (f.0 refl) (ih h)
leaf_leads (Content.comment s) rest n f h ih = either_ends (first_char (Content.comment s)) (follower rest n) (f.0 refl) (ih h)
leaf_leads (Content.token c) rest n f h ih = subst (λ d. Ends (or_else (first_char (Content.token d)) (follower rest n))) (sym (test_eq c 0x3A h)) (subst (λ x. Ends (or_else x (follower rest n))) (sym colon_first) refl)
leaf_leads content rest n f h ih = cc

pub leads_ends : (ls : List Content) (n : Option ℕ) → AllLeaves ls → IsTrue (leads_to_colon ls) → Ends (follower ls n)
leads_ends [] n a h = cc
leads_ends (content ∷ rest) n a h = leaf_leads content rest n a.0 h (leads_ends rest n a.2)

pub one_leads : (content : Content) (rest : List Content) → IsTrue (is_trivia content) → IsTrue (leads_to_colon (content ∷ rest)) → IsTrue (leads_to_colon rest)
one_leads (Content.whitespace s) rest t h = h
one_leads (Content.newline k) rest t h = h
one_leads (Content.comment s) rest t h = h
one_leads content rest t h = cc

pub trivia_lead : (cs back : List Content) → AreTrivia cs → IsTrue (leads_to_colon (cs ++ back)) → IsTrue (leads_to_colon back)
trivia_lead [] back t h = h
trivia_lead (c ∷ cs) back t h = trivia_lead cs back t.1 (one_leads c (cs ++ back) t.0 h)

-- a word's follower changes
pub kind_moved : (k : LexemeKind) (s : List ℕ) (n m : Option ℕ) → Ends m → (EndsWord n → EndsWord m) → CanEndBefore (lexeme k) s (one_or_none n) → CanEndBefore (lexeme k) s (one_or_none m)
kind_moved (lexemes.string v) s n m e f h = tt
kind_moved (lexemes.number v) s n m e f h = may_follow_swapped (one_or_none n) (one_or_none m) (alike_names (one_or_none n) (one_or_none m) (subst Ends (sym (one_next m)) e)) s h
kind_moved (lexemes.word v) s n m e f h = subst EndsWord (sym (one_next m)) (f (subst EndsWord (one_next n) h))
kind_moved (lexemes.keyword k) s n m e f h = alike_names (one_or_none n) (one_or_none m) (subst Ends (sym (one_next m)) e) goes_on goes_on_apart h
kind_moved (lexemes.punctuation c) s n m e f h = tt

pub slash_ends_no_word : (n m : Option ℕ) → IsTrue (begins_slash n) → EndsWord (or_else n m) → ⊥
slash_ends_no_word None m h e = cc
slash_ends_no_word (Some c) m h e = let wrong = subst (λ d. EndsWord (Some d)) (test_eq c 0x2F h) e in cc

pub regrouped : (a b : List Content) (c : Content) (d : List Content) → a ++ ((b ++ (c ∷ [])) ++ d) ≡ (a ++ b) ++ (c ∷ d)
regrouped a b c d = ap (λ x. a ++ x) (append_assoc b (c ∷ []) d) ∙ sym (append_assoc a b (c ∷ d))

-- where the stretch leaves, a word that ended before it ends
word_moved : (front was back : List Content) → EndsInComment was → AllLeaves (front ++ (was ++ back)) → LinesFlat (front ++ (was ++ back)) → IsTrue (leads_to_colon back) → EndsWord (follower (was ++ back) None) → EndsWord (follower back None)
word_moved front was back (one_comment {s = s}) a l h e = absurd (slash_ends_no_word (first_char (Content.comment s)) (follower back None) ((behind_all front (Content.comment s ∷ back) a).0.1 refl) e)
word_moved front was back (line_comment f c x) a l h e = line_ends_words back (line_followed (front ++ f) c back (subst LinesFlat (regrouped front f c back) l) x) h

pub last_ends_without : (o : Options) (front was back : List Content) → AreTrivia was → EndsInComment was → AllLeaves (front ++ (was ++ back)) → LinesFlat (front ++ (was ++ back)) → LeavesEnd o (front ++ (was ++ back)) None → meet front back ≡ false → LastEnds o front (follower back None)
last_ends_without o front was back t c a l e m =
    by (last_printed front) refl (last_of o front (follower (was ++ back) None) (parted_leaves o front (was ++ back) None e).0)
  where
    all_back : AllLeaves back
    all_back = behind_all was back (behind_all front (was ++ back) a)

    leads : (s : List ℕ) → last_printed front ≡ Some (Content.word s) → IsTrue (leads_to_colon back)
    leads s p = trivia_lead was back t (word_leads front (was ++ back) s a p)

    begins : (x : Option Content) → last_printed front ≡ x → is_bare_leaf x ≡ true → Ends (follower back None)
    begins x p b = all_begin back all_back (not_both (is_bare_leaf (last_printed front)) (is_bare_leaf (first_printed back)) m (ap is_bare_leaf p ∙ b)) None refl

    by : (x : Option Content) → last_printed front ≡ x → MayEndBefore o x (follower (was ++ back) None) → MayEndBefore o x (follower back None)
    by (Some (Content.word s)) p k = (k.0, k.1, k.2, kind_moved k.0 (chars s) (follower (was ++ back) None) (follower back None) (leads_ends back None all_back (leads s p)) (λ w. word_moved front was back c a l (leads s p) w) k.3)
    by x p k = serves_unless o x (follower (was ++ back) None) (follower back None) tt (begins x p) k

pub sound_without_comment : (o : Options) (t : OrderedTree) → Sound o t → (was : List Content) (u : OrderedTree) → StretchChanged was [] t u → AreTrivia was → EndsInComment was
    → (d : DiffersIn was [] (leaves t) (leaves u)) → meet d.front d.back ≡ false → Sound o u
sound_without_comment o t s was u k old ends d m =
    let nodes = document_alone o s.shaped in
    let all = subst AllLeaves d.before (document_leaves_all o nodes) in
    let lines = subst LinesFlat d.before (document_flat o nodes s.lines) in
    let leaves_end = subst (λ x. LeavesEnd o x None) d.before (document_leaves o s.shaped) in
    sound_with_trivia o t s was [] u k old tt (document_lines ends k s.lines) d (last_ends_without o d.front was d.back old ends all lines leaves_end m)

pub sound_with_space_for_comment : (o : Options) (t : OrderedTree) → Sound o t → (was : List Content) (u : OrderedTree) → StretchChanged was (Content.whitespace (0x20 ∷ []) ∷ []) t u → AreTrivia was → DocumentLinesEnd u → Sound o u
sound_with_space_for_comment o t s was u k old lines =
    let d = document_differs was (Content.whitespace (0x20 ∷ []) ∷ []) old (refl, tt) k in
    let ends = (parted_leaves o d.front (was ++ d.back) None (subst (λ x. LeavesEnd o x None) d.before (document_leaves o s.shaped))).0 in
    let space = last_of o d.front (Some 0x20) (space_serves o d.front (follower (was ++ d.back) None) ends) in
    sound_with_trivia o t s was (Content.whitespace (0x20 ∷ []) ∷ []) u k old (space_trivia o, tt) lines d (subst (LastEnds o d.front) (sym (ap (λ x. or_else x (follower d.back None)) space_first)) space)
