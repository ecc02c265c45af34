-- Where an entry leaves a sound tree, which comments and line ends do not stay behind it.
use Rattle.std.proofs.Common.{ℕ, ◌≡◌, ◌∙◌, inl, inr, sym, ap, subst, refl, Bool, true, false, not, ◌||◌, ◌&&◌, ◌==◌, List, [], ◌∷◌, ◌++◌, Option, Some, None, IsTrue, chars}
use Rattle.std.proofs.lemmas.List.{append_assoc}
use Rattle.std.proofs.lemmas.Str.{chars-nil}
use Rattle.jsonc_text.specs.Options.{Options}
use Rattle.jsonc_text.specs.Text.{Many, stop, step, next, starts, is_line_end}
use Rattle.jsonc_text.specs.Gaps.{IsComment, is_blank}
use Rattle.jsonc_text.proofs.Basics.{and_both, or_cases, starts_front, tails, test_eq}
use Rattle.jsonc_text.proofs.UniqueGaps.{comment_begins, comment_no_blank}
use Rattle.jsonc_tree.specs.Content as content
use Rattle.jsonc_tree.specs.Content.{Content, newline_text, text_of}
use Rattle.jsonc_tree.specs.declared.node.CstNewlineKind.{CstNewlineKind}
use Rattle.jsonc_tree.specs.declared.node.CstNewlineKind.TheVariants.{LineFeed, CarriageReturnLineFeed, CarriageReturn}
use Rattle.jsonc_tree.specs.OrderedTree.{OrderedTree, more, own_leaf, leaves}
use Rattle.jsonc_layout.specs.nodes.Kinds.{is_comment, is_inline_trivia, is_newline, is_trivia, is_whitespace}
use Rattle.jsonc_sound.specs.Alone as alone
use Rattle.jsonc_sound.specs.Alone.{PartAlone, PropertyAlone, RootAlone, RowAlone, ValueAlone}
use Rattle.jsonc_sound.specs.Leaves.{is_inner_blank}
use Rattle.jsonc_sound.specs.Lines.{is_line_comment}
use Rattle.jsonc_sound.specs.Rows.{RowKind, Last}
use Rattle.jsonc_sound.proofs.Pieces.{LinesFlat, ends_line}
use Rattle.jsonc_sound.proofs.Texts.{literal_leaf, name_leaf, trivia_leaf}
use Rattle.jsonc_edit.proofs.BeforeComments.{literal_firm, name_firm}
use Rattle.jsonc_edit.proofs.lemmas.remove.Contents.{comment_first, line_first}
use Rattle.jsonc_edit.specs.SeamRemovals.{comment_comes, line_comes}
use Rattle.jsonc_run.specs.texts.Commenting as lines
use Rattle.jsonc_run.specs.texts.Commenting.{OnLine}
use Rattle.jsonc_run.specs.texts.Leaving.{CommentFollows}
use Rattle.jsonc_run.specs.texts.Entering.{LineEnds}
use Rattle.jsonc_run.specs.texts.Stretches as documents
use Rattle.jsonc_run.specs.texts.Stretches.{IsLineEnd, is_space}
use Rattle.jsonc_run.specs.promise.PlaceLaws.{text_of_leaves}
use Rattle.jsonc_run.proofs.lemmas.promise.CommasBehind.{begins_other, past_blanks, past_block}
use Rattle.jsonc_run.proofs.lemmas.promise.Joined.{Good, good_second}
use Rattle.jsonc_run.proofs.lemmas.promise.LeafEnds.{comment_is_block, leaf_begins, no_gap_there}
use Rattle.jsonc_run.proofs.lemmas.promise.NothingBeside.{apart_there, gap_apart}
use Rattle.jsonc_run.proofs.lemmas.promise.Trivia.{first_text, newline_chars, piece_trivia}

-- something else than whitespace and comments is among the leaves
abbrev pub stops : List Content → Bool
stops [] = false
stops (x ∷ rest) = not (is_inline_trivia x) || stops rest

other_line : (x : Content) (rest : List Content) → is_trivia x ≡ false → line_first (x ∷ rest) ≡ false
other_line (content.whitespace s) rest h = cc
other_line (content.newline k) rest h = cc
other_line (content.comment s) rest h = cc
other_line x rest h = refl

other_comment : (x : Content) (rest : List Content) → is_trivia x ≡ false → comment_first (x ∷ rest) ≡ false
other_comment (content.whitespace s) rest h = cc
other_comment (content.newline k) rest h = cc
other_comment (content.comment s) rest h = cc
other_comment x rest h = refl

other_stops : (x : Content) (rest : List Content) → is_trivia x ≡ false → stops (x ∷ rest) ≡ true
other_stops (content.whitespace s) rest h = cc
other_stops (content.newline k) rest h = cc
other_stops (content.comment s) rest h = cc
other_stops x rest h = refl

-- a leaf that is no trivia is first
abbrev First : List Content → Type 0
First ls = (x : Content) × (rest : List Content) × (ls ≡ x ∷ rest) × (is_trivia x ≡ false)

module _ (o : Options) where
  value_first : {c : Content} {below : OrderedTree} → ValueAlone o c below → First (own_leaf c ++ leaves below)
  value_first (alone.literal {content = c} h) = (c, [], ap (λ l. l ++ []) (literal_leaf o c [] h), literal_firm o c h)
  value_first (alone.an_array {row = row} g) = (content.token 0x5B, leaves row, refl, refl)
  value_first (alone.an_object {row = row} g) = (content.token 0x7B, leaves row, refl, refl)

  property_first : {row : OrderedTree} → PropertyAlone o row → First (leaves row)
  property_first (alone.named {name = name} {after = after} n g h v) = (name, leaves after, ap (λ l. l ++ leaves after) (name_leaf o name [] n), name_firm o name n)

  part_first : {kind : RowKind} {c : Content} {below : OrderedTree} → PartAlone o kind c below → First (own_leaf c ++ leaves below)
  part_first (alone.a_value v) = value_first v
  part_first (alone.a_property p) = property_first p

  value_no_trivia : {c : Content} {below : OrderedTree} → ValueAlone o c below → is_trivia c ≡ false
  value_no_trivia (alone.literal {content = c} h) = literal_firm o c h
  value_no_trivia (alone.an_array g) = refl
  value_no_trivia (alone.an_object g) = refl

  part_no_trivia : {kind : RowKind} {c : Content} {below : OrderedTree} → PartAlone o kind c below → is_trivia c ≡ false
  part_no_trivia (alone.a_value v) = value_no_trivia v
  part_no_trivia (alone.a_property p) = refl

  -- the leaves from an element on begin with one of it
  first_then : (own below after z : List Content) → First (own ++ below) → (x : Content) × (rest : List Content) × ((own ++ (below ++ after)) ++ z ≡ x ∷ rest) × (is_trivia x ≡ false)
  first_then own below after z (x, rest, e, h) = (x, rest ++ (after ++ z), ap (λ l. l ++ z) (sym (append_assoc own below after)) ∙ append_assoc (own ++ below) after z ∙ ap (λ l. l ++ (after ++ z)) e, h)

  -- what comes first in a row does in its leaves
  pub row_line : {kind : RowKind} {last : Last} {row : OrderedTree} → RowAlone o kind last row → (z : List Content) → line_first (leaves row ++ z) ≡ line_comes row
  row_line (alone.closes {kind = kind} m) z = refl
  row_line (alone.trivia {content = c} {after = after} h g) z =
      ap (λ l. line_first ((l ++ leaves after) ++ z)) (trivia_leaf o c h) ∙ ap (λ b. is_newline c || (is_inline_trivia c && b)) (row_line g z)
  row_line (alone.element {content = c} {below = below} {after = after} m p g) z =
      let f = first_then (own_leaf c) (leaves below) (leaves after) z (part_first p) in
      ap line_first f.2 ∙ other_line f.0 f.1 f.3 ∙ sym (none_comes c (part_no_trivia p))
    where
      none_comes : (x : Content) → is_trivia x ≡ false → line_comes (more x below after) ≡ false
      none_comes (content.whitespace s) k = cc
      none_comes (content.newline n) k = cc
      none_comes (content.comment s) k = cc
      none_comes x k = refl
  row_line (alone.comma g) z = refl

  pub row_comment : {kind : RowKind} {last : Last} {row : OrderedTree} → RowAlone o kind last row → (z : List Content) → comment_first (leaves row ++ z) ≡ comment_comes row
  row_comment (alone.closes {kind = kind} m) z = refl
  row_comment (alone.trivia {content = c} {after = after} h g) z =
      ap (λ l. comment_first ((l ++ leaves after) ++ z)) (trivia_leaf o c h) ∙ ap (λ b. is_comment c || (is_whitespace c && b)) (row_comment g z)
  row_comment (alone.element {content = c} {below = below} {after = after} m p g) z =
      let f = first_then (own_leaf c) (leaves below) (leaves after) z (part_first p) in
      ap comment_first f.2 ∙ other_comment f.0 f.1 f.3 ∙ sym (no_comment c below after (part_no_trivia p))
    where
      no_comment : (x : Content) (b a : OrderedTree) → is_trivia x ≡ false → comment_comes (more x b a) ≡ false
      no_comment (content.whitespace s) b a k = cc
      no_comment (content.newline n) b a k = cc
      no_comment (content.comment s) b a k = cc
      no_comment x b a k = refl
  row_comment (alone.comma g) z = refl

  pub row_stops : {kind : RowKind} {last : Last} {row : OrderedTree} → RowAlone o kind last row → (z : List Content) → stops (leaves row ++ z) ≡ true
  row_stops (alone.closes {kind = kind} m) z = refl
  row_stops (alone.trivia {content = c} {after = after} h g) z =
      ap (λ l. stops ((l ++ leaves after) ++ z)) (trivia_leaf o c h) ∙ ap (λ b. not (is_inline_trivia c) || b) (row_stops g z) ∙ or_true (not (is_inline_trivia c))
    where
      or_true : (b : Bool) → (b || true) ≡ true
      or_true true = refl
      or_true false = refl
  row_stops (alone.element {content = c} {below = below} {after = after} m p g) z =
      let f = first_then (own_leaf c) (leaves below) (leaves after) z (part_first p) in
      ap stops f.2 ∙ other_stops f.0 f.1 f.3
  row_stops (alone.comma g) z = refl

  pub root_comment : {stood : Bool} {row : OrderedTree} → RootAlone o stood row → comment_first (leaves row) ≡ comment_comes row
  root_comment alone.root_ends = refl
  root_comment (alone.root_trivia {content = c} {after = after} h g) = ap (λ l. comment_first (l ++ leaves after)) (trivia_leaf o c h) ∙ ap (λ b. is_comment c || (is_whitespace c && b)) (root_comment g)
  root_comment (alone.root_value {content = c} {below = below} {after = after} v g) =
      let f = value_first v in
      ap comment_first (sym (append_assoc (own_leaf c) (leaves below) (leaves after)) ∙ ap (λ l. l ++ leaves after) f.2) ∙ other_comment f.0 (f.1 ++ leaves after) f.3 ∙ sym (no_comment c (value_no_trivia v))
    where
      no_comment : (x : Content) → is_trivia x ≡ false → comment_comes (more x below after) ≡ false
      no_comment (content.whitespace s) k = cc
      no_comment (content.newline n) k = cc
      no_comment (content.comment s) k = cc
      no_comment x k = refl

-- no comment follows a text that begins otherwise
not_both : (p q : ℕ → Bool) → ((c : ℕ) → IsTrue (p c) → IsTrue (q c) → ⊥) → (n : Option ℕ) → IsTrue (starts p n) → IsTrue (starts q n) → ⊥
not_both p q f None h k = let wrong : false ≡ true = h in cc
not_both p q f (Some c) h k = f c h k

apart_slash : (c : ℕ) → IsTrue (apart_there c) → IsTrue (c == 0x2F) → ⊥
apart_slash c h k = let wrong : false ≡ true = subst (λ d. IsTrue (apart_there d)) (test_eq c 0x2F k) h in cc

apart_space : (c : ℕ) → IsTrue (apart_there c) → IsTrue (is_space c) → ⊥
apart_space c h k = by (is_space c) h k
  where
    by : (b : Bool) → IsTrue (not (b || c == 0x2F)) → IsTrue b → ⊥
    by true x y = let wrong : false ≡ true = x in cc
    by false x y = let wrong : false ≡ true = y in cc

follows_none : (x : List ℕ) → IsTrue (starts apart_there (next x)) → CommentFollows x → ⊥
follows_none x h (_, t, r, e, stop, k) = not_both apart_there (λ c. c == 0x2F) apart_slash (next t) (subst (λ y. IsTrue (starts apart_there (next y))) e h) (comment_begins k)
follows_none x h (_, t, r, e, step {c = c} b m, k) = apart_space c (subst (λ y. IsTrue (starts apart_there (next y))) e h) b

follows_nothing : (x : List ℕ) → x ≡ [] → CommentFollows x → ⊥
follows_nothing x f (_, t, r, e, stop, k) = let wrong : IsTrue (starts (λ c. c == 0x2F) (next [])) = subst (λ y. IsTrue (starts (λ c. c == 0x2F) (next y))) (sym e ∙ f) (comment_begins k) in let no : false ≡ true = wrong in cc
follows_nothing x f (_, t, r, e, step {c = c} {t = s} b m, k) = never c (s ++ t) (sym e ∙ f)
  where
    never : (c : ℕ) (s : List ℕ) → c ∷ s ≡ [] → ⊥
    never c s g = cc

past_spaces : {s e : List ℕ} (y : List ℕ) → Many is_inner_blank s e → e ≡ [] → CommentFollows (s ++ y) → CommentFollows y
past_spaces y stop e h = subst (λ x. CommentFollows (x ++ y)) e h
past_spaces y (step {c = c} {t = t} b m) e (_, u, r, is, stop, k) = absurd (comment_no_blank (subst (λ x. IsComment x r) (sym is) k) (and_both (is_blank c) (not (is_line_end c)) b).0)
past_spaces y (step {c = c} {t = t} b m) e (_, u, r, is, step {t = s} p q, k) = past_spaces y m e (s, u, r, tails is, q, k)

-- nor does its line end
line_end_other : (c : ℕ) → IsTrue (is_line_end c) → IsTrue (begins_other c)
line_end_other c h = elim (or_cases (c == 0x0A) (c == 0x0D) h) [
  | inl e ↦ subst (λ d. IsTrue (begins_other d)) (sym (test_eq c 0x0A e)) refl
  | inr e ↦ subst (λ d. IsTrue (begins_other d)) (sym (test_eq c 0x0D e)) refl
]

starts_other : (n : Option ℕ) → IsTrue (starts is_line_end n) → IsTrue (starts begins_other n)
starts_other None h = h
starts_other (Some c) h = line_end_other c h

gap_end : (c : ℕ) → IsTrue (no_gap_there c) → IsTrue (is_line_end c) → ⊥
gap_end c h k = elim (or_cases (c == 0x0A) (c == 0x0D) k) [
  | inl e ↦ (let wrong : false ≡ true = subst (λ d. IsTrue (no_gap_there d)) (test_eq c 0x0A e) h in cc)
  | inr e ↦ (let wrong : false ≡ true = subst (λ d. IsTrue (no_gap_there d)) (test_eq c 0x0D e) h in cc)
]

gap_slash : (c : ℕ) → IsTrue (no_gap_there c) → IsTrue (c == 0x2F) → ⊥
gap_slash c h k = apart_slash c (gap_apart c h) k

none_ends : {x z : List ℕ} → OnLine x z → IsTrue (starts no_gap_there (next x)) → IsTrue (starts is_line_end (next z)) → ⊥
none_ends {x} lines.there h k = not_both no_gap_there is_line_end gap_end (next x) h k
none_ends (lines.past_blank {c = c} b g) h k = apart_space c (gap_apart c h) b
none_ends {x} (lines.past_comment t g) h k = not_both no_gap_there (λ c. c == 0x2F) gap_slash (next x) h (comment_begins t)

end_starts : {line : List ℕ} → IsLineEnd line → (t : List ℕ) → IsTrue (starts is_line_end (next (line ++ t)))
end_starts documents.line_feed t = refl
end_starts documents.carriage_return t = refl
end_starts documents.both t = refl

newline_starts : (k : CstNewlineKind) (t : List ℕ) → IsTrue (starts apart_there (next (newline_text k ++ t)))
newline_starts LineFeed t = refl
newline_starts CarriageReturnLineFeed t = refl
newline_starts CarriageReturn t = refl

-- a line comment's line does not end where none does past whitespace and comments
never_ends : (ls : List Content) → IsTrue (ends_line ls) → line_first ls ≡ false → stops ls ≡ true → ⊥
never_ends [] h e s = let wrong : false ≡ true = s in cc
never_ends (content.newline k ∷ ls) h e s = let wrong : true ≡ false = e in cc
never_ends (content.whitespace x ∷ ls) h e s = never_ends ls h e s
never_ends (c ∷ ls) h e s = cc

module _ (o : Options) where
  leaf_starts : (leaf : Content) (ls : List Content) → is_trivia leaf ≡ false → Good o (leaf ∷ ls) → IsTrue (starts no_gap_there (next (text_of_leaves (leaf ∷ ls))))
  leaf_starts leaf ls e g = starts_front no_gap_there (chars (text_of leaf)) (text_of_leaves ls) (first_text leaf ls g.utf8.0) (leaf_begins o leaf g.pieces.0 e)

  starts_apart : (n : Option ℕ) → IsTrue (starts no_gap_there n) → IsTrue (starts apart_there n)
  starts_apart None h = h
  starts_apart (Some c) h = gap_apart c h

  pub no_comment_follows : (ls : List Content) → comment_first ls ≡ false → Good o ls → CommentFollows (text_of_leaves ls) → ⊥
  no_comment_follows [] e g h = follows_nothing (text_of_leaves []) chars-nil h
  no_comment_follows (content.whitespace s ∷ ls) e g h =
      let t = piece_trivia o (content.whitespace s) refl g.pieces.0 in
      no_comment_follows ls e (good_second o (content.whitespace s ∷ []) ls g) (past_spaces (text_of_leaves ls) t.1 refl (subst CommentFollows (first_text (content.whitespace s) ls t.0) h))
  no_comment_follows (content.newline k ∷ ls) e g h =
      follows_none (text_of_leaves (content.newline k ∷ ls)) (subst (λ x. IsTrue (starts apart_there (next x))) (sym (first_text (content.newline k) ls g.utf8.0 ∙ ap (λ x. x ++ text_of_leaves ls) (newline_chars k))) (newline_starts k (text_of_leaves ls))) h
  no_comment_follows (content.comment s ∷ ls) e g h = let wrong : true ≡ false = e in cc
  no_comment_follows (leaf ∷ ls) e g h = follows_none (text_of_leaves (leaf ∷ ls)) (starts_apart (next (text_of_leaves (leaf ∷ ls))) (leaf_starts leaf ls refl g)) h

  none_past : (ls : List Content) → line_first ls ≡ false → stops ls ≡ true → LinesFlat ls → Good o ls → (z : List ℕ) → OnLine (text_of_leaves ls) z → IsTrue (starts is_line_end (next z)) → ⊥
  none_past [] e s f g z h k = let wrong : false ≡ true = s in cc
  none_past (content.whitespace x ∷ ls) e s f g z h k =
      let t = piece_trivia o (content.whitespace x) refl g.pieces.0 in
      none_past ls e s f.1 (good_second o (content.whitespace x ∷ []) ls g) z (past_blanks (text_of_leaves ls) t.1 refl (starts_other (next z) k) (subst (λ y. OnLine y z) (first_text (content.whitespace x) ls t.0) h)) k
  none_past (content.newline n ∷ ls) e s f g z h k = let wrong : true ≡ false = e in cc
  none_past (content.comment x ∷ ls) e s f g z h k = by (is_line_comment (content.comment x)) refl (λ m. none_past ls e s f.1 (good_second o (content.comment x ∷ []) ls g) z m k)
    where
      by : (b : Bool) → is_line_comment (content.comment x) ≡ b → (OnLine (text_of_leaves ls) z → ⊥) → ⊥
      by true l on = never_ends ls (f.0 l) e s
      by false l on =
          let t = piece_trivia o (content.comment x) refl g.pieces.0 in
          on (past_block h (starts_other (next z) k) (first_text (content.comment x) ls t.1.0) (comment_is_block x t.1.0 t.1.1 l))
  none_past (leaf ∷ ls) e s f g z h k = none_ends h (leaf_starts leaf ls refl g) k

  pub no_line_ends : (ls : List Content) → line_first ls ≡ false → stops ls ≡ true → LinesFlat ls → Good o ls → LineEnds (text_of_leaves ls) → ⊥
  no_line_ends ls e s f g (z, h, (line, t, is, end)) = none_past ls e s f g z h (subst (λ y. IsTrue (starts is_line_end (next y))) (sym is) (end_starts end t))
