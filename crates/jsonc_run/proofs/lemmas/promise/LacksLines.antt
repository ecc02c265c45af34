-- Where no line ends in the row of a container of a sound tree, none ends directly inside of the container in the text.
use Rattle.std.proofs.Common.{ℕ, ◌≡◌, ◌∙◌, ◌⊎◌, sym, ap, subst, refl, inl, inr, Bool, true, false, not, ◌==◌, List, [], ◌∷◌, ◌++◌, IsTrue, Option, chars}
use Rattle.jsonc_text.specs.Options.{Options}
use Rattle.jsonc_text.specs.Plain.{Plain}
use Rattle.jsonc_text.specs.Text.{is_line_end, next, starts, Many, step, stop}
use Rattle.jsonc_text.specs.Gaps as gaps
use Rattle.jsonc_text.specs.Gaps.{Gap, BlockComment, IsComment, is_blank, line}
use Rattle.jsonc_text.specs.Lexemes.{block_comment}
use Rattle.jsonc_text.proofs.Basics.{and_both, clash, heads, no_starts, or_cases, or_left, or_right, starts_also, tails, test_eq}
use Rattle.jsonc_text.proofs.Begins.{begins_item}
use Rattle.jsonc_text.proofs.BlockComments.{block_inside}
use Rattle.jsonc_text.proofs.LexemesAlone.{scanned_before}
use Rattle.jsonc_text.proofs.UniqueGaps.{begins_gap, comment_begins, comment_no_blank, comment_unique}
use Rattle.jsonc_text.proofs.UniqueValues.{not_gap}
use Rattle.jsonc_tree.specs.Content.{Content, token}
use Rattle.jsonc_tree.specs.OrderedTree.{OrderedTree, Top, none, more, followed_by}
use Rattle.jsonc_sound.specs.Documents.{document_of}
use Rattle.jsonc_sound.specs.Leaves.{is_inner_blank}
use Rattle.jsonc_sound.specs.Lines.{is_line_comment, ends_loosely, LinesEndLoosely}
use Rattle.jsonc_sound.specs.Rows.{RowKind, container_of}
use Rattle.jsonc_sound.specs.Rows as rows
use Rattle.jsonc_sound.specs.Shape.{IsTrivia, printed_text, token_then}
use Rattle.jsonc_sound.specs.SoundTrees.{SoundTree}
use Rattle.jsonc_sound.specs.TreeChanges.{leaves_of, DocumentChanged}
use Rattle.jsonc_sound.proofs.LooseLines.{leaf_then}
use Rattle.jsonc_sound.proofs.ShapeTexts.{begins_line}
use Rattle.jsonc_sound.proofs.ShapeValues.{comma_mark, mark_text}
use Rattle.jsonc_edit.specs.multiline.Laws.{bracketed}
use Rattle.jsonc_edit.specs.multiline.Reflows as reflows
use Rattle.jsonc_edit.specs.multiline.Reflows.{has_newline, Reflows}
use Rattle.jsonc_run.specs.texts.Paths.{Kind, an_array, an_object, closing, IsEntry}
use Rattle.jsonc_run.specs.texts.Paths as places
use Rattle.jsonc_run.specs.texts.Entering as entering
use Rattle.jsonc_run.specs.texts.Entering.{Along, HasLineEnd}
use Rattle.jsonc_run.specs.promise.PlaceLaws.{text_of_leaves}
use Rattle.jsonc_run.proofs.lemmas.promise.Leaves.{back_of}
use Rattle.jsonc_run.proofs.lemmas.promise.LinesInside.{opened}
use Rattle.jsonc_run.proofs.lemmas.promise.LooseRows.{is_a_comma, is_a_leaf, is_entry, kind_of_row, row_reads, Reads}
use Rattle.jsonc_run.proofs.lemmas.promise.UniquePlaces.{entry_begins, entry_ends, kinds_same, value_once}
use Rattle.jsonc_run.proofs.lemmas.promise.Values.{at_the_place}

-- a row without newlines
lacks_behind : (content : Content) (below after : OrderedTree) → has_newline (more content below after) ≡ false → has_newline after ≡ false
lacks_behind (Content.newline k) below after h = let wrong : true ≡ false = h in cc
lacks_behind content below after h = h

no_end : (row : OrderedTree) → has_newline row ≡ false → IsTrue (ends_loosely true false row) → ⊥
no_end none h e = cc
no_end (more (Content.newline k) below after) h e = let wrong : true ≡ false = h in cc
no_end (more (Content.whitespace s) below after) h e = no_end after h e
no_end (more content below after) h e = cc

lacks_with_bracket : (row : OrderedTree) (c : ℕ) → has_newline row ≡ false → has_newline (followed_by row (token_then c none)) ≡ false
lacks_with_bracket none c h = refl
lacks_with_bracket (more (Content.newline k) below after) c h = let wrong : true ≡ false = h in cc
lacks_with_bracket (more content below after) c h = lacks_with_bracket after c h

-- and without line comments
abbrev pub NoLineComments : OrderedTree → Type 0
NoLineComments none = Unit {0}
NoLineComments (more content below after) = (IsTrue (is_line_comment content) → ⊥) × NoLineComments after

lacks_comments : (row : OrderedTree) → has_newline row ≡ false → LinesEndLoosely true false row → NoLineComments row
lacks_comments none h l = tt
lacks_comments (more content below after) h l =
    let rest = lacks_behind content below after h in
    (λ k. no_end after rest (l.0 k), lacks_comments after rest l.2)

first_lacks : (first second : OrderedTree) → NoLineComments (followed_by first second) → NoLineComments first
first_lacks none second h = tt
first_lacks (more content below after) second h = (h.0, first_lacks after second h.1)

-- none comes where ends of lines do
pub still_lacks : {x y : OrderedTree} → Reflows x y → NoLineComments x → NoLineComments y
still_lacks reflows.ended n = tt
still_lacks (reflows.kept h) n = (n.0, still_lacks h n.1)
still_lacks (reflows.gone e h) n = still_lacks h n.1
still_lacks (reflows.line e h) n = (λ k. cc, (λ k. cc, still_lacks h n))
still_lacks (reflows.line_end h) n = (λ k. cc, still_lacks h n)

line_end_is : (c : ℕ) → IsTrue (is_line_end c) → (c ≡ 0x0A) ⊎ (c ≡ 0x0D)
line_end_is c h = elim (or_cases (c == 0x0A) (c == 0x0D) h) [ inl k ↦ inl (test_eq c 0x0A k) | inr k ↦ inr (test_eq c 0x0D k) ]

closes_apart : (kind : Kind) (p : ℕ → Bool) → p 0x5D ≡ false → p 0x7D ≡ false → IsTrue (p (closing kind)) → ⊥
closes_apart an_array p e f h = clash (p 0x5D) (subst (λ b. IsTrue (not b)) (sym e) refl) h
closes_apart an_object p e f h = clash (p 0x7D) (subst (λ b. IsTrue (not b)) (sym f) refl) h

module _ (o : Options) (kind : Kind) (z : List ℕ) where
  -- whitespace, and then a row in which no line ends
  record Spot (t : List ℕ) : Type 0 where
    spaces : List ℕ
    row : OrderedTree
    are : Many is_inner_blank spaces []
    reads : Reads o kind z row
    lines : LinesEndLoosely true false row
    lacks : has_newline row ≡ false
    is : t ≡ spaces ++ (printed_text row ++ z)

  -- what stands first there
  data View (t : List ℕ) : Type 0 where
    a_blank : {c : ℕ} {u : List ℕ} → IsTrue (is_inner_blank c) → t ≡ c ∷ u → Spot u → View t
    a_comment : {u : List ℕ} → IsComment t u → Spot u → View t
    an_entry : {u : List ℕ} → IsEntry o kind t u → Spot u → View t
    a_comma : {u : List ℕ} → t ≡ 0x2C ∷ u → Spot u → View t
    last : t ≡ closing kind ∷ z → View t

  abbrev text : OrderedTree → List ℕ
  text row = printed_text row ++ z

  spot : (row : OrderedTree) → Reads o kind z row → LinesEndLoosely true false row → has_newline row ≡ false → Spot (text row)
  spot row r l h = record { spaces = []; row = row; are = stop; reads = r; lines = l; lacks = h; is = refl }

  past_spaces : (s : List ℕ) (row : OrderedTree) → Many is_inner_blank s [] → Reads o kind z row → LinesEndLoosely true false row → has_newline row ≡ false → View (text row) → View (s ++ text row)
  past_spaces [] row m r l h v = v
  past_spaces (c ∷ s) row (step b m) r l h v = a_blank b refl (record { spaces = s; row = row; are = m; reads = r; lines = l; lacks = h; is = refl })

  whole : (s x : List ℕ) → IsTrivia o (Content.comment s) → (IsTrue (is_line_comment (Content.comment s)) → ⊥) → IsComment (chars s ++ x) x
  whole s x h f = by h.1.1 refl
    where
      by : {c : List ℕ} → IsComment c [] → chars s ≡ c → IsComment (chars s ++ x) x
      by (inl (line m n)) e = absurd (f (begins_line s h.1.0 e))
      by (inr b) e =
          let k : BlockComment (chars s) [] = subst (λ c. BlockComment c []) (sym e) b in
          let inside = block_inside k in
          inr (scanned_before o (block_comment inside.0) (chars s) x (k, inside.1) tt).0

  view_leaf : (x : Content) (w after : OrderedTree) → IsTrivia o x → Reads o kind z after → LinesEndLoosely true false (more x w after) → has_newline (more x w after) ≡ false → View (text after) → View (text (more x none after))
  view_leaf (Content.whitespace s) w after t r l h v = subst View (sym (leaf_then o z (Content.whitespace s) after t)) (past_spaces (chars s) after t.1 r l.2 h v)
  view_leaf (Content.newline k) w after t r l h v = let wrong : true ≡ false = h in cc
  view_leaf (Content.comment s) w after t r l h v =
      subst View (sym (leaf_then o z (Content.comment s) after t)) (a_comment (whole s (text after) t (λ k. no_end after h (l.0 k))) (spot after r l.2 h))
  view_leaf x w after t r l h v = absurd t

  view_row : (row : OrderedTree) → Reads o kind z row → LinesEndLoosely true false row → has_newline row ≡ false → View (text row)
  view_row none r l h = absurd r
  view_row (more x w after) (inl m) l h = last m.1
  view_row (more x w after) (inr (is_a_leaf t e, reads)) l h = subst (λ y. View (text (more x y after))) (sym e) (view_leaf x w after t reads l h (view_row after reads l.2 (lacks_behind x w after h)))
  view_row (more x w after) (inr (is_entry p s q, reads)) l h = an_entry q (spot after reads l.2 (lacks_behind x w after h))
  view_row (more x w after) (inr (is_a_comma e n, reads)) l h =
      let comma : more x w after ≡ token_then 0x2C after = ap (λ y. more y w after) e ∙ ap (λ y. more (token 0x2C) y after) n in
      a_comma (ap text comma ∙ ap (λ y. y ++ z) (mark_text comma_mark after)) (spot after reads l.2 (lacks_behind x w after h))

  view : {t : List ℕ} → Spot t → View t
  view {t} s = subst View (sym s.is) (past_spaces s.spaces s.row s.are s.reads s.lines s.lacks (view_row s.row s.reads s.lines s.lacks))

  -- it goes on so
  no_entry : (c : ℕ) (t u r : List ℕ) → begins_item c ≡ false → c ∷ t ≡ u → IsEntry o kind u r → ⊥
  no_entry c t u r e f i = clash (begins_item c) (subst (λ b. IsTrue (not b)) (sym e) refl) (subst (λ y. IsTrue (starts begins_item (next y))) (sym f) (entry_begins o kind u r i))

  blank_no_entry : (c : ℕ) (t r : List ℕ) → IsTrue (is_blank c) → IsEntry o kind (c ∷ t) r → ⊥
  blank_no_entry c t r b i = clash (begins_gap c) (not_gap (c ∷ t) (entry_begins o kind (c ∷ t) r i)) (or_left (is_blank c) (c == 0x2F) b)

  comment_no_entry : (t r : List ℕ) {u : List ℕ} → IsComment t u → IsEntry o kind t r → ⊥
  comment_no_entry t r k i =
      no_starts begins_gap (next t) (not_gap t (entry_begins o kind t r i)) (starts_also (λ c. c == 0x2F) begins_gap (λ c h. or_right (is_blank c) (c == 0x2F) h) (next t) (comment_begins k))

  comment_first : {c : ℕ} {t x u : List ℕ} → x ≡ c ∷ t → IsComment x u → IsTrue (c == 0x2F)
  comment_first e k = subst (λ y. IsTrue (starts (λ c. c == 0x2F) (next y))) e (comment_begins k)

  past_blank : {c : ℕ} {t : List ℕ} → IsTrue (is_blank c) → Spot (c ∷ t) → Spot t
  past_blank {c} {t} b s = by (view s)
    where
      by : View (c ∷ t) → Spot t
      by (a_blank p e q) = subst Spot (sym (tails e)) q
      by (a_comment k q) = absurd (comment_no_blank k b)
      by (an_entry {u = x} i q) = absurd (blank_no_entry c t x b i)
      by (a_comma e q) = let wrong : IsTrue (is_blank 0x2C) = subst (λ y. IsTrue (is_blank y)) (heads e) b in cc
      by (last e) = absurd (closes_apart kind is_blank refl refl (subst (λ y. IsTrue (is_blank y)) (heads e) b))

  past_comment : {t u : List ℕ} → IsComment t u → Spot t → Spot u
  past_comment {t} {u} k s = by (view s)
    where
      by : View t → Spot u
      by (a_blank {c = c} p e q) = absurd (comment_no_blank (subst (λ y. IsComment y u) e k) (and_both (is_blank c) _ p).0)
      by (a_comment l q) = subst Spot (comment_unique l k) q
      by (an_entry {u = x} i q) = absurd (comment_no_entry t x k i)
      by (a_comma e q) = let wrong : IsTrue (0x2C == 0x2F) = comment_first e k in cc
      by (last e) = absurd (closes_apart kind (λ c. c == 0x2F) refl refl (comment_first e k))

  past_gap : {t u : List ℕ} → Gap o t u → Spot t → Spot u
  past_gap gaps.none s = s
  past_gap (gaps.blank b g) s = past_gap g (past_blank b s)
  past_gap (gaps.comment a k g) s = past_gap g (past_comment k s)

  past_comma : {t : List ℕ} → Spot (0x2C ∷ t) → Spot t
  past_comma {t} s = by (view s)
    where
      by : View (0x2C ∷ t) → Spot t
      by (a_blank p e q) = let wrong : IsTrue (is_inner_blank 0x2C) = subst (λ y. IsTrue (is_inner_blank y)) (sym (heads e)) p in cc
      by (a_comment k q) = let wrong : IsTrue (0x2C == 0x2F) = comment_first refl k in cc
      by (an_entry {u = x} i q) = absurd (no_entry 0x2C t (0x2C ∷ t) x refl refl i)
      by (a_comma e q) = subst Spot (sym (tails e)) q
      by (last e) = absurd (closes_apart kind (λ c. c == 0x2C) refl refl (subst (λ y. IsTrue (y == 0x2C)) (heads e) refl))

  past_entry : {t u : List ℕ} → IsEntry o kind t u → Spot t → Spot u
  past_entry {t} {u} i s = by (view s)
    where
      by : View t → Spot u
      by (a_blank {c = c} {u = x} p e q) = absurd (blank_no_entry c x u (and_both (is_blank c) _ p).0 (subst (λ y. IsEntry o kind y u) e i))
      by (a_comment k q) = absurd (comment_no_entry t u k i)
      by (an_entry {u = x} j q) = subst Spot (entry_ends o kind t x u j i) q
      by (a_comma {u = x} e q) = absurd (no_entry 0x2C x t u refl (sym e) i)
      by (last e) = absurd (closes_apart kind begins_item refl refl (subst (λ y. IsTrue (starts begins_item (next y))) e (entry_begins o kind t u i)))

  along : {t u : List ℕ} → Along o kind t u → Spot t → Spot u
  along entering.there s = s
  along (entering.past_gap g a) s = along a (past_gap g s)
  along (entering.past_comma a) s = along a (past_comma s)
  along (entering.past_entry i a) s = along a (past_entry i s)

  -- no line ends there
  off : {p : Bool} → p ≡ false → IsTrue p → ⊥
  off {p} f q = clash p (subst (λ b. IsTrue (not b)) (sym f) refl) q

  none_at : (n : ℕ) {c : ℕ} {t : List ℕ} → c ≡ n → is_inner_blank n ≡ false → (n == 0x2F) ≡ false → begins_item n ≡ false → (n == 0x2C) ≡ false → IsTrue (is_line_end c) → View (c ∷ t) → ⊥
  none_at n e b k i m h (a_blank p f q) = off b (subst (λ y. IsTrue (is_inner_blank y)) (sym (heads f) ∙ e) p)
  none_at n e b k i m h (a_comment j q) = off k (subst (λ y. IsTrue (y == 0x2F)) e (comment_first refl j))
  none_at n {c} {t} e b k i m h (an_entry {u = x} j q) = no_entry n t (c ∷ t) x i (ap (λ y. y ∷ t) (sym e)) j
  none_at n e b k i m h (a_comma f q) = off m (subst (λ y. IsTrue (y == 0x2C)) (sym (heads f) ∙ e) refl)
  none_at n e b k i m h (last f) = closes_apart kind is_line_end refl refl (subst (λ y. IsTrue (is_line_end y)) (heads f) h)

  none_there : {c : ℕ} {t : List ℕ} → IsTrue (is_line_end c) → Spot (c ∷ t) → ⊥
  none_there {c} h s = elim (line_end_is c h) [ inl e ↦ none_at 0x0A e refl refl refl refl h (view s) | inr e ↦ none_at 0x0D e refl refl refl refl h (view s) ]

-- the row of a container in which no line ends
pub row_lacks_comments : (o : Options) (k : RowKind) (row : OrderedTree) {now : Top} {path : List ℕ} {t u : OrderedTree} → SoundTree o t → DocumentChanged (bracketed k row) now path t u → has_newline row ≡ false → NoLineComments row
row_lacks_comments o k row s d h =
    let bracket : OrderedTree = token_then (rows.closing k) none in
    let read = row_reads o (text_of_leaves (back_of d)) k (at_the_place o s d).2 in
    first_lacks row bracket (lacks_comments (followed_by row bracket) (lacks_with_bracket row (rows.closing k) h) read.1)

-- a container in whose row no line ends
pub lacks_within : (o : Options) (k : RowKind) (row : OrderedTree) {now : Top} {path : List ℕ} {t u : OrderedTree} → SoundTree o t → (d : DocumentChanged (container_of k row) now path t u) → has_newline row ≡ false → (w : Option Plain)
    → HasLineEnd path (document_of o t w) → ⊥
lacks_within o k row {path = path} {t = t} s d h w (kind, u, r, x, y, c, v, e, a, ends) =
    let place = at_the_place o s d in
    let back : List ℕ = text_of_leaves (back_of d) in
    let read = row_reads o back k place.2 in
    let own : text_of_leaves (leaves_of (container_of k row)) ++ back ≡ places.opening (kind_of_row k) ∷ (printed_text row ++ back) = ap (λ l. l ++ back) (opened k row) in
    let same : places.opening kind ∷ x ≡ places.opening (kind_of_row k) ∷ (printed_text row ++ back) = sym e ∙ value_once o v place.1 ∙ own in
    let along_it : Along o (kind_of_row k) (printed_text row ++ back) (c ∷ y) = subst (λ l. Along o (kind_of_row k) l (c ∷ y)) (tails same) (subst (λ q. Along o q x (c ∷ y)) (kinds_same kind (kind_of_row k) same) a) in
    none_there o (kind_of_row k) back ends (along o (kind_of_row k) back along_it (spot o (kind_of_row k) back row read.0 read.1 h))

-- between its brackets
pub lacks_line : (o : Options) (k : RowKind) (row : OrderedTree) {now : Top} {path : List ℕ} {t u : OrderedTree} → SoundTree o t → (d : DocumentChanged (bracketed k row) now path t u) → has_newline row ≡ false → (w : Option Plain)
    → HasLineEnd path (document_of o t w) → ⊥
lacks_line o k row s d h w = lacks_within o k (followed_by row (token_then (rows.closing k) none)) s d (lacks_with_bracket row (rows.closing k) h) w
