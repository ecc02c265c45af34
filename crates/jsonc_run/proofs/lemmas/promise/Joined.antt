-- Where an entry comes into a container of a sound tree, all around it stays in the text but blanks directly inside of the brackets.
use Rattle.std.proofs.Common.{ℕ, ◌≡◌, ◌≢◌, ◌∙◌, ◌⊎◌, inl, inr, sym, ap, subst, refl, Bool, true, false, not, ◌==◌, List, [], ◌∷◌, ◌++◌, IsTrue, chars, encode_utf8, rules}
use Rattle.std.proofs.lemmas.List.{append_assoc, append-nil}
use Rattle.std.proofs.lemmas.Str.{chars-nil, chars-IsAscii}
use Rattle.jsonc_text.specs.Options.{Options}
use Rattle.jsonc_text.specs.Text as many
use Rattle.jsonc_run.specs.texts.Paths as places
use Rattle.jsonc_tree.specs.Content.{Content, token, newline, whitespace}
use Rattle.jsonc_tree.specs.declared.node.CstNewlineKind.{CstNewlineKind}
use Rattle.jsonc_tree.specs.OrderedTree.{OrderedTree, Top, none, more, own_leaf, leaves, followed_by}
use Rattle.jsonc_tree.proofs.OrderedTrees.{leaves-followed_by}
use Rattle.jsonc_layout.specs.nodes.Kinds.{is_comma, is_trivia}
use Rattle.jsonc_sound.specs.InRows.{row_around}
use Rattle.jsonc_sound.specs.Leaving.{comma_comes, element_count}
use Rattle.jsonc_sound.specs.Lines.{LinesEndLoosely}
use Rattle.jsonc_sound.specs.MarkChanges.{AreBlanks}
use Rattle.jsonc_sound.specs.Rows.{RowKind, of_values, of_properties, opening, closing}
use Rattle.jsonc_sound.specs.Shape.{token_then}
use Rattle.jsonc_sound.specs.SoundTrees.{SoundTree}
use Rattle.jsonc_sound.specs.TreeChanges.{leaves_of, IsElement}
use Rattle.jsonc_sound.specs.TriviaChanges.{AreTrivia, leaves_then}
use Rattle.jsonc_sound.proofs.NodesAlone.{document_alone}
use Rattle.jsonc_sound.proofs.Pieces.{Pieces, a_trivia, document_pieces}
use Rattle.jsonc_sound.proofs.RowParts.{beside_trivia, leaves_followed}
use Rattle.jsonc_sound.proofs.ShapeTexts.{trivia_utf8}
use Rattle.jsonc_sound.proofs.Texts.{AllUtf8}
use Rattle.jsonc_sound.proofs.TriviaLeaves.{front_leaves}
use Rattle.jsonc_edit.specs.multiline.Reflows as reflows
use Rattle.jsonc_edit.specs.multiline.Reflows.{Reflows, SpreadsOut}
use Rattle.jsonc_insert.specs.elements.Coming as coming
use Rattle.jsonc_insert.specs.elements.Coming.{FirstLinesLeave, LastLinesLeave, BlankLinesLeave, Gap, CommaInserted, GoesOn}
use Rattle.jsonc_run.specs.promise.PlaceLaws.{text_of_leaves}
use Rattle.jsonc_run.specs.texts.Stretches as documents
use Rattle.jsonc_run.specs.texts.Entering as entering
use Rattle.jsonc_run.specs.texts.Stretches.{Without}
use Rattle.jsonc_run.specs.texts.Entering.{Led, Spacing, Trims}
use Rattle.jsonc_run.proofs.lemmas.promise.CommaTexts.{all_same, same_before}
use Rattle.jsonc_run.proofs.lemmas.promise.CommentTexts.{blanks_text}
use Rattle.jsonc_run.proofs.lemmas.promise.Leaves.{document_utf8, text_joined, utf8_first, utf8_joined, utf8_second}
use Rattle.jsonc_run.proofs.lemmas.promise.Lines.{blanks_leave, spaces_leave, spread}
use Rattle.jsonc_run.proofs.lemmas.promise.LooseRows.{Reads, kind_of_row}
use Rattle.jsonc_sound.proofs.ShapeValues.{Mark, bracket_mark, brace_mark, close_bracket_mark, close_brace_mark}
use Rattle.jsonc_sound.proofs.Entries.{blanks_trivia}
use Rattle.jsonc_run.proofs.lemmas.promise.Stretches.{pieces_first, pieces_second}
use Rattle.jsonc_run.proofs.lemmas.promise.Trivia.{beside_text, line_end_text}

-- leaves that are pieces of a document, and characters
pub record Good (o : Options) (ls : List Content) : Type 0 where
  pub pieces : Pieces o ls
  pub utf8 : AllUtf8 ls

module _ (o : Options) where
  pub good_first : (a b : List Content) → Good o (a ++ b) → Good o a
  good_first a b g = record { pieces = pieces_first o a b g.pieces; utf8 = utf8_first a b g.utf8 }

  pub good_second : (a b : List Content) → Good o (a ++ b) → Good o b
  good_second a b g = record { pieces = pieces_second o a b g.pieces; utf8 = utf8_second a b g.utf8 }

  pieces_joined : (a b : List Content) → Pieces o a → Pieces o b → Pieces o (a ++ b)
  pieces_joined [] b p q = q
  pieces_joined (c ∷ a) b p q = (p.0, pieces_joined a b p.1 q)

  good_joined : (a b : List Content) → Good o a → Good o b → Good o (a ++ b)
  good_joined a b g h = record { pieces = pieces_joined a b g.pieces h.pieces; utf8 = utf8_joined a b g.utf8 h.utf8 }

  pub good_as : {a b : List Content} → a ≡ b → Good o a → Good o b
  good_as e g = subst (Good o) e g

  pub good_tree : {t : OrderedTree} → SoundTree o t → Good o (leaves t)
  good_tree s = record { pieces = document_pieces o (document_alone o s.shaped); utf8 = document_utf8 o s.shaped }

blanks_with_line : (ls : List Content) (n : CstNewlineKind) → AreBlanks ls → AreBlanks (ls ++ newline n ∷ [])
blanks_with_line [] n h = (refl, tt)
blanks_with_line (c ∷ ls) n h = (h.0, blanks_with_line ls n h.1)

pub none_behind : (ls : List Content) → AreTrivia ls → leaves (leaves_then ls none) ≡ ls
none_behind ls h = front_leaves ls none h ∙ append-nil ls

pub one_token : {c : ℕ} → Mark c → text_of_leaves (token c ∷ []) ≡ c ∷ []
one_token {c} m = ap chars (append-nil (encode_utf8 c) ∙ m.bytes) ∙ m.text

-- the brackets
pub open_text : (kind : RowKind) → text_of_leaves (token (opening kind) ∷ []) ≡ places.opening (kind_of_row kind) ∷ []
open_text of_values = one_token bracket_mark
open_text of_properties = one_token brace_mark

pub close_text : (kind : RowKind) → text_of_leaves (token (closing kind) ∷ []) ≡ places.closing (kind_of_row kind) ∷ []
close_text of_values = one_token close_bracket_mark
close_text of_properties = one_token close_brace_mark

same_behind : {p : ℕ → Bool} {x y : List ℕ} (s : List ℕ) → Without p x y → Without p (x ++ s) (y ++ s)
same_behind s documents.ended = all_same s
same_behind s (documents.stays h) = documents.stays (same_behind s h)
same_behind s (documents.leaves q h) = documents.leaves q (same_behind s h)

module _ (o : Options) (kind : RowKind) (F B : List ℕ) where
  abbrev k : places.Kind
  k = kind_of_row kind

  -- the document's text with these characters between the brackets
  abbrev pub with_row : List ℕ → List ℕ
  with_row s = F ++ (places.opening k ∷ (s ++ (places.closing k ∷ B)))

  not_trimmed : (s : List ℕ) → Trims k (with_row s) (with_row s)
  not_trimmed s =
      subst (λ x. Trims k x x) (append_assoc F (places.opening k ∷ s) (places.closing k ∷ B))
      (entering.before_last (F ++ (places.opening k ∷ s)) [] [] B many.Many.stop many.Many.stop (inl many.Many.stop))

  back_regroup : (a b c : ℕ) (f r g s z : List ℕ) → f ++ (a ∷ ((r ++ (g ++ s)) ++ (b ∷ z))) ≡ (f ++ (a ∷ r)) ++ (g ++ (s ++ (b ∷ z)))
  back_regroup a b c f r g s z = simp (append_assoc) refl

  back_regroup_two : (a b : ℕ) (f r s z : List ℕ) → f ++ (a ∷ ((r ++ s) ++ (b ∷ z))) ≡ (f ++ (a ∷ r)) ++ (s ++ (b ∷ z))
  back_regroup_two a b f r s z = simp (append_assoc) refl

  front_regroup : (a b : ℕ) (f s g r z : List ℕ) → f ++ (a ∷ ((s ++ (g ++ r)) ++ (b ∷ z))) ≡ f ++ (a ∷ (s ++ (g ++ (r ++ (b ∷ z)))))
  front_regroup a b f s g r z = simp (append_assoc) refl

  front_regroup_two : (a b : ℕ) (f s r z : List ℕ) → f ++ (a ∷ ((s ++ r) ++ (b ∷ z))) ≡ f ++ (a ∷ (s ++ (r ++ (b ∷ z))))
  front_regroup_two a b f s r z = simp (append_assoc) refl

  record Trimmed (row kept : OrderedTree) : Type 0 where
    good : Good o (leaves kept)
    trims : Trims k (with_row (text_of_leaves (leaves row))) (with_row (text_of_leaves (leaves kept)))

  last_trimmed : {row kept : OrderedTree} → LastLinesLeave row kept → Good o (leaves row) → Trimmed row kept
  last_trimmed (coming.none_last {row = row}) g = record { good = g; trims = not_trimmed (text_of_leaves (leaves row)) }
  last_trimmed (coming.leave_last front gone spaces n a b) g =
      let line : List Content = newline n ∷ spaces in
      let tail : OrderedTree = more (newline n) none (leaves_then spaces none) in
      let tail_is : leaves tail ≡ line = ap (λ l. newline n ∷ l) (none_behind spaces (blanks_trivia spaces b)) in
      let was : leaves (followed_by front (leaves_then gone tail)) ≡ leaves front ++ (gone ++ line) =
      leaves-followed_by front (leaves_then gone tail) ∙ ap (λ l. leaves front ++ l) (front_leaves gone tail (blanks_trivia gone a) ∙ ap (λ l. gone ++ l) tail_is) in
      let is : leaves (followed_by front tail) ≡ leaves front ++ line = leaves-followed_by front tail ∙ ap (λ l. leaves front ++ l) tail_is in
      let g0 = good_as o was g in
      let g1 = good_second o (leaves front) (gone ++ line) g0 in
      let g2 = good_second o gone line g1 in
      let f0 = good_first o (leaves front) (gone ++ line) g0 in
      let text : text_of_leaves (leaves front ++ (gone ++ line)) ≡ text_of_leaves (leaves front) ++ (text_of_leaves gone ++ text_of_leaves line) =
      text_joined (leaves front) (gone ++ line) f0.utf8 ∙ ap (λ l. text_of_leaves (leaves front) ++ l) (text_joined gone line (good_first o gone line g1).utf8) in
      let text_now : text_of_leaves (leaves front ++ line) ≡ text_of_leaves (leaves front) ++ text_of_leaves line = text_joined (leaves front) line f0.utf8 in
      let all : with_row (text_of_leaves (leaves (followed_by front (leaves_then gone tail)))) ≡ (F ++ (places.opening k ∷ text_of_leaves (leaves front))) ++ (text_of_leaves gone ++ (text_of_leaves line ++ (places.closing k ∷ B))) =
      ap with_row (ap text_of_leaves was ∙ text) ∙ back_regroup (places.opening k) (places.closing k) 0 F (text_of_leaves (leaves front)) (text_of_leaves gone) (text_of_leaves line) B in
      let now : with_row (text_of_leaves (leaves (followed_by front tail))) ≡ (F ++ (places.opening k ∷ text_of_leaves (leaves front))) ++ (text_of_leaves line ++ (places.closing k ∷ B)) =
      ap with_row (ap text_of_leaves is ∙ text_now) ∙ back_regroup_two (places.opening k) (places.closing k) F (text_of_leaves (leaves front)) (text_of_leaves line) B in
      record {
        good = good_as o (sym is) (good_joined o (leaves front) line f0 g2);
        trims =
            subst (λ x. Trims k x (with_row (text_of_leaves (leaves (followed_by front tail))))) (sym all)
            (subst (Trims k ((F ++ (places.opening k ∷ text_of_leaves (leaves front))) ++ (text_of_leaves gone ++ (text_of_leaves line ++ (places.closing k ∷ B))))) (sym now)
            (entering.before_last (F ++ (places.opening k ∷ text_of_leaves (leaves front))) (text_of_leaves gone) (text_of_leaves line) B (blanks_text o gone a (good_first o gone line g1).pieces) (blanks_text o line (refl, b) g2.pieces)
            (inr ([], text_of_leaves (newline n ∷ []), text_of_leaves spaces, text_joined (newline n ∷ []) spaces (g2.utf8.0, tt), line_end_text n))));
      }

  first_trimmed : {row kept : OrderedTree} → FirstLinesLeave row kept → Good o (leaves row) → Trimmed row kept
  first_trimmed (coming.none_first {row = row}) g = record { good = g; trims = not_trimmed (text_of_leaves (leaves row)) }
  first_trimmed (coming.leave_first spaces gone n row a b) g =
      let line : List Content = spaces ++ newline n ∷ [] in
      let rest : List Content = leaves row in
      let was : leaves (leaves_then spaces (more (newline n) none (leaves_then gone row))) ≡ line ++ (gone ++ rest) =
      front_leaves spaces (more (newline n) none (leaves_then gone row)) (blanks_trivia spaces a) ∙ ap (λ l. spaces ++ (newline n ∷ l)) (front_leaves gone row (blanks_trivia gone b)) ∙ sym (append_assoc spaces (newline n ∷ []) (gone ++ rest)) in
      let is : leaves (leaves_then spaces (more (newline n) none row)) ≡ line ++ rest = front_leaves spaces (more (newline n) none row) (blanks_trivia spaces a) ∙ sym (append_assoc spaces (newline n ∷ []) rest) in
      let g0 = good_as o was g in
      let g1 = good_second o line (gone ++ rest) g0 in
      let g2 = good_second o gone rest g1 in
      let f0 = good_first o line (gone ++ rest) g0 in
      let text : text_of_leaves (line ++ (gone ++ rest)) ≡ text_of_leaves line ++ (text_of_leaves gone ++ text_of_leaves rest) =
      text_joined line (gone ++ rest) f0.utf8 ∙ ap (λ l. text_of_leaves line ++ l) (text_joined gone rest (good_first o gone rest g1).utf8) in
      let text_now : text_of_leaves (line ++ rest) ≡ text_of_leaves line ++ text_of_leaves rest = text_joined line rest f0.utf8 in
      let all : with_row (text_of_leaves (leaves (leaves_then spaces (more (newline n) none (leaves_then gone row))))) ≡ F ++ (places.opening k ∷ (text_of_leaves line ++ (text_of_leaves gone ++ (text_of_leaves rest ++ (places.closing k ∷ B))))) =
      ap with_row (ap text_of_leaves was ∙ text) ∙ front_regroup (places.opening k) (places.closing k) F (text_of_leaves line) (text_of_leaves gone) (text_of_leaves rest) B in
      let now : with_row (text_of_leaves (leaves (leaves_then spaces (more (newline n) none row)))) ≡ F ++ (places.opening k ∷ (text_of_leaves line ++ (text_of_leaves rest ++ (places.closing k ∷ B)))) =
      ap with_row (ap text_of_leaves is ∙ text_now) ∙ front_regroup_two (places.opening k) (places.closing k) F (text_of_leaves line) (text_of_leaves rest) B in
      record {
        good = good_as o (sym is) (good_joined o line rest f0 g2);
        trims =
            subst (λ x. Trims k x (with_row (text_of_leaves (leaves (leaves_then spaces (more (newline n) none row)))))) (sym all)
            (subst (Trims k (F ++ (places.opening k ∷ (text_of_leaves line ++ (text_of_leaves gone ++ (text_of_leaves rest ++ (places.closing k ∷ B))))))) (sym now)
            (entering.behind_first F (text_of_leaves line) (text_of_leaves gone) (text_of_leaves rest ++ (places.closing k ∷ B)) (blanks_text o line (blanks_with_line spaces n a) f0.pieces) (blanks_text o gone b (good_first o gone rest g1).pieces)
            (inr (text_of_leaves spaces, text_of_leaves (newline n ∷ []), [], text_joined spaces (newline n ∷ []) (good_first o spaces (newline n ∷ []) f0).utf8 ∙ ap (λ l. text_of_leaves spaces ++ l) (sym (append-nil (text_of_leaves (newline n ∷ [])))), line_end_text n))));
      }

  -- a row that is put on several lines
  reflowed_good : {x y : OrderedTree} → Reflows x y → Good o (leaves x) → Good o (leaves y)
  reflowed_good reflows.ended g = g
  reflowed_good (reflows.kept {content = c} {below = below} {x = x} {y = y} h) g =
      let g1 = good_second o (own_leaf c) (leaves below ++ leaves x) g in
      good_joined o (own_leaf c) (leaves below ++ leaves y) (good_first o (own_leaf c) (leaves below ++ leaves x) g)
      (good_joined o (leaves below) (leaves y) (good_first o (leaves below) (leaves x) g1) (reflowed_good h (good_second o (leaves below) (leaves x) g1)))
  reflowed_good (reflows.gone {s = s} {x = x} h q) g = reflowed_good q (good_second o (whitespace s ∷ []) (leaves x) g)
  reflowed_good (reflows.line {k = n} {s = s} {y = y} i h) g =
      let rest = reflowed_good h g in
      record { pieces = (a_trivia {content = newline n} tt, (a_trivia {content = whitespace s} i, rest.pieces)); utf8 = (trivia_utf8 o (newline n) tt, (trivia_utf8 o (whitespace s) i, rest.utf8)) }
  reflowed_good (reflows.line_end {k = n} h) g =
      let rest = reflowed_good h g in
      record { pieces = (a_trivia {content = newline n} tt, rest.pieces); utf8 = (trivia_utf8 o (newline n) tt, rest.utf8) }

  pub spread_good : {x y : OrderedTree} → SpreadsOut x y → Good o (leaves x) → Good o (leaves y)
  spread_good (reflows.stays h) g = g
  spread_good (reflows.reflows h q r) g = reflowed_good r g

  around : {p : ℕ → Bool} {x y : List ℕ} → Without p x y → Without p (with_row x) (with_row y)
  around h = same_before F (documents.stays (same_behind (places.closing k ∷ B) h))

  pub spread_reflows : {x y : OrderedTree} → SpreadsOut x y → Good o (leaves x) → entering.Reflows (with_row (text_of_leaves (leaves x))) (with_row (text_of_leaves (leaves y)))
  spread_reflows s g =
      let b = spread s in
      let h = spread_good s g in
      (with_row (text_of_leaves b.kept), around (spaces_leave o b.first g.pieces g.utf8), around (blanks_leave o b.second h.pieces h.utf8))

  pub record Kept (row kept : OrderedTree) : Type 0 where
    pub good : Good o (leaves kept)
    pub shorter : List ℕ
    pub last : Trims k (with_row (text_of_leaves (leaves row))) shorter
    pub first : Trims k shorter (with_row (text_of_leaves (leaves kept)))

  pub lines_trimmed : {row kept : OrderedTree} → BlankLinesLeave row kept → Good o (leaves row) → Kept row kept
  lines_trimmed leave g =
      let a = last_trimmed leave.last g in
      let b = first_trimmed leave.first a.good in
      record { good = b.good; shorter = with_row (text_of_leaves (leaves leave.shorter)); last = a.trims; first = b.trims }

  -- a comma comes, or none
  led_regroup : (a : ℕ) (f x y : List ℕ) → f ++ (a ∷ (x ++ y)) ≡ (f ++ (a ∷ x)) ++ y
  led_regroup a f x y = simp (append_assoc) refl

  -- behind each entry of the row that the comma may follow
  abbrev pub EntriesOf : OrderedTree → List ℕ → Type 0
  EntriesOf led r = (f : OrderedTree) (last : Top) (beside : List Content) → led ≡ row_around f last (token_then 0x2C (leaves_then beside none)) → IsElement last.content → AreTrivia beside
      → places.IsEntry o k (text_of_leaves (leaves_of last) ++ 0x2C ∷ (text_of_leaves beside ++ r)) (0x2C ∷ (text_of_leaves beside ++ r))

  pub led_so : (m : Mark 0x2C) (r : List ℕ) {front led : OrderedTree} → EntriesOf led r → CommaInserted front led → Good o (leaves led)
      → Led o k r (F ++ (places.opening k ∷ text_of_leaves (leaves front))) (F ++ (places.opening k ∷ text_of_leaves (leaves led)))
  led_so m r entries coming.none_comes g = entering.as_it_was
  led_so m r entries (coming.one_comes f last beside h b) g =
      let trivia = beside_trivia beside b in
      let rest : OrderedTree = leaves_then beside none in
      let x : List Content = leaves f ++ leaves_of last in
      let was : leaves (row_around f last rest) ≡ x ++ beside =
      leaves-followed_by f (more last.content last.below rest) ∙ ap (λ l. leaves f ++ l) (sym (append_assoc (own_leaf last.content) (leaves last.below) (leaves rest)) ∙ ap (λ l. leaves_of last ++ l) (none_behind beside trivia))
      ∙ sym (append_assoc (leaves f) (leaves_of last) beside) in
      let is : leaves (row_around f last (token_then 0x2C rest)) ≡ x ++ (token 0x2C ∷ beside) =
      leaves-followed_by f (more last.content last.below (token_then 0x2C rest))
      ∙ ap (λ l. leaves f ++ l) (sym (append_assoc (own_leaf last.content) (leaves last.below) (token 0x2C ∷ leaves rest)) ∙ ap (λ l. leaves_of last ++ (token 0x2C ∷ l)) (none_behind beside trivia))
      ∙ sym (append_assoc (leaves f) (leaves_of last) (token 0x2C ∷ beside)) in
      let g0 = good_as o is g in
      let g1 = good_second o x (token 0x2C ∷ beside) g0 in
      let g2 = good_second o (token 0x2C ∷ []) beside g1 in
      let x_utf8 = (good_first o x (token 0x2C ∷ beside) g0).utf8 in
      let text : text_of_leaves (leaves (row_around f last rest)) ≡ text_of_leaves x ++ text_of_leaves beside = ap text_of_leaves was ∙ text_joined x beside x_utf8 in
      let now : text_of_leaves (leaves (row_around f last (token_then 0x2C rest))) ≡ text_of_leaves x ++ (0x2C ∷ text_of_leaves beside) =
      ap text_of_leaves is ∙ text_joined x (token 0x2C ∷ beside) x_utf8
      ∙ ap (λ l. text_of_leaves x ++ l) (text_joined (token 0x2C ∷ []) beside (good_first o (token 0x2C ∷ []) beside g1).utf8 ∙ ap (λ l. l ++ text_of_leaves beside) (one_token m)) in
      let before : List ℕ = text_of_leaves (leaves f) in
      let entry : List ℕ = text_of_leaves (leaves_of last) in
      let behind : List ℕ = text_of_leaves beside in
      let of_both : text_of_leaves x ≡ before ++ entry = text_joined (leaves f) (leaves_of last) (utf8_first (leaves f) (leaves_of last) x_utf8) in
      let was_text : text_of_leaves (leaves (row_around f last rest)) ≡ before ++ (entry ++ behind) = text ∙ ap (λ l. l ++ behind) of_both ∙ append_assoc before entry behind in
      let now_text : text_of_leaves (leaves (row_around f last (token_then 0x2C rest))) ≡ before ++ (entry ++ (0x2C ∷ behind)) = now ∙ ap (λ l. l ++ (0x2C ∷ behind)) of_both ∙ append_assoc before entry (0x2C ∷ behind) in
      subst (λ y. Led o k r y (F ++ (places.opening k ∷ text_of_leaves (leaves (row_around f last (token_then 0x2C rest)))))) (sym (ap (λ l. F ++ (places.opening k ∷ l)) was_text ∙ led_regroup (places.opening k) F before (entry ++ behind)))
      (subst (Led o k r ((F ++ (places.opening k ∷ before)) ++ (entry ++ behind))) (sym (ap (λ l. F ++ (places.opening k ∷ l)) now_text ∙ led_regroup (places.opening k) F before (entry ++ (0x2C ∷ behind))))
      (entering.with_comma (F ++ (places.opening k ∷ before)) entry (entries f last beside refl h trivia) (beside_text o beside b g2.pieces)))

-- what is written between two nodes is so in the text
pub spacing_text : {b : Bool} {gap : List Content} → Gap b gap → AllUtf8 gap → Spacing (text_of_leaves gap)
spacing_text coming.nothing u = subst Spacing (sym chars-nil) entering.nothing
spacing_text coming.a_space u = subst Spacing (sym (chars-IsAscii (0x20 ∷ []) (search rules))) entering.a_space
spacing_text (coming.a_line {k = n} {s = s} i) u =
    subst Spacing (sym (text_joined (newline n ∷ []) (whitespace s ∷ []) (u.0, tt)))
    (entering.a_line (line_end_text n) (subst documents.AreSpaces (sym (ap chars (append-nil s))) i.1))

-- behind the new entry
pub gap_blanks : {b : Bool} {gap : List Content} → Gap b gap → AreBlanks gap
gap_blanks coming.nothing = tt
gap_blanks coming.a_space = (refl, tt)
gap_blanks (coming.a_line h) = (refl, (refl, tt))

pub bracket_follows : (back : OrderedTree) (c : ℕ) → IsTrue (not (c == 0x2C)) → IsTrue (not (comma_comes back)) → IsTrue (not (comma_comes (followed_by back (token_then c none))))
bracket_follows none c h e = h
bracket_follows (more content below after) c h e = by (λ (k : IsTrue (not (comma_comes after))). bracket_follows after c h k) (is_trivia content) refl
  where
    by : (IsTrue (not (comma_comes after)) → IsTrue (not (comma_comes (followed_by after (token_then c none))))) → (b : Bool) → is_trivia content ≡ b → IsTrue (not (comma_comes (more content below (followed_by after (token_then c none)))))
    by later true p =
        let was : comma_comes (more content below after) ≡ comma_comes after = rw p refl in
        let now : comma_comes (more content below (followed_by after (token_then c none))) ≡ comma_comes (followed_by after (token_then c none)) = rw p refl in
        subst (λ (x : Bool). IsTrue (not x)) (sym now) (later (subst (λ (x : Bool). IsTrue (not x)) was e))
    by later false p =
        let was : comma_comes (more content below after) ≡ is_comma content = rw p refl in
        let now : comma_comes (more content below (followed_by after (token_then c none))) ≡ is_comma content = rw p refl in
        subst (λ (x : Bool). IsTrue (not x)) (was ∙ sym now) e

pub no_comma_closes : (kind : RowKind) → IsTrue (not (closing kind == 0x2C))
no_comma_closes of_values = refl
no_comma_closes of_properties = refl

pub some_row : (back : OrderedTree) (c : ℕ) → followed_by back (token_then c none) ≡ none → ⊥
some_row none c e = cc
some_row (more content below after) c e = cc

module _ (o : Options) (kind : places.Kind) (z : List ℕ) where
  pub past_some : (ls : List Content) (row : OrderedTree) → (row ≡ none → ⊥) → Reads o kind z (leaves_then ls row) → Reads o kind z row
  past_some [] row h r = r
  past_some (c ∷ ls) row h (inl l) = absurd (none_not ls l.2)
    where
      none_not : (ls : List Content) → leaves_then ls row ≡ none → ⊥
      none_not [] e = h e
      none_not (c ∷ ls) e = cc
  past_some (c ∷ ls) row h (inr (x, r)) = past_some ls row h r

  past_one : (content : Content) (below row : OrderedTree) → (row ≡ none → ⊥) → Reads o kind z (more content below row) → Reads o kind z row
  past_one c b row h (inl l) = absurd (h l.2)
  past_one c b row h (inr (x, r)) = r

  pub past_stretch : (s row : OrderedTree) → (row ≡ none → ⊥) → Reads o kind z (followed_by s row) → Reads o kind z row
  past_stretch none row h r = r
  past_stretch (more c b s) row h r = past_stretch s row h (past_one c b (followed_by s row) (some s) r)
    where
      some : (s : OrderedTree) → followed_by s row ≡ none → ⊥
      some none e = h e
      some (more x y w) e = cc

pub lines_behind : (s row : OrderedTree) → LinesEndLoosely true false (followed_by s row) → LinesEndLoosely true false row
lines_behind none row l = l
lines_behind (more c b s) row l = lines_behind s row l.2

pub lines_past : (ls : List Content) (row : OrderedTree) → LinesEndLoosely true false (leaves_then ls row) → LinesEndLoosely true false row
lines_past [] row l = l
lines_past (c ∷ ls) row l = lines_past ls row l.2

-- what goes on behind it: perhaps a comma, blanks, and the rest as it was
pub record Onward (o : Options) (before : List Content) (back : OrderedTree) (behind : OrderedTree) : Type 0 where
  pub comma : List ℕ
  pub leaf : List Content
  pub gap : List Content
  pub one : ((comma ≡ 0x2C ∷ []) × ((element_count back ≢ 0) ⊎ Gap true before)) ⊎ ((comma ≡ []) × (element_count back ≡ 0))
  pub spaced : Gap false gap
  pub text : text_of_leaves leaf ≡ comma
  pub parts : leaves behind ≡ leaf ++ (gap ++ leaves back)
  pub rows : (z : List ℕ) (kind : places.Kind) (c : ℕ) → Reads o kind z (followed_by behind (token_then c none)) → LinesEndLoosely true false (followed_by behind (token_then c none)) → Reads o kind z (followed_by back (token_then c none)) × LinesEndLoosely true false (followed_by back (token_then c none))

pub onward : (o : Options) (m : Mark 0x2C) {before : List Content} {back behind : OrderedTree} → GoesOn o before back behind → Onward o before back behind
onward o m {back = back} (coming.elements_follow gap g n) = record {
  comma = 0x2C ∷ [];
  leaf = token 0x2C ∷ [];
  gap = gap;
  one = inl (refl, inl n);
  spaced = g;
  text = one_token m;
  parts = ap (λ l. token 0x2C ∷ l) (front_leaves gap back (blanks_trivia gap (gap_blanks g)));
  rows = λ z kind c r l.
      let same : followed_by (leaves_then gap back) (token_then c none) ≡ leaves_then gap (followed_by back (token_then c none)) = leaves_followed gap back (token_then c none) in
      let all : token_then 0x2C (followed_by (leaves_then gap back) (token_then c none)) ≡ token_then 0x2C (leaves_then gap (followed_by back (token_then c none))) = ap (token_then 0x2C) same in
      let r1 = past_some o kind z (token 0x2C ∷ gap) (followed_by back (token_then c none)) (some_row back c) (subst (Reads o kind z) all r) in
      (r1, lines_past (token 0x2C ∷ gap) (followed_by back (token_then c none)) (subst (LinesEndLoosely true false) all l));
}
onward o m {back = back} (coming.none_follow gap g n) = record {
  comma = [];
  leaf = [];
  gap = gap;
  one = inr (refl, n);
  spaced = g;
  text = chars-nil;
  parts = front_leaves gap back (blanks_trivia gap (gap_blanks g));
  rows = λ z kind c r l.
      let same : followed_by (leaves_then gap back) (token_then c none) ≡ leaves_then gap (followed_by back (token_then c none)) = leaves_followed gap back (token_then c none) in
      (past_some o kind z gap (followed_by back (token_then c none)) (some_row back c) (subst (Reads o kind z) same r), lines_past gap (followed_by back (token_then c none)) (subst (LinesEndLoosely true false) same l));
}
onward o m {back = back} (coming.comma_last x b n) = record {
  comma = 0x2C ∷ [];
  leaf = token 0x2C ∷ [];
  gap = [];
  one = inl (refl, inr b);
  spaced = coming.nothing;
  text = one_token m;
  parts = refl;
  rows = λ z kind c r l. (past_some o kind z (token 0x2C ∷ []) (followed_by back (token_then c none)) (some_row back c) r, l.2);
}
