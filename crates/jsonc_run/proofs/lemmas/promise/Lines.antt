-- Where an array or object is put on several lines, in a text; and where commas are set.
use Rattle.std.proofs.Common.{ℕ, ◌≡◌, ◌∙◌, sym, ap, subst, refl, Bool, true, false, ◌||◌, List, inl, inr, ◌⊎◌, [], ◌∷◌, ◌++◌, IsTrue, Option, chars}
use Rattle.std.proofs.lemmas.Str.{chars-nil}
use Rattle.std.proofs.lemmas.List.{append-nil}
use Rattle.jsonc_text.specs.Options.{Options}
use Rattle.jsonc_text.specs.Grammar.{IsDocument}
use Rattle.jsonc_text.specs.Plain.{Plain}
use Rattle.jsonc_text.specs.Gaps.{is_blank}
use Rattle.jsonc_text.specs.Text.{Many, stop, step}
use Rattle.jsonc_tree.specs.Content.{Content, token}
use Rattle.jsonc_tree.specs.OrderedTree.{OrderedTree, none, own_leaf, leaves, followed_by}
use Rattle.jsonc_tree.proofs.OrderedTrees.{leaves-followed_by}
use Rattle.jsonc_sound.specs.Shape.{token_then, printed_text}
use Rattle.jsonc_layout.specs.nodes.Kinds.{is_whitespace, is_newline}
use Rattle.jsonc_sound.specs.Rows.{RowKind, opening, closing}
use Rattle.jsonc_sound.specs.Marks as tree_marks
use Rattle.jsonc_sound.specs.SoundTrees.{SoundTree}
use Rattle.jsonc_sound.specs.TreeChanges.{leaves_of, DocumentChanged}
use Rattle.jsonc_sound.proofs.NodesAlone.{document_alone}
use Rattle.jsonc_sound.proofs.Pieces.{Pieces, document_pieces}
use Rattle.jsonc_sound.proofs.Texts.{AllUtf8}
use Rattle.jsonc_edit.specs.commas.Laws.{allowing, IsAsSaid, OnlyCommas}
use Rattle.jsonc_text.specs.declared.edit.TrailingCommaMode.{TrailingCommaMode}
use Rattle.jsonc_text.specs.declared.edit.TrailingCommaMode.TheVariants.{Never, IfMultiline}
use Rattle.jsonc_edit.proofs.lemmas.commas.WithoutCommas.{gains_loses}
use Rattle.jsonc_edit.specs.multiline.Laws.{bracketed, SpreadAt}
use Rattle.jsonc_edit.specs.multiline.Reflows as reflows
use Rattle.jsonc_edit.specs.multiline.Reflows.{has_newline, is_on_lines, Reflows, SpreadsOut}
use Rattle.jsonc_run.specs.Written.{IsChanged, by_lines, by_commas, IsChangedAt}
use Rattle.jsonc_run.specs.texts.Stretches as documents
use Rattle.jsonc_run.specs.texts.Edits as texts
use Rattle.jsonc_run.specs.texts.Stretches.{Inside, Without, is_space}
use Rattle.jsonc_run.specs.texts.Entering.{HasLineEnd, IsOnLines}
use Rattle.jsonc_run.specs.texts.Edits.{Commas, Does, SetsCommas}
use Rattle.jsonc_sound.specs.Leaves.{is_inner_blank}
use Rattle.jsonc_run.proofs.lemmas.promise.Trivia.{first_text, piece_trivia}
use Rattle.jsonc_run.specs.promise.PlaceLaws.{text_of_leaves, texts_of}
use Rattle.jsonc_run.proofs.lemmas.promise.CommasByPaths.{come_on_lines}
use Rattle.jsonc_run.proofs.lemmas.promise.CommaTexts.{all_same, same_before}
use Rattle.jsonc_run.proofs.lemmas.promise.CommentTexts.{blanks_text}
use Rattle.jsonc_run.proofs.lemmas.promise.Insides.{inside_so, texts_followed, within_so}
use Rattle.jsonc_run.proofs.lemmas.promise.NoneLeft as gone
use Rattle.jsonc_run.proofs.lemmas.promise.NoneLeft.{none_left, NoneLeft}
use Rattle.jsonc_run.proofs.lemmas.promise.NoneMissing as missing
use Rattle.jsonc_run.proofs.lemmas.promise.NoneMissing.{all_trailing, NoneMissing}
use Rattle.jsonc_run.proofs.lemmas.promise.LacksLines.{lacks_line, row_lacks_comments, still_lacks}
use Rattle.jsonc_run.proofs.lemmas.promise.LinesInside.{line_inside}
use Rattle.jsonc_run.proofs.lemmas.promise.PartLines.{parts_on_lines}
use Rattle.jsonc_sort.proofs.Same.{document_same}
use Rattle.jsonc_run.proofs.lemmas.promise.Leaves.{front_of, back_of, document_parts, document_parts_then, document_utf8, text_joined}
use Rattle.jsonc_sound.specs.Documents.{all_marks, document_of}
use Rattle.jsonc_sound.proofs.SeamRows.{container_leaves}
use Rattle.jsonc_run.proofs.lemmas.promise.Trailing.{loses_trailing}
use Rattle.jsonc_run.proofs.lemmas.promise.ReflowedRows.{spread_texts}

-- lists of leaves, of which the second is the first without some blanks
pub data WithoutBlanks : List Content → List Content → Type 0 where
  no_more : WithoutBlanks [] []
  leaf_stays : {c : Content} {x y : List Content} → WithoutBlanks x y → WithoutBlanks (c ∷ x) (c ∷ y)
  blank_leaves : {c : Content} {x y : List Content} → IsTrue (is_whitespace c || is_newline c) → WithoutBlanks x y → WithoutBlanks (c ∷ x) y

-- and without some whitespace
pub data WithoutSpaces : List Content → List Content → Type 0 where
  no_space_more : WithoutSpaces [] []
  solid_stays : {c : Content} {x y : List Content} → WithoutSpaces x y → WithoutSpaces (c ∷ x) (c ∷ y)
  space_leaves : {c : Content} {x y : List Content} → IsTrue (is_whitespace c) → WithoutSpaces x y → WithoutSpaces (c ∷ x) y

same_solids : (ls : List Content) {x y : List Content} → WithoutSpaces x y → WithoutSpaces (ls ++ x) (ls ++ y)
same_solids [] h = h
same_solids (c ∷ ls) h = solid_stays (same_solids ls h)

no_spaces_leave : (ls : List Content) → WithoutSpaces ls ls
no_spaces_leave [] = no_space_more
no_spaces_leave (c ∷ ls) = solid_stays (no_spaces_leave ls)

spaces_then_same : {x y : List Content} (ls : List Content) → WithoutSpaces x y → WithoutSpaces (x ++ ls) (y ++ ls)
spaces_then_same ls no_space_more = no_spaces_leave ls
spaces_then_same ls (solid_stays h) = solid_stays (spaces_then_same ls h)
spaces_then_same ls (space_leaves p h) = space_leaves p (spaces_then_same ls h)

same_leaves : (ls : List Content) {x y : List Content} → WithoutBlanks x y → WithoutBlanks (ls ++ x) (ls ++ y)
same_leaves [] h = h
same_leaves (c ∷ ls) h = leaf_stays (same_leaves ls h)

none_leave : (ls : List Content) → WithoutBlanks ls ls
none_leave [] = no_more
none_leave (c ∷ ls) = leaf_stays (none_leave ls)

then_same : {x y : List Content} (ls : List Content) → WithoutBlanks x y → WithoutBlanks (x ++ ls) (y ++ ls)
then_same ls no_more = none_leave ls
then_same ls (leaf_stays h) = leaf_stays (then_same ls h)
then_same ls (blank_leaves p h) = blank_leaves p (then_same ls h)

-- what two rows are without the blanks that left or came
pub record Between (x y : List Content) : Type 0 where
  pub kept : List Content
  pub first : WithoutSpaces x kept
  pub second : WithoutBlanks y kept

reflowed : {x y : OrderedTree} → Reflows x y → Between (leaves x) (leaves y)
reflowed reflows.ended = record { kept = []; first = no_space_more; second = no_more }
reflowed (reflows.kept {content = c} {below = below} h) =
    let m = reflowed h in
    record { kept = own_leaf c ++ (leaves below ++ m.kept); first = same_solids (own_leaf c) (same_solids (leaves below) m.first); second = same_leaves (own_leaf c) (same_leaves (leaves below) m.second) }
reflowed (reflows.gone h k) = let m = reflowed k in record { kept = m.kept; first = space_leaves refl m.first; second = m.second }
reflowed (reflows.line h k) = let m = reflowed k in record { kept = m.kept; first = m.first; second = blank_leaves refl (blank_leaves refl m.second) }
reflowed (reflows.line_end k) = let m = reflowed k in record { kept = m.kept; first = m.first; second = blank_leaves refl m.second }

pub spread : {x y : OrderedTree} → SpreadsOut x y → Between (leaves x) (leaves y)
spread (reflows.stays {row = row} h) = record { kept = leaves row; first = no_spaces_leave (leaves row); second = none_leave (leaves row) }
spread (reflows.reflows h k g) = reflowed g

all_leave : {x y s r : List ℕ} → Many is_blank s r → r ≡ [] → Without is_blank x y → Without is_blank (s ++ x) y
all_leave {x} {y} stop e h = subst (λ l. Without is_blank (l ++ x) y) (sym e) h
all_leave (step p m) e h = documents.leaves p (all_leave m e h)

pub blanks_leave : (o : Options) {x y : List Content} → WithoutBlanks x y → Pieces o x → AllUtf8 x → Without is_blank (text_of_leaves x) (text_of_leaves y)
blanks_leave o no_more p u = all_same (text_of_leaves [])
blanks_leave o (leaf_stays {c = c} {x = x} {y = y} h) p u =
    subst (λ a. Without is_blank a (text_of_leaves (c ∷ y))) (sym (text_joined (c ∷ []) x (u.0, tt)))
    (subst (λ a. Without is_blank (text_of_leaves (c ∷ []) ++ text_of_leaves x) a) (sym (text_joined (c ∷ []) y (u.0, tt))) (same_before (text_of_leaves (c ∷ [])) (blanks_leave o h p.1 u.1)))
blanks_leave o (blank_leaves {c = c} {x = x} {y = y} q h) p u =
    subst (λ a. Without is_blank a (text_of_leaves y)) (sym (text_joined (c ∷ []) x (u.0, tt))) (all_leave (blanks_text o (c ∷ []) (q, tt) (p.0, tt)) refl (blanks_leave o h p.1 u.1))

inner_leave : {x y s r : List ℕ} → Many is_inner_blank s r → r ≡ [] → Without is_space x y → Without is_space (s ++ x) y
inner_leave {x} {y} stop e h = subst (λ l. Without is_space (l ++ x) y) (sym e) h
inner_leave (step p m) e h = documents.leaves p (inner_leave m e h)

whitespace_leaves : (o : Options) (c : Content) {x y : List ℕ} → IsTrue (is_whitespace c) → Pieces o (c ∷ []) → Without is_space x y → Without is_space (text_of_leaves (c ∷ []) ++ x) y
whitespace_leaves o (Content.whitespace s) {x} {y} q p h =
    let t = piece_trivia o (Content.whitespace s) refl p.0 in
    let text : text_of_leaves (Content.whitespace s ∷ []) ≡ chars s = first_text (Content.whitespace s) [] t.0 ∙ ap (λ l. chars s ++ l) chars-nil ∙ append-nil (chars s) in
    subst (λ l. Without is_space (l ++ x) y) (sym text) (inner_leave t.1 refl h)
whitespace_leaves o c q p h = cc

pub spaces_leave : (o : Options) {x y : List Content} → WithoutSpaces x y → Pieces o x → AllUtf8 x → Without is_space (text_of_leaves x) (text_of_leaves y)
spaces_leave o no_space_more p u = all_same (text_of_leaves [])
spaces_leave o (solid_stays {c = c} {x = x} {y = y} h) p u =
    subst (λ a. Without is_space a (text_of_leaves (c ∷ y))) (sym (text_joined (c ∷ []) x (u.0, tt)))
    (subst (λ a. Without is_space (text_of_leaves (c ∷ []) ++ text_of_leaves x) a) (sym (text_joined (c ∷ []) y (u.0, tt))) (same_before (text_of_leaves (c ∷ [])) (spaces_leave o h p.1 u.1)))
spaces_leave o (space_leaves {c = c} {x = x} {y = y} q h) p u =
    subst (λ a. Without is_space a (text_of_leaves y)) (sym (text_joined (c ∷ []) x (u.0, tt))) (whitespace_leaves o c q (p.0, tt) (spaces_leave o h p.1 u.1))

-- where a line ended already nothing has changed, and else each part is on a line of its own
lines_so : (o : Options) {t u : OrderedTree} {path : List ℕ} → SoundTree o t → SoundTree o u → (kind : RowKind) {row new : OrderedTree} → SpreadsOut row new → (has_newline row ≡ false → IsTrue (is_on_lines new)) → DocumentChanged (bracketed kind row) (bracketed kind new) path t u
    → (w : Option Plain) → ((printed_text u ≡ printed_text t) × HasLineEnd path (document_of o t w)) ⊎ ((HasLineEnd path (document_of o t w) → ⊥) × IsOnLines path (document_of o u w))
lines_so o s r kind {row} (reflows.stays h) f d w = inl (ap printed_text (sym (document_same refl d)), line_inside o kind row s d h w)
lines_so o s r kind {row} {new} (reflows.reflows e h k) f d w = inr (lacks_line o kind row s d e w, parts_on_lines o kind row new r d (f e) (still_lacks k (row_lacks_comments o kind row s d e)) w)

pub multiline_made : (o : Options) (t u : OrderedTree) (w x : Option Plain) (path : List ℕ) → SoundTree o t → SoundTree o u → IsChanged w (texts.ensure_multiline path) x → tree_marks.marks u ≡ tree_marks.marks t → SpreadAt path t u
    → Does (document_of o t w) (texts.ensure_multiline path) (document_of o u x)
multiline_made o t u w _ path s r by_lines m a =
    let close : OrderedTree = token_then (closing a.kind) none in
    let same : texts_of (followed_by a.row close) ≡ texts_of (followed_by a.new close) = texts_followed a.row close ∙ ap (λ l. l ++ texts_of close) (spread_texts a.spreads) ∙ sym (texts_followed a.new close) in
    let inside = inside_so o a.kind s r a.changed w w in
    let b = spread a.spreads in
    let front : List Content = front_of a.changed in
    let back : List Content = back_of a.changed in
    let kept : List Content = front ++ ((token (opening a.kind) ∷ (b.kept ++ leaves close)) ++ back) in
    let first : WithoutSpaces (front ++ ((token (opening a.kind) ∷ (leaves a.row ++ leaves close)) ++ back)) kept = same_solids front (spaces_then_same back (solid_stays (spaces_then_same (leaves close) b.first))) in
    let second : WithoutBlanks (front ++ ((token (opening a.kind) ∷ (leaves a.new ++ leaves close)) ++ back)) kept = same_leaves front (then_same back (leaf_stays (then_same (leaves close) b.second))) in
    let own : (row : OrderedTree) → leaves_of (bracketed a.kind row) ≡ token (opening a.kind) ∷ (leaves row ++ leaves close) = λ row. container_leaves a.kind (followed_by row close) ∙ ap (λ l. token (opening a.kind) ∷ l) (leaves-followed_by row close) in
    let of_t : leaves t ≡ front ++ ((token (opening a.kind) ∷ (leaves a.row ++ leaves close)) ++ back) = document_parts a.changed ∙ ap (λ l. front ++ (l ++ back)) (own a.row) in
    let of_u : leaves u ≡ front ++ ((token (opening a.kind) ∷ (leaves a.new ++ leaves close)) ++ back) = document_parts_then a.changed ∙ ap (λ l. front ++ (l ++ back)) (own a.new) in (
      texts_of (followed_by a.row close),
      subst (λ ts. Inside path (texts_of (followed_by a.row close)) ts (document_of o t w) (document_of o u w)) (sym same) inside,
      (refl, ap all_marks m),
      (
        text_of_leaves kept,
        spaces_leave o (subst (λ l. WithoutSpaces l kept) (sym of_t) first) (document_pieces o (document_alone o s.shaped)) (document_utf8 o s.shaped),
        blanks_leave o (subst (λ l. WithoutBlanks l kept) (sym of_u) second) (document_pieces o (document_alone o r.shaped)) (document_utf8 o r.shaped),
      ),
      lines_so o s r a.kind a.spreads a.lines a.changed w,
    )

-- commas alone have left, or come
pub only_commas : (o : Options) (mode : TrailingCommaMode) {t u : OrderedTree} → SoundTree o t → SoundTree (allowing mode o) u → OnlyCommas mode t u → (w x : Option Plain) → Commas mode (document_of o t w) (document_of (allowing mode o) u x)
only_commas o Never s r h w x = loses_trailing o s h
only_commas o IfMultiline s r h w x = (loses_trailing (allowing IfMultiline o) r (gains_loses h), come_on_lines o s r h w x)

pub same_by_commas : {path : List ℕ} {whole : Bool} {mode : TrailingCommaMode} {w x : Option Plain} → IsChanged w (texts.set_commas whole path mode) x → x ≡ w
same_by_commas by_commas = refl

pub some_commas_made : (o : Options) (t u : OrderedTree) (w x : Option Plain) (path : List ℕ) (mode : TrailingCommaMode) → SoundTree o t → SoundTree (allowing mode o) u → x ≡ w → tree_marks.marks u ≡ tree_marks.marks t → OnlyCommas mode t u → (path ≡ []) ⊎ IsChangedAt path t u
    → SetsCommas path mode (document_of o t w) (document_of (allowing mode o) u x)
some_commas_made o t u w x path mode s r same m h place = (only_commas o mode s r h w x, (same, ap all_marks m), elim place [ inl whole ↦ inl whole | inr at ↦ inr (within_so o (allowing mode o) s r at.2 w x) ])

-- all of them: none is left, or none is missing
abbrev pub AreSet : TrailingCommaMode → Options → List ℕ → OrderedTree → OrderedTree → Type 0
AreSet Never o path t u = NoneLeft o path t u
AreSet IfMultiline o path t u = NoneMissing path t u

pub set_at_path : (mode : TrailingCommaMode) (o : Options) (path : List ℕ) {t u : OrderedTree} (at : IsChangedAt path t u) → IsAsSaid mode o at.1.content at.1.below → AreSet mode o path t u
set_at_path Never o path at a = gone.at_path at a
set_at_path IfMultiline o path at a = missing.at_path at a

pub commas_made : (o : Options) (t u : OrderedTree) (w x : Option Plain) (path : List ℕ) (mode : TrailingCommaMode) → SoundTree (allowing mode o) u → IsDocument (allowing mode o) (printed_text u) x
    → SetsCommas path mode (document_of o t w) (document_of (allowing mode o) u x) → AreSet mode o path t u → Does (document_of o t w) (texts.set_commas true path mode) (document_of (allowing mode o) u x)
commas_made o t u w x path Never sound text sets set = (sets, none_left o path sound x text set)
commas_made o t u w x path IfMultiline sound text sets set = (sets, all_trailing (allowing IfMultiline o) path sound x set)
