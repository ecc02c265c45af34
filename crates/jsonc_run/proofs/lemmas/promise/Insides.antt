-- Where a container of a sound tree is replaced by one of the same kind, nothing outside of it changes, and what its entries' texts are.
use Rattle.std.proofs.Common.{ℕ, suc, ◌≡◌, ◌∙◌, sym, ap, subst, refl, Bool, true, false, List, [], ◌∷◌, ◌++◌, length, Option}
use Rattle.jsonc_text.specs.Options.{Options}
use Rattle.jsonc_text.specs.Plain.{Plain}
use Rattle.jsonc_tree.specs.Content.{Content, newline}
use Rattle.jsonc_tree.specs.OrderedTree.{OrderedTree, none, more, followed_by, Top}
use Rattle.jsonc_tree.specs.Values.{is_passed_over}
use Rattle.jsonc_sound.specs.Shape.{token_then, printed_text}
use Rattle.jsonc_sound.specs.Leaving.{element_count}
use Rattle.jsonc_sound.specs.Rows.{RowKind, container_of}
use Rattle.jsonc_sound.specs.SoundTrees.{SoundTree}
use Rattle.jsonc_sound.specs.TreeChanges.{IsElement, leaves_of, DocumentChanged}
use Rattle.jsonc_sound.specs.TriviaChanges.{AreTrivia, leaves_then}
use Rattle.jsonc_insert.specs.elements.Coming as coming
use Rattle.jsonc_insert.specs.elements.Coming.{FirstLinesLeave, LastLinesLeave, BlankLinesLeave, Gap, CommaInserted, GoesOn}
use Rattle.jsonc_run.specs.texts.Paths.{HasEntries}
use Rattle.jsonc_run.specs.texts.Stretches.{Inside, Within}
use Rattle.jsonc_run.specs.promise.PlaceLaws.{text_of_leaves, node_chars, texts_of}
use Rattle.jsonc_run.proofs.lemmas.promise.Entries.{has_entries, element_text, over_text}
use Rattle.jsonc_run.proofs.lemmas.promise.Reversed.{flip, front_same, back_same}
use Rattle.jsonc_run.proofs.lemmas.promise.Leaves.{front_of, back_of}
use Rattle.jsonc_sound.specs.Documents.{document_of}
use Rattle.jsonc_sound.proofs.RootRows.{trivia_passed}
use Rattle.jsonc_sound.proofs.Entries.{blanks_trivia}
use Rattle.jsonc_run.proofs.lemmas.promise.Values.{at_the_place}

pub inside_so : (o : Options) (kind : RowKind) {row new : OrderedTree} {path : List ℕ} {t u : OrderedTree} (s : SoundTree o t) (r : SoundTree o u) → DocumentChanged (container_of kind row) (container_of kind new) path t u
    → (w x : Option Plain) → Inside path (texts_of row) (texts_of new) (document_of o t w) (document_of o u x)
inside_so o kind {row} {new} {path} {t} {u} s r d w x =
    let first = at_the_place o s d in
    let second = at_the_place o r (flip d) in
    let was : List ℕ = text_of_leaves (leaves_of (container_of kind row)) in
    let now : List ℕ = text_of_leaves (leaves_of (container_of kind new)) in
    let after : printed_text u ≡ text_of_leaves (front_of d) ++ (now ++ text_of_leaves (back_of d)) =
    second.0 ∙ ap (λ l. text_of_leaves l ++ (now ++ text_of_leaves (back_of (flip d)))) (front_same d) ∙ ap (λ l. text_of_leaves (front_of d) ++ (now ++ text_of_leaves l)) (back_same d) in (
      text_of_leaves (front_of d),
      was,
      now,
      text_of_leaves (back_of d),
      first.0,
      after,
      first.1,
      has_entries o kind (text_of_leaves (back_of d)) first.2,
      subst (λ l. HasEntries o (now ++ text_of_leaves l) (texts_of new) (text_of_leaves l)) (back_same d) (has_entries o kind (text_of_leaves (back_of (flip d))) second.2),
    )

-- what changes at a path leaves all outside as it was
pub within_so : (o p : Options) {was now : Top} {path : List ℕ} {t u : OrderedTree} (s : SoundTree o t) (r : SoundTree p u) → DocumentChanged was now path t u → (w x : Option Plain) → Within path (document_of o t w) (document_of p u x)
within_so o p {was} {now} {path} {t} {u} s r d w x =
    let first = at_the_place o s d in
    let second = at_the_place p r (flip d) in
    let after : printed_text u ≡ text_of_leaves (front_of d) ++ (text_of_leaves (leaves_of now) ++ text_of_leaves (back_of d)) =
    second.0 ∙ ap (λ l. text_of_leaves l ++ (text_of_leaves (leaves_of now) ++ text_of_leaves (back_of (flip d)))) (front_same d) ∙ ap (λ l. text_of_leaves (front_of d) ++ (text_of_leaves (leaves_of now) ++ text_of_leaves l)) (back_same d) in
    (text_of_leaves (front_of d), text_of_leaves (leaves_of was), text_of_leaves (leaves_of now), text_of_leaves (back_of d), first.0, after, first.1)

pub texts_followed : (x y : OrderedTree) → texts_of (followed_by x y) ≡ texts_of x ++ texts_of y
texts_followed none y = refl
texts_followed (more c below after) y = by (texts_followed after y) (is_passed_over c) refl
  where
    by : texts_of (followed_by after y) ≡ texts_of after ++ texts_of y → (b : Bool) → is_passed_over c ≡ b → texts_of (more c below (followed_by after y)) ≡ texts_of (more c below after) ++ texts_of y
    by ih true e = over_text c below (followed_by after y) e ∙ ih ∙ ap (λ l. l ++ texts_of y) (sym (over_text c below after e))
    by ih false e =
        let element : IsElement c = rw e refl in
        element_text c below (followed_by after y) element ∙ ap (λ l. node_chars (record { content = c; below = below }) ∷ l) ih ∙ ap (λ l. l ++ texts_of y) (sym (element_text c below after element))

pub texts_past : (ls : List Content) (row : OrderedTree) → AreTrivia ls → texts_of (leaves_then ls row) ≡ texts_of row
texts_past [] row h = refl
texts_past (c ∷ ls) row h = over_text c none (leaves_then ls row) (trivia_passed c h.0) ∙ texts_past ls row h.1

first_lines : {row kept : OrderedTree} → FirstLinesLeave row kept → texts_of row ≡ texts_of kept
first_lines coming.none_first = refl
first_lines (coming.leave_first spaces gone k row h g) =
    texts_past spaces (more (newline k) none (leaves_then gone row)) (blanks_trivia spaces h) ∙ texts_past gone row (blanks_trivia gone g) ∙ sym (texts_past spaces (more (newline k) none row) (blanks_trivia spaces h))

last_lines : {row kept : OrderedTree} → LastLinesLeave row kept → texts_of row ≡ texts_of kept
last_lines coming.none_last = refl
last_lines (coming.leave_last front gone spaces k h g) =
    let tail : OrderedTree = more (newline k) none (leaves_then spaces none) in
    texts_followed front (leaves_then gone tail) ∙ ap (λ l. texts_of front ++ l) (texts_past gone tail (blanks_trivia gone h)) ∙ sym (texts_followed front tail)

pub kept_texts : {row kept : OrderedTree} → BlankLinesLeave row kept → texts_of row ≡ texts_of kept
kept_texts leave = last_lines leave.last ∙ first_lines leave.first

pub gap_trivia : {b : Bool} {ls : List Content} → Gap b ls → AreTrivia ls
gap_trivia coming.nothing = tt
gap_trivia coming.a_space = (refl, tt)
gap_trivia (coming.a_line h) = (refl, (refl, tt))

pub comma_comes : {front led : OrderedTree} → CommaInserted front led → texts_of led ≡ texts_of front
comma_comes coming.none_comes = refl
comma_comes (coming.one_comes front last beside h b) =
    let tail : OrderedTree = leaves_then beside none in
    texts_followed front (more last.content last.below (token_then 0x2C tail)) ∙ ap (λ l. texts_of front ++ l) (element_text last.content last.below (token_then 0x2C tail) h ∙ sym (element_text last.content last.below tail h)) ∙ sym (texts_followed front (more last.content last.below tail))

pub goes_on : {o : Options} {before : List Content} {rest behind : OrderedTree} → GoesOn o before rest behind → texts_of behind ≡ texts_of rest
goes_on {rest = rest} (coming.elements_follow gap g n) = texts_past gap rest (gap_trivia g)
goes_on {rest = rest} (coming.none_follow gap g n) = texts_past gap rest (gap_trivia g)
goes_on (coming.comma_last c b n) = refl

-- as many texts as elements
pub as_many : (row : OrderedTree) → element_count row ≡ length (texts_of row)
as_many none = refl
as_many (more content below after) = by (as_many after) (is_passed_over content) refl
  where
    by : element_count after ≡ length (texts_of after) → (b : Bool) → is_passed_over content ≡ b → element_count (more content below after) ≡ length (texts_of (more content below after))
    by ih true e =
        let count : element_count (more content below after) ≡ element_count after = rw e refl in
        count ∙ ih ∙ ap (λ (l : List (List ℕ)). length l) (sym (over_text content below after e))
    by ih false e =
        let element : IsElement content = rw e refl in
        let count : element_count (more content below after) ≡ suc (element_count after) = rw e refl in
        count ∙ ap suc ih ∙ ap (λ (l : List (List ℕ)). length l) (sym (element_text content below after element))
