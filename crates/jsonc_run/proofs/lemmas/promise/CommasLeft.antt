-- The comma that leaves with an entry of a sound tree is its own.
use Rattle.std.proofs.Common.{ℕ, ◌≡◌, ◌∙◌, sym, ap, subst, refl, Bool, true, false, not, List, [], ◌∷◌, ◌++◌, IsTrue}
use Rattle.std.proofs.lemmas.List.{append_assoc}
use Rattle.std.proofs.lemmas.Str.{chars-nil}
use Rattle.jsonc_text.specs.Options.{Options}
use Rattle.jsonc_text.specs.Gaps.{Gap}
use Rattle.jsonc_run.specs.texts.Paths as places
use Rattle.jsonc_run.specs.texts.Paths.{Value}
use Rattle.jsonc_tree.specs.Content.{Content, token}
use Rattle.jsonc_tree.specs.OrderedTree.{OrderedTree, none, more, leaves, followed_by, Top}
use Rattle.jsonc_tree.proofs.OrderedTrees.{leaves-followed_by}
use Rattle.jsonc_sound.specs.Leaving.{among, comma_comes, has_no_comma}
use Rattle.jsonc_sound.specs.Lines.{LinesEndLoosely}
use Rattle.jsonc_sound.specs.Rows.{RowKind, of_values, of_properties, opening, container_of}
use Rattle.jsonc_sound.specs.Shape.{token_then, printed_text}
use Rattle.jsonc_sound.specs.SoundTrees.{SoundTree}
use Rattle.jsonc_sound.specs.TreeChanges.{IsElement, leaves_of}
use Rattle.jsonc_sound.specs.TriviaChanges.{AreTrivia, leaves_then}
use Rattle.jsonc_sound.proofs.Texts.{AllUtf8}
use Rattle.jsonc_sound.proofs.TriviaLeaves.{front_leaves}
use Rattle.jsonc_run.specs.promise.PlaceLaws.{text_of_leaves}
use Rattle.jsonc_run.specs.texts.Entering.{NoCommaComes}
use Rattle.jsonc_run.specs.texts.Leaving.{Comma, Loose, Opens}
use Rattle.jsonc_run.specs.texts.Leaving as leaving
use Rattle.jsonc_run.proofs.lemmas.promise.Leaves.{back_of, document_parts, document_utf8, text_joined, utf8_first, utf8_second}
use Rattle.jsonc_run.proofs.lemmas.promise.LooseRows.{Reads, kind_of_row, behind_comma, behind_entry, loose_text, loose_to, none_comes, reads_on, reads_past, row_reads, trivia_leaves}
use Rattle.jsonc_run.proofs.lemmas.promise.Places.{DocumentItself}
use Rattle.jsonc_sound.proofs.LooseLines.{trivia_gap}
use Rattle.jsonc_sound.proofs.ShapeValues.{bracket_mark, brace_mark, comma_mark, mark_text}
use Rattle.jsonc_sound.proofs.WithoutValue.{among_leaves}
use Rattle.jsonc_sound.proofs.SeamRows.{container_leaves}
use Rattle.jsonc_insert.proofs.lemmas.elements.Stretches.{comma_past}
use Rattle.jsonc_run.proofs.lemmas.promise.RemovedTexts.{comma_text, text_cons}
use Rattle.jsonc_run.proofs.lemmas.promise.Values.{ValueHere, at_the_place}
use Rattle.jsonc_run.proofs.lemmas.promise.Joined.{lines_past, lines_behind, past_some, past_stretch}
use Rattle.jsonc_run.proofs.lemmas.promise.Arriving.{element_stops}

-- which comma leaves a row with its element, by what stands in it
pub data Which (top : Top) (row : OrderedTree) : (comma mid lead trail rest : List Content) → Bool → Type 0 where
  the_one_behind : (front after : OrderedTree) (before between : List Content) {trail rest : List Content} → row ≡ followed_by front (among before top between (token_then 0x2C after))
      → IsElement top.content → AreTrivia before → AreTrivia between → leaves (leaves_then between (token_then 0x2C after)) ≡ trail ++ rest → Which top row [] [] before trail rest true
  one_before : (front mid back : OrderedTree) (before line : List Content) → row ≡ followed_by front (token_then 0x2C (followed_by mid (among before top line back)))
      → IsElement top.content → AreTrivia before → AreTrivia line → IsTrue (has_no_comma mid) → IsTrue (not (comma_comes back)) → Which top row (token 0x2C ∷ []) (leaves mid) before line (leaves back) false
  none_there : (front back : OrderedTree) (before line : List Content) → row ≡ followed_by front (among before top line back)
      → IsElement top.content → AreTrivia before → AreTrivia line → IsTrue (has_no_comma front) → IsTrue (not (comma_comes back)) → Which top row [] [] before line (leaves back) false

some_next : (ls : List Content) (c : Content) (w r : OrderedTree) → leaves_then ls (more c w r) ≡ none → ⊥
some_next [] c w r e = cc
some_next (l ∷ ls) c w r e = cc

comes_behind : (ls : List Content) (row : OrderedTree) → AreTrivia ls → comma_comes (leaves_then ls row) ≡ comma_comes row
comes_behind [] row h = refl
comes_behind (c ∷ ls) row h = comma_past c none (leaves_then ls row) h.0 ∙ comes_behind ls row h.1

module _ (o : Options) {t : OrderedTree} (s : SoundTree o t) (kind : RowKind) {path : List ℕ} {row : OrderedTree} {f b : List Content} (d : DocumentItself (container_of kind row) path t f b) where
  abbrev z : List ℕ
  z = text_of_leaves b

  here : ValueHere o (container_of kind row) z
  here = subst (λ l. ValueHere o (container_of kind row) (text_of_leaves l)) d.last (at_the_place o s d.changed).2

  whole : leaves t ≡ f ++ ((token (opening kind) ∷ leaves row) ++ b)
  whole = document_parts d.changed ∙ ap (λ l. l ++ (leaves_of (container_of kind row) ++ back_of d.changed)) d.first ∙ ap (λ l. f ++ (leaves_of (container_of kind row) ++ l)) d.last ∙ ap (λ l. f ++ (l ++ b)) (container_leaves kind row)

  row_utf8 : AllUtf8 (leaves row ++ b)
  row_utf8 = (utf8_second f ((token (opening kind) ∷ leaves row) ++ b) (subst AllUtf8 whole (document_utf8 o s.shaped))).1

  -- the end of the row, which these leaves are, and what it prints
  ends_so : (r : OrderedTree) (ls : List Content) → leaves r ≡ ls → AllUtf8 (ls ++ b) → printed_text r ++ z ≡ text_of_leaves (ls ++ b)
  ends_so r ls e u = ap (λ l. text_of_leaves l ++ z) e ∙ sym (text_joined ls b (utf8_first ls b u))

  bracket_text : (k : RowKind) (r : OrderedTree) → text_of_leaves (token (opening k) ∷ leaves r) ≡ places.opening (kind_of_row k) ∷ printed_text r
  bracket_text of_values r = mark_text bracket_mark r
  bracket_text of_properties r = mark_text brace_mark r

  opened : (i : ℕ) → Opens o (printed_text t) (path ++ i ∷ []) (printed_text row ++ z)
  opened i =
      let own : List ℕ = text_of_leaves (leaves_of (container_of kind row)) in
      let here : Value path o (printed_text t) (own ++ z) z = subst (λ l. Value path o (printed_text t) (own ++ text_of_leaves l) (text_of_leaves l)) d.last (at_the_place o s d.changed).1 in
      let text : own ++ z ≡ places.opening (kind_of_row kind) ∷ (printed_text row ++ z) = ap (λ l. l ++ z) (ap text_of_leaves (container_leaves kind row) ∙ bracket_text kind row) in
      leaving.a_bracket (kind_of_row kind) path i (subst (λ x. Value path o (printed_text t) x z) text here)

  regrouped : (a c e g i : List Content) → (a ++ (c ++ (e ++ g))) ++ i ≡ a ++ (c ++ (e ++ (g ++ i)))
  regrouped a c e g i = simp (append_assoc) refl

  -- a gap leads to the comma behind it
  comma_next : (top : Top) (front after : OrderedTree) (before between : List Content) (trail rest : List Content) → row ≡ followed_by front (among before top between (token_then 0x2C after)) → IsElement top.content → AreTrivia before
      → AreTrivia between → leaves (leaves_then between (token_then 0x2C after)) ≡ trail ++ rest → Gap o (text_of_leaves trail ++ text_of_leaves (rest ++ b)) (0x2C ∷ (printed_text after ++ z))
  comma_next top front after before between trail rest e el bt wt is =
      let all = row_reads o z kind here in
      let tail : OrderedTree = token_then 0x2C after in
      let inner : OrderedTree = leaves_then between tail in
      let next : OrderedTree = more top.content top.below inner in
      let r0 = subst (Reads o (kind_of_row kind) z) e all.0 in
      let l0 = subst (LinesEndLoosely true false) e all.1 in
      let r1 = past_stretch o (kind_of_row kind) z front (leaves_then before next) (some_next before top.content top.below inner) r0 in
      let r2 = past_some o (kind_of_row kind) z before next (λ w. cc) r1 in
      let r3 = behind_entry o (kind_of_row kind) z top.content top.below inner el r2 in
      let l3 = (lines_past before next (lines_behind front (leaves_then before next) l0)).2 in
      let f = trivia_leaves o (kind_of_row kind) z [] tt (token 0x2C) none after between wt r3 in
      let gap = (trivia_gap o z true false (λ w. cc) tt f l3).0 in
      let row_leaves : leaves row ≡ leaves front ++ (before ++ (leaves_of top ++ (trail ++ rest))) =
      ap leaves e ∙ leaves-followed_by front (among before top between tail) ∙ ap (λ l. leaves front ++ l) (among_leaves before top between tail bt wt ∙ ap (λ l. before ++ (leaves_of top ++ l)) (sym (front_leaves between tail wt) ∙ is)) in
      let u0 : AllUtf8 (leaves front ++ (before ++ (leaves_of top ++ ((trail ++ rest) ++ b)))) = subst AllUtf8 (ap (λ l. l ++ b) row_leaves ∙ regrouped (leaves front) before (leaves_of top) (trail ++ rest) b) row_utf8 in
      let u1 = utf8_second before (leaves_of top ++ ((trail ++ rest) ++ b)) (utf8_second (leaves front) (before ++ (leaves_of top ++ ((trail ++ rest) ++ b))) u0) in
      let u2 : AllUtf8 ((trail ++ rest) ++ b) = utf8_second (leaves_of top) ((trail ++ rest) ++ b) u1 in
      let u3 : AllUtf8 (trail ++ (rest ++ b)) = subst AllUtf8 (append_assoc trail rest b) u2 in
      let from : printed_text inner ++ z ≡ text_of_leaves trail ++ text_of_leaves (rest ++ b) = ends_so inner (trail ++ rest) is u2 ∙ ap text_of_leaves (append_assoc trail rest b) ∙ text_joined trail (rest ++ b) (utf8_first trail (rest ++ b) u3) in
      let to : printed_text tail ++ z ≡ 0x2C ∷ (printed_text after ++ z) = ap (λ y. y ++ z) (mark_text comma_mark after) in
      subst (λ x. Gap o x (0x2C ∷ (printed_text after ++ z))) from (subst (Gap o (printed_text inner ++ z)) to gap)

  -- what stands behind a place of the row
  module _ (top : Top) (back : OrderedTree) (before line : List Content) (element : IsElement top.content) (bt : AreTrivia before) (lt : AreTrivia line) (none_come : IsTrue (not (comma_comes back))) (mid : OrderedTree) (free : IsTrue (has_no_comma mid))
      (u : AllUtf8 (leaves (followed_by mid (among before top line back)) ++ b)) (reads : Reads o (kind_of_row kind) z (followed_by mid (among before top line back))) (lines : LinesEndLoosely true false (followed_by mid (among before top line back))) where
    abbrev own : List Content
    own = leaves_of top

    abbrev tail : List Content
    tail = leaves back ++ b

    abbrev first : OrderedTree
    first = more top.content top.below (leaves_then line back)

    first_leaves : leaves first ≡ own ++ (line ++ leaves back)
    first_leaves = among_leaves [] top line back tt lt

    mid_leaves : leaves (followed_by mid (among before top line back)) ≡ leaves mid ++ (before ++ (own ++ (line ++ leaves back)))
    mid_leaves = leaves-followed_by mid (among before top line back) ∙ ap (λ l. leaves mid ++ l) (among_leaves before top line back bt lt)

    grouped : (a c e g h i : List Content) → (a ++ (c ++ (e ++ (g ++ h)))) ++ i ≡ a ++ (c ++ (e ++ (g ++ (h ++ i))))
    grouped a c e g h i = simp (append_assoc) refl

    u0 : AllUtf8 (leaves mid ++ (before ++ (own ++ (line ++ tail))))
    u0 = subst AllUtf8 (ap (λ l. l ++ b) mid_leaves ∙ grouped (leaves mid) before own line (leaves back) b) u

    u1 : AllUtf8 (before ++ (own ++ (line ++ tail)))
    u1 = utf8_second (leaves mid) (before ++ (own ++ (line ++ tail))) u0

    u2 : AllUtf8 (own ++ (line ++ tail))
    u2 = utf8_second before (own ++ (line ++ tail)) u1

    u3 : AllUtf8 (line ++ tail)
    u3 = utf8_second own (line ++ tail) u2

    line_text : text_of_leaves (line ++ tail) ≡ text_of_leaves line ++ text_of_leaves tail
    line_text = text_joined line tail (utf8_first line tail u3)

    own_text : text_of_leaves (own ++ (line ++ tail)) ≡ text_of_leaves own ++ (text_of_leaves line ++ text_of_leaves tail)
    own_text = text_cons own (line ++ tail) u2 line_text

    mid_text : text_of_leaves (leaves mid ++ (before ++ (own ++ (line ++ tail)))) ≡ text_of_leaves (leaves mid) ++ (text_of_leaves before ++ (text_of_leaves own ++ (text_of_leaves line ++ text_of_leaves tail)))
    mid_text = text_cons (leaves mid) (before ++ (own ++ (line ++ tail))) u0 (text_cons before (own ++ (line ++ tail)) u1 own_text)

    at_first : printed_text first ++ z ≡ text_of_leaves own ++ (text_of_leaves line ++ text_of_leaves tail)
    at_first =
        ends_so first (own ++ (line ++ leaves back)) first_leaves (subst AllUtf8 (sym (append_assoc own (line ++ leaves back) b ∙ ap (λ l. own ++ l) (append_assoc line (leaves back) b))) u2)
        ∙ ap text_of_leaves (append_assoc own (line ++ leaves back) b ∙ ap (λ l. own ++ l) (append_assoc line (leaves back) b)) ∙ own_text

    at_line : printed_text (leaves_then line back) ++ z ≡ text_of_leaves line ++ text_of_leaves tail
    at_line =
        ends_so (leaves_then line back) (line ++ leaves back) (front_leaves line back lt) (subst AllUtf8 (sym (append_assoc line (leaves back) b)) u3)
        ∙ ap text_of_leaves (append_assoc line (leaves back) b) ∙ line_text

    at_mid : printed_text (followed_by mid (among before top line back)) ++ z ≡ text_of_leaves (leaves mid) ++ (text_of_leaves before ++ (text_of_leaves own ++ (text_of_leaves line ++ text_of_leaves tail)))
    at_mid =
        ends_so (followed_by mid (among before top line back)) (leaves mid ++ (before ++ (own ++ (line ++ leaves back)))) mid_leaves (subst AllUtf8 (sym (grouped (leaves mid) before own line (leaves back) b)) u0)
        ∙ ap text_of_leaves (grouped (leaves mid) before own line (leaves back) b) ∙ mid_text

    loose : Loose o (printed_text (followed_by mid (among before top line back)) ++ z) (text_of_leaves own ++ (text_of_leaves line ++ text_of_leaves tail))
    loose =
        subst (Loose o (printed_text (followed_by mid (among before top line back)) ++ z)) at_first
        (loose_text o (kind_of_row kind) z (element_stops top.content top.below (leaves_then line back) element) lines (loose_to o (kind_of_row kind) z mid before top.content top.below (leaves_then line back) reads free bt))

    abbrev second : OrderedTree
    second = leaves_then before first

    later : Reads o (kind_of_row kind) z (leaves_then line back)
    later = behind_entry o (kind_of_row kind) z top.content top.below (leaves_then line back) element (reads_past o (kind_of_row kind) z before top.content top.below (leaves_then line back) (stretch before reads))
      where
        stretch : (ls : List Content) → Reads o (kind_of_row kind) z (followed_by mid (leaves_then ls first)) → Reads o (kind_of_row kind) z (leaves_then ls first)
        stretch [] r = reads_on o (kind_of_row kind) z mid top.content top.below (leaves_then line back) r
        stretch (c ∷ ls) r = reads_on o (kind_of_row kind) z mid c none (leaves_then ls first) r

    not_behind : NoCommaComes o (text_of_leaves line ++ text_of_leaves tail)
    not_behind =
        subst (NoCommaComes o) at_line
        (none_comes o (kind_of_row kind) z (leaves_then line back) later (lines_past before first (lines_behind mid second lines)).2 (subst (λ (x : Bool). IsTrue (not x)) (sym (comes_behind line back lt)) none_come))

  whose : (i : ℕ) {top : Top} {comma mid lead trail rest : List Content} {c : Bool} → Which top row comma mid lead trail rest c
      → Comma (path ++ i ∷ []) o (printed_text t) (text_of_leaves lead) (text_of_leaves (leaves_of top) ++ (text_of_leaves trail ++ text_of_leaves (rest ++ b))) (text_of_leaves trail ++ text_of_leaves (rest ++ b)) c (text_of_leaves comma) (text_of_leaves mid)
  whose i {top} (the_one_behind front after before between {trail = trail} {rest = rest} e el bt wt is) =
      let behind : List ℕ = text_of_leaves trail ++ text_of_leaves (rest ++ b) in
      subst (λ x. Comma (path ++ i ∷ []) o (printed_text t) (text_of_leaves before) (text_of_leaves (leaves_of top) ++ behind) behind true x x) (sym chars-nil)
      (leaving.behind (comma_next top front after before between trail rest e el bt wt is))
  whose i {top} (one_before front mid back before line e el bt lt free come) =
      let all = row_reads o z kind here in
      let inner : OrderedTree = followed_by mid (among before top line back) in
      let r0 = subst (Reads o (kind_of_row kind) z) e all.0 in
      let r1 = reads_on o (kind_of_row kind) z front (token 0x2C) none inner r0 in
      let r2 = behind_comma o (kind_of_row kind) z mid before top.content top.below (leaves_then line back) r1 in
      let l2 = (lines_behind front (token_then 0x2C inner) (subst (LinesEndLoosely true false) e all.1)).2 in
      let parts : leaves row ++ b ≡ leaves front ++ (token 0x2C ∷ (leaves inner ++ b)) = ap (λ r. leaves r ++ b) e ∙ ap (λ l. l ++ b) (leaves-followed_by front (token_then 0x2C inner)) ∙ append_assoc (leaves front) (token 0x2C ∷ leaves inner) b in
      let u2 : AllUtf8 (leaves inner ++ b) = (utf8_second (leaves front) (token 0x2C ∷ (leaves inner ++ b)) (subst AllUtf8 parts row_utf8)).1 in
      let l = loose top back before line el bt lt come mid free u2 r2 l2 in
      let n = not_behind top back before line el bt lt come mid free u2 r2 l2 in
      let m = at_mid top back before line el bt lt come mid free u2 r2 l2 in
      let entry : List ℕ = text_of_leaves (leaves_of top) ++ (text_of_leaves line ++ text_of_leaves (leaves back ++ b)) in
      subst (λ x. Comma (path ++ i ∷ []) o (printed_text t) (text_of_leaves before) entry (text_of_leaves line ++ text_of_leaves (leaves back ++ b)) false x (text_of_leaves (leaves mid))) (sym comma_text) (leaving.before_it n (subst (λ x. Loose o x entry) m l))
  whose i {top} (none_there front back before line e el bt lt free come) =
      let all = row_reads o z kind here in
      let r2 = subst (Reads o (kind_of_row kind) z) e all.0 in
      let l2 = subst (LinesEndLoosely true false) e all.1 in
      let u2 = subst (λ r. AllUtf8 (leaves r ++ b)) e row_utf8 in
      let l = loose top back before line el bt lt come front free u2 r2 l2 in
      let n = not_behind top back before line el bt lt come front free u2 r2 l2 in
      let entry : List ℕ = text_of_leaves (leaves_of top) ++ (text_of_leaves line ++ text_of_leaves (leaves back ++ b)) in
      subst (λ x. Comma (path ++ i ∷ []) o (printed_text t) (text_of_leaves before) entry (text_of_leaves line ++ text_of_leaves (leaves back ++ b)) false x x) (sym chars-nil)
      (leaving.none n (opened i) (subst (λ r. Loose o (printed_text r ++ z) entry) (sym e) l))

  pub comma_so : (i : ℕ) {top : Top} {comma mid lead trail rest : List Content} {c : Bool} → Which top row comma mid lead trail rest c → (back : List Content) → rest ++ b ≡ back
      → Comma (path ++ i ∷ []) o (printed_text t) (text_of_leaves lead) (text_of_leaves (leaves_of top) ++ (text_of_leaves trail ++ text_of_leaves back)) (text_of_leaves trail ++ text_of_leaves back) c (text_of_leaves comma) (text_of_leaves mid)
  comma_so i {top} {comma} {mid} {lead} {trail} {rest} {c} w back e =
      subst (λ l. Comma (path ++ i ∷ []) o (printed_text t) (text_of_leaves lead) (text_of_leaves (leaves_of top) ++ (text_of_leaves trail ++ text_of_leaves l)) (text_of_leaves trail ++ text_of_leaves l) c (text_of_leaves comma) (text_of_leaves mid)) e (whose i w)
