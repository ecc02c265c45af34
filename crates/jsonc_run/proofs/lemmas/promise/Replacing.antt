-- Where a value is replaced with spaces at the seams in sound trees, it is replaced so in the texts.
use Rattle.std.proofs.Common.{false, Bool, ℕ, ◌≡◌, ◌⊎◌, ◌∙◌, sym, ap, subst, refl, inl, inr, true, List, [], ◌++◌, Option, Some, None}
use Rattle.std.proofs.lemmas.List.{append_assoc}
use Rattle.jsonc_text.specs.Options.{Options}
use Rattle.jsonc_text.specs.Plain.{Plain}
use Rattle.jsonc_tree.specs.Content.{Content}
use Rattle.jsonc_tree.specs.OrderedTree.{OrderedTree, leaves, Top}
use Rattle.jsonc_tree.specs.Values.{DocumentValueOf}
use Rattle.jsonc_sound.specs.Shape.{printed_text}
use Rattle.jsonc_layout.proofs.lemmas.from_input.Meanings.{laid_value}
use Rattle.jsonc_layout.specs.from_input.Texts.{IsOfTexts}
use Rattle.jsonc_sound.specs.Changes as tree_changes
use Rattle.jsonc_sound.specs.Alone.{ValueAlone}
use Rattle.jsonc_sound.specs.SoundTrees.{SoundTree}
use Rattle.jsonc_sound.specs.Spaces.{is_bare, is_bare_leaf}
use Rattle.jsonc_sound.specs.TreeChanges.{leaves_of}
use Rattle.jsonc_sound.specs.Sound.{HasValue}
use Rattle.jsonc_sound.proofs.Values.{document_change}
use Rattle.jsonc_sound.proofs.NodesAlone.{document_alone, value_alone}
use Rattle.jsonc_sound.proofs.Pieces.{Pieces, document_pieces}
use Rattle.jsonc_sound.proofs.Texts.{AllUtf8}
use Rattle.jsonc_edit.proofs.NearestLeaves.{value_first, value_last}
use Rattle.jsonc_edit.proofs.OneValue.{document_once}
use Rattle.jsonc_edit.proofs.Spacing.{spaces_value}
use Rattle.jsonc_insert.specs.named.Values.{ReplacesValue}
use Rattle.jsonc_edit.specs.SeamPlaces.{DocumentHolds, ReplacedWithSeams}
use Rattle.jsonc_edit.specs.Seams.{space_if}
use Rattle.jsonc_text.specs.Marks.{Mark, literals_of}
use Rattle.jsonc_run.specs.texts.Paths.{Value}
use Rattle.jsonc_run.specs.texts.Entries.{Becomes}
use Rattle.jsonc_run.specs.texts.Layout.{IsLaid}
use Rattle.jsonc_run.specs.texts.Edits.{BesideTruth, EndsInHexadecimal, Puts, PutsValue}
use Rattle.jsonc_run.specs.texts.Stretches.{IsSeam, Text}
use Rattle.jsonc_run.specs.promise.PlaceLaws.{text_of_leaves}
use Rattle.jsonc_sound.specs.Adjacent.{last_printed}
use Rattle.jsonc_sound.specs.Booleans.{is_hex_leaf}
use Rattle.jsonc_run.proofs.lemmas.promise.Hexadecimal.{ends_in_hex, hex_front, hex_leaves, AllHex}
use Rattle.jsonc_run.proofs.lemmas.promise.Leaves.{back_of, document_parts, document_utf8, text_joined, utf8_first, utf8_second}
use Rattle.jsonc_run.proofs.lemmas.promise.LaidTexts.{is_laid}
use Rattle.jsonc_run.proofs.lemmas.promise.Plains.{changed}
use Rattle.jsonc_sound.specs.Documents.{document_of}
use Rattle.jsonc_edit.proofs.SoundValues.{some_value}
use Rattle.jsonc_run.proofs.lemmas.promise.Stretches.{Begins, laid_literals, marks_in, parted, parted_as, pieces_first, pieces_second, seam_unmarked, space_behind_unmarked, value_begins}
use Rattle.jsonc_run.proofs.lemmas.promise.Values.{at_the_place}
use Rattle.jsonc_run.proofs.lemmas.promise.Places.{document_itself, silent_then, seam_if, space_text, seam_then}
use Rattle.jsonc_run.proofs.lemmas.promise.Bare.{AllSpelled, BeginsBare, EndsBare, begins_before, begins_so, ends_behind, ends_so, meets, seam_due, spelled, spelled_first, spelled_second}

module _ (o : Options) where
  -- what is at a path of a sound tree between leaves is in the text between what they print
  pub record Printed (top : Top) (path : List ℕ) (t : OrderedTree) (f b : List Content) : Type 0 where
    pub whole : leaves t ≡ f ++ (leaves_of top ++ b)
    pub begins : Begins (leaves_of top ++ b)
    pub utf8 : AllUtf8 (f ++ (leaves_of top ++ b))
    pub text : printed_text t ≡ text_of_leaves f ++ (text_of_leaves (leaves_of top) ++ text_of_leaves b)
    pub stands : Value path o (printed_text t) (text_of_leaves (leaves_of top) ++ text_of_leaves b) (text_of_leaves b)
    pub alone : ValueAlone o top.content top.below

  pub printed : {top : Top} {path : List ℕ} {t : OrderedTree} {f b : List Content} → SoundTree o t → DocumentHolds top path t f b → Printed top path t f b
  printed {top} {path} {t} {f} {b} s h =
      let m = document_itself h in
      let place = at_the_place o s m.changed in
      let own : List ℕ = text_of_leaves (leaves_of top) in
      let whole : leaves t ≡ f ++ (leaves_of top ++ b) = document_parts m.changed ∙ ap (λ l. l ++ (leaves_of top ++ back_of m.changed)) m.first ∙ ap (λ l. f ++ (leaves_of top ++ l)) m.last in
      record {
        whole = whole;
        begins = value_begins o b place.2.shaped;
        utf8 = subst AllUtf8 whole (document_utf8 o s.shaped);
        text = place.0 ∙ ap (λ l. text_of_leaves l ++ (own ++ text_of_leaves (back_of m.changed))) m.first ∙ ap (λ l. text_of_leaves f ++ (own ++ text_of_leaves l)) m.last;
        stands = subst (λ l. Value path o (printed_text t) (own ++ text_of_leaves l) (text_of_leaves l)) m.last place.1;
        alone = value_alone o place.2.shaped;
      }

  module _ {was now : Top} {path : List ℕ} {t u : OrderedTree} (s : SoundTree o t) (r : SoundTree o u) (g : ReplacedWithSeams path was now t u) where
    abbrev old_own : List ℕ
    old_own = text_of_leaves (leaves_of was)

    abbrev new_own : List ℕ
    new_own = text_of_leaves (leaves_of now)

    first : Printed was path t g.front (g.quiet ++ g.rest)
    first = printed s g.stood

    second : Printed now path u (g.front ++ space_if g.before) (g.quiet ++ (space_if g.behind ++ g.rest))
    second = printed r g.stands

    old_back : text_of_leaves (g.quiet ++ g.rest) ≡ text_of_leaves g.rest
    old_back = silent_then g.quiet g.rest g.silent (utf8_second (leaves_of was) (g.quiet ++ g.rest) (utf8_second g.front (leaves_of was ++ (g.quiet ++ g.rest)) first.utf8))

    back_utf8 : AllUtf8 (g.quiet ++ (space_if g.behind ++ g.rest))
    back_utf8 = utf8_second (leaves_of now) (g.quiet ++ (space_if g.behind ++ g.rest)) (utf8_second (g.front ++ space_if g.before) (leaves_of now ++ (g.quiet ++ (space_if g.behind ++ g.rest))) second.utf8)

    new_back : text_of_leaves (g.quiet ++ (space_if g.behind ++ g.rest)) ≡ seam_if g.behind ++ text_of_leaves g.rest
    new_back = seam_then g.quiet g.rest g.behind g.silent back_utf8

    front_utf8 : AllUtf8 (g.front ++ space_if g.before)
    front_utf8 = utf8_first (g.front ++ space_if g.before) (leaves_of now ++ (g.quiet ++ (space_if g.behind ++ g.rest))) second.utf8

    new_front : text_of_leaves (g.front ++ space_if g.before) ≡ text_of_leaves g.front ++ seam_if g.before
    new_front = text_joined g.front (space_if g.before) (utf8_first g.front (space_if g.before) front_utf8) ∙ ap (λ l. text_of_leaves g.front ++ l) (space_text g.before)

    -- the new value, where it is a literal without quotes, and what is printed next to it
    own_spelled : AllSpelled (leaves_of now)
    own_spelled = spelled_first (leaves_of now) (g.quiet ++ (space_if g.behind ++ g.rest)) (spelled_second (g.front ++ space_if g.before) (leaves_of now ++ (g.quiet ++ (space_if g.behind ++ g.rest))) (subst AllSpelled second.whole (spelled o r)))

    own_utf8 : AllUtf8 (leaves_of now)
    own_utf8 = utf8_first (leaves_of now) (g.quiet ++ (space_if g.behind ++ g.rest)) (utf8_second (g.front ++ space_if g.before) (leaves_of now ++ (g.quiet ++ (space_if g.behind ++ g.rest))) second.utf8)

    own_begins : is_bare now.content ≡ true → BeginsBare new_own
    own_begins e = let told = value_first o second.alone in begins_so (leaves_of now) own_utf8 own_spelled (ap is_bare_leaf told.1 ∙ told.2 ∙ e)

    own_ends : is_bare now.content ≡ true → EndsBare new_own
    own_ends e = let told = value_last o second.alone in ends_so (leaves_of now) own_utf8 own_spelled (ap is_bare_leaf told.1 ∙ told.2 ∙ e)

    was_spelled : AllSpelled (g.front ++ (leaves_of was ++ (g.quiet ++ g.rest)))
    was_spelled = subst AllSpelled first.whole (spelled o s)

    before_due : IsSeam (text_of_leaves g.front) (new_own ++ (seam_if g.behind ++ text_of_leaves g.rest)) (seam_if g.before)
    before_due = seam_due g.before (λ e.
        let parts = g.parts_before o s e in
        let ends = ends_so g.front (utf8_first g.front (leaves_of was ++ (g.quiet ++ g.rest)) first.utf8) (spelled_first g.front (leaves_of was ++ (g.quiet ++ g.rest)) was_spelled) parts.1 in
        meets ends (begins_before (seam_if g.behind ++ text_of_leaves g.rest) (own_begins parts.0)))

    behind_due : IsSeam (text_of_leaves g.front ++ (seam_if g.before ++ new_own)) (text_of_leaves g.rest) (seam_if g.behind)
    behind_due = seam_due g.behind (λ e.
        let parts = g.parts_behind o s e in
        let begins = begins_so (g.quiet ++ g.rest) (utf8_second (leaves_of was) (g.quiet ++ g.rest) (utf8_second g.front (leaves_of was ++ (g.quiet ++ g.rest)) first.utf8))
        (spelled_second (leaves_of was) (g.quiet ++ g.rest) (spelled_second g.front (leaves_of was ++ (g.quiet ++ g.rest)) was_spelled)) parts.1 in
        meets (ends_behind (text_of_leaves g.front) (ends_behind (seam_if g.before) (own_ends parts.0))) (subst BeginsBare old_back begins))

    own_pieces : Pieces o (leaves_of now)
    own_pieces =
        let behind_new : List Content = g.quiet ++ (space_if g.behind ++ g.rest) in
        pieces_first o (leaves_of now) behind_new (pieces_second o (g.front ++ space_if g.before) (leaves_of now ++ behind_new) (subst (Pieces o) second.whole (document_pieces o (document_alone o r.shaped))))

    -- the stretch of the text that is replaced, with its seams
    pub puts_with_seams : (w x : Option Plain) (come : List Mark) → marks_in (leaves_of now) ≡ come → {Is : List ℕ → Type 0} → (Pieces o (leaves_of now) → AllUtf8 (leaves_of now) → Is new_own)
        → {Beside : List ℕ → List ℕ → List ℕ → Type 0} → Beside (text_of_leaves g.front) (seam_if g.before) (seam_if g.behind) → Puts Beside (Value path) Is come (document_of o t w) (document_of o u x)
    puts_with_seams w x come is {Is} laid_so {Beside} beside =
        let text : Text (text_of_leaves g.front) old_own (seam_if g.before) new_own (seam_if g.behind) (text_of_leaves g.rest) (document_of o t w) (document_of o u x) =
        record {
          before = first.text ∙ ap (λ l. text_of_leaves g.front ++ (old_own ++ l)) old_back;
          after =
              second.text ∙ ap (λ l. l ++ (new_own ++ text_of_leaves (g.quiet ++ (space_if g.behind ++ g.rest)))) new_front
              ∙ ap (λ l. (text_of_leaves g.front ++ seam_if g.before) ++ (new_own ++ l)) new_back
              ∙ append_assoc (text_of_leaves g.front) (seam_if g.before) (new_own ++ (seam_if g.behind ++ text_of_leaves g.rest));
          sides = (before_due, behind_due);
        } in
        let old_parted = parted o s w g.front (leaves_of was) (g.quiet ++ g.rest) first.whole first.begins
        (text_joined (leaves_of was) (g.quiet ++ g.rest) (utf8_first (leaves_of was) (g.quiet ++ g.rest) (utf8_second g.front (leaves_of was ++ (g.quiet ++ g.rest)) first.utf8)) ∙ ap (λ l. old_own ++ l) old_back) old_back in
        let behind_new : List Content = g.quiet ++ (space_if g.behind ++ g.rest) in
        let new_parted = parted o r x (g.front ++ space_if g.before) (leaves_of now) behind_new second.whole second.begins
        (text_joined (leaves_of now) behind_new (utf8_first (leaves_of now) behind_new (utf8_second (g.front ++ space_if g.before) (leaves_of now ++ behind_new) second.utf8)) ∙ ap (λ l. new_own ++ l) new_back) new_back in (
          text_of_leaves g.front,
          old_own,
          seam_if g.before,
          new_own,
          seam_if g.behind,
          text_of_leaves g.rest,
          text,
          beside,
          laid_so own_pieces own_utf8,
          subst (λ l. Value path o (printed_text t) (old_own ++ l) l) old_back first.stands,
          subst (λ l. Value path o (printed_text u) (new_own ++ l) l) new_back second.stands,
          marks_in g.front,
          marks_in (leaves_of was),
          marks_in (g.quiet ++ g.rest),
          old_parted,
          parted_as (space_behind_unmarked g.front g.before) is (seam_unmarked g.quiet g.behind g.rest) new_parted,
        )

-- the value that stood at the path, and that it has been replaced in the document's
pub value_becomes : (o : Options) {t u : OrderedTree} (w x : Option Plain) → DocumentValueOf o t w → DocumentValueOf o u x → (path : List ℕ) (v : Plain) → IsOfTexts v → (given : ReplacesValue path v t u)
    → (was : Plain) × HasValue o given.was was × Becomes was v path w x
value_becomes o {u = u} w x h k path v texts given = by w (spaces_value o w given.spaces h)
  where
    by : (w : Option Plain) → DocumentValueOf o given.spaced w → (was : Plain) × HasValue o given.was was × Becomes was v path w x
    by None h = absurd (some_value o given.changed h)
    by (Some w) h =
        let m = document_change o w v given.changed (laid_value o given.layout v texts) h in
        (m.0, m.2, subst (Becomes m.0 v path (Some w)) (document_once o u (Some m.1) x m.4 k) (changed m.3))

-- so it has in the document's value, in the words of trees
pub value_changed : (o : Options) {t u : OrderedTree} (x y : Plain) → DocumentValueOf o t (Some x) → DocumentValueOf o u (Some y) → (path : List ℕ) (v : Plain) → IsOfTexts v → (given : ReplacesValue path v t u)
    → (was : Plain) × HasValue o given.was was × tree_changes.Changed was v path x y
value_changed o {u = u} x y h k path v texts given =
    let m = document_change o x v given.changed (laid_value o given.layout v texts) (spaces_value o (Some x) given.spaces h) in
    let both : Some m.1 ≡ Some y = document_once o u (Some m.1) (Some y) m.4 k in
    let same : m.1 ≡ y = cc in
    (m.0, m.2, subst (λ z. tree_changes.Changed m.0 v path x z) same m.3)

pub value_put_so : (o : Options) {t u : OrderedTree} → SoundTree o t → SoundTree o u → (w x : Option Plain) → (path : List ℕ) (v : Plain) → IsOfTexts v → ReplacesValue path v t u
    → (was : Plain) → Becomes was v path w x → PutsValue was v path (document_of o t w) (document_of o u x)
value_put_so o {t} {u} s r w x path v texts given was becomes =
    (puts_with_seams o s r given.seams w x (literals_of v) (laid_literals given.layout v texts) (is_laid o given.layout v texts) tt, becomes)

no_true : (b : Bool) → (b ≡ true → false ≡ true) → b ≡ false
no_true true h = sym (h refl)
no_true false h = refl

-- a truth value, behind which no space comes, nor before it but behind a hexadecimal number
pub boolean_put_so : (o : Options) {t u : OrderedTree} → SoundTree o t → SoundTree o u → (w x : Option Plain) → (path : List ℕ) (b : Bool) → (given : ReplacesValue path (Plain.boolean b) t u)
    → given.seams.behind ≡ false → (b ≡ true → given.seams.before ≡ false) → (given.seams.before ≡ true → is_hex_leaf (last_printed given.seams.front) ≡ true) → Puts (BesideTruth b) (Value path) (IsLaid (Plain.boolean b)) (literals_of (Plain.boolean b)) (document_of o t w) (document_of o u x)
boolean_put_so o s r w x path b given behind before hex =
    puts_with_seams o s r given.seams w x (literals_of (Plain.boolean b)) (laid_literals given.layout (Plain.boolean b) tt) (is_laid o given.layout (Plain.boolean b) tt) (ap seam_if behind, beside given.seams.before refl)
  where
    beside : (c : Bool) → given.seams.before ≡ c → (seam_if given.seams.before ≡ []) ⊎ ((b ≡ false) × EndsInHexadecimal (text_of_leaves given.seams.front))
    beside false e = inl (ap seam_if e)
    beside true e =
        let first = printed o s given.seams.stood in
        let rest : List Content = leaves_of given.was ++ (given.seams.quiet ++ given.seams.rest) in
        inr (no_true b (λ k. sym (before k) ∙ e), ends_in_hex given.seams.front (utf8_first given.seams.front rest first.utf8) (hex_front given.seams.front rest (subst AllHex first.whole (hex_leaves o s))) (hex e))

pub value_put : (o : Options) {t u : OrderedTree} → SoundTree o t → SoundTree o u → (w x : Option Plain) → DocumentValueOf o t w → DocumentValueOf o u x → (path : List ℕ) (v : Plain) → IsOfTexts v → ReplacesValue path v t u
    → (was : Plain) × PutsValue was v path (document_of o t w) (document_of o u x)
value_put o s r w x h k path v texts given =
    let m = value_becomes o w x h k path v texts given in
    (m.0, value_put_so o s r w x path v texts given m.0 m.2)
