-- The row behind an entry, where a gap leads to a comma and from there to the last bracket.
use Rattle.std.proofs.Common.{ℕ, ◌≡◌, ◌∙◌, sym, ap, subst, refl, inl, inr, true, false, not, List, ◌∷◌, ◌++◌, IsTrue}
use Rattle.jsonc_text.specs.Options.{Options}
use Rattle.jsonc_text.specs.Gaps.{Gap}
use Rattle.jsonc_text.proofs.Basics.{apart, tails}
use Rattle.jsonc_text.proofs.Begins.{begins_item}
use Rattle.jsonc_text.proofs.UniqueGaps.{begins_gap, gap_unique}
use Rattle.jsonc_text.proofs.UniqueValues.{no_item_at, not_gap}
use Rattle.jsonc_tree.specs.Content.{Content, token}
use Rattle.jsonc_tree.specs.OrderedTree.{OrderedTree, none, more}
use Rattle.jsonc_sound.specs.Lines.{LinesEndLoosely}
use Rattle.jsonc_sound.specs.Shape as shape
use Rattle.jsonc_sound.specs.Shape.{IsTrivia, Trivia, printed_text, token_then}
use Rattle.jsonc_sound.proofs.LooseLines.{trivia_gap}
use Rattle.jsonc_sound.proofs.ShapeValues.{comma_mark, mark_text}
use Rattle.jsonc_run.specs.texts.Paths.{Kind, an_array, an_object, closing}
use Rattle.jsonc_run.proofs.lemmas.promise.LinesInside.{element_stops, further}
use Rattle.jsonc_run.proofs.lemmas.promise.LooseRows.{Reads, entry_starts, is_a_comma, is_a_leaf, is_entry}

closing_no_gap : (kind : Kind) → IsTrue (not (begins_gap (closing kind)))
closing_no_gap an_array = refl
closing_no_gap an_object = refl

closing_no_comma : (k : Kind) {r s : List ℕ} → closing k ∷ r ≡ 0x2C ∷ s → ⊥
closing_no_comma an_array e = apart refl e
closing_no_comma an_object e = apart refl e

closing_no_item : (k : Kind) → begins_item (closing k) ≡ false
closing_no_item an_array = refl
closing_no_item an_object = refl

module _ (o : Options) (kind : Kind) (z : List ℕ) where
  abbrev text : OrderedTree → List ℕ
  text row = printed_text row ++ z

  -- trivia, a comma, trivia and the last bracket
  pub record TrailsOff (row : OrderedTree) : Type 0 where
    pub rest : OrderedTree
    pub to_comma : Trivia o row (token_then 0x2C rest)
    pub to_bracket : Trivia o rest (token_then (closing kind) none)

  abbrev Closes : OrderedTree → Type 0
  Closes row = Trivia o row (token_then (closing kind) none)

  last_is : {content : Content} {below after : OrderedTree} → content ≡ token (closing kind) → below ≡ none → after ≡ none → more content below after ≡ token_then (closing kind) none
  last_is {content} {below} {after} c b a = ap (λ x. more x below after) c ∙ ap (λ x. more (token (closing kind)) x after) b ∙ ap (λ x. more (token (closing kind)) none x) a

  comma_is : {content : Content} {below : OrderedTree} (after : OrderedTree) → content ≡ token 0x2C → below ≡ none → more content below after ≡ token_then 0x2C after
  comma_is {content} {below} after c b = ap (λ x. more x below after) c ∙ ap (λ x. more (token 0x2C) x after) b

  leaf_on : {start : OrderedTree} {x : Content} {w after : OrderedTree} → Trivia o start (more x w after) → IsTrivia o x → w ≡ none → Trivia o start after
  leaf_on {start} {x} {w} {after} t k e = further (subst (λ y. Trivia o start (more x y after)) e t) (shape.trivia k shape.nothing)

  -- where a gap leads to a last bracket, the row's comes past trivia
  closes_there : (start row : OrderedTree) → Trivia o start row → Reads o kind z row → LinesEndLoosely true false start → (k : Kind) (s : List ℕ) → Gap o (text start) (closing k ∷ s) → Closes start
  closes_there start none t r l k s g = absurd r
  closes_there start (more x w after) t (inl m) l k s g = subst (Trivia o start) (last_is m.3 m.4 m.2) t
  closes_there start (more x w after) t (inr (is_a_leaf h e, reads)) l k s g = closes_there start after (leaf_on t h e) reads l k s g
  closes_there start (more x w after) t (inr (is_entry p st q, reads)) l k s g =
      let begins = entry_starts o kind (text (more x w after)) (text after) q in
      absurd (no_item_at (closing_no_item k) (gap_unique g (trivia_gap o z true false (λ e. cc) st t l).0 (closing_no_gap k) (not_gap (text (more x w after)) begins)) begins)
  closes_there start (more x w after) t (inr (is_a_comma e n, reads)) l k s g =
      let row : text (more x w after) ≡ 0x2C ∷ text after = ap text (comma_is after e n) ∙ ap (λ y. y ++ z) (mark_text comma_mark after) in
      absurd (closing_no_comma k (gap_unique g (subst (Gap o (text start)) row (trivia_gap o z true false (λ e. cc) (element_stops x w after e) t l).0) (closing_no_gap k) refl))

  -- and where it leads to a comma and from there to a last bracket, the row trails off
  pub trails_off : (start row : OrderedTree) → Trivia o start row → Reads o kind z row → LinesEndLoosely true false start → (k : Kind) (t s : List ℕ) → Gap o (text start) (0x2C ∷ t) → Gap o t (closing k ∷ s) → TrailsOff start
  trails_off start none f r l k t s g h = absurd r
  trails_off start (more x w after) f (inl m) l k t s g h =
      absurd (closing_no_comma kind (sym (gap_unique g (subst (Gap o (text start)) m.1 (trivia_gap o z true false (λ e. cc) m.0 f l).0) refl (closing_no_gap kind)) ∙ refl))
  trails_off start (more x w after) f (inr (is_a_leaf i e, reads)) l k t s g h = trails_off start after (leaf_on f i e) reads l k t s g h
  trails_off start (more x w after) f (inr (is_entry p st q, reads)) l k t s g h =
      let begins = entry_starts o kind (text (more x w after)) (text after) q in
      absurd (no_item_at refl (gap_unique g (trivia_gap o z true false (λ e. cc) st f l).0 refl (not_gap (text (more x w after)) begins)) begins)
  trails_off start (more x w after) f (inr (is_a_comma e n, reads)) l k t s g h =
      let row : text (more x w after) ≡ 0x2C ∷ text after = ap text (comma_is after e n) ∙ ap (λ y. y ++ z) (mark_text comma_mark after) in
      let gap = trivia_gap o z true false (λ e. cc) (element_stops x w after e) f l in
      let same : 0x2C ∷ t ≡ 0x2C ∷ text after = gap_unique g (subst (Gap o (text start)) row gap.0) refl refl in
      record {
        rest = after;
        to_comma = subst (Trivia o start) (comma_is after e n) f;
        to_bracket = closes_there after after shape.nothing reads gap.1.2 k s (subst (λ y. Gap o y (closing k ∷ s)) (tails same) h);
      }
