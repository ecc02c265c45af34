-- From a node of the row of a sound container to a later one, in a text: entries, commas and gaps.
use Rattle.std.proofs.Common.{ℕ, ◌≡◌, ◌∙◌, sym, ap, subst, inl, inr, true, false, ◌∷◌, List, ◌++◌}
use Rattle.jsonc_text.specs.Options.{Options}
use Rattle.jsonc_run.specs.texts.Paths.{Kind}
use Rattle.jsonc_run.specs.texts.Entering as entering
use Rattle.jsonc_run.specs.texts.Entering.{Along}
use Rattle.jsonc_tree.specs.Content.{Content, token}
use Rattle.jsonc_tree.specs.OrderedTree.{OrderedTree, none, more, followed_by}
use Rattle.jsonc_sound.specs.Lines.{LinesEndLoosely}
use Rattle.jsonc_sound.specs.Shape as shape
use Rattle.jsonc_sound.specs.Shape.{IsTrivia, Trivia, printed_text, token_then}
use Rattle.jsonc_sound.proofs.LooseLines.{Stops, trivia_gap}
use Rattle.jsonc_sound.proofs.ShapeValues.{comma_mark, mark_text}
use Rattle.jsonc_run.proofs.lemmas.promise.LinesInside.{element_stops}
use Rattle.jsonc_run.proofs.lemmas.promise.LooseRows.{is_a_comma, is_a_leaf, is_entry, Reads}

-- a leaf of trivia more
one_more : {o : Options} {a : OrderedTree} {x : Content} {w after : OrderedTree} → Trivia o a (more x w after) → IsTrivia o x → w ≡ none → Trivia o a after
one_more {o} {a} {x} {w} {after} t k e = further (subst (λ y. Trivia o a (more x y after)) e t) (shape.trivia k shape.nothing)
  where
    further : {a b c : OrderedTree} → Trivia o a b → Trivia o b c → Trivia o a c
    further shape.nothing h = h
    further (shape.trivia t g) h = shape.trivia t (further g h)

never_none : (s target : OrderedTree) → (target ≡ none → ⊥) → followed_by s target ≡ none → ⊥
never_none none target some e = some e
never_none (more x w s) target some e = cc

module _ (o : Options) (kind : Kind) (z : List ℕ) (target : OrderedTree) (stops : Stops target) (some : target ≡ none → ⊥) where
  abbrev text : OrderedTree → List ℕ
  text row = printed_text row ++ z

  walk : (start s : OrderedTree) → Trivia o start (followed_by s target) → Reads o kind z (followed_by s target) → LinesEndLoosely true false start → Along o kind (text start) (text target)
  walk start none t r l = entering.past_gap (trivia_gap o z true false (λ y. cc) stops t l).0 entering.there
  walk start (more x w s) t (inl m) l = absurd (never_none s target some m.2)
  walk start (more x w s) t (inr (is_a_leaf k e, reads)) l = walk start s (one_more t k e) reads l
  walk start (more x w s) t (inr (is_entry p q i, reads)) l =
      let m = trivia_gap o z true false (λ y. cc) q t l in
      entering.past_gap m.0 (entering.past_entry i (walk (followed_by s target) s shape.nothing reads m.1.2))
  walk start (more x w s) t (inr (is_a_comma e n, reads)) l =
      let after : OrderedTree = followed_by s target in
      let m = trivia_gap o z true false (λ y. cc) (element_stops x w after e) t l in
      let comma : more x w after ≡ token_then 0x2C after = ap (λ y. more y w after) e ∙ ap (λ y. more (token 0x2C) y after) n in
      let is : text (more x w after) ≡ 0x2C ∷ text after = ap text comma ∙ ap (λ y. y ++ z) (mark_text comma_mark after) in
      entering.past_gap m.0 (subst (λ y. Along o kind y (text target)) (sym is) (entering.past_comma (walk after s shape.nothing reads m.1.2)))

  pub along_row : (s : OrderedTree) → Reads o kind z (followed_by s target) → LinesEndLoosely true false (followed_by s target) → Along o kind (text (followed_by s target)) (text target)
  along_row s reads l = walk (followed_by s target) s shape.nothing reads l
