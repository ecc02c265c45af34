-- An element of a row that is put together of stretches.
use Rattle.std.proofs.Common.{ℕ, suc, ◌+◌, ◌≡◌, sym, subst, refl, Bool, true, false, List, [], ◌∷◌, arith}
use Rattle.jsonc_text.specs.Options.{Options}
use Rattle.jsonc_tree.specs.Content.{Content}
use Rattle.jsonc_tree.specs.OrderedTree.{OrderedTree, none, more, leaves, followed_by, Top}
use Rattle.jsonc_tree.specs.Values.{is_passed_over}
use Rattle.jsonc_sound.specs.Shape as shape
use Rattle.jsonc_sound.specs.Shape.{PropertiesShaped, token_then}
use Rattle.jsonc_sound.specs.Leaving.{element_count}
use Rattle.jsonc_sound.specs.TreeChanges.{IsElement, ElementChanged, this_element, passed, later_element}
use Rattle.jsonc_sound.specs.TriviaChanges.{AreTrivia, leaves_then}
use Rattle.jsonc_sound.proofs.FirstNodes.{here, over, beyond, meets_first, no_element}
use Rattle.jsonc_sound.proofs.ReadRows.{closed_changed, separated_changed}
use Rattle.jsonc_sound.proofs.RootRows.{trivia_passed}
use Rattle.jsonc_run.proofs.lemmas.promise.Leaves.{row_back}

-- the element x of this number in the row, behind which these leaves stand
pub record Reached (x y : Top) (i : ℕ) (row : OrderedTree) (rest : List Content) : Type 0 where
  pub new : OrderedTree
  pub changed : ElementChanged x y i row new
  pub same : row_back changed ≡ rest

-- the same number
pub renumber : {x y : Top} {i j : ℕ} {row : OrderedTree} {rest : List Content} → i ≡ j → Reached x y i row rest → Reached x y j row rest
renumber {x} {y} {row = row} {rest = rest} e r = subst (λ n. Reached x y n row rest) e r

pub rest_as : {x y : Top} {i : ℕ} {row : OrderedTree} {xs ys : List Content} → xs ≡ ys → Reached x y i row xs → Reached x y i row ys
rest_as {x} {y} {i} {row} e r = subst (Reached x y i row) e r

module _ {x y : Top} where
  pub at_first : (rest : OrderedTree) → IsElement x.content → IsElement y.content → Reached x y 0 (more x.content x.below rest) (leaves rest)
  at_first rest p q = record { new = more y.content y.below rest; changed = this_element p q; same = refl }

  pub past_leaves : {i : ℕ} {row : OrderedTree} {rest : List Content} (ls : List Content) → AreTrivia ls → Reached x y i row rest → Reached x y i (leaves_then ls row) rest
  past_leaves [] h r = r
  past_leaves (content ∷ ls) h r =
      let m = past_leaves ls h.1 r in
      record { new = more content none m.new; changed = passed (trivia_passed content h.0) m.changed; same = m.same }

  pub past_comma : {i : ℕ} {row : OrderedTree} {rest : List Content} (c : ℕ) → Reached x y i row rest → Reached x y i (token_then c row) rest
  past_comma c r = record { new = token_then c r.new; changed = passed refl r.changed; same = r.same }

  pub past_row : {i : ℕ} {row : OrderedTree} {rest : List Content} (front : OrderedTree) → Reached x y i row rest → Reached x y (element_count front + i) (followed_by front row) rest
  past_row {i} {row} {rest} none r = let zero_more : i ≡ 0 + i = omega arith in subst (λ j. Reached x y j row rest) zero_more r
  past_row {i} {row} {rest} (more content below after) r = by (past_row after r) (is_passed_over content) refl
    where
      by : Reached x y (element_count after + i) (followed_by after row) rest → (b : Bool) → is_passed_over content ≡ b → Reached x y (element_count (more content below after) + i) (more content below (followed_by after row)) rest
      by m true e =
          let count : element_count after ≡ element_count (more content below after) = rw e refl in
          subst (λ n. Reached x y (n + i) (more content below (followed_by after row)) rest) count (record { new = more content below m.new; changed = passed e m.changed; same = m.same })
      by m false e =
          let element : IsElement content = rw e refl in
          let count : suc (element_count after) ≡ element_count (more content below after) = rw e refl in
          let next : suc (element_count after + i) ≡ suc (element_count after) + i = omega arith in
          subst (λ n. Reached x y (n + i) (more content below (followed_by after row)) rest) count
          (subst (λ n. Reached x y n (more content below (followed_by after row)) rest) next (record { new = more content below m.new; changed = later_element element m.changed; same = m.same }))

-- an element of the row of an object is a property
pub property_top : (o : Options) {x y : Top} {row : OrderedTree} → PropertiesShaped o row → {i : ℕ} {new : OrderedTree} → ElementChanged x y i row new → x.content ≡ Content.property
property_top o (shape.last_property v c) e =
    elim (meets_first e) [
      | here a p b q f ↦ sym p
      | over q k f ↦ absurd (no_element Content.property refl q)
      | beyond a q k f ↦ absurd (closed_changed o c k)
    ]
property_top o (shape.property v s g) e =
    elim (meets_first e) [
      | here a p b q f ↦ sym p
      | over q k f ↦ absurd (no_element Content.property refl q)
      | beyond a q k f ↦ property_top o g (separated_changed o s k).2
    ]
