-- The elements of a row: where one stands, and rows of trees that differ in one.
use Rattle.std.proofs.Common.{◌≡◌, ℕ, zero, suc, ◌+◌, ◌<◌, Bool, true, false, not, cond, List, [], ◌∷◌, length, take, slice_index, slice_get, filter, Some, None, inl, inr, refl, sym, ap, subst, ◌∙◌, arith}
use Rattle.std.proofs.lemmas.Bool.{cases_Bool}
use Rattle.jsonc_tree.specs.Tree.{Node, content_at}
use Rattle.jsonc_tree.specs.Values.{is_passed_over}
use Rattle.jsonc_tree.specs.OrderedTree.{OrderedTree, more, followed_by, Shows, shows_none, shows_more, Top}
use Rattle.jsonc_layout.specs.nodes.Kinds.{is_element_at}
use Rattle.jsonc_sound.specs.TreeChanges.{ElementChanged, passed, later_element}

pub Some_same : (m n : ℕ) → Some m ≡ Some n → m ≡ n
Some_same m n e = cc

pub none_some : {n : ℕ} → None ≡ Some n → ⊥
none_some e = cc

module _ (test : ℕ → Bool) where
  pub taken : (x : ℕ) (xs : List ℕ) → test x ≡ true → filter test (x ∷ xs) ≡ x ∷ filter test xs
  taken x xs h = ap (λ b. cond b (x ∷ filter test xs) (filter test xs)) h

  pub left : (x : ℕ) (xs : List ℕ) → test x ≡ false → filter test (x ∷ xs) ≡ filter test xs
  left x xs h = ap (λ b. cond b (x ∷ filter test xs) (filter test xs)) h

  -- a place in the list at which q passes the test, and so many before it do
  abbrev pub StandsAt : List ℕ → ℕ → ℕ → Type 0
  StandsAt xs i q = (k : ℕ) × (k < length xs) × (slice_index xs k ≡ q) × (test q ≡ true) × (length (filter test (take k xs)) ≡ i)

  stands_taken : (x : ℕ) (xs : List ℕ) (i q : ℕ) → test x ≡ true → ((j : ℕ) → slice_get (filter test xs) j ≡ Some q → StandsAt xs j q) → slice_get (x ∷ filter test xs) i ≡ Some q → StandsAt (x ∷ xs) i q
  stands_taken x xs zero q h rest e = let same = Some_same x q e in (0, omega arith, same, ap test (sym same) ∙ h, refl)
  stands_taken x xs (suc i) q h rest e =
      let r = rest i e in (suc r.0, omega (arith, r.1), r.2, r.3, ap length (taken x (take r.0 xs) h) ∙ ap suc r.4)

  stands_left : (x : ℕ) (xs : List ℕ) (i q : ℕ) → test x ≡ false → StandsAt xs i q → StandsAt (x ∷ xs) i q
  stands_left x xs i q h r = (suc r.0, omega (arith, r.1), r.2, r.3, ap length (left x (take r.0 xs) h) ∙ r.4)

  -- what is found among those that pass stands in the list
  pub stands_at : (xs : List ℕ) (i q : ℕ) → slice_get (filter test xs) i ≡ Some q → StandsAt xs i q
  stands_at [] i q e = absurd (let wrong : None ≡ Some q = e in cc)
  stands_at (x ∷ xs) i q e =
      elim (cases_Bool (test x)) [
        | inl passes ↦ stands_taken x xs i q passes (λ j h. stands_at xs j q h) (sym (ap (λ l. slice_get l i) (taken x xs passes)) ∙ e)
        | inr fails ↦ stands_left x xs i q fails (stands_at xs i q (sym (ap (λ l. slice_get l i) (left x xs fails)) ∙ e))
      ]

  -- and what stands in the list and passes is found among those that pass, behind as many as pass before it
  pub found_among : (xs : List ℕ) (k : ℕ) → k < length xs → test (slice_index xs k) ≡ true → slice_get (filter test xs) (length (filter test (take k xs))) ≡ Some (slice_index xs k)
  found_among [] k h e = absurd (omega arith)
  found_among (x ∷ xs) zero h e = ap (λ l. slice_get l 0) (taken x xs e)
  found_among (x ∷ xs) (suc k) h e =
      let rest = found_among xs k (omega arith) e in
      elim (cases_Bool (test x)) [
        | inl passes ↦ ap (λ l. slice_get l (length (filter test (x ∷ take k xs)))) (taken x xs passes) ∙ ap (λ l. slice_get (x ∷ filter test xs) (length l)) (taken x (take k xs) passes) ∙ rest
        | inr fails ↦ ap (λ l. slice_get l (length (filter test (x ∷ take k xs)))) (left x xs fails) ∙ ap (λ l. slice_get (filter test xs) (length l)) (left x (take k xs) fails) ∙ rest
      ]

-- a change of an element is one behind a row too, as many places on as elements stand in that row
pub changed_behind : (ns : List Node) (was now : Top) (xs : List ℕ) (front : OrderedTree) (i : ℕ) (x y : OrderedTree) → Shows ns xs front → ElementChanged was now i x y → ElementChanged was now (length (filter (is_element_at ns) xs) + i) (followed_by front x) (followed_by front y)
changed_behind ns was now _ _ i x y shows_none changed = subst (λ k. ElementChanged was now k x y) (omega arith) changed
changed_behind ns was now _ _ i x y (shows_more {n = n} {rest = rest} {below = b} {after = a} p q) changed =
    let count : ℕ = length (filter (is_element_at ns) rest) in
    let further = changed_behind ns was now rest a i x y q changed in
    let t : OrderedTree = more (content_at ns n) b (followed_by a x) in
    let u : OrderedTree = more (content_at ns n) b (followed_by a y) in
    elim (cases_Bool (is_passed_over (content_at ns n))) [
      | inl over ↦
          let long : length (filter (is_element_at ns) (n ∷ rest)) ≡ count = ap length (left (is_element_at ns) n rest (ap not over)) in
          subst (λ k. ElementChanged was now k t u) (ap (λ m. m + i) (sym long)) (passed over further)
      | inr element ↦
          let long : length (filter (is_element_at ns) (n ∷ rest)) ≡ suc count = ap length (taken (is_element_at ns) n rest (ap not element)) in
          let place : suc (count + i) ≡ length (filter (is_element_at ns) (n ∷ rest)) + i = omega (arith, long) in
          subst (λ k. ElementChanged was now k t u) place (later_element (ap not element) further)
    ]
