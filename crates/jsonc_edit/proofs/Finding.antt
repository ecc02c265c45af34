-- The search for the node at a path: what each step finds, and where the rest of the path leads.
use Rattle.std.proofs.Common.{◌≡◌, ◌↔◌, ℕ, ◌+◌, ◌<◌, ◌≤◌, List, [], ◌∷◌, length, get_or, drop, Option, Some, None, refl, sym, ap, subst, ◌∙◌}
use Rattle.std.proofs.lemmas.List.{drop_all, drop_more}
use Rattle.jsonc_tree.specs.Content.{object}
use Rattle.jsonc_tree.specs.Tree.{Node, content_at}
use Rattle.jsonc_edit.specs.Paths.{IsElementOf, IsHeldBy, StepsTo, in_array, in_object, LeadsTo, itself, step, IsAt, FindsExactly}
use Rattle.jsonc_edit.proofs.Elements.{Some_same}
use Rattle.jsonc_edit.proofs.Uniqueness.{no_kind_is_two, element_once}

not_Some : {X : Type 0} (n : ℕ) → None ≡ Some n → X
not_Some n e = absurd (let wrong : None ≡ Some n = e in cc)

-- nothing is found where R holds of none
found_nothing : (R : ℕ → Type 0) → ((n : ℕ) → R n → ⊥) → FindsExactly None R
found_nothing R nobody = λ n. ((λ e. not_Some n e), λ h. absurd (nobody n h))

module _ (ns : List Node) where
  held_in : (p i q r : ℕ) → content_at ns p ≡ object → IsElementOf ns p i r → StepsTo ns p i q → IsHeldBy ns r q
  held_in p i q r is element (in_array a e) = absurd (no_kind_is_two (content_at ns p) a is)
  held_in p i q r is element (in_object {r = s} o e h) = subst (λ z. IsHeldBy ns z q) (element_once ns p i s r e element) h

  -- a step from an object leads to what its property holds
  pub object_stepped : (p i r : ℕ) (found : Option ℕ) → content_at ns p ≡ object → IsElementOf ns p i r → FindsExactly found (IsHeldBy ns r) → FindsExactly found (StepsTo ns p i)
  object_stepped p i r found is element held = λ q. ((λ e. in_object is element ((held q).0 e)), λ s. (held q).1 (held_in p i q r is element s))

  -- the rest of the path from its k-th step leads from v to where the whole path leads
  abbrev pub Remains : List ℕ → ℕ → ℕ → Type 0
  Remains path k v = (n : ℕ) → LeadsTo ns n v (drop k path) ↔ IsAt ns path n

  -- one step of a path, where q is found
  one_step : (v i q n : ℕ) (rest : List ℕ) → FindsExactly (Some q) (StepsTo ns v i) → LeadsTo ns n v (i ∷ rest) → LeadsTo ns n q rest
  one_step v i q n rest found (step {q = r} s l) = subst (λ z. LeadsTo ns n z rest) (sym (Some_same q r ((found r).1 s))) l

  no_step : (v i n : ℕ) (rest : List ℕ) → FindsExactly None (StepsTo ns v i) → LeadsTo ns n v (i ∷ rest) → ⊥
  no_step v i n rest found (step {q = r} s l) = not_Some r ((found r).1 s)

  at_end : (v n : ℕ) → LeadsTo ns n v [] → v ≡ n
  at_end v n itself = refl

  module _ (path : List ℕ) (k v : ℕ) (remains : Remains path k v) where
    pub remains_more : (i q : ℕ) → k < length path → i ≡ get_or path k 0 → FindsExactly (Some q) (StepsTo ns v i) → Remains path (k + 1) q
    remains_more i q h is found n =
        let parts : drop k path ≡ i ∷ drop (k + 1) path = drop_more path k 0 h ∙ ap (λ j. j ∷ drop (k + 1) path) (sym is) in (
          λ l. (remains n).0 (subst (λ (p : List ℕ). LeadsTo ns n v p) (sym parts) (step ((found q).0 refl) l)),
          λ at. one_step v i q n (drop (k + 1) path) found (subst (λ (p : List ℕ). LeadsTo ns n v p) parts ((remains n).1 at)),
        )

    -- where no step is found the path leads nowhere
    pub leads_nowhere : (i : ℕ) → k < length path → i ≡ get_or path k 0 → FindsExactly None (StepsTo ns v i) → FindsExactly None (IsAt ns path)
    leads_nowhere i h is found =
        let parts : drop k path ≡ i ∷ drop (k + 1) path = drop_more path k 0 h ∙ ap (λ j. j ∷ drop (k + 1) path) (sym is) in
        found_nothing (IsAt ns path) (λ n at. no_step v i n (drop (k + 1) path) found (subst (λ (p : List ℕ). LeadsTo ns n v p) parts ((remains n).1 at)))

    -- at its end it leads to the value that was reached
    pub leads_there : length path ≤ k → FindsExactly (Some v) (IsAt ns path)
    leads_there h =
        let over : drop k path ≡ [] = drop_all k path h in
        λ n. (
          λ e. (remains n).0 (subst (λ (p : List ℕ). LeadsTo ns n v p) (sym over) (subst (λ m. LeadsTo ns m v []) (Some_same v n e) itself)),
          λ at. ap Some (at_end v n (subst (λ (p : List ℕ). LeadsTo ns n v p) over ((remains n).1 at))),
        )
