-- The steps of paths of names, backwards: those to a value lead from one object, through one property.
use Rattle.std.proofs.Common.{◌≡◌, ℕ, ◌<◌, List, [], ◌∷◌, ◌++◌, length, map, reverse, Some, sym, ap, subst, ◌∙◌}
use Rattle.std.specs.declared.string.String.{String}
use Rattle.std.proofs.lemmas.List.{reverse-append}
use Rattle.jsonc_tree.specs.Content.{property}
use Rattle.jsonc_tree.specs.Order.{upward}
use Rattle.jsonc_tree.specs.Tree.{Node, content_at, IsTree}
use Rattle.jsonc_layout.specs.input.Views.{chars_of}
use Rattle.jsonc_layout.specs.nodes.Names.{HasName}
use Rattle.jsonc_edit.specs.Paths.{IsElementOf, IsHeldBy, StepsTo, in_object}
use Rattle.jsonc_cst.specs.Paths.{IsEntryOf, StepsThrough, StepsByName, LeadsByNames, itself, step, IsAtNames}
use Rattle.jsonc_cst.proofs.NodePaths.{container_once, source_once, step_higher}

-- where names lead to the node n, names lead to the value v
abbrev pub CoversByNames : List Node → ℕ → ℕ → Type 0
CoversByNames ns n v = (names : List (List ℕ)) → IsAtNames ns names n → (before : List (List ℕ)) × IsAtNames ns before v

-- the last step of a way, and the way to it
abbrev LastStep : List Node → ℕ → ℕ → Type 0
LastStep ns w v = (p : ℕ) × (name : List ℕ) × (before : List (List ℕ)) × LeadsByNames ns p w before × StepsByName ns p name v

-- the same from the document's value
abbrev LastStepTo : List Node → ℕ → Type 0
LastStepTo ns v = (p : ℕ) × (name : List ℕ) × (before : List (List ℕ)) × IsAtNames ns before p × StepsByName ns p name v

module _ (ns : List Node) where
  -- the empty path of names leads from a node to itself
  pub names_to_itself : {A : Type 0} (n : ℕ) (back : List (String A)) → back ≡ [] → LeadsByNames ns n n (map chars_of (reverse back))
  names_to_itself {A} n back none = subst (λ (l : List (String A)). LeadsByNames ns n n (map chars_of (reverse l))) (sym none) itself

  -- one more step back leads to the node too
  pub names_lead_on : {A : Type 0} (n v p : ℕ) (name : String A) (back more : List (String A)) → more ≡ back ++ name ∷ [] → StepsByName ns p (chars_of name) v → LeadsByNames ns n v (map chars_of (reverse back)) → LeadsByNames ns n p (map chars_of (reverse more))
  names_lead_on n v p name back more is s leads =
      subst (λ (names : List (List ℕ)). LeadsByNames ns n p names) (sym (ap (λ l. map chars_of (reverse l)) is ∙ ap (map chars_of) (reverse-append back (name ∷ [])))) (step s leads)

  -- a step by a name is a step of a path
  as_step : (p v : ℕ) (name : List ℕ) → StepsByName ns p name v → (i : ℕ) × StepsTo ns p i v
  as_step p v name (r, (i, entry, held), named) = (i, in_object {r = r} entry.0 entry.1 held)

  -- a way with a step in front has a last step
  ends_by_step : (v p q : ℕ) (name : List ℕ) (names : List (List ℕ)) → StepsByName ns p name q → LeadsByNames ns v q names → LastStep ns p v
  ends_by_step _ p _ name _ s itself = (p, name, [], itself, s)
  ends_by_step v p q name _ s (step {q = r} {name = next} {names = names} t rest) =
      let end : LastStep ns q v = ends_by_step v q r next names t rest in
      (end.0, end.1, name ∷ end.2, step s end.3, end.4)

  last_by_name : (names : List (List ℕ)) (v : ℕ) → (IsElementOf ns 0 0 v → ⊥) → IsAtNames ns names v → LastStepTo ns v
  last_by_name _ v away (_, e, itself) = absurd (away e)
  last_by_name _ v away (w, e, step {q = q} {name = name} {names = names} s rest) =
      let end : LastStep ns w v = ends_by_step v w q name names s rest in
      (end.0, end.1, end.2, (w, e, end.3), end.4)

  -- where no step by a name leads to a value above the node, no names lead to the node
  pub no_names : (n v : ℕ) → (IsElementOf ns 0 0 v → ⊥) → ((p : ℕ) (name : List ℕ) → StepsByName ns p name v → ⊥) → CoversByNames ns n v → (names : List (List ℕ)) → IsAtNames ns names n → ⊥
  no_names n v away none covers names at =
      let above = covers names at in
      let end : LastStepTo ns v = last_by_name above.0 v away above.1 in
      none end.0 end.1 end.4

module _ (ns : List Node) (tree : IsTree ns) where
  -- a child of what is no property has no step to it through one
  pub no_property : (c i v : ℕ) → IsElementOf ns c i v → (content_at ns c ≡ property → ⊥) → (p r : ℕ) → StepsThrough ns p r v → ⊥
  no_property c i v at none p r (j, entry, held) = none (subst (λ z. content_at ns z ≡ property) (container_once ns tree r c 1 i v held.1 at) held.0)

  -- a step to a child of a property goes through that property
  pub not_by_it : (c i v : ℕ) → IsElementOf ns c i v → ((p j : ℕ) → IsEntryOf ns p j c → IsHeldBy ns c v → ⊥) → (p r : ℕ) → StepsThrough ns p r v → ⊥
  not_by_it c i v at none p r (j, entry, held) =
      let same : r ≡ c = container_once ns tree r c 1 i v held.1 at in
      none p j (entry.0, subst (λ z. IsElementOf ns p j z) same entry.1) (subst (λ z. IsHeldBy ns z v) same held)

  -- through a property without a name no step by a name leads
  pub no_step_by_name : (c r v : ℕ) → StepsThrough ns c r v → ((name : List ℕ) → HasName ns r name → ⊥) → (p : ℕ) (name : List ℕ) → StepsByName ns p name v → ⊥
  no_step_by_name c r v (i, entry, held) none p name (q, (j, other, holds), named) =
      none name (subst (λ z. HasName ns z name) (container_once ns tree q r 1 1 v holds.1 held.1) named)

  -- all names to the node lead through what a step by a name to the value leads from
  pub covers_more_names : (n v p : ℕ) (name : List ℕ) → (IsElementOf ns 0 0 v → ⊥) → StepsByName ns p name v → CoversByNames ns n v → CoversByNames ns n p
  covers_more_names n v p name away s covers names at =
      let above = covers names at in
      let end : LastStepTo ns v = last_by_name ns above.0 v away above.1 in
      let t = as_step ns end.0 v end.1 end.4 in
      let u = as_step ns p v name s in
      (end.2, subst (IsAtNames ns end.2) (source_once ns tree end.0 p t.0 u.0 v t.1 u.1) end.3)

  -- fewer nodes are above what a step by a name leads from
  pub name_step_higher : (p v : ℕ) (name : List ℕ) → StepsByName ns p name v → length (upward ns (Some p)) < length (upward ns (Some v))
  name_step_higher p v name s = let t = as_step ns p v name s in step_higher ns tree p t.0 v t.1
