-- How many arrays, objects and properties are above a node at a path: as many as are around the value there.
use Rattle.std.proofs.Common.{ℕ, zero, suc, ◌+◌, ◌≡◌, sym, ap, subst, refl, ◌∙◌, true, cond, count_by, List, [], ◌∷◌, ◌++◌, Option, Some, None, arith}
use Rattle.std.proofs.lemmas.List.{append-nil, append_assoc}
use Rattle.std.proofs.lemmas.List.Sums.{sum_by-cons}
use Rattle.jsonc_text.specs.Options.{Options}
use Rattle.jsonc_text.specs.Plain.{Plain, Items, no_items, item, Members, no_members, member}
use Rattle.jsonc_tree.specs.Content.{Content}
use Rattle.jsonc_tree.specs.Order.{upward}
use Rattle.jsonc_tree.specs.OrderedTree.{OrderedTree, ordered_tree}
use Rattle.jsonc_tree.specs.Tree.{Node, content_at, parent_at, IsTree}
use Rattle.jsonc_tree.specs.Values as values
use Rattle.jsonc_tree.specs.Values.{ValueOf, DocumentValueOf}
use Rattle.jsonc_tree.proofs.Order.{parent_there, upward_is, upward_none}
use Rattle.jsonc_edit.specs.Changes.{top_at}
use Rattle.jsonc_edit.specs.Paths as paths
use Rattle.jsonc_edit.specs.Paths.{IsAt, IsElementOf, LeadsTo, StepsTo}
use Rattle.jsonc_edit.proofs.OneValue.{document_once}
use Rattle.jsonc_edit.proofs.ShapedPlaces.{at_further}
use Rattle.jsonc_edit.proofs.SoundValues.{some_value_of}
use Rattle.jsonc_edit.proofs.Uniqueness.{element_parent}
use Rattle.jsonc_insert.specs.named.Places.{IsPropertyAt, a_property}
use Rattle.jsonc_insert.proofs.lemmas.named.PathValues.{gives_way_to_itself, value_at_path}
use Rattle.jsonc_run.specs.Depth.{levels, levels_of_item, levels_of_member, levels_in, is_nesting, is_nesting_at, nesting_at}
use Rattle.jsonc_run.proofs.lemmas.depth.Plains.{levels_further}
use Rattle.jsonc_run.proofs.lemmas.promise.Plains.{changed}

-- one step leads into an array or an object
nothing_further : (i : ℕ) (vs : Items) → levels_of_item [] i vs ≡ 0
nothing_further i no_items = refl
nothing_further zero (item v vs) = refl
nothing_further (suc i) (item v vs) = nothing_further i vs

pub no_member_further : (i : ℕ) (ms : Members) → levels_of_member [] i ms ≡ 0
no_member_further i no_members = refl
no_member_further zero (member name v ms) = refl
no_member_further (suc i) (member name v ms) = no_member_further i ms

array_step : {o : Options} {content : Content} {below : OrderedTree} {v : Plain} (i : ℕ) → content ≡ Content.array → ValueOf o content below v → levels (i ∷ []) v ≡ 1
array_step i e (values.array {vs = vs} h) = omega (arith, nothing_further i vs)
array_step i e (values.string h) = cc
array_step i e values.number = cc
array_step i e values.boolean = cc
array_step i e values.null = cc
array_step i e (values.object h) = cc

object_step : {o : Options} {content : Content} {below : OrderedTree} {v : Plain} (i : ℕ) → content ≡ Content.object → ValueOf o content below v → levels (i ∷ []) v ≡ 2
object_step i e (values.object {ms = ms} h) = omega (arith, no_member_further i ms)
object_step i e (values.string h) = cc
object_step i e values.number = cc
object_step i e values.boolean = cc
object_step i e values.null = cc
object_step i e (values.array h) = cc

module _ (ns : List Node) (tree : IsTree ns) where
  -- a node counts what its parent does, and its parent
  pub nesting_step : (n c : ℕ) → parent_at ns n ≡ Some c → nesting_at ns n ≡ cond (is_nesting_at ns c) 1 0 + nesting_at ns c
  nesting_step n c said =
      ap (λ p. count_by (is_nesting_at ns) (upward ns p)) said
      ∙ ap (count_by (is_nesting_at ns)) (upward_is ns tree c (parent_there ns tree n c said).1)
      ∙ sum_by-cons (λ m. cond (is_nesting_at ns m) 1 0) c (upward ns (parent_at ns c))

  pub nesting_under : (n c : ℕ) → parent_at ns n ≡ Some c → is_nesting (content_at ns c) ≡ true → nesting_at ns n ≡ suc (nesting_at ns c)
  nesting_under n c said is = omega (arith, nesting_step n c said ∙ ap (λ b. cond b 1 0 + nesting_at ns c) is)

  -- around the root there is nothing, nor around the document's value
  pub nesting_of_root : nesting_at ns 0 ≡ 0
  nesting_of_root = ap (λ p. count_by (is_nesting_at ns) (upward ns p)) tree.root_alone ∙ ap (count_by (is_nesting_at ns)) (upward_none ns tree)

  nesting_of_first : (v : ℕ) → IsElementOf ns 0 0 v → nesting_at ns v ≡ 0
  nesting_of_first v e =
      let step = nesting_step v 0 (element_parent ns tree 0 0 v e) ∙ ap (λ k. cond (is_nesting k) 1 0 + nesting_at ns 0) tree.root_first in
      omega (arith, step, nesting_of_root)

  -- what a step adds
  nesting_in_array : (p i q : ℕ) → content_at ns p ≡ Content.array → IsElementOf ns p i q → nesting_at ns q ≡ suc (nesting_at ns p)
  nesting_in_array p i q is e = nesting_under q p (element_parent ns tree p i q e) (ap is_nesting is)

  pub nesting_in_object : (p i r : ℕ) → content_at ns p ≡ Content.object → IsElementOf ns p i r → nesting_at ns r ≡ suc (nesting_at ns p)
  nesting_in_object p i r is e = nesting_under r p (element_parent ns tree p i r e) (ap is_nesting is)

  nesting_held : (p i r q : ℕ) → content_at ns p ≡ Content.object → IsElementOf ns p i r → content_at ns r ≡ Content.property → IsElementOf ns r 1 q → nesting_at ns q ≡ suc (suc (nesting_at ns p))
  nesting_held p i r q is e held second =
      omega (arith, nesting_under q r (element_parent ns tree r 1 q second) (ap is_nesting held), nesting_in_object p i r is e)

module _ (o : Options) (ns : List Node) (tree : IsTree ns) (w : Option Plain) (value : DocumentValueOf o (ordered_tree ns 0) w) where
  -- a step further from a value at a path
  one_further : (path : List ℕ) (p i n : ℕ) → IsAt ns path p → (k : ℕ) → ((v : Plain) → ValueOf o (content_at ns p) (top_at ns p).below v → levels (i ∷ []) v ≡ k) → levels_in (path ++ i ∷ []) w ≡ levels_in path w + k
  one_further path p i n at k step =
      let some = some_value_of o (gives_way_to_itself ns tree path p at) w value in
      let held = value_at_path o ns tree path p at some.0 some.1 in
      let same : w ≡ Some some.0 = document_once o (ordered_tree ns 0) w (Some some.0) value some.1 in
      subst (λ x. levels_in (path ++ i ∷ []) x ≡ levels_in path x + k) (sym same)
      (levels_further (i ∷ []) (changed held.at) ∙ ap (λ j. levels path some.0 + j) (step held.value held.has))

  -- from a value at a path on
  led : (n : ℕ) (front : List ℕ) (p : ℕ) (path : List ℕ) → IsAt ns front p → nesting_at ns p ≡ levels_in front w → LeadsTo ns n p path → nesting_at ns n ≡ levels_in (front ++ path) w
  led n front _ _ at so paths.itself = so ∙ ap (λ l. levels_in l w) (sym (append-nil front))
  led n front p _ at so (paths.step {i = i} {q = q} {path = path} (paths.in_array is e) rest) =
      let further = one_further front p i q at 1 (λ v has. array_step i is has) in
      led n (front ++ i ∷ []) q path (at_further ns p i q front at (paths.in_array is e)) (omega (arith, nesting_in_array ns tree p i q is e, so, further)) rest
      ∙ ap (λ l. levels_in l w) (append_assoc front (i ∷ []) path)
  led n front p _ at so (paths.step {i = i} {q = q} {path = path} (paths.in_object {r = r} is e held) rest) =
      let further = one_further front p i q at 2 (λ v has. object_step i is has) in
      led n (front ++ i ∷ []) q path (at_further ns p i q front at (paths.in_object is e held)) (omega (arith, nesting_held ns tree p i r q is e held.0 held.1, so, further)) rest
      ∙ ap (λ l. levels_in l w) (append_assoc front (i ∷ []) path)

  -- above the node at a path there are as many arrays, objects and properties as are around the value there
  pub nesting_is_levels : (path : List ℕ) (n : ℕ) → IsAt ns path n → nesting_at ns n ≡ levels_in path w
  nesting_is_levels path n (v, e, rest) = led n [] v path (v, e, paths.itself) (nesting_of_first ns tree v e ∙ none w) rest
    where
      none : (x : Option Plain) → 0 ≡ levels_in [] x
      none None = refl
      none (Some x) = refl

  -- and above a property one less than around its value
  pub property_nesting : (path : List ℕ) (r : ℕ) → IsPropertyAt ns path r → suc (nesting_at ns r) ≡ levels_in path w
  property_nesting _ r (a_property front c i at inside) =
      let further = one_further front c i r at 2 (λ v has. object_step i inside.of_object has) in
      omega (arith, nesting_in_object ns tree c i r inside.of_object inside.element, nesting_is_levels front c at, further)
