-- Leaves alone have been planned: they may come into a row, and where.
use Rattle.std.proofs.Common.{◌≡◌, ◌∙◌, ℕ, ◌+◌, ◌<◌, Bool, true, false, cond, inl, List, [], length, slice_index, Option, Some, None, option_and_then, Result, Ok, Err, OnErr, OnOk, refl, sym, ap, subst, arith}
use Rattle.jsonc_tree.specs.Changes.{CanJoin, Splices}
use Rattle.jsonc_tree.specs.Content.{Content}
use Rattle.jsonc_tree.specs.OrderedTree.{ordered_tree}
use Rattle.jsonc_tree.proofs.Order.{parent_there}
use Rattle.jsonc_tree.specs.Siblings.{first, siblings_after, siblings_before}
use Rattle.jsonc_tree.specs.Tree.{Node, parent_at, place_at, IsTree}
use Rattle.jsonc_tree.specs.declared.node.CstNewlineKind.{CstNewlineKind}
use Rattle.jsonc_layout.specs.Building.{Gains, LeavesMade}
use Rattle.jsonc_layout.specs.nodes.Kinds.{is_whitespace_at}
use Rattle.jsonc_layout.specs.lines.Kinds.{blank_at}
use Rattle.jsonc_layout.proofs.lemmas.Building.{made_from}
use Rattle.jsonc_edit.specs.Put.{Extends}
use Rattle.jsonc_edit.specs.commenting.Above.{begins_own_line, new_line, own_line, seam_at, seam_behind, seam_by, without_end, ComesAbove, ComesAboveBy}
use Rattle.jsonc_edit.specs.commenting.Behind.{comment_follows, last_blank, last_blank_in, spaced, ComesBehind}
use Rattle.jsonc_edit.specs.commenting.Come.{LeavesCome}
use Rattle.jsonc_edit.proofs.Elements.{Some_same}
use Rattle.jsonc_edit.proofs.NodesKept.{over_no_old, place_kept, tree_stays}
use Rattle.jsonc_edit.proofs.RowEnds.{before_is, previous_at}
use Rattle.jsonc_edit.proofs.lemmas.remove.SiblingSteps.{after_none, after_step}

module _ (old now : List Node) (c : ℕ) (contents : List Content) (row : List ℕ) (tree : IsTree old) (there : c < length old) (made : LeavesMade old now contents row) where
  leaves_join : (place : ℕ) → CanJoin now c place place row
  leaves_join place = record {
    in_tree = λ k h. (made.fresh.each k h).in_tree;
    not_root = λ k h e. omega (arith, (made.fresh.each k h).later, tree.first, e);
    once = made.fresh.once;
    free = λ k h. inl (made.fresh.each k h).alone;
    not_over = λ k h. over_no_old old now tree made.keeps (slice_index row k) c (made.fresh.each k h).later there;
  }

  -- of a list that is lent
  pub may_join : (xs : List ℕ) → xs ≡ row → (place : ℕ) → CanJoin now c place place xs
  may_join xs e place = subst (λ (l : List ℕ). CanJoin now c place place l) (sym e) (leaves_join place)

  pub leaves_come : IsTree now → (xs : List ℕ) → xs ≡ row → (place : ℕ) (new : List Node) → IsTree new → Splices now new c place place xs → LeavesCome old new c place contents
  leaves_come ready xs e place new after put = record {
    ready = now;
    row = row;
    prepared = record { keeps = made.keeps; tree = ready };
    made = made;
    join = leaves_join place;
    put = subst (λ (l : List ℕ). Splices now new c place place l) e put;
    tree = after;
  }

-- leaves that were made in this order are these
pub leaves_are : (old now : List Node) (xs row : List ℕ) (contents wanted : List Content) → xs ≡ [] → contents ≡ wanted → Gains old xs now row contents → LeavesMade old now wanted row
leaves_are old now xs row contents wanted e f g = subst (λ cs. LeavesMade old now cs row) f (made_from old now xs row contents e g)

-- of equal parts they are equal
pub own_line_same : (k l : CstNewlineKind) (text s t : List ℕ) → k ≡ l → s ≡ t → own_line k text s ≡ own_line l text t
own_line_same k l text s t e f = ap (λ x. own_line x text s) e ∙ ap (own_line l text) f

pub new_line_same : (k l : CstNewlineKind) (text s t x y : List ℕ) → k ≡ l → s ≡ t → x ≡ y → new_line k s (own_line k text x) ≡ new_line l t (own_line l text y)
new_line_same k l text s t x y e f g = ap (λ z. new_line z s (own_line z text x)) e ∙ ap (λ z. new_line l z (own_line l text x)) f ∙ ap (λ z. new_line l t (own_line l text z)) g

-- beside a child that is one still
module _ (old now : List Node) (c : ℕ) (contents : List Content) (row : List ℕ) (tree : IsTree old) (made : LeavesMade old now contents row) (n : ℕ) (said : parent_at old n ≡ Some c) where
  pub still_child : parent_at now n ≡ Some c
  still_child = made.keeps.parent n (parent_there old tree n c said).0 ∙ said

  pub join_beside : (xs : List ℕ) → xs ≡ row → (place : ℕ) → CanJoin now c place place xs
  join_beside xs e place = may_join old now c contents row tree (parent_there old tree n c said).1 made xs e place

  module _ (ready : IsTree now) (xs : List ℕ) (e : xs ≡ row) (new : List Node) (after : IsTree new) where
    pub come_before_child : Splices now new c (place_at now n) (place_at now n) xs → LeavesCome old new c (place_at old n) contents
    come_before_child put =
        leaves_come old now c contents row tree (parent_there old tree n c said).1 made ready xs e (place_at old n) new after (subst (λ k. Splices now new c k k xs) (place_kept old now tree made.keeps n c said) put)

    pub come_behind_child : Splices now new c (place_at now n + 1) (place_at now n + 1) xs → LeavesCome old new c (place_at old n + 1) contents
    come_behind_child put =
        leaves_come old now c contents row tree (parent_there old tree n c said).1 made ready xs e (place_at old n + 1) new after (subst (λ k. Splices now new c (k + 1) (k + 1) xs) (place_kept old now tree made.keeps n c said) put)

-- where new nodes alone were made the document stays
pub document_stays : {E : Type 0} (old new : List Node) → IsTree old → (r : Result (Unit {0}) E) → OnErr r (Extends old new) → OnErr r (ordered_tree new 0 ≡ ordered_tree old 0)
document_stays old new tree (Ok x) h = tt
document_stays old new tree (Err e) h = tree_stays old new tree h.keeps h.tree

-- before what the lines come stands in the row too
pub seam_child : (ns : List Node) → IsTree ns → (n c : ℕ) → parent_at ns n ≡ Some c → (indent : List ℕ) → parent_at ns (seam_at ns n indent).node ≡ Some c
seam_child ns tree n c said indent = by_sibling (first (siblings_before ns n)) refl
  where
    by_rest : (m : ℕ) → parent_at ns m ≡ Some c → (t : Option (List ℕ)) → parent_at ns (seam_by n m indent t).node ≡ Some c
    by_rest m child None = said
    by_rest m child (Some rest) = child

    by_sibling : (o : Option ℕ) → first (siblings_before ns n) ≡ o → parent_at ns (seam_behind ns n indent o).node ≡ Some c
    by_sibling None is = said
    by_sibling (Some m) is = by_rest m (before_is ns tree c (place_at ns n) m (sym (previous_at ns tree c n said) ∙ is)).0 (option_and_then (without_end indent) (blank_at ns m))

-- a comment has come above a child of c
pub comes_above : {E : Type 0} (old new : List Node) (c n : ℕ) (text : List ℕ) (b : Bool) → parent_at old n ≡ Some c → begins_own_line old n ≡ b → (r : Result (Unit {0}) E) → OnOk r (ComesAboveBy b old new c n text) → OnOk r (ComesAbove old new n text)
comes_above old new c n text b said is (Ok x) h = λ d told.
    let same : d ≡ c = Some_same d c (sym told ∙ said) in
    subst (λ k. ComesAboveBy (begins_own_line old n) old new k n text) (sym same) (subst (λ x. ComesAboveBy x old new c n text) (sym is) h)
comes_above old new c n text b said is (Err e) h = tt

-- a comment has come behind one
pub comes_behind : {E : Type 0} (old new : List Node) (c n m : ℕ) (text : List ℕ) → parent_at old n ≡ Some c → m ≡ comment_follows old n text → (r : Result (Unit {0}) E) → OnOk r (LeavesCome old new c (place_at old m + 1) (spaced text)) → OnOk r (ComesBehind old new n text)
comes_behind old new c n m text said is (Ok x) h = λ d told.
    let same : d ≡ c = Some_same d c (sym told ∙ said) in
    subst (λ k. LeavesCome old new k (place_at old (comment_follows old n text) + 1) (spaced text)) (sym same) (subst (λ k. LeavesCome old new c (place_at old k + 1) (spaced text)) is h)
comes_behind old new c n m text said is (Err e) h = tt

-- the last of the whitespace behind a node, a step
module _ (ns : List Node) (tree : IsTree ns) (n : ℕ) where
  module _ (m : ℕ) (e : first (siblings_after ns n) ≡ Some m) where
    blank_by : (b : Bool) → is_whitespace_at ns m ≡ b → last_blank ns n ≡ cond b (last_blank ns m) n
    blank_by b h = ap (last_blank_in ns n) (after_step ns tree n m e) ∙ ap (λ x. cond x (last_blank ns m) n) h

    pub blank_goes_on : is_whitespace_at ns m ≡ true → last_blank ns n ≡ last_blank ns m
    blank_goes_on h = blank_by true h

    pub blank_stops : is_whitespace_at ns m ≡ false → last_blank ns n ≡ n
    blank_stops h = blank_by false h

  pub blank_over : first (siblings_after ns n) ≡ None → last_blank ns n ≡ n
  blank_over e = ap (last_blank_in ns n) (after_none (siblings_after ns n) e)
