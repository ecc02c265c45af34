-- Where a property has been given another name, it stands where it stood, and the new name is its name.
use Rattle.std.proofs.Common.{◌≡◌, ◌≢◌, ℕ, suc, ◌+◌, ◌<◌, Bool, true, cond, List, [], ◌∷◌, ◌++◌, length, take, drop, filter, slice_get, slice_index, Some, None, inl, inr, sym, ap, subst, ◌∙◌, arith}
use Rattle.std.specs.List.{find, splice}
use Rattle.std.proofs.lemmas.Bool.{cases_Bool}
use Rattle.jsonc_tree.specs.Tree.{Node, parent_at, children_at, place_at, IsOver}
use Rattle.jsonc_tree.proofs.Order.{not_over_parent, parent_there}
use Rattle.jsonc_layout.specs.nodes.Kinds.{is_element, is_element_at}
use Rattle.jsonc_layout.specs.nodes.Properties.{is_name, is_name_at}
use Rattle.jsonc_edit.specs.set.Names.{HasNewName, KeepsPropertysPlace}
use Rattle.jsonc_edit.proofs.Elements.{Some_same}
use Rattle.jsonc_edit.proofs.NodesKept.{filter_same}
use Rattle.jsonc_edit.proofs.Uniqueness.{element_parent}
use Rattle.jsonc_edit.proofs.lemmas.set.RenamedProperty.{Renamed, renamed_nodes}

-- what is found is at a place before which nothing passes: what passes is found there in its stead
record FoundAt (test : ℕ → Bool) (xs : List ℕ) (n : ℕ) : Type 0 where
  place : ℕ
  within : place < length xs
  is : slice_index xs place ≡ n
  instead : (other : ℕ → Bool) (m : ℕ) (back : List ℕ) → ((k : ℕ) → k < length xs → other (slice_index xs k) ≡ test (slice_index xs k)) → other m ≡ true
      → find other (take place xs ++ m ∷ back) ≡ Some m

found_at : (test : ℕ → Bool) (xs : List ℕ) (n : ℕ) → find test xs ≡ Some n → FoundAt test xs n
found_at test [] n e = absurd (let wrong : None ≡ Some n = e in cc)
found_at test (x ∷ xs) n e =
    elim (cases_Bool (test x)) [
      | inl h ↦ record {
        place = 0;
        within = omega arith;
        is = Some_same x n (sym (ap (λ b. cond b (Some x) (find test xs)) h) ∙ e);
        instead = λ other m back same passes. ap (λ b. cond b (Some m) (find other back)) passes;
      }
      | inr h ↦
          let rest : FoundAt test xs n = found_at test xs n (sym (ap (λ b. cond b (Some x) (find test xs)) h) ∙ e) in
          record {
            place = suc rest.place;
            within = omega (arith, rest.within);
            is = rest.is;
            instead = λ other m back same passes.
                ap (λ b. cond b (Some x) (find other (take rest.place xs ++ m ∷ back))) (same 0 (omega arith) ∙ h)
                ∙ rest.instead other m back (λ k l. same (suc k) (omega (arith, l))) passes;
          }
    ]

pub has_new_name : (old new : List Node) (p m : ℕ) (name : List ℕ) → HasNewName old new p m name
has_new_name old new p m name tree given =
    let r : Renamed old new p m given.0 = renamed_nodes old new p m name tree given in
    let at : FoundAt (is_name_at old) (children_at old p) given.0 = found_at (is_name_at old) (children_at old p) given.0 given.1 in
    let place : place_at old given.0 ≡ at.place = ap (place_at old) (sym at.is) ∙ tree.placed p at.place at.within in
    ap (find (is_name_at new)) (r.row ∙ ap (λ k. splice (children_at old p) k (k + 1) (m ∷ [])) place)
    ∙ at.instead (is_name_at new) m (drop (at.place + 1) (children_at old p)) (λ k h. ap is_name (r.contents (slice_index (children_at old p) k) (tree.in_tree p k h))) (ap is_name r.name.1)

pub keeps_propertys_place : (old new : List Node) (path : List ℕ) (c i p m : ℕ) (name : List ℕ) → KeepsPropertysPlace old new path c i p m name
keeps_propertys_place old new path c i p m name tree at element given =
    let r : Renamed old new p m given.0 = renamed_nodes old new p m name tree given in
    let said : parent_at old p ≡ Some c = element_parent old tree c i p element in
    let there : c < length old = (parent_there old tree p c said).1 in
    let apart : c ≢ p = λ e. not_over_parent old tree p c said (subst (IsOver old p) (sym e) IsOver.itself) in (
      r.still_at c path (IsOver.above said IsOver.itself) at,
      ap (λ l. slice_get l i)
          (ap (filter (is_element_at new)) (r.others c there apart)
          ∙ filter_same (is_element_at new) (is_element_at old) (children_at old c) (λ k h. ap is_element (r.contents (slice_index (children_at old c) k) (tree.in_tree c k h))))
          ∙ element,
    )
