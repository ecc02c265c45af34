-- Elements that were inserted into arrays: what the new node is, and which nodes stay.
use Rattle.std.proofs.Common.{◌≡◌, ℕ, ◌<◌, ◌≤◌, ◌⊎◌, inl, inr, true, List, length, min, Result, Ok, Err, IfOk, sym, ap, subst, ◌∙◌, arith}
use Rattle.std.proofs.Math.Nat.{min-eq_left, min-eq_right}
use Rattle.std.proofs.lemmas.Bool.{cases_lt}
use Rattle.jsonc_text.specs.Options.{Options}
use Rattle.jsonc_text.specs.Plain.{Plain}
use Rattle.jsonc_tree.specs.Content as content
use Rattle.jsonc_tree.specs.Tree.{Node, children_at, content_at, IsTree}
use Rattle.jsonc_tree.proofs.Order.{parent_there}
use Rattle.jsonc_layout.specs.nodes.Siblings.{elements_at}
use Rattle.jsonc_layout.specs.lines.Kinds.{is_array_or_object}
use Rattle.jsonc_edit.proofs.lemmas.commas.Holders.{holder_path}
use Rattle.jsonc_edit.specs.Paths.{IsElementOf}
use Rattle.jsonc_edit.proofs.Uniqueness.{element_parent}
use Rattle.jsonc_text.specs.declared.edit.EditError.{EditError}
use Rattle.jsonc_insert.specs.Inserted.{refusal, ElementPut}
use Rattle.jsonc_insert.specs.Laws.{KeepsNodesBut}
use Rattle.jsonc_insert.specs.Planned.{has_brackets}
use Rattle.jsonc_insert.proofs.Numbering.{changes_one_row, takes_number}
use Rattle.jsonc_insert.proofs.ElementsInTree.{few_elements}
use Rattle.jsonc_insert.proofs.PastTheEnd.{past_the_end}
use Rattle.jsonc_insert.proofs.lemmas.elements.Containers.{wants_memory_alone}
use Rattle.jsonc_cst.specs.typed.Removing.{OnlyOutOfMemory}
use Rattle.jsonc_cst.proofs.lemmas.typed.HandlesKept.{Stays, stay_both, stay_kept, stay_spliced}

module _ (old new : List Node) (c i : ℕ) (v : Plain) (m : ℕ) (tree : IsTree old) (there : c < length old) (brackets : has_brackets old (children_at old c) ≡ true) (e : ElementPut old new c i v m) where
  pub put_element : IsElementOf new c (min i (length (elements_at old c))) m
  put_element = takes_number old new c i v m tree there brackets e

  pub put_there : m < length new
  put_there = (parent_there new e.tree m c (element_parent new e.tree c (min i (length (elements_at old c))) m put_element)).0

  pub put_others : KeepsNodesBut old new c
  put_others = (changes_one_row old new c i v m tree there brackets e).1

  pub put_stays : Stays old new
  put_stays = stay_both old e.ready new (stay_kept old e.ready e.prepared.keeps) (stay_spliced e.ready new _ _ _ _ e.put)

module _ (old new : List Node) (c : ℕ) (v : Plain) (tree : IsTree old) (is : content_at old c ≡ content.array) where
  pub put_for_memory : (o : Options) (e : EditError) → e ≡ refusal old c → OnlyOutOfMemory o old c e
  put_for_memory o e told = λ sound over.
      let place = holder_path o old tree sound c over (ap is_array_or_object is) in
      told ∙ wants_memory_alone o old place.0 c tree sound place.1 is

-- the number of a last one: past the end all do the same
put_by_place : (old new : List Node) (c i : ℕ) (v : Plain) (m : ℕ) → has_brackets old (children_at old c) ≡ true → (i < length (elements_at old c)) ⊎ (length (elements_at old c) ≤ i)
    → ElementPut old new c i v m → ElementPut old new c (min i (length (elements_at old c))) v m
put_by_place old new c i v m brackets (inl low) e = subst (λ k. ElementPut old new c k v m) (sym (min-eq_left (let z : i ≤ length (elements_at old c) = omega (arith, low) in z))) e
put_by_place old new c i v m brackets (inr high) e =
    subst (λ k. ElementPut old new c k v m) (sym (min-eq_right high)) (past_the_end old new c i (length (elements_at old c)) v m brackets high (omega arith) e)

pub put_at_place : (old new : List Node) (c i : ℕ) (v : Plain) (m : ℕ) → has_brackets old (children_at old c) ≡ true → ElementPut old new c i v m → ElementPut old new c (min i (length (elements_at old c))) v m
put_at_place old new c i v m brackets e = put_by_place old new c i v m brackets (cases_lt i (length (elements_at old c))) e

-- as many as there are nodes mean the last
pub behind_all : (ns : List Node) → IsTree ns → (c k : ℕ) → k ≡ length ns → min k (length (elements_at ns c)) ≡ length (elements_at ns c)
behind_all ns tree c k e = min-eq_right (omega (arith, few_elements ns tree c k e))

pub appended_element : {T E : Type 0} (number : T → ℕ) (old new : List Node) → IsTree old → (c k : ℕ) → k ≡ length old → (r : Result T E) → IfOk r (λ x. IsElementOf new c (min k (length (elements_at old c))) (number x))
    → IfOk r (λ x. IsElementOf new c (min (length (elements_at old c)) (length (elements_at old c))) (number x))
appended_element number old new tree c k e (Ok x) at =
    let count : ℕ = length (elements_at old c) in
    subst (λ j. IsElementOf new c j (number x)) (behind_all old tree c k e ∙ sym (min-eq_right {n = count} {m = count} (omega arith))) at
appended_element number old new tree c k e (Err x) at = tt
