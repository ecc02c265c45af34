-- A node that has been replaced or removed is detached.
use Rattle.std.proofs.Common.{◌≡◌, ◌≢◌, ℕ, ◌+◌, ◌-◌, ◌<◌, ◌≤◌, true, cond, List, [], ◌∷◌, length, get_or, slice_range, Some, None, Result, Ok, Err, OnOk, Option, refl, sym, ap, subst, ◌∙◌, arith}
use Rattle.std.proofs.lemmas.List.Edits.{get_or-between, length-between}
use Rattle.jsonc_text.specs.Plain.{Plain}
use Rattle.jsonc_tree.specs.Changes.{Splices}
use Rattle.jsonc_tree.specs.OrderedTree.{Top}
use Rattle.jsonc_tree.specs.Tree.{Node, children_at, parent_at, place_at, is_in, IsTree}
use Rattle.jsonc_tree.proofs.Order.{parent_there}
use Rattle.jsonc_tree.proofs.Splicing.{in_at}
use Rattle.jsonc_edit.specs.Comments.{removed_from, TakesOut}
use Rattle.jsonc_edit.specs.Put.{AreSpaced}
use Rattle.jsonc_edit.specs.Reading.{IsReplaced, IsReplacedRaw}
use Rattle.jsonc_edit.specs.Replacing.{TakesPlace}
use Rattle.jsonc_edit.proofs.ReplacedChildren.{gone_parent}
use Rattle.jsonc_edit.proofs.Removal.{from_before}
use Rattle.jsonc_edit.proofs.TakingOut.{parents_spaced}
use Rattle.jsonc_edit.specs.set.Giving.{IsPropertyReplaced}
use Rattle.jsonc_cst.specs.typed.Edits.{IsDetached}

pub nobodys : (new : List Node) (n : ℕ) → IsTree new → parent_at new n ≡ None → IsDetached new n
nobodys new n after e = (e, after.alone n e)

spaced_tree : (xs : List ℕ) (a b : List Node) → IsTree a → AreSpaced a xs b → IsTree b
spaced_tree [] a b tree e = subst IsTree (sym e) tree
spaced_tree (x ∷ xs) a b tree (now, leaf, r, rest) = spaced_tree xs now b r.tree rest

-- where it was replaced
placed_nobodys : (a new : List Node) (n m : ℕ) (now : Top) → n ≢ m → IsTree new → TakesPlace a new n m now → IsDetached new n
placed_nobodys a new n m now ne after t = let r = t.replaces in nobodys new n after (gone_parent a r.tree n r.container r.parent new m r.spliced ne)

module _ (old new : List Node) (n m : ℕ) (tree : IsTree old) (after : IsTree new) where
  apart : (c : ℕ) → parent_at old n ≡ Some c → length old ≤ m → n ≢ m
  apart c said fresh = λ e. omega (arith, (parent_there old tree n c said).0, fresh, e)

  pub replaced_nobodys : (v : Plain) → IsReplaced old new n v m → IsDetached new n
  replaced_nobodys v (c, said, g) = placed_nobodys g.spaced new n m _ (apart c said g.fresh) after g.place

  pub raw_nobodys : (v : Plain) → IsReplacedRaw old new n v m → IsDetached new n
  raw_nobodys v (c, said, g) = placed_nobodys g.ready new n m _ (apart c said g.fresh) after g.place

  pub property_nobodys : (name : List ℕ) (v : Plain) → IsPropertyReplaced old new n name v m → IsDetached new n
  property_nobodys name v (c, said, g) = placed_nobodys g.spaced new n m _ (apart c said g.fresh) after g.place

-- where it was removed
module _ (a new : List Node) (tree : IsTree a) (after : IsTree new) (n c : ℕ) (said : parent_at a n ≡ Some c) where
  abbrev row : List ℕ
  row = children_at a c

  pub left_nobodys : (i : ℕ) → i ≤ place_at a n → Splices a new c i (place_at a n + 1) [] → IsDetached new n
  left_nobodys i low s =
      let place : ℕ = place_at a n in
      let inn : place < length row = tree.within n c said in
      let size : length (slice_range row i (place + 1)) ≡ place + 1 - i = length-between row i (place + 1) (omega (arith, inn)) in
      let here : get_or (slice_range row i (place + 1)) (place - i) 0 ≡ n =
      get_or-between row i (place + 1) (place - i) 0 (omega (arith, low)) ∙ ap (λ k. get_or row k 0) (let e : i + (place - i) ≡ place = omega (arith, low) in e) ∙ tree.found n c said in
      let among : is_in n (slice_range row i (place + 1)) ≡ true =
      subst (λ k. is_in k (slice_range row i (place + 1)) ≡ true) here (in_at (slice_range row i (place + 1)) (place - i) (omega (arith, size, low))) in
      nobodys new n after (s.parents n ∙ ap (λ b. cond b None (parent_at a n)) among)

pub taken_nobodys : (old new : List Node) (n : ℕ) (o : Option ℕ) → parent_at old n ≡ o → IsTree old → IsTree new → (parent_at old n ≡ None → new ≡ old) → TakesOut old new n → IsDetached new n
taken_nobodys old new n None e tree after untouched takes = nobodys new n after (ap (λ ns. parent_at ns n) (untouched e) ∙ e)
taken_nobodys old new n (Some c) e tree after untouched takes =
    let t = takes c e in
    let ready : parent_at t.ready n ≡ Some c = t.prepared.keeps.parent n (parent_there old tree n c e).0 ∙ e in
    let spaced : parent_at t.spaced n ≡ Some c = parents_spaced _ t.ready t.spaced t.prepared.tree t.spaces n c ready in
    let grown : IsTree t.spaced = spaced_tree _ t.ready t.spaced t.prepared.tree t.spaces in
    left_nobodys t.spaced new grown after n c spaced (removed_from t.spaced c n) (from_before t.spaced grown c n spaced) (t.removed c spaced)

-- the same of answers
pub if_taken_nobodys : {T E : Type 0} (old new : List Node) (n : ℕ) (r : Result T E) → IsTree old → IsTree new → (parent_at old n ≡ None → new ≡ old) → OnOk r (TakesOut old new n) → OnOk r (IsDetached new n)
if_taken_nobodys old new n (Ok x) tree after untouched takes = taken_nobodys old new n (parent_at old n) refl tree after untouched takes
if_taken_nobodys old new n (Err e) tree after untouched takes = tt

pub if_nobodys : {T E : Type 0} (new : List Node) (n : ℕ) (r : Result T E) → IsTree new → OnOk r (parent_at new n ≡ None) → OnOk r (IsDetached new n)
if_nobodys new n (Ok x) after e = nobodys new n after e
if_nobodys new n (Err x) after e = tt
