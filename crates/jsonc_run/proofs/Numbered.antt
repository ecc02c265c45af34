-- The comments of a document in order, and what of them a walk has before it.
use Rattle.std.proofs.Common.{◌≡◌, ℕ, ◌<◌, ◌++◌, ◌∷◌, Bool, true, cond, List, length, filter, Option, Some, IfSome, IfErr, OnErr, OnOk, Result, Ok, Err, IsTrue, refl, sym, ap, subst, ◌∙◌}
use Rattle.std.proofs.lemmas.List.{append-nil}
use Rattle.std.specs.List.{flat_map, slice_get}
use Rattle.jsonc_tree.specs.Content.{Content, root}
use Rattle.jsonc_tree.specs.Tree.{Node, IsTree, children_at, parent_at, IsOver, itself, above}
use Rattle.jsonc_tree.specs.Order.{in_order, following, rest_at}
use Rattle.jsonc_tree.proofs.Order.{in_order_is, following_end}
use Rattle.jsonc_layout.specs.nodes.Kinds.{is_comment, is_comment_at}
use Rattle.jsonc_edit.specs.Comments.{comment_at, CommentTaken, TakesOut, WantsSpace}
use Rattle.jsonc_text.specs.declared.edit.EditError.{EditError}
use Rattle.jsonc_text.specs.declared.edit.EditError.TheVariants.{OutOfMemory}
use Rattle.jsonc_run.specs.Edits.{remove_comment, EditStep}
use Rattle.jsonc_run.specs.Refusals.{FailsWith}

module _ (ns : List Node) (tree : IsTree ns) where
  -- a walk over the document has all before it
  pub all_before : (number : ℕ) → slice_get (filter (is_comment_at ns) (rest_at ns 0 (Some 0))) number ≡ comment_at ns number
  all_before number =
      ap (λ (l : List ℕ). slice_get (filter (is_comment_at ns) (in_order ns 0 ++ l)) number) (following_end ns tree 0 tree.first)
      ∙ ap (λ (l : List ℕ). slice_get (filter (is_comment_at ns) l) number) (append-nil (in_order ns 0))

  -- the first of them is the node that it stands at, if this is one
  first_before : (n : ℕ) → n < length ns → is_comment_at ns n ≡ true → slice_get (filter (is_comment_at ns) (rest_at ns 0 (Some n))) 0 ≡ Some n
  first_before n there is =
      let later : List ℕ = filter (is_comment_at ns) (flat_map (in_order ns) (children_at ns n) ++ following ns 0 n) in
      ap (λ (l : List ℕ). slice_get (filter (is_comment_at ns) (l ++ following ns 0 n)) 0) (in_order_is ns tree n there)
      ∙ ap (λ (b : Bool). slice_get (cond b (n ∷ later) later) 0) is

  pub found_here : (n left number : ℕ) (next : Option ℕ) → next ≡ Some n → left ≡ 0 → IfSome next (λ m. m < length ns) → is_comment_at ns n ≡ true
      → slice_get (filter (is_comment_at ns) (rest_at ns 0 next)) left ≡ comment_at ns number → Some n ≡ comment_at ns number
  found_here n left number next at last there is before =
      sym (first_before n (subst (λ (q : Option ℕ). IfSome q (λ m. m < length ns)) at there) is)
      ∙ sym (ap (λ (q : Option ℕ). slice_get (filter (is_comment_at ns) (rest_at ns 0 q)) 0) at)
      ∙ sym (ap (slice_get (filter (is_comment_at ns) (rest_at ns 0 next))) last)
      ∙ before

  -- a comment of the document stands in a container, and leaves that
  has_container : (n : ℕ) → IsOver ns 0 n → IsTrue (is_comment_at ns n) → (c : ℕ) × (parent_at ns n ≡ Some c)
  has_container _ itself is =
      let wrong : IsTrue (is_comment root) = subst (λ (w : Content). IsTrue (is_comment w)) tree.root_first is in
      let never : ⊥ = cc in
      absurd never
  has_container n (above {c = c} said rest) is = (c, said)

  comment_taken : (new : List Node) → IsTree new → (n : ℕ) → IsOver ns 0 n → IsTrue (is_comment_at ns n) → TakesOut ns new n → CommentTaken ns new n
  comment_taken new after n over is taken =
      let up = has_container n over is in
      record { tree = tree; after = after; below = over; comment = is; container = up.0; parent = up.1; taken = taken up.0 up.1 }

  -- what a removal answers
  pub removal_made : {T E : Type 0} (r : Result T E) (new : List Node) → IsTree new → (n number : ℕ) → comment_at ns number ≡ Some n → IsOver ns 0 n → IsTrue (is_comment_at ns n) → OnOk r (TakesOut ns new n) → OnOk r (EditStep ns (remove_comment number) new)
  removal_made (Ok x) new after n number at over is taken = (n, at, comment_taken new after n over is taken)
  removal_made (Err e) new after n number at over is taken = tt

  pub removal_told : {T : Type 0} (r : Result T EditError) (n number : ℕ) → comment_at ns number ≡ Some n → IfErr r (λ e. e ≡ OutOfMemory) → OnErr r (WantsSpace ns n) → IfErr r (FailsWith ns (remove_comment number))
  removal_told (Ok x) n number at memory wants = tt
  removal_told (Err e) n number at memory wants = subst (FailsWith ns (remove_comment number)) (sym memory) (n, at, (refl, wants))
