-- A sort of what was read: by the container, the nodes and the pins as they are borrowed.
use Rattle.std.proofs.Common.{◌≡◌, ℕ, Bool, List, Option, Result, Ok, Err, OnOk, subst}
use Rattle.jsonc_sort.specs.Rearranged.{headers_of}
use Rattle.jsonc_cst.specs.declared.cst.CstRootNode.{CstRootNode}
use Rattle.jsonc_cst.specs.declared.cst.node.CstNode.{CstNode}
use Rattle.jsonc_cst.specs.sorting.Sorted.{HasSorted, HasSortedBy}

module _ {A N : Type 0} (old new : CstRootNode A) (groups : Bool) (ArePinned : CstNode → List (Option N) → List (Option ℕ) → Type 0) (IsRequired : CstNode → List (Option N) → List ℕ → Type 0)
    (node first second : CstNode) (asked nodes again : List (Option N)) (pins lent : List (Option ℕ)) where
  pub wired : {T E : Type 0} (r : Result T E) → first ≡ node → second ≡ node → nodes ≡ asked → again ≡ asked → lent ≡ pins → ArePinned first nodes pins
      → OnOk r (HasSorted old new second (headers_of lent groups) (IsRequired second again)) → OnOk r (HasSortedBy old new node (ArePinned node asked) groups (IsRequired node asked))
  wired (Err e) one two three four five pinned sorted = tt
  wired (Ok x) one two three four five pinned sorted = (
    pins,
    subst (λ (n : CstNode). ArePinned n asked pins) one (subst (λ (xs : List (Option N)). ArePinned first xs pins) three pinned),
    subst (λ (ps : List (Option ℕ)). HasSorted old new node (headers_of ps groups) (IsRequired node asked)) five
        (subst (λ (xs : List (Option N)). HasSorted old new node (headers_of lent groups) (IsRequired node xs)) four
        (subst (λ (n : CstNode). HasSorted old new n (headers_of lent groups) (IsRequired n again)) two sorted)),
  )

-- so of a container, by the nodes and the pins alone
module _ {A : Type 0} (old new : CstRootNode A) (groups : Bool) (IsRequired : List (Option CstNode) → List ℕ → Type 0) (node : CstNode) (asked nodes : List (Option CstNode)) (pins lent : List (Option ℕ)) where
  pub wired_container : {T E : Type 0} (r : Result T E) → nodes ≡ asked → lent ≡ pins → OnOk r (HasSorted old new node (headers_of lent groups) (IsRequired nodes)) → OnOk r (HasSorted old new node (headers_of pins groups) (IsRequired asked))
  wired_container (Err e) one two sorted = tt
  wired_container (Ok x) one two sorted =
      subst (λ (ps : List (Option ℕ)). HasSorted old new node (headers_of ps groups) (IsRequired asked)) two (subst (λ (xs : List (Option CstNode)). HasSorted old new node (headers_of lent groups) (IsRequired xs)) one sorted)
