-- The value of a document where an element has left one of its containers.
use Rattle.std.proofs.Common.{ℕ, ◌≡◌, subst, refl, List, Some}
use Rattle.jsonc_text.specs.Options.{Options}
use Rattle.jsonc_text.specs.Plain.{Plain, Items, Members}
use Rattle.jsonc_tree.specs.Content.{Content}
use Rattle.jsonc_tree.specs.OrderedTree.{OrderedTree}
use Rattle.jsonc_tree.specs.Values as values
use Rattle.jsonc_tree.specs.Values.{ValueOf, ItemsOf, MembersOf, DocumentValueOf}
use Rattle.jsonc_sound.specs.Shape.{token_then}
use Rattle.jsonc_sound.specs.Changes.{Changed}
use Rattle.jsonc_sound.specs.Rows.{RowKind, of_values, of_properties, container_of}
use Rattle.jsonc_tree.specs.OrderedTree.{Top}
use Rattle.jsonc_sound.specs.TreeChanges.{IsElement, DocumentChanged}
use Rattle.jsonc_sound.specs.EntryLaws.{LosesEntry, loses_item, loses_member}
use Rattle.jsonc_sound.specs.Leaving.{ElementRemoved, ClosesUp}
use Rattle.jsonc_sound.proofs.AtPath.{HeldAtPath, held_at_path}
use Rattle.jsonc_sound.proofs.RemovedEntries.{item_taken, member_taken, items_lose, members_lose}

module _ (o : Options) where
  array_held : {row : OrderedTree} {old : Plain} → ValueOf o Content.array (token_then 0x5B row) old → (vs : Items) × (old ≡ Plain.array vs) × ItemsOf o row vs
  array_held (values.array {vs = vs} g) = (vs, refl, item_taken o refl g)

  object_held : {row : OrderedTree} {old : Plain} → ValueOf o Content.object (token_then 0x7B row) old → (ms : Members) × (old ≡ Plain.object ms) × MembersOf o row ms
  object_held (values.object {ms = ms} g) = (ms, refl, member_taken o refl g)

  abbrev Without : List ℕ → ℕ → Plain → OrderedTree → Type 0
  Without path i x u = (y : Plain) × DocumentValueOf o u (Some y) × LosesEntry path i x y

  of_held : (kind : RowKind) (top : Top) (i : ℕ) (row left new : OrderedTree) (path : List ℕ) (x : Plain) (u : OrderedTree) → HeldAtPath o (container_of kind row) (container_of kind new) path x u
      → IsElement top.content → ElementRemoved top i row left → ClosesUp left new → Without path i x u
  of_held of_values top i row left new path x u held h e c =
      let a = array_held held.had in
      let m = items_lose o top i row left new h e c a.0 a.2 in
      let n = held.has (Plain.array m.0) (values.array (values.pass_to_items refl m.2)) in
      (n.0, n.1, loses_item m.1 (subst (λ v. Changed v (Plain.array m.0) path x n.0) a.1 n.2))
  of_held of_properties top i row left new path x u held h e c =
      let a = object_held held.had in
      let m = members_lose o top i row left new h e c a.0 a.2 in
      let n = held.has (Plain.object m.0) (values.object (values.pass_to_members refl m.2)) in
      (n.0, n.1, loses_member m.1 (subst (λ v. Changed v (Plain.object m.0) path x n.0) a.1 n.2))

  pub document_loses : (t : OrderedTree) (x : Plain) → DocumentValueOf o t (Some x) → (kind : RowKind) (top : Top) (i : ℕ) (row left new : OrderedTree) (path : List ℕ) (u : OrderedTree)
      → DocumentChanged (container_of kind row) (container_of kind new) path t u → IsElement top.content → ElementRemoved top i row left → ClosesUp left new → Without path i x u
  document_loses t x v kind top i row left new path u d h e c = of_held kind top i row left new path x u (held_at_path o x v d) h e c
