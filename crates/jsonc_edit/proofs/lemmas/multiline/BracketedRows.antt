-- An array or object of a sound document: its brackets, and the row between them, which another row replaces.
use Rattle.std.proofs.Common.{◌≡◌, ◌∙◌, ℕ, ◌-◌, ◌<◌, List, [], ◌∷◌, ◌++◌, All, length, IsTrue, true, refl, sym, ap, subst, arith, append-nil, length-append}
use Rattle.std.proofs.lemmas.List.{take_at}
use Rattle.std.proofs.lemmas.List.Elements.{All-head, All-tail}
use Rattle.jsonc_text.specs.Options.{Options}
use Rattle.jsonc_tree.specs.Content as content
use Rattle.jsonc_tree.specs.Content.{token}
use Rattle.jsonc_tree.specs.OrderedTree.{OrderedTree, Top, none, followed_by, ordered_tree}
use Rattle.jsonc_tree.specs.Tree.{Node, content_at, children_at, IsTree}
use Rattle.jsonc_tree.proofs.Rows.{followed_by-none}
use Rattle.jsonc_layout.proofs.lemmas.nodes.InTree.{children_there}
use Rattle.jsonc_layout.specs.lines.Kinds.{is_array_or_object}
use Rattle.jsonc_sound.specs.Rows.{RowKind, of_values, of_properties, closing, holder, opening}
use Rattle.jsonc_sound.specs.Shape.{token_then}
use Rattle.jsonc_sound.specs.SoundTrees.{SoundTree}
use Rattle.jsonc_sound.specs.TreeChanges.{DocumentChanged}
use Rattle.jsonc_edit.specs.Changes.{row_below, top_at}
use Rattle.jsonc_edit.specs.Paths.{IsAt}
use Rattle.jsonc_edit.specs.multiline.Laws.{bracketed}
use Rattle.jsonc_edit.specs.multiline.Lines.{between}
use Rattle.jsonc_edit.specs.multiline.Multiline.{TakesRow}
use Rattle.jsonc_edit.specs.multiline.Slots.{Slot, row_in}
use Rattle.jsonc_edit.proofs.FittingNodes.{over_there}
use Rattle.jsonc_edit.proofs.Lists.{all_front, all_rest}
use Rattle.jsonc_edit.proofs.PutRows.{document_put, inside_put, part_put, RowPut}
use Rattle.jsonc_edit.proofs.Standing.{brackets_stand, row_stands, same_top, standing, token_first}
use Rattle.jsonc_edit.proofs.Uniqueness.{over_at}
use Rattle.jsonc_edit.proofs.lemmas.commas.Holders.{same_document}
use Rattle.jsonc_edit.proofs.lemmas.multiline.FilledRows.{filled_stands, AllFit}
use Rattle.jsonc_edit.proofs.lemmas.remove.Containers.{brackets, held_at}

pub record BracketedRow (ns : List Node) (c : ℕ) (kind : RowKind) : Type 0 where
  pub open_with : ℕ
  pub inner : List ℕ
  pub last : ℕ
  pub is : content_at ns c ≡ holder kind
  pub children : children_at ns c ≡ open_with ∷ (inner ++ last ∷ [])
  pub opens : content_at ns open_with ≡ token (opening kind)
  pub closes : content_at ns last ≡ token (closing kind)

same_holder : (kind other : RowKind) → holder kind ≡ holder other → kind ≡ other
same_holder of_values of_values e = refl
same_holder of_properties of_properties e = refl
same_holder of_values of_properties e = absurd (let wrong : content.array ≡ content.object = e in cc)
same_holder of_properties of_values e = absurd (let wrong : content.object ≡ content.array = e in cc)

holds_kind : (kind : RowKind) → is_array_or_object (holder kind) ≡ true
holds_kind of_values = refl
holds_kind of_properties = refl

module _ (o : Options) (ns : List Node) (path : List ℕ) (c : ℕ) (tree : IsTree ns) (sound : SoundTree o (ordered_tree ns 0)) (at : IsAt ns path c) where
  pub bracketed_row : IsTrue (is_array_or_object (content_at ns c)) → (kind : RowKind) × BracketedRow ns c kind
  bracketed_row holds =
      let h = held_at o ns tree sound path c at holds in
      let b = brackets o ns tree c (over_there ns tree c (over_at ns tree path c at)) h in
      (h.kind, record { open_with = b.open_with; inner = b.inner; last = b.last; is = h.is; children = b.children; opens = b.opens; closes = b.closes })

  pub bracketed_as : (kind : RowKind) → content_at ns c ≡ holder kind → BracketedRow ns c kind
  bracketed_as kind is = let b = bracketed_row (ap is_array_or_object is ∙ holds_kind kind) in subst (BracketedRow ns c) (same_holder b.0 kind (sym b.1.is ∙ is)) b.1

-- what stands between the first and the last
pub between_is : (x y : ℕ) (inner : List ℕ) → between (x ∷ (inner ++ y ∷ [])) ≡ inner
between_is x y inner = take_at inner (y ∷ []) (length (x ∷ (inner ++ y ∷ [])) - 1 - 1) (omega (arith, length-append inner (y ∷ [])))

module _ (ns : List Node) (tree : IsTree ns) (c : ℕ) (there : c < length ns) {kind : RowKind} (b : BracketedRow ns c kind) where
  abbrev There : ℕ → Type 0
  There n = n < length ns

  all_there : All There (b.open_with ∷ (b.inner ++ b.last ∷ []))
  all_there = subst (All There) b.children (children_there ns tree c)

  rest_there : All There (b.inner ++ b.last ∷ [])
  rest_there = All-tail There b.open_with (b.inner ++ b.last ∷ []) all_there

  pub open_there : There b.open_with
  open_there = All-head There b.open_with (b.inner ++ b.last ∷ []) all_there

  pub inner_there : All There b.inner
  inner_there = all_front There b.inner (b.last ∷ []) rest_there

  pub inner_all : (P : ℕ → Type 0) → All P (children_at ns c) → All P b.inner
  inner_all P all = all_front P b.inner (b.last ∷ []) (All-tail P b.open_with (b.inner ++ b.last ∷ []) (subst (All P) b.children all))

  pub last_there : There b.last
  last_there = All-head There b.last [] (all_rest There b.inner (b.last ∷ []) rest_there)

  pub in_row : between (children_at ns c) ≡ b.inner
  in_row = ap between b.children ∙ between_is b.open_with b.last b.inner

  abbrev close : OrderedTree
  close = token_then (closing kind) none

  row_is : row_below ns c ≡ token_then (opening kind) (followed_by (standing ns b.inner) close)
  row_is = row_stands ns tree c there ∙ ap (standing ns) b.children ∙ brackets_stand ns tree b.open_with b.last (opening kind) (closing kind) b.inner b.opens b.closes

  pub top_is : top_at ns c ≡ bracketed kind (standing ns b.inner)
  top_is = same_top (content_at ns c) (holder kind) (row_below ns c) (token_then (opening kind) (followed_by (standing ns b.inner) close)) b.is row_is

  -- nothing changes
  pub row_stays : (path : List ℕ) → IsAt ns path c → DocumentChanged (bracketed kind (standing ns b.inner)) (bracketed kind (standing ns b.inner)) path (ordered_tree ns 0) (ordered_tree ns 0)
  row_stays path at = subst (λ (w : Top). DocumentChanged w w path (ordered_tree ns 0) (ordered_tree ns 0)) top_is (same_document ns tree path c at)

  module _ (new : List Node) where
    -- all children are replaced, the brackets by brackets
    pub row_given : (r : RowPut ns new c) → r.from ≡ 0 → r.to ≡ length (children_at ns c) → (now : OrderedTree) → standing r.ready r.put ≡ token_then (opening kind) (followed_by now close)
        → (path : List ℕ) → IsAt ns path c → DocumentChanged (bracketed kind (standing ns b.inner)) (bracketed kind now) path (ordered_tree ns 0) (ordered_tree new 0)
    row_given r from to now stands path at = document_put ns new c r b.is row_is (part_put ns new c r [] (children_at ns c) [] (sym (append-nil (children_at ns c))) from (omega (arith, to)) ∙ followed_by-none (standing r.ready r.put) ∙ stands) path at

    -- all between the brackets is replaced
    pub row_taken : {slots : List Slot} → TakesRow ns new c slots → AllFit ns slots → (path : List ℕ) → IsAt ns path c → DocumentChanged (bracketed kind (standing ns b.inner)) (bracketed kind (row_in ns slots)) path (ordered_tree ns 0) (ordered_tree new 0)
    row_taken r fit path at =
        let put : RowPut ns new c = record { ready = r.ready; from = 1; to = length (children_at ns c) - 1; put = r.row; tree = tree; there = there; prepared = r.prepared; join = r.join; spliced = r.put; after = r.tree } in
        inside_put ns new c put kind b.open_with [] b.inner (b.last ∷ []) b.is b.opens b.children refl (omega (arith, ap length b.children, length-append b.inner (b.last ∷ [])))
        refl refl (filled_stands ns r.ready tree r.prepared r.filled fit) (token_first ns tree b.last (closing kind) none b.closes) path at
