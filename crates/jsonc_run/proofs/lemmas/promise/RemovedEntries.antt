-- The value of a document that has lost an entry, by entries.
use Rattle.std.proofs.Common.{ℕ, suc, ◌≡◌, sym, ap, subst, refl, List, [], ◌∷◌, ◌++◌, length, Option, Some, None}
use Rattle.jsonc_text.specs.Options.{Options}
use Rattle.jsonc_text.specs.Plain as plain
use Rattle.jsonc_text.specs.Plain.{Plain, Items, item, Members, member}
use Rattle.jsonc_tree.specs.OrderedTree.{OrderedTree, Top}
use Rattle.jsonc_tree.specs.Values.{DocumentValueOf}
use Rattle.jsonc_sound.specs.EntryLaws.{LosesEntry, loses_item, loses_member}
use Rattle.jsonc_sound.specs.Leaving.{ElementRemoved, ClosesUp}
use Rattle.jsonc_sound.specs.Rows.{RowKind, container_of}
use Rattle.jsonc_sound.specs.TreeChanges.{IsElement, DocumentChanged}
use Rattle.jsonc_sound.specs.Values as entries
use Rattle.jsonc_sound.specs.Values.{ItemRemoved, MemberRemoved}
use Rattle.jsonc_sound.proofs.RemovedValues.{document_loses}
use Rattle.jsonc_edit.proofs.OneValue.{document_once}
use Rattle.jsonc_edit.proofs.SoundValues.{some_value}
use Rattle.jsonc_run.specs.texts.Paths.{Kind, an_array, an_object}
use Rattle.jsonc_run.specs.texts.Entries.{Named, of, Changed}
use Rattle.jsonc_run.specs.texts.Leaving.{Loses, one}
use Rattle.jsonc_run.proofs.lemmas.promise.Plains.{changed, entry_of, list_of_items, list_of_members, same_items, same_members, items_of, members_of}

record Lost (kind : Kind) (i : ℕ) (x y : Plain) : Type 0 where
  front : List Named
  old : Named
  back : List Named
  place : length front ≡ i
  before : x ≡ of kind (front ++ old ∷ back)
  after : y ≡ of kind (front ++ back)

item_lost : {i : ℕ} {vs ws : Items} → ItemRemoved i vs ws → Lost an_array i (plain.array vs) (plain.array ws)
item_lost (entries.this_item {v = v} {vs = vs}) = record { front = []; old = entry_of [] v; back = list_of_items vs; place = refl; before = ap (λ l. plain.array (item v l)) (sym (same_items vs)); after = ap plain.array (sym (same_items vs)) }
item_lost (entries.later_item {v = v} k) =
    let m = item_lost k in
    record { front = entry_of [] v ∷ m.front; old = m.old; back = m.back; place = ap suc m.place; before = ap (λ p. plain.array (item v (items_of p))) m.before; after = ap (λ p. plain.array (item v (items_of p))) m.after }

member_lost : {i : ℕ} {ms ns : Members} → MemberRemoved i ms ns → Lost an_object i (plain.object ms) (plain.object ns)
member_lost (entries.this_member {name = n} {v = v} {ms = ms}) = record { front = []; old = entry_of n v; back = list_of_members ms; place = refl; before = ap (λ l. plain.object (member n v l)) (sym (same_members ms)); after = ap plain.object (sym (same_members ms)) }
member_lost (entries.later_member {name = n} {v = v} k) =
    let m = member_lost k in
    record { front = entry_of n v ∷ m.front; old = m.old; back = m.back; place = ap suc m.place; before = ap (λ p. plain.object (member n v (members_of p))) m.before; after = ap (λ p. plain.object (member n v (members_of p))) m.after }

lost_at : {a b x y : Plain} {i : ℕ} {path : List ℕ} (kind : Kind) → Lost kind i a b → Changed a b path x y → Loses (Some x) (Some y) (path ++ i ∷ [])
lost_at {b = b} {x = x} {y = y} {path = path} kind l h =
    let first = subst (λ p. Changed p b path x y) l.before h in
    let second = subst (λ p. Changed (of kind (l.front ++ l.old ∷ l.back)) p path x y) l.after first in
    subst (λ j. Loses (Some x) (Some y) (path ++ j ∷ [])) l.place (one kind l.front l.back l.old path second)

loses : {path : List ℕ} {i : ℕ} {x y : Plain} → LosesEntry path i x y → Loses (Some x) (Some y) (path ++ i ∷ [])
loses (loses_item r c) = lost_at an_array (item_lost r) (changed c)
loses (loses_member r c) = lost_at an_object (member_lost r) (changed c)

module _ (o : Options) where
  pub loses_value : (kind : RowKind) (top : Top) (i : ℕ) (row left new : OrderedTree) (path : List ℕ) (t u : OrderedTree) → IsElement top.content → ElementRemoved top i row left → ClosesUp left new → DocumentChanged (container_of kind row) (container_of kind new) path t u
      → (w x : Option Plain) → DocumentValueOf o t w → DocumentValueOf o u x → Loses w x (path ++ i ∷ [])
  loses_value kind top i row left new path t u element leaving closing d None x h k = absurd (some_value o d h)
  loses_value kind top i row left new path t u element leaving closing d (Some w) x h k =
      let m = document_loses o t w h kind top i row left new path u d element leaving closing in
      subst (λ z. Loses (Some w) z (path ++ i ∷ [])) (document_once o u (Some m.0) x m.1 k) (loses m.2)
