-- The values that the container at a path has: one where it stands, and as many as its row has elements.
use Rattle.std.proofs.Common.{ℕ, suc, ◌≡◌, ◌∙◌, sym, ap, subst, refl, List, length, Some}
use Rattle.std.proofs.lemmas.List.{append-nil}
use Rattle.jsonc_text.specs.Options.{Options}
use Rattle.jsonc_text.specs.Plain as plain
use Rattle.jsonc_text.specs.Plain.{Plain, Items, no_items, item, Members, no_members, member}
use Rattle.jsonc_tree.specs.Content.{Content}
use Rattle.jsonc_tree.specs.OrderedTree.{OrderedTree, none, followed_by}
use Rattle.jsonc_tree.specs.Values as values
use Rattle.jsonc_tree.specs.Values.{ItemsOf, MembersOf, ValueOf, DocumentValueOf}
use Rattle.jsonc_sound.specs.Changes as changes
use Rattle.jsonc_sound.specs.Changes.{ItemChanged, MemberChanged}
use Rattle.jsonc_sound.specs.Leaving.{element_count}
use Rattle.jsonc_sound.specs.Rows.{RowKind, of_values, of_properties, closing, container_of}
use Rattle.jsonc_sound.specs.Shape.{token_then}
use Rattle.jsonc_sound.specs.TreeChanges.{IsElement, DocumentChanged}
use Rattle.jsonc_sound.proofs.AtPath.{held_at_path}
use Rattle.jsonc_sound.proofs.FirstNodes.{value_of_element}
use Rattle.jsonc_edit.proofs.OneValue.{document_once}
use Rattle.jsonc_edit.specs.multiline.Laws.{bracketed}
use Rattle.jsonc_insert.proofs.lemmas.named.PathValues.{value_once}
use Rattle.jsonc_run.specs.promise.PlaceLaws.{texts_of}
use Rattle.jsonc_run.proofs.lemmas.promise.Entries.{element_text, over_text}
use Rattle.jsonc_run.proofs.lemmas.promise.Insides.{as_many, texts_followed}
use Rattle.jsonc_run.proofs.lemmas.promise.Plains.{list_of_items, list_of_members}
use Rattle.jsonc_run.proofs.lemmas.promise.Reversed.{flip}

-- what has come at a path may be replaced by itself
item_right : {was now : Plain} {i : ℕ} {vs ws : plain.Items} → ItemChanged was now i vs ws → ItemChanged now now i ws ws
item_right changes.this_item = changes.this_item
item_right (changes.later_item k) = changes.later_item (item_right k)

member_right : {was now : Plain} {i : ℕ} {ms ns : Members} → MemberChanged was now i ms ns → MemberChanged now now i ns ns
member_right changes.this_member = changes.this_member
member_right (changes.later_member k) = changes.later_member (member_right k)

pub right_so : {was now : Plain} {path : List ℕ} {x y : Plain} → changes.Changed was now path x y → changes.Changed now now path y y
right_so changes.itself = changes.itself
right_so (changes.in_array k c) = changes.in_array (item_right k) (right_so c)
right_so (changes.in_object k c) = changes.in_object (member_right k) (right_so c)

-- as many texts as values
items_counted : {o : Options} {row : OrderedTree} {vs : Items} → ItemsOf o row vs → length (texts_of row) ≡ length (list_of_items vs)
items_counted values.no_more_items = refl
items_counted (values.pass_to_items {content = c} {below = below} {after = after} h g) = ap length (over_text c below after h) ∙ items_counted g
items_counted (values.one_item {content = c} {below = below} {after = after} h g) = ap length (element_text c below after (value_of_element h)) ∙ ap suc (items_counted g)

members_counted : {o : Options} {row : OrderedTree} {ms : Members} → MembersOf o row ms → length (texts_of row) ≡ length (list_of_members ms)
members_counted values.no_more_members = refl
members_counted (values.pass_to_members {content = c} {below = below} {after = after} h g) = ap length (over_text c below after h) ∙ members_counted g
members_counted (values.one_member {below = below} {after = after} h g) = ap length (element_text Content.property below after refl) ∙ ap suc (members_counted g)

-- the values of a container's row
pub items_held : {o : Options} {row : OrderedTree} {v : Plain} {vs : Items} (kind : RowKind) → ValueOf o (container_of kind row).content (container_of kind row).below v → v ≡ plain.array vs → length (texts_of row) ≡ length (list_of_items vs)
items_held {vs = vs} of_values (values.array {vs = ws} (values.pass_to_items p h)) e = let same : ws ≡ vs = cc in items_counted h ∙ ap (λ l. length (list_of_items l)) same
items_held of_values (values.array (values.one_item h g)) e = let wrong : IsElement (Content.token 0x5B) = value_of_element h in cc
items_held of_properties (values.object h) e = cc

pub members_held : {o : Options} {row : OrderedTree} {v : Plain} {ms : Members} (kind : RowKind) → ValueOf o (container_of kind row).content (container_of kind row).below v → v ≡ plain.object ms → length (texts_of row) ≡ length (list_of_members ms)
members_held {ms = ms} of_properties (values.object {ms = ns} (values.pass_to_members p h)) e = let same : ns ≡ ms = cc in members_counted h ∙ ap (λ l. length (list_of_members l)) same
members_held of_values (values.array h) e = cc

-- the container that has changed stood in the document with its value
module _ (o : Options) {t u : OrderedTree} {x y : Plain} (h : DocumentValueOf o t (Some x)) (k : DocumentValueOf o u (Some y)) (kind : RowKind) (row new : OrderedTree) {path : List ℕ} (c : DocumentChanged (bracketed kind row) (bracketed kind new) path t u) where
  abbrev old_value : Plain
  old_value = (held_at_path o x h c).old

  stands : changes.Changed old_value old_value path x x
  stands =
      let held = held_at_path o x h c in
      let there = (held_at_path o y k (flip c)).has held.old held.had in
      let both : Some there.0 ≡ Some x = document_once o t (Some there.0) (Some x) there.1 h in
      let same : there.0 ≡ x = cc in
      subst (λ z. changes.Changed held.old held.old path z z) same (right_so there.2)

  row_texts : element_count row ≡ length (texts_of (followed_by row (token_then (closing kind) none)))
  row_texts = as_many row ∙ ap (λ (l : List (List ℕ)). length l) (sym (texts_followed row (token_then (closing kind) none) ∙ append-nil (texts_of row)))

  pub as_many_items : {vs : Items} {w : Plain} {z : Plain} → changes.Changed (plain.array vs) w path x z → element_count row ≡ length (list_of_items vs)
  as_many_items g = row_texts ∙ items_held kind (held_at_path o x h c).had (value_once stands g)

  pub as_many_members : {ms : Members} {w : Plain} {z : Plain} → changes.Changed (plain.object ms) w path x z → element_count row ≡ length (list_of_members ms)
  as_many_members g = row_texts ∙ members_held kind (held_at_path o x h c).had (value_once stands g)
