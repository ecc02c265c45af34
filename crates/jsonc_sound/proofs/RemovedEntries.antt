-- The items of an array, and the properties of an object, without that of the element that has left.
use Rattle.std.proofs.Common.{ℕ, suc, IsTrue}
use Rattle.jsonc_text.specs.Options.{Options}
use Rattle.jsonc_text.specs.Plain.{Items, item, Members, member}
use Rattle.jsonc_tree.specs.Content.{Content}
use Rattle.jsonc_tree.specs.OrderedTree.{OrderedTree, more}
use Rattle.jsonc_tree.specs.Values as values
use Rattle.jsonc_tree.specs.Values.{is_passed_over, ItemsOf, MembersOf}
use Rattle.jsonc_tree.specs.OrderedTree.{Top}
use Rattle.jsonc_sound.specs.TreeChanges.{IsElement}
use Rattle.jsonc_sound.proofs.FirstNodes.{no_element, value_of_element}
use Rattle.jsonc_sound.specs.Leaving.{ElementRemoved, ClosesUp}
use Rattle.jsonc_sound.specs.Values as entries
use Rattle.jsonc_sound.specs.Values.{ItemRemoved, MemberRemoved}
use Rattle.jsonc_sound.proofs.Entries.{Loses, Reads, entry_gone}

module _ (o : Options) where
  pub item_taken : {content : Content} {below after : OrderedTree} {vs : Items} → IsTrue (is_passed_over content) → ItemsOf o (more content below after) vs → ItemsOf o after vs
  item_taken p (values.pass_to_items q r) = r
  item_taken {content} p (values.one_item h r) = absurd (no_element content (value_of_element h) p)

  first_item : {content : Content} {below after : OrderedTree} {vs : Items} → IsElement content → ItemsOf o (more content below after) vs → (ws : Items) × ItemRemoved 0 vs ws × ItemsOf o after ws
  first_item {content} h (values.pass_to_items q r) = absurd (no_element content h q)
  first_item h (values.one_item {vs = vs} g r) = (vs, entries.this_item, r)

  later_items : {content : Content} {below x y : OrderedTree} {i : ℕ} {vs : Items} → IsElement content → ItemsOf o (more content below x) vs
      → Loses (ItemsOf o) ItemRemoved i x y → (ws : Items) × ItemRemoved (suc i) vs ws × ItemsOf o (more content below y) ws
  later_items {content} h (values.pass_to_items q r) l = absurd (no_element content h q)
  later_items h (values.one_item {v = v} {vs = vs} g r) l = let m = l vs r in (item v m.0, entries.later_item m.1, values.one_item g m.2)

  items_read : Reads (ItemsOf o) ItemRemoved
  items_read = record { put = λ h r. values.pass_to_items h r; taken = λ h r. item_taken h r; first = λ h r. first_item h r; later = λ h r l. later_items h r l }

  pub items_lose : (top : Top) (i : ℕ) (row left new : OrderedTree) → IsElement top.content → ElementRemoved top i row left → ClosesUp left new → Loses (ItemsOf o) ItemRemoved i row new
  items_lose top i row left new h e c = entry_gone (ItemsOf o) ItemRemoved items_read top i row left new h e c

  pub member_taken : {content : Content} {below after : OrderedTree} {ms : Members} → IsTrue (is_passed_over content) → MembersOf o (more content below after) ms → MembersOf o after ms
  member_taken p (values.pass_to_members q r) = r
  member_taken p (values.one_member h r) = cc

  first_member : {content : Content} {below after : OrderedTree} {ms : Members} → IsElement content → MembersOf o (more content below after) ms → (ns : Members) × MemberRemoved 0 ms ns × MembersOf o after ns
  first_member {content} h (values.pass_to_members q r) = absurd (no_element content h q)
  first_member h (values.one_member {ms = ms} g r) = (ms, entries.this_member, r)

  later_members : {content : Content} {below x y : OrderedTree} {i : ℕ} {ms : Members} → IsElement content → MembersOf o (more content below x) ms
      → Loses (MembersOf o) MemberRemoved i x y → (ns : Members) × MemberRemoved (suc i) ms ns × MembersOf o (more content below y) ns
  later_members {content} h (values.pass_to_members q r) l = absurd (no_element content h q)
  later_members h (values.one_member {name = name} {v = v} {ms = ms} g r) l = let m = l ms r in (member name v m.0, entries.later_member m.1, values.one_member g m.2)

  members_read : Reads (MembersOf o) MemberRemoved
  members_read = record { put = λ h r. values.pass_to_members h r; taken = λ h r. member_taken h r; first = λ h r. first_member h r; later = λ h r l. later_members h r l }

  pub members_lose : (top : Top) (i : ℕ) (row left new : OrderedTree) → IsElement top.content → ElementRemoved top i row left → ClosesUp left new → Loses (MembersOf o) MemberRemoved i row new
  members_lose top i row left new h e c = entry_gone (MembersOf o) MemberRemoved members_read top i row left new h e c
