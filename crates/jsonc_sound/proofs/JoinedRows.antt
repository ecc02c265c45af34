-- Stretches of rows that follow one another.
use Rattle.std.proofs.Common.{◌≡◌, sym, ap, subst, refl, Bool, IsTrue}
use Rattle.jsonc_text.specs.Options.{Options}
use Rattle.jsonc_text.specs.Plain.{Items, no_items, item, Members, no_members, member}
use Rattle.jsonc_tree.specs.Content.{Content}
use Rattle.jsonc_tree.specs.OrderedTree.{OrderedTree, none, more, followed_by}
use Rattle.jsonc_tree.specs.Values as values
use Rattle.jsonc_tree.specs.Values.{ItemsOf, MembersOf}
use Rattle.jsonc_sound.specs.Lines.{ends_line, LinesEnd}
use Rattle.jsonc_sound.specs.RowLaws.{items_then, members_then}

-- their values
module _ (o : Options) where
  pub joined_items : {s t : OrderedTree} {vs ws : Items} → ItemsOf o s vs → ItemsOf o t ws → ItemsOf o (followed_by s t) (items_then vs ws)
  joined_items values.no_more_items g = g
  joined_items (values.pass_to_items h s) g = values.pass_to_items h (joined_items s g)
  joined_items (values.one_item v s) g = values.one_item v (joined_items s g)

  pub parted_items : (s t : OrderedTree) {us : Items} → ItemsOf o (followed_by s t) us → (vs ws : Items) × ItemsOf o s vs × ItemsOf o t ws × (us ≡ items_then vs ws)
  parted_items none t {us = us} g = (no_items, us, values.no_more_items, g, refl)
  parted_items (more c b s) t (values.pass_to_items h g) = let d = parted_items s t g in (d.0, d.1, values.pass_to_items h d.2, d.3, d.4)
  parted_items (more c b s) t (values.one_item {v = v} h g) = let d = parted_items s t g in (item v d.0, d.1, values.one_item h d.2, d.3, ap (item v) d.4)

  pub items_of_joined : (s t : OrderedTree) {us : Items} → (vs ws : Items) × ItemsOf o s vs × ItemsOf o t ws × (us ≡ items_then vs ws) → ItemsOf o (followed_by s t) us
  items_of_joined s t d = subst (ItemsOf o (followed_by s t)) (sym d.4) (joined_items d.2 d.3)

  pub joined_members : {s t : OrderedTree} {ms ns : Members} → MembersOf o s ms → MembersOf o t ns → MembersOf o (followed_by s t) (members_then ms ns)
  joined_members values.no_more_members g = g
  joined_members (values.pass_to_members h s) g = values.pass_to_members h (joined_members s g)
  joined_members (values.one_member v s) g = values.one_member v (joined_members s g)

  pub parted_members : (s t : OrderedTree) {ls : Members} → MembersOf o (followed_by s t) ls → (ms ns : Members) × MembersOf o s ms × MembersOf o t ns × (ls ≡ members_then ms ns)
  parted_members none t {ls = ls} g = (no_members, ls, values.no_more_members, g, refl)
  parted_members (more c b s) t (values.pass_to_members h g) = let d = parted_members s t g in (d.0, d.1, values.pass_to_members h d.2, d.3, d.4)
  parted_members (more c b s) t (values.one_member {name = name} {v = v} h g) = let d = parted_members s t g in (member name v d.0, d.1, values.one_member h d.2, d.3, ap (member name v) d.4)

  pub members_of_joined : (s t : OrderedTree) {ls : Members} → (ms ns : Members) × MembersOf o s ms × MembersOf o t ns × (ls ≡ members_then ms ns) → MembersOf o (followed_by s t) ls
  members_of_joined s t d = subst (MembersOf o (followed_by s t)) (sym d.4) (joined_members d.2 d.3)

-- and their line comments
ends_joined : (at_end : Bool) (s t : OrderedTree) → ends_line at_end (followed_by s t) ≡ ends_line (ends_line at_end t) s
ends_joined at_end none t = refl
ends_joined at_end (more (Content.newline k) below after) t = refl
ends_joined at_end (more content below after) t = refl

pub joined_lines : (at_end : Bool) (s t : OrderedTree) → LinesEnd (ends_line at_end t) s → LinesEnd at_end t → LinesEnd at_end (followed_by s t)
joined_lines at_end none t l m = m
joined_lines at_end (more content below s) t l m = (λ h. subst IsTrue (sym (ends_joined at_end s t)) (l.0 h), l.1, joined_lines at_end s t l.2 m)

pub parted_lines : (at_end : Bool) (s t : OrderedTree) → LinesEnd at_end (followed_by s t) → LinesEnd (ends_line at_end t) s × LinesEnd at_end t
parted_lines at_end none t l = (tt, l)
parted_lines at_end (more content below s) t l = let d = parted_lines at_end s t l.2 in ((λ h. subst IsTrue (ends_joined at_end s t) (l.0 h), l.1, d.0), d.1)
