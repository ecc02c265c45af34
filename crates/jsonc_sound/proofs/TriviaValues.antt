-- A document has the same value where trivia is replaced by trivia.
use Rattle.std.proofs.Common.{ℕ, ◌≡◌, sym, subst, refl, Bool, true, false, List, [], ◌∷◌, Option, Some, None, IsTrue, inl, inr}
use Rattle.jsonc_text.specs.Options.{Options}
use Rattle.jsonc_text.specs.Plain.{Plain, Items, Members}
use Rattle.jsonc_tree.specs.Content.{Content}
use Rattle.jsonc_tree.specs.OrderedTree.{OrderedTree, none, more, followed_by}
use Rattle.jsonc_tree.specs.Values as values
use Rattle.jsonc_tree.specs.Values.{is_passed_over, ValueOf, ItemsOf, MembersOf, PropertyOf, HoldsValue, HasNoValue, HoldsAtMostOne, DocumentValueOf}
use Rattle.jsonc_layout.specs.nodes.Kinds.{is_trivia}
use Rattle.jsonc_sound.specs.TriviaChanges.{AreTrivia, leaves_then, LeavesChanged, StretchChanged, in_root, inside}
use Rattle.jsonc_sound.proofs.FirstNodes.{no_element, value_of_element, name_leaf_element}
use Rattle.jsonc_sound.proofs.Stretches.{Open, Behind, later_on, below_it, AtFront, at_front_or_behind, none_changed, none_behind, leaves_open, open_after, any_fits}

-- trivia is passed over
trivia_passed_over : (content : Content) → IsTrue (is_trivia content) → IsTrue (is_passed_over content)
trivia_passed_over (Content.whitespace s) h = refl
trivia_passed_over (Content.newline k) h = refl
trivia_passed_over (Content.comment s) h = refl
trivia_passed_over content h = cc

-- what is said of a row whatever is passed over at its front
record PassesOver (R : OrderedTree → Type 0) : Type 1 where
  put : {content : Content} {after : OrderedTree} → IsTrue (is_passed_over content) → R after → R (more content none after)
  taken : {content : Content} {after : OrderedTree} → IsTrue (is_passed_over content) → R (more content none after) → R after

all_put : {R : OrderedTree → Type 0} (cs : List Content) (back : OrderedTree) → PassesOver R → AreTrivia cs → R back → R (leaves_then cs back)
all_put [] back p h r = r
all_put (c ∷ cs) back p h r = p.put (trivia_passed_over c h.0) (all_put cs back p h.1 r)

all_taken : {R : OrderedTree → Type 0} (cs : List Content) (back : OrderedTree) → PassesOver R → AreTrivia cs → R (leaves_then cs back) → R back
all_taken [] back p h r = r
all_taken (c ∷ cs) back p h r = all_taken cs back p h.1 (p.taken (trivia_passed_over c h.0) r)

-- the first node of a row, and what is behind it
data Parts (was now : List Content) (at_end : Bool) (content : Content) (below after new : OrderedTree) : Type 0 where
  on : {rest : OrderedTree} → new ≡ more content below rest → Open was now at_end after rest → Parts was now at_end content below after new
  down : {rest : OrderedTree} → new ≡ more content rest after → LeavesChanged was now below rest → Parts was now at_end content below after new

parts : {was now : List Content} {at_end : Bool} {content : Content} {below after new : OrderedTree} → Behind was now at_end (more content below after) new → Parts was now at_end content below after new
parts (later_on h) = on refl h
parts (below_it h) = down refl h

module _ (o : Options) where
  items_pass : (vs : Items) → PassesOver (λ row. ItemsOf o row vs)
  items_pass vs = record { put = λ p r. values.pass_to_items p r; taken = λ p r. taken p r }
    where
      taken : {content : Content} {after : OrderedTree} {vs : Items} → IsTrue (is_passed_over content) → ItemsOf o (more content none after) vs → ItemsOf o after vs
      taken p (values.pass_to_items q r) = r
      taken {content} p (values.one_item h r) = absurd (no_element content (value_of_element h) p)

  members_pass : (ms : Members) → PassesOver (λ row. MembersOf o row ms)
  members_pass ms = record { put = λ p r. values.pass_to_members p r; taken = λ p r. taken p r }
    where
      taken : {content : Content} {after : OrderedTree} {ms : Members} → IsTrue (is_passed_over content) → MembersOf o (more content none after) ms → MembersOf o after ms
      taken p (values.pass_to_members q r) = r
      taken p (values.one_member h r) = cc

  property_pass : (name : List ℕ) (v : Plain) → PassesOver (λ row. PropertyOf o row name v)
  property_pass name v = record { put = λ p r. values.pass_to_name p r; taken = λ p r. taken p r }
    where
      taken : {content : Content} {after : OrderedTree} {name : List ℕ} {v : Plain} → IsTrue (is_passed_over content) → PropertyOf o (more content none after) name v → PropertyOf o after name v
      taken p (values.pass_to_name q r) = r
      taken {content} {name = name} p (values.name_of h r) = absurd (no_element content (name_leaf_element o content name h) p)

  no_value_pass : PassesOver HasNoValue
  no_value_pass = record { put = λ p r. values.pass p r; taken = λ p r. taken p r }
    where
      taken : {content : Content} {after : OrderedTree} → IsTrue (is_passed_over content) → HasNoValue (more content none after) → HasNoValue after
      taken p (values.pass q r) = r

  value_pass : (v : Plain) → PassesOver (λ row. HoldsValue o row v)
  value_pass v = record { put = λ p r. values.pass_to_value p r; taken = λ p r. taken p r }
    where
      taken : {content : Content} {after : OrderedTree} {v : Plain} → IsTrue (is_passed_over content) → HoldsValue o (more content none after) v → HoldsValue o after v
      taken p (values.pass_to_value q r) = r
      taken {content} p (values.value_of h r) = absurd (no_element content (value_of_element h) p)

module _ (o : Options) (was now : List Content) (old : AreTrivia was) (new_ones : AreTrivia now) where
  -- what is said of the old row is said of the new, if the stretch is in front
  front_kept : {R : OrderedTree → Type 0} {at_end : Bool} {row new : OrderedTree} → PassesOver R → AtFront was now at_end row new → R row → R new
  front_kept {R} p f r = subst R (sym f.new_is) (all_put now f.back p new_ones (all_taken was f.back p old (subst R f.old_is r)))

  no_value_kept : {at_end : Bool} {row new : OrderedTree} → HasNoValue row → Open was now at_end row new → HasNoValue new
  no_value_kept values.end k = elim (at_front_or_behind k) [ inl f ↦ front_kept (no_value_pass o) f values.end | inr b ↦ absurd (none_behind b) ]
  no_value_kept (values.pass h r) k =
      elim (at_front_or_behind k) [
        | inl f ↦ front_kept (no_value_pass o) f (values.pass h r)
        | inr b ↦ elim (parts b) [ on e l ↦ subst HasNoValue (sym e) (values.pass h (no_value_kept r l)) | down e l ↦ subst HasNoValue (sym e) (values.pass h r) ]
      ]

  mutual
    value_kept : {content : Content} {below new : OrderedTree} {v : Plain} → ValueOf o content below v → LeavesChanged was now below new → ValueOf o content new v
    value_kept (values.string h) k = absurd (none_changed k)
    value_kept values.number k = absurd (none_changed k)
    value_kept values.boolean k = absurd (none_changed k)
    value_kept values.null k = absurd (none_changed k)
    value_kept (values.array g) k = values.array (items_kept g (leaves_open false k))
    value_kept (values.object g) k = values.object (members_kept g (leaves_open false k))

    items_kept : {row new : OrderedTree} {vs : Items} → ItemsOf o row vs → Open was now false row new → ItemsOf o new vs
    items_kept {vs = vs} values.no_more_items k = elim (at_front_or_behind k) [ inl f ↦ front_kept (items_pass o vs) f values.no_more_items | inr b ↦ absurd (none_behind b) ]
    items_kept {vs = vs} (values.pass_to_items h r) k =
        elim (at_front_or_behind k) [
          | inl f ↦ front_kept (items_pass o vs) f (values.pass_to_items h r)
          | inr b ↦ elim (parts b) [ on e l ↦ subst (λ t. ItemsOf o t vs) (sym e) (values.pass_to_items h (items_kept r l)) | down e l ↦ subst (λ t. ItemsOf o t vs) (sym e) (values.pass_to_items h r) ]
        ]
    items_kept (values.one_item {v = v} {vs = vs} h r) k =
        elim (at_front_or_behind k) [
          | inl f ↦ front_kept (items_pass o (Items.item v vs)) f (values.one_item h r)
          | inr b ↦ elim (parts b) [ on e l ↦ subst (λ t. ItemsOf o t (Items.item v vs)) (sym e) (values.one_item h (items_kept r l)) | down e l ↦ subst (λ t. ItemsOf o t (Items.item v vs)) (sym e) (values.one_item (value_kept h l) r) ]
        ]

    members_kept : {row new : OrderedTree} {ms : Members} → MembersOf o row ms → Open was now false row new → MembersOf o new ms
    members_kept {ms = ms} values.no_more_members k = elim (at_front_or_behind k) [ inl f ↦ front_kept (members_pass o ms) f values.no_more_members | inr b ↦ absurd (none_behind b) ]
    members_kept {ms = ms} (values.pass_to_members h r) k =
        elim (at_front_or_behind k) [
          | inl f ↦ front_kept (members_pass o ms) f (values.pass_to_members h r)
          | inr b ↦ elim (parts b) [ on e l ↦ subst (λ t. MembersOf o t ms) (sym e) (values.pass_to_members h (members_kept r l)) | down e l ↦ subst (λ t. MembersOf o t ms) (sym e) (values.pass_to_members h r) ]
        ]
    members_kept (values.one_member {name = name} {v = v} {ms = ms} h r) k =
        elim (at_front_or_behind k) [
          | inl f ↦ front_kept (members_pass o (Members.member name v ms)) f (values.one_member h r)
          | inr b ↦ elim (parts b) [ on e l ↦ subst (λ t. MembersOf o t (Members.member name v ms)) (sym e) (values.one_member h (members_kept r l)) | down e l ↦ subst (λ t. MembersOf o t (Members.member name v ms)) (sym e) (values.one_member (property_kept h (leaves_open false l)) r) ]
        ]

    property_kept : {row new : OrderedTree} {name : List ℕ} {v : Plain} → PropertyOf o row name v → Open was now false row new → PropertyOf o new name v
    property_kept {name = name} {v = v} (values.pass_to_name h r) k =
        elim (at_front_or_behind k) [
          | inl f ↦ front_kept (property_pass o name v) f (values.pass_to_name h r)
          | inr b ↦ elim (parts b) [ on e l ↦ subst (λ t. PropertyOf o t name v) (sym e) (values.pass_to_name h (property_kept r l)) | down e l ↦ subst (λ t. PropertyOf o t name v) (sym e) (values.pass_to_name h r) ]
        ]
    property_kept {name = name} {v = v} (values.name_of h r) k =
        elim (at_front_or_behind k) [
          | inl f ↦ front_kept (property_pass o name v) f (values.name_of h r)
          | inr b ↦ elim (parts b) [ on e l ↦ subst (λ t. PropertyOf o t name v) (sym e) (values.name_of h (held_kept r l)) | down e l ↦ absurd (none_changed l) ]
        ]

    held_kept : {at_end : Bool} {row new : OrderedTree} {v : Plain} → HoldsValue o row v → Open was now at_end row new → HoldsValue o new v
    held_kept {v = v} (values.pass_to_value h r) k =
        elim (at_front_or_behind k) [
          | inl f ↦ front_kept (value_pass o v) f (values.pass_to_value h r)
          | inr b ↦ elim (parts b) [ on e l ↦ subst (λ t. HoldsValue o t v) (sym e) (values.pass_to_value h (held_kept r l)) | down e l ↦ subst (λ t. HoldsValue o t v) (sym e) (values.pass_to_value h r) ]
        ]
    held_kept {v = v} (values.value_of h r) k =
        elim (at_front_or_behind k) [
          | inl f ↦ front_kept (value_pass o v) f (values.value_of h r)
          | inr b ↦ elim (parts b) [ on e l ↦ subst (λ t. HoldsValue o t v) (sym e) (values.value_of h (no_value_kept r l)) | down e l ↦ subst (λ t. HoldsValue o t v) (sym e) (values.value_of (value_kept h l) r) ]
        ]

  root_kept : (w : Option Plain) {row new : OrderedTree} → HoldsAtMostOne o row w → Open was now true row new → HoldsAtMostOne o new w
  root_kept None h k = no_value_kept h k
  root_kept (Some v) h k = held_kept h k

  pub document_kept : (w : Option Plain) {t u : OrderedTree} → StretchChanged was now t u → DocumentValueOf o t w → DocumentValueOf o u w
  document_kept w (in_root row back) (below, same, h) =
      let first : below ≡ followed_by row (leaves_then was back) = cc in
      (followed_by row (leaves_then now back), refl, root_kept w (subst (λ t. HoldsAtMostOne o t w) first h) (open_after row back (any_fits was back)))
  document_kept w (inside {row = row} {new = new} k) (below, same, h) =
      let first : below ≡ row = cc in
      (new, refl, root_kept w (subst (λ t. HoldsAtMostOne o t w) first h) (leaves_open true k))
