-- An element is taken out: what leaves with it stays in place while spaces come, and is detached then.
use Rattle.std.proofs.Common.{◌≡◌, ℕ, ◌+◌, ◌-◌, ◌<◌, ◌≤◌, Bool, true, false, not, cond, List, [], ◌∷◌, ◌++◌, length, get_or, slice_range, Option, Some, None, IfSome, IsTrue, inl, inr, if◌then◌else◌, refl, sym, ap, subst, ◌∙◌, arith}
use Rattle.std.proofs.lemmas.Bool.{cases_Bool, cases_eq, cases_lt}
use Rattle.std.proofs.lemmas.List.Edits.{get_or-between, length-between}
use Rattle.std.proofs.lemmas.List.Elements.{All-append, All-nil, All-weaker}
use Rattle.std.specs.List.{All}
use Rattle.jsonc_tree.specs.Changes.{Splices}
use Rattle.jsonc_tree.specs.Content.{is_container}
use Rattle.jsonc_tree.specs.Tree.{Node, content_at, parent_at, children_at, place_at, is_container_at, is_in, IsTree}
use Rattle.jsonc_tree.proofs.Moves.{in_row}
use Rattle.jsonc_tree.proofs.Order.{parent_there}
use Rattle.jsonc_tree.proofs.Splicing.{in_at, out_from}
use Rattle.jsonc_layout.specs.nodes.Kinds.{is_property}
use Rattle.jsonc_layout.specs.lines.Kinds.{is_array_or_object}
use Rattle.jsonc_edit.specs.Due.{space_needed_between, listed, seen_before}
use Rattle.jsonc_edit.specs.Put.{AreChildren, AreSpaced, Extends, StandsBefore, nodes_of}
use Rattle.jsonc_edit.specs.declared.put.Spaces.{Spaces}
use Rattle.jsonc_edit.proofs.InsertedSpaces.{placed_ahead, placed_behind, placed_elsewhere}
use Rattle.jsonc_edit.proofs.NodesKept.{place_kept}
use Rattle.jsonc_edit.proofs.SpacedNodes.{IsChild, between_children}
use Rattle.jsonc_edit.proofs.Spacing.{parent_stays}
use Rattle.jsonc_edit.proofs.TakingOut.{parents_spaced}
use Rattle.jsonc_edit.specs.remove.Leaving.{comma_gone, first_gone, last_gone}
use Rattle.jsonc_edit.specs.remove.Removed.{comma_in, space_needed_at_comma, space_needed_at_stretch, hollow_from, hollow_to, is_hollow, is_next, IsClosedUp, LosesChild}
use Rattle.jsonc_edit.proofs.lemmas.remove.Bounds.{first_ahead, gone_ahead, last_from}

-- two siblings keep their order where a space comes
abbrev InOrder : List Node → List Node → ℕ → ℕ → Type 0
InOrder old new a b = (place_at old a ≤ place_at old b → place_at new a ≤ place_at new b) × (place_at old a < place_at old b → place_at new a < place_at new b)

module _ (old new : List Node) (x leaf : ℕ) (tree : IsTree old) (r : StandsBefore old new x leaf) where
  ahead_stays : (a : ℕ) → parent_at old a ≡ Some r.container → place_at old a < place_at old x → place_at new a ≡ place_at old a
  ahead_stays a said low = ap (place_at new) (sym (tree.found a r.container said)) ∙ placed_ahead old new x leaf tree r (place_at old a) low

  behind_moves : (a : ℕ) → parent_at old a ≡ Some r.container → place_at old x ≤ place_at old a → place_at new a ≡ place_at old a + 1
  behind_moves a said high = ap (place_at new) (sym (tree.found a r.container said)) ∙ placed_behind old new x leaf tree r (place_at old a) high (tree.within a r.container said)

  order_inside : (a b : ℕ) → parent_at old a ≡ Some r.container → parent_at old b ≡ Some r.container → InOrder old new a b
  order_inside a b said told =
      elim (cases_lt (place_at old a) (place_at old x)) [
        | inl low ↦ elim (cases_lt (place_at old b) (place_at old x)) [
          | inl less ↦ (λ h. omega (arith, ahead_stays a said low, ahead_stays b told less, h), λ h. omega (arith, ahead_stays a said low, ahead_stays b told less, h))
          | inr more ↦ (λ h. omega (arith, ahead_stays a said low, behind_moves b told more, h), λ h. omega (arith, ahead_stays a said low, behind_moves b told more, h))
        ]
        | inr high ↦ elim (cases_lt (place_at old b) (place_at old x)) [
          | inl less ↦ (λ h. absurd (omega (arith, high, less, h)), λ h. absurd (omega (arith, high, less, h)))
          | inr more ↦ (λ h. omega (arith, behind_moves a said high, behind_moves b told more, h), λ h. omega (arith, behind_moves a said high, behind_moves b told more, h))
        ]
      ]

  order_stays : (a b p : ℕ) → parent_at old a ≡ Some p → parent_at old b ≡ Some p → InOrder old new a b
  order_stays a b p said told =
      elim (cases_eq p r.container) [
        | inl same ↦ order_inside a b (said ∙ ap Some same) (told ∙ ap Some same)
        | inr ne ↦
            let first = placed_elsewhere old new x leaf tree r a p said ne in
            let second = placed_elsewhere old new x leaf tree r b p told ne in
            (λ h. omega (arith, first, second, h), λ h. omega (arith, first, second, h))
      ]

-- and where several come
pub orders_spaced : (xs : List ℕ) (old new : List Node) → IsTree old → AreSpaced old xs new → (a b p : ℕ) → parent_at old a ≡ Some p → parent_at old b ≡ Some p → InOrder old new a b
orders_spaced [] old new tree e a b p said told = subst (λ ns. InOrder old ns a b) (sym e) (λ h. h, λ h. h)
orders_spaced (x ∷ xs) old new tree (now, leaf, r, rest) a b p said told =
    let step = order_stays old now x leaf tree r a b p said told in
    let further = orders_spaced xs now new r.tree rest a b p (parent_stays old now x leaf tree r a p said) (parent_stays old now x leaf tree r b p told) in
    (λ h. further.0 (step.0 h), λ h. further.1 (step.1 h))

-- where children leave, a node that is detached stays so
none_stays : (old new : List Node) (c i j n : ℕ) → Splices old new c i j [] → parent_at old n ≡ None → parent_at new n ≡ None
none_stays old new c i j n s alone = s.parents n ∙ by (is_in n (slice_range (children_at old c) i j))
  where
    by : (b : Bool) → cond b None (parent_at old n) ≡ None
    by true = refl
    by false = alone

-- a stretch of children leaves
module _ (ns new : List Node) (tree : IsTree ns) (c from to : ℕ) (said : parent_at ns to ≡ Some c) (s : Splices ns new c from (place_at ns to + 1) []) where
  abbrev row : List ℕ
  row = children_at ns c

  abbrev gone : List ℕ
  gone = slice_range row from (place_at ns to + 1)

  to_within : place_at ns to + 1 ≤ length row
  to_within = omega (arith, tree.within to c said)

  gone_long : length gone ≡ place_at ns to + 1 - from
  gone_long = length-between row from (place_at ns to + 1) to_within

  gone_at : (m : ℕ) → from + m < place_at ns to + 1 → get_or gone m 0 ≡ get_or row (from + m) 0
  gone_at m h = get_or-between row from (place_at ns to + 1) m 0 h

  -- what stands before it stays
  before_stays : (k : ℕ) → parent_at ns k ≡ Some c → place_at ns k < from → parent_at new k ≡ Some c
  before_stays k told low =
      let out : is_in k gone ≡ false = out_from k gone (λ m h e.
      let inn : from + m < place_at ns to + 1 = omega (arith, h, gone_long) in
      let place : place_at ns k ≡ from + m = ap (place_at ns) (sym e ∙ gone_at m inn) ∙ tree.placed c (from + m) (omega (arith, inn, to_within)) in
      omega (arith, place, low)) in
      s.parents k ∙ ap (λ b. cond b None (parent_at ns k)) out ∙ told

  -- and what stands in it is detached then
  inside_leaves : (k : ℕ) → parent_at ns k ≡ Some c → from ≤ place_at ns k → place_at ns k ≤ place_at ns to → parent_at new k ≡ None
  inside_leaves k told low high =
      let m : ℕ = place_at ns k - from in
      let inn : from + m < place_at ns to + 1 = omega (arith, low, high) in
      let here : get_or gone m 0 ≡ k = gone_at m inn ∙ ap (λ j. get_or row j 0) (let e : from + m ≡ place_at ns k = omega (arith, low) in e) ∙ tree.found k c told in
      let within : is_in k gone ≡ true = subst (λ j. is_in j gone ≡ true) here (in_at gone m (omega (arith, inn, gone_long, low))) in
      s.parents k ∙ ap (λ b. cond b None (parent_at ns k)) within

-- before each node before which a space is due one may come: it is somebody's child
module _ (ns : List Node) (tree : IsTree ns) (c from to : ℕ) (said : parent_at ns to ≡ Some c) where
  at_comma : (comma : Option ℕ) → ((k : ℕ) → comma ≡ Some k → parent_at ns k ≡ Some c) → All (IsChild ns) (listed (space_needed_at_comma ns from comma))
  at_comma None child = All-nil (IsChild ns)
  at_comma (Some k) child = by (is_next (seen_before ns from) (Some k))
    where
      by : (b : Bool) → All (IsChild ns) (listed (cond b None (space_needed_between ns k k)))
      by true = All-nil (IsChild ns)
      by false = between_children ns tree k c (child k refl) k

  at_stretch : (comma : Option ℕ) → All (IsChild ns) (listed (space_needed_at_stretch ns from to comma))
  at_stretch None = between_children ns tree to c said from
  at_stretch (Some k) = by (is_next (seen_before ns from) (Some k))
    where
      by : (b : Bool) → All (IsChild ns) (listed (cond b (space_needed_between ns k to) (space_needed_between ns from to)))
      by true = between_children ns tree to c said k
      by false = between_children ns tree to c said from

  behind_gap : (comma : Option ℕ) → All (IsChild ns) (listed (if is_property (content_at ns c) then None else space_needed_at_stretch ns from to comma))
  behind_gap comma = by (is_property (content_at ns c))
    where
      by : (b : Bool) → All (IsChild ns) (listed (cond b None (space_needed_at_stretch ns from to comma)))
      by true = All-nil (IsChild ns)
      by false = at_stretch comma

-- what leaves with n, a child of c
module _ (old ready : List Node) (tree : IsTree old) (prepared : Extends old ready) (n c : ℕ) (said : parent_at old n ≡ Some c) (from to : ℕ) (comma : Option ℕ) (e : from ≡ first_gone old n) (f : to ≡ last_gone old n) (g : comma ≡ comma_in old c n) where
  from_child : parent_at old from ≡ Some c
  from_child = ap (parent_at old) e ∙ (first_ahead old tree c n said).0

  to_child : parent_at old to ≡ Some c
  to_child = ap (parent_at old) f ∙ (last_from old tree c n said).0

  from_low : place_at old from ≤ place_at old n
  from_low = omega (arith, ap (place_at old) e, (first_ahead old tree c n said).1)

  to_high : place_at old n ≤ place_at old to
  to_high = omega (arith, ap (place_at old) f, (last_from old tree c n said).1)

  comma_ahead : (k : ℕ) → comma ≡ Some k → (parent_at old k ≡ Some c) × (place_at old k < place_at old from)
  comma_ahead k is = by (is_array_or_object (content_at old c)) (sym g ∙ is)
    where
      by : (b : Bool) → cond b (comma_gone old n) None ≡ Some k → (parent_at old k ≡ Some c) × (place_at old k < place_at old from)
      by true found = let ahead = gone_ahead old tree c n said k found in (ahead.0, omega (arith, ahead.1, ap (place_at old) e))
      by false found = absurd (let wrong : None ≡ Some k = found in cc)

  stays_ready : (k : ℕ) → parent_at old k ≡ Some c → parent_at ready k ≡ Some c
  stays_ready k told = prepared.keeps.parent k (parent_there old tree k c told).0 ∙ told

  order_ready : (a b : ℕ) → parent_at old a ≡ Some c → parent_at old b ≡ Some c → InOrder old ready a b
  order_ready a b p q =
      let first = place_kept old ready tree prepared.keeps a c p in
      let second = place_kept old ready tree prepared.keeps b c q in
      (λ h. omega (arith, first, second, h), λ h. omega (arith, first, second, h))

  pub space_children : (before behind : Option ℕ) → before ≡ space_needed_at_comma old from comma → behind ≡ (if is_property (content_at old c) then None else space_needed_at_stretch old from to comma) → (spaces : Spaces) → nodes_of spaces ≡ listed before ++ listed behind → AreChildren ready (nodes_of spaces)
  space_children before behind h i spaces hand =
      let first : All (IsChild old) (listed before) = subst (λ o. All (IsChild old) (listed o)) (sym h) (at_comma old tree c from to to_child comma (λ k is. (comma_ahead k is).0)) in
      let second : All (IsChild old) (listed behind) = subst (λ o. All (IsChild old) (listed o)) (sym i) (behind_gap old tree c from to to_child comma) in
      subst (AreChildren ready) (sym hand)
      (All-weaker (IsChild old) (IsChild ready) (λ x (p, told). (p, prepared.keeps.parent x (parent_there old tree x p told).0 ∙ told)) (listed before ++ listed behind) (All-append (IsChild old) (listed before) (listed behind) first second))

  -- spaces have come
  module _ (xs : List ℕ) (spaced : List Node) (put : AreSpaced ready xs spaced) where
    stays : (k : ℕ) → parent_at old k ≡ Some c → parent_at spaced k ≡ Some c
    stays k told = parents_spaced xs ready spaced prepared.tree put k c (stays_ready k told)

    order : (a b : ℕ) → parent_at old a ≡ Some c → parent_at old b ≡ Some c → InOrder old spaced a b
    order a b p q =
        let first = order_ready a b p q in
        let second = orders_spaced xs ready spaced prepared.tree put a b c (stays_ready a p) (stays_ready b q) in
        (λ h. second.0 (first.0 h), λ h. second.1 (first.1 h))

    pub from_stays : parent_at spaced from ≡ Some c
    from_stays = stays from from_child

    pub to_stays : parent_at spaced to ≡ Some c
    to_stays = stays to to_child

    pub still_in_order : place_at spaced from ≤ place_at spaced to
    still_in_order = (order from to from_child to_child).0 (omega (arith, from_low, to_high))

    -- the stretch has left
    module _ (after : IsTree spaced) (parted : List Node) (s : Splices spaced parted c (place_at spaced from) (place_at spaced to + 1) []) where
      comma_still : (k : ℕ) → comma ≡ Some k → parent_at parted k ≡ Some c
      comma_still k is =
          let ahead = comma_ahead k is in
          before_stays spaced parted after c (place_at spaced from) to to_stays s k (stays k ahead.0) ((order k from ahead.0 from_child).1 ahead.1)

      comma_by : (o : Option ℕ) → comma ≡ o → IfSome o (λ k. parent_at parted k ≡ Some c)
      comma_by None is = tt
      comma_by (Some k) is = comma_still k is

      pub comma_stays : IfSome comma (λ k. parent_at parted k ≡ Some c)
      comma_stays = comma_by comma refl

      n_left : parent_at parted n ≡ None
      n_left = inside_leaves spaced parted after c (place_at spaced from) to to_stays s n (stays n said) ((order from n from_child said).0 from_low) ((order n to said to_child).0 to_high)

      -- and the comma
      module _ (joined : List Node) (loses : LosesChild parted joined c comma) where
        lost : (o : Option ℕ) → LosesChild parted joined c o → (is_container_at joined c ≡ is_container_at parted c) × (parent_at joined n ≡ None)
        lost None same = (ap (λ ns. is_container_at ns c) same, ap (λ ns. parent_at ns n) same ∙ n_left)
        lost (Some k) left = (ap is_container (left.content c), none_stays parted joined c (place_at parted k) (place_at parted k + 1) n left n_left)

        pub still_holds : IsTrue (is_container_at joined c)
        still_holds = (lost comma loses).0 ∙ ap is_container (s.content c) ∙ (in_row spaced after to c to_stays).1

        pub stays_away : (new : List Node) → IsClosedUp joined new c → parent_at new n ≡ None
        stays_away new closed =
            elim (cases_Bool (is_hollow joined c)) [
              | inl hollow ↦ none_stays joined new c (hollow_from joined c) (hollow_to joined c) n (closed.0 hollow) (lost comma loses).1
              | inr full ↦ ap (λ ns. parent_at ns n) (closed.1 (ap not full)) ∙ (lost comma loses).1
            ]
