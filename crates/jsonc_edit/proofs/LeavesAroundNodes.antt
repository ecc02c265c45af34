-- Between which leaves a node stands, where one row of the tree changes, and where a space comes.
use Rattle.std.proofs.Common.{◌≡◌, ◌≢◌, ℕ, ◌+◌, ◌<◌, ◌&&◌, Bool, true, false, cond, List, [], ◌∷◌, ◌++◌, All, length, take, drop, slice_index, Option, Some, None, inl, inr, refl, sym, ap, subst, ◌∙◌, arith, length-take, length-drop, get_or-take, get_or-drop}
use Rattle.std.proofs.lemmas.Bool.{cases_Bool}
use Rattle.std.proofs.lemmas.List.{append_assoc, append-nil, drop-drop, length-take-le, take-append-drop, take-append-le, take-take, take_at}
use Rattle.std.proofs.lemmas.List.Elements.{All-drop, All-take}
use Rattle.jsonc_tree.specs.Building.{Keeps}
use Rattle.jsonc_tree.specs.Order.{with_parent}
use Rattle.jsonc_text.specs.Text.{starts}
use Rattle.jsonc_tree.specs.Content.{Content, is_container}
use Rattle.jsonc_tree.specs.OrderedTree.{OrderedTree, none, more, own_leaf, leaves, followed_by, Shows, shows_none, shows_more}
use Rattle.jsonc_tree.specs.Tree.{Node, content_at, parent_at, children_at, place_at, IsTree, IsOver}
use Rattle.jsonc_tree.proofs.Builder.{Shows-keeps}
use Rattle.jsonc_tree.proofs.Order.{not_over_parent, parent_there}
use Rattle.jsonc_tree.proofs.Over.{over_up, sibling_not_over}
use Rattle.jsonc_tree.proofs.OrderedTrees.{leaves-followed_by}
use Rattle.jsonc_tree.proofs.Rows.{Shows-append, Shows-part}
use Rattle.jsonc_sound.specs.Adjacent.{first_char}
use Rattle.jsonc_sound.specs.Spaces.{is_bare, space_then}
use Rattle.jsonc_edit.specs.Due.{prints_at, nearest, begins_bare, ends_bare, seen_before, seen_behind, listed, behind_holder, prints_within}
use Rattle.jsonc_tree.specs.Siblings.{siblings_after}
use Rattle.jsonc_edit.specs.Put.{a_space, StandsBefore, AreSpaced}
use Rattle.jsonc_edit.proofs.InsertedSpaces.{place_within, space_bare, contents_kept, parent_kept, container_row, placed_ahead}
use Rattle.jsonc_edit.proofs.UnneededSpaces.{Nearest, Held, ahead_on, past_one, up_to, regrouped, either_seen, holder_seen, nearest_to, n_placed, behind_n}
use Rattle.jsonc_edit.proofs.ChangesUpward.{ChangedIn, apart_kept}
use Rattle.jsonc_edit.proofs.NodesKept.{place_kept}
use Rattle.jsonc_layout.proofs.lemmas.nodes.InTree.{children_there}
use Rattle.jsonc_edit.specs.Seams.{PrintNothing, space_if, StandsBetween, as_root, as_child, SeamsAround, SpacesStandAround, SpaceStandsBetween, is_space_needed_between}
use Rattle.jsonc_edit.proofs.Lists.{either_off}
use Rattle.jsonc_edit.proofs.Elements.{Some_same, none_some}

-- n is a child of c, and stands between these leaves
pub record Within (ns : List Node) (n c : ℕ) (f b : List Content) : Type 0 where
  pub g : List Content
  pub d : List Content
  pub front : OrderedTree
  pub back : OrderedTree
  pub up : StandsBetween ns c g d
  pub before : Shows ns (take (place_at ns n) (children_at ns c)) front
  pub behind : Shows ns (drop (place_at ns n + 1) (children_at ns c)) back
  pub first : f ≡ g ++ leaves front
  pub last : b ≡ leaves back ++ d

within_as : (ns : List Node) (n p c : ℕ) {g d : List Content} {front back : OrderedTree} → p ≡ c → StandsBetween ns p g d → Shows ns (take (place_at ns n) (children_at ns p)) front
    → Shows ns (drop (place_at ns n + 1) (children_at ns p)) back → Within ns n c (g ++ leaves front) (leaves back ++ d)
within_as ns n p c {g} {d} {front} {back} e up fr bk =
    record {
      g = g;
      d = d;
      front = front;
      back = back;
      up = subst (λ k. StandsBetween ns k g d) e up;
      before = subst (λ k. Shows ns (take (place_at ns n) (children_at ns k)) front) e fr;
      behind = subst (λ k. Shows ns (drop (place_at ns n + 1) (children_at ns k)) back) e bk;
      first = refl;
      last = refl;
    }

pub within : (ns : List Node) → IsTree ns → (n c : ℕ) (f b : List Content) → parent_at ns n ≡ Some c → StandsBetween ns n f b → Within ns n c f b
within ns tree _ c _ _ said as_root = absurd (none_some (sym tree.root_alone ∙ said))
within ns tree n c _ _ said (as_child {c = p} told up fr bk) = within_as ns n p c (Some_same p c (sym told ∙ said)) up fr bk

pub stands_so : (ns : List Node) (n c : ℕ) (g d f b : List Content) (front back : OrderedTree) → parent_at ns n ≡ Some c → StandsBetween ns c g d → Shows ns (take (place_at ns n) (children_at ns c)) front
    → Shows ns (drop (place_at ns n + 1) (children_at ns c)) back → g ++ leaves front ≡ f → leaves back ++ d ≡ b → StandsBetween ns n f b
stands_so ns n c g d f b front back said up fr bk first last =
    subst (λ (l : List Content). StandsBetween ns n l b) first (subst (λ (l : List Content). StandsBetween ns n (g ++ leaves front) l) last (as_child said up fr bk))

module _ (old new : List Node) (c : ℕ) (k : ChangedIn old new c) (after : IsTree new) where
  -- a child of another container stays its child, at its place
  child_kept : (n p : ℕ) → parent_at old n ≡ Some p → p ≢ c → (parent_at new n ≡ Some p) × (place_at new n ≡ place_at old n)
  child_kept n p said ne =
      let place : ℕ = place_at old n in
      let row : children_at new p ≡ children_at old p = k.children p ne in
      let inn : place < length (children_at new p) = omega (arith, k.tree.within n p said, ap length row) in
      let is : slice_index (children_at new p) place ≡ n = ap (λ l. slice_index l place) row ∙ k.tree.found n p said in
      (ap (parent_at new) (sym is) ∙ after.named p place inn, ap (place_at new) (sym is) ∙ after.placed p place inn)

  -- where none of its siblings is over the row that changes, it stands between what it stood between, and what stands around its container now
  pub child_between : (n p : ℕ) (f b g d : List Content) → parent_at old n ≡ Some p → p ≢ c
      → ((e : ℕ) → e < length (children_at old p) → e ≢ place_at old n → IsOver old (slice_index (children_at old p) e) c → ⊥)
      → (w : Within old n p f b) → StandsBetween new p g d → StandsBetween new n (g ++ leaves w.front) (leaves w.back ++ d)
  child_between n p f b g d said ne apart w up =
      let cs : List ℕ = children_at old p in
      let place : ℕ = place_at old n in
      let two = child_kept n p said ne in
      let row : children_at new p ≡ cs = k.children p ne in
      let front : Shows new (take place cs) w.front = apart_kept old new c k (take place cs) w.front (λ e l also.
      let low : e < place = omega (arith, l, length-take place cs) in
      apart e (omega (arith, l, length-take place cs)) (λ z. omega arith) (subst (λ m. IsOver old m c) (get_or-take place cs e 0 low) also)) w.before in
      let back : Shows new (drop (place + 1) cs) w.back = apart_kept old new c k (drop (place + 1) cs) w.back (λ e l also.
      apart (place + 1 + e) (omega (arith, l, length-drop (place + 1) cs)) (λ z. omega arith) (subst (λ m. IsOver old m c) (get_or-drop (place + 1) cs e 0) also)) w.behind in
      as_child two.0 up (subst (λ (l : List ℕ). Shows new (take (place_at new n) l) w.front) (sym row) (subst (λ j. Shows new (take j cs) w.front) (sym two.1) front))
      (subst (λ (l : List ℕ). Shows new (drop (place_at new n + 1) l) w.back) (sym row) (subst (λ j. Shows new (drop (j + 1) cs) w.back) (sym two.1) back))

  -- what is over the row that changes stays where it stood
  pub between_above : (n : ℕ) (f b : List Content) → StandsBetween old n f b → IsOver old n c → StandsBetween new n f b
  unfolding within_as
  between_above _ _ _ as_root over = as_root
  between_above n _ _ (as_child {c = p} {f = g} {b = d} {front = front} {back = back} said up fr bk) over =
      let ne : p ≢ c = λ e. not_over_parent old k.tree n p said (subst (IsOver old n) (sym e) over) in
      let w : Within old n p (g ++ leaves front) (leaves back ++ d) = within_as old n p p refl up fr bk in
      child_between n p (g ++ leaves front) (leaves back ++ d) g d said ne (λ e h other also. sibling_not_over old k.tree n p e c said over h other also) w (between_above p g d up (over_up old n p c said over))

-- where more nodes are there, each that was there stands between the same leaves
module _ (old new : List Node) (tree : IsTree old) (keeps : Keeps (length old) old new) where
  part_kept : (c n : ℕ) → parent_at old n ≡ Some c → (part : ℕ → List ℕ → List ℕ) (t : OrderedTree) → All (λ m. m < length old) (part (place_at old n) (children_at old c)) → Shows old (part (place_at old n) (children_at old c)) t → Shows new (part (place_at new n) (children_at new c)) t
  part_kept c n said part t all shown =
      let kids : List ℕ = children_at old c in
      let place : ℕ = place_at old n in
      subst (λ (l : List ℕ). Shows new (part (place_at new n) l) t) (sym (keeps.children c (parent_there old tree n c said).1))
      (subst (λ j. Shows new (part j kids) t) (sym (place_kept old new tree keeps n c said)) (Shows-keeps old new tree keeps (part place kids) t (λ k h. all k 0 h) shown))

  pub stands_kept : (n : ℕ) (f b : List Content) → StandsBetween old n f b → StandsBetween new n f b
  stands_kept _ _ _ as_root = as_root
  stands_kept n _ _ (as_child {c = c} {f = g} {b = d} {front = front} {back = back} said up fr bk) =
      let all : All (λ m. m < length old) (children_at old c) = children_there old tree c in
      as_child (keeps.parent n (parent_there old tree n c said).0 ∙ said) (stands_kept c g d up) (part_kept c n said take front (All-take (λ m. m < length old) (place_at old n) (children_at old c) all) fr)
      (part_kept c n said (λ j. drop (j + 1)) back (All-drop (λ m. m < length old) (place_at old n + 1) (children_at old c) all) bk)

-- nodes of which none prints something have leaves that print nothing
starts_none : (x : Option ℕ) → starts (λ c. true) x ≡ false → x ≡ None
starts_none None e = refl
starts_none (Some c) e = cc

empty_row : (ns : List Node) (xs : List ℕ) (t : OrderedTree) → xs ≡ [] → Shows ns xs t → t ≡ none
empty_row ns _ _ e shows_none = refl
empty_row ns _ _ e (shows_more p q) = absurd (let wrong = ap length e in omega (arith, wrong))

pub silent_row : (ns : List Node) → IsTree ns → (xs : List ℕ) (t : OrderedTree) → Shows ns xs t → nearest ns xs ≡ None → PrintNothing (leaves t)
silent_row ns tree _ _ shows_none e = tt
silent_row ns tree _ _ (shows_more {n = n} {rest = rest} {below = below} {after = after} p q) e =
    elim (cases_Bool (prints_at ns n)) [
      | inl printed ↦ absurd (none_some (sym e ∙ ap (λ b. cond b (Some n) (nearest ns rest)) printed))
      | inr not_printed ↦
          let two = either_off (is_container (content_at ns n)) (starts (λ c. true) (first_char (content_at ns n))) not_printed in
          let bare : below ≡ none = empty_row ns (children_at ns n) below (tree.leaf n two.0) p in
          let others : PrintNothing (leaves after) = silent_row ns tree rest after q (sym (ap (λ b. cond b (Some n) (nearest ns rest)) not_printed) ∙ e) in
          let mine : PrintNothing (content_at ns n ∷ leaves after) = (starts_none (first_char (content_at ns n)) two.1, others) in
          subst (λ (l : OrderedTree). PrintNothing (own_leaf (content_at ns n) ++ (leaves l ++ leaves after))) (sym bare)
          (subst (λ b. PrintNothing ((cond b [] (content_at ns n ∷ [])) ++ leaves after)) (sym two.0) mine)
    ]

-- leaves that print nothing stand before other such
pub silent_both : (xs ys : List Content) → PrintNothing xs → PrintNothing ys → PrintNothing (xs ++ ys)
silent_both [] ys h g = g
silent_both (x ∷ xs) ys h g = (h.0, silent_both xs ys h.1 g)

-- a space has come behind these leaves that print nothing
pub record SpaceBehind (ns : List Node) (n : ℕ) (f b : List Content) : Type 0 where
  pub quiet : List Content
  pub rest : List Content
  pub parts : b ≡ quiet ++ rest
  pub silent : PrintNothing quiet
  pub now : StandsBetween ns n f (quiet ++ (a_space ∷ rest))

module _ (old new : List Node) (x leaf : ℕ) (tree : IsTree old) (r : StandsBefore old new x leaf) where
  abbrev c : ℕ
  c = r.container

  abbrev row : List ℕ
  row = children_at old c

  abbrev place : ℕ
  place = place_at old x

  inn : place < length row
  inn = place_within old new x leaf tree r

  changed : ChangedIn old new c
  changed = record { tree = tree; content = λ n ne. r.put.content n; children = λ n ne. (r.put.others n ne) }

  child_stays : (k p : ℕ) → parent_at old k ≡ Some p → parent_at new k ≡ Some p
  child_stays k p said = parent_kept old new x leaf tree r k (λ e. none_some (sym r.was.alone ∙ ap (parent_at old) (sym e) ∙ said)) ∙ said

  child_apart : (e : ℕ) → e < length row → IsOver old (slice_index row e) c → ⊥
  child_apart e h = not_over_parent old tree (slice_index row e) c (tree.named c e h)

  shows_first : (i : ℕ) (t : OrderedTree) → Shows old (take i row) t → Shows new (take i row) t
  shows_first i t shows = apart_kept old new c changed (take i row) t (λ e l over. let low : e < i = omega (arith, l, length-take i row) in child_apart e (omega (arith, l, length-take i row)) (subst (λ m. IsOver old m c) (get_or-take i row e 0 low) over)) shows

  shows_last : (i : ℕ) (t : OrderedTree) → Shows old (drop i row) t → Shows new (drop i row) t
  shows_last i t shows = apart_kept old new c changed (drop i row) t (λ e l over. child_apart (i + e) (omega (arith, l, length-drop i row)) (subst (λ m. IsOver old m c) (get_or-drop i row e 0) over)) shows

  shows_space : (xs : List ℕ) (t : OrderedTree) → Shows new xs t → Shows new (leaf ∷ xs) (space_then t)
  shows_space xs t shows =
      let ne : leaf ≢ c = λ e. omega (arith, inn, ap length (sym (ap (children_at old) e) ∙ space_bare old new x leaf tree r)) in
      let kids : children_at new leaf ≡ [] = (r.put.others leaf ne) ∙ space_bare old new x leaf tree r in
      subst (λ (w : Content). Shows new (leaf ∷ xs) (more w none t)) (contents_kept old new x leaf tree r leaf ∙ r.was.is)
      (shows_more (subst (λ (l : List ℕ). Shows new l none) (sym kids) shows_none) shows)

  pub container_between : (g d : List Content) → StandsBetween old c g d → StandsBetween new c g d
  container_between g d up = between_above old new c changed r.tree c g d up IsOver.itself

  -- the node that the space has come before
  pub space_before : (f b : List Content) → StandsBetween old x f b → StandsBetween new x (f ++ a_space ∷ []) b
  space_before f b s =
      let w = within old tree x c f b r.parent s in
      let kids : children_at new c ≡ take place row ++ leaf ∷ drop place row = container_row old new x leaf tree r in
      let front : Shows new (take place row ++ leaf ∷ []) (followed_by w.front (space_then none)) = Shows-append new (take place row) (leaf ∷ []) w.front (space_then none) (shows_first place w.front w.before) (shows_space [] none shows_none) in
      let placed : place_at new x ≡ place + 1 = n_placed old new x leaf tree r in
      let ahead : take (place_at new x) (children_at new c) ≡ take place row ++ leaf ∷ [] =
      ap (λ k. take k (children_at new c)) placed ∙ ap (take (place + 1)) (kids ∙ regrouped row place leaf inn) ∙ take_at (take place row ++ leaf ∷ []) (drop place row) (place + 1) (up_to row place leaf inn) in
      let beyond : drop (place_at new x + 1) (children_at new c) ≡ drop (place + 1) row = ap (λ k. drop (k + 1) (children_at new c)) placed ∙ ap (drop (place + 1 + 1)) kids ∙ past_one row place leaf inn in
      let said : parent_at new x ≡ Some c = child_stays x c r.parent in
      stands_so new x c w.g w.d (f ++ a_space ∷ []) b (followed_by w.front (space_then none)) w.back said (container_between w.g w.d w.up)
      (subst (λ (l : List ℕ). Shows new l (followed_by w.front (space_then none))) (sym ahead) front)
      (subst (λ (l : List ℕ). Shows new l w.back) (sym beyond) (shows_last (place + 1) w.back w.behind))
      (ap (λ l. w.g ++ l) (leaves-followed_by w.front (space_then none)) ∙ sym (append_assoc w.g (leaves w.front) (a_space ∷ [])) ∙ ap (λ l. l ++ a_space ∷ []) (sym w.first)) (sym w.last)

  -- a node in the row behind which the space has come next
  module _ (m : ℕ) (near : Nearest old m x c) where
    abbrev behind : List ℕ
    behind = drop (place_at old m + 1) row

    reaches : drop near.between behind ≡ drop place row
    reaches = drop-drop near.between (place_at old m + 1) row ∙ ap (λ k. drop k row) (sym near.at)

    low : place_at old m < place
    low = omega (arith, near.at)

    same_place : place_at new m ≡ place_at old m
    same_place = ap (place_at new) (sym (tree.found m c near.parent)) ∙ placed_ahead old new x leaf tree r (place_at old m) low

    ahead_row : take (place_at new m) (children_at new c) ≡ take (place_at old m) row
    ahead_row =
        ap (λ k. take k (children_at new c)) same_place ∙ ap (take (place_at old m)) (container_row old new x leaf tree r)
        ∙ take-append-le (place_at old m) (take place row) (leaf ∷ drop place row) (omega (arith, low, length-take-le place row (omega (arith, inn))))
        ∙ take-take (place_at old m) place row (omega (arith, low))

    behind_row : drop (place_at new m + 1) (children_at new c) ≡ take near.between behind ++ leaf ∷ drop place row
    behind_row =
        ap (λ k. drop (k + 1) (children_at new c)) same_place ∙ ap (drop (place_at old m + 1)) (container_row old new x leaf tree r)
        ∙ ahead_on row place leaf inn (place_at old m + 1) near.between near.at

    shows_between : (t : OrderedTree) → Shows old (take near.between behind) t → Shows new (take near.between behind) t
    shows_between t shows = apart_kept old new c changed (take near.between behind) t (λ e l over.
        let inside : e < near.between = omega (arith, l, length-take near.between behind) in
        let far : place_at old m + 1 + e < length row = omega (arith, inside, near.at, inn) in
        child_apart (place_at old m + 1 + e) far (subst (λ k. IsOver old k c) (get_or-take near.between behind e 0 inside ∙ get_or-drop (place_at old m + 1) row e 0) over)) shows

    pub behind_in_row : (f b : List Content) → StandsBetween old m f b → SpaceBehind new m f b
    behind_in_row f b s =
        let w = within old tree m c f b near.parent s in
        let d : ℕ = near.between in
        let two = Shows-part old (take d behind) (drop d behind) w.back (subst (λ (l : List ℕ). Shows old l w.back) (sym (take-append-drop d behind)) w.behind) in
        let quiet : List Content = leaves two.0 in
        let rest : List Content = leaves two.1 ++ w.d in
        let back : Shows new (take d behind ++ leaf ∷ drop place row) (followed_by two.0 (space_then two.1)) =
        Shows-append new (take d behind) (leaf ∷ drop place row) two.0 (space_then two.1) (shows_between two.0 two.3)
        (shows_space (drop place row) two.1 (shows_last place two.1 (subst (λ (l : List ℕ). Shows old l two.1) reaches two.4))) in
        let now : StandsBetween new m f (quiet ++ (a_space ∷ rest)) =
        stands_so new m c w.g w.d f (quiet ++ (a_space ∷ rest)) w.front (followed_by two.0 (space_then two.1)) (child_stays m c near.parent) (container_between w.g w.d w.up)
        (subst (λ (l : List ℕ). Shows new l w.front) (sym ahead_row) (shows_first (place_at old m) w.front w.before))
        (subst (λ (l : List ℕ). Shows new l (followed_by two.0 (space_then two.1))) (sym behind_row) back)
        (sym w.first) (ap (λ l. l ++ w.d) (leaves-followed_by two.0 (space_then two.1)) ∙ append_assoc quiet (a_space ∷ leaves two.1) w.d) in
        record {
          quiet = quiet;
          rest = rest;
          parts = w.last ∙ ap (λ l. l ++ w.d) (ap leaves two.2 ∙ leaves-followed_by two.0 two.1) ∙ append_assoc quiet (leaves two.1) w.d;
          silent = silent_row old tree (take d behind) two.0 two.3 near.clear;
          now = now;
        }

  -- the last that prints of a property, behind which the space has come
  past_holder : (v : ℕ) → nearest old (siblings_after old v) ≡ None → (held : Held old v x) → Nearest old held.holder x c → (f b : List Content) → StandsBetween old v f b → SpaceBehind new v f b
  past_holder v nothing held near f b s =
      let h : ℕ = held.holder in
      let w = within old tree v h f b held.parent s in
      let up = behind_in_row h near w.g w.d w.up in
      let own_row : siblings_after old v ≡ drop (place_at old v + 1) (children_at old h) = ap (λ o. drop (place_at old v + 1) (with_parent o (children_at old))) held.parent in
      let clear : PrintNothing (leaves w.back) = silent_row old tree (drop (place_at old v + 1) (children_at old h)) w.back w.behind (ap (nearest old) (sym own_row) ∙ nothing) in
      let ne : h ≢ c = λ e. not_over_parent old tree h c near.parent (subst (IsOver old h) e IsOver.itself) in
      let now = child_between old new c changed r.tree v h f b w.g (up.quiet ++ (a_space ∷ up.rest)) held.parent ne
      (λ e l other also. not_over_parent old tree h c near.parent (over_up old (slice_index (children_at old h) e) h c (tree.named h e l) also)) w up.now in
      record {
        quiet = leaves w.back ++ up.quiet;
        rest = up.rest;
        parts = w.last ∙ ap (λ l. leaves w.back ++ l) up.parts ∙ sym (append_assoc (leaves w.back) up.quiet up.rest);
        silent = silent_both (leaves w.back) up.quiet clear up.silent;
        now = subst (λ (l : List Content). StandsBetween new v l ((leaves w.back ++ up.quiet) ++ (a_space ∷ up.rest))) (sym w.first)
            (subst (λ (l : List Content). StandsBetween new v (w.g ++ leaves w.front) l) (sym (append_assoc (leaves w.back) up.quiet (a_space ∷ up.rest))) now);
      }

  -- where the node that the space has come before is what is seen behind v
  pub space_behind : (v : ℕ) → seen_behind old v ≡ Some x → (f b : List Content) → StandsBetween old v f b → SpaceBehind new v f b
  space_behind v e f b s =
      elim (either_seen (nearest old (siblings_after old v)) (behind_holder old v) x e) [
        | inl near ↦ behind_in_row v (nearest_to old new x leaf tree r v v near) f b s
        | inr past ↦ let held = holder_seen old v x (parent_at old v) refl past.1 in past_holder v past.0 held (nearest_to old new x leaf tree r v held.holder held.near) f b s
      ]

-- the spaces that are due around a node
module _ (old new : List Node) (n : ℕ) (tree : IsTree old) where
  none_true : false ≡ true → ⊥
  none_true e = cc

  behind_parts : (now : List Node) (a b : Bool) (front back : List Content) → StandsBetween now n (front ++ space_if a) back → b ≡ false → SeamsAround now n a b front back
  behind_parts now a b front back s e =
      record { quiet = []; rest = back; parts = refl; silent = tt; now = subst (λ d. StandsBetween now n (front ++ space_if a) (space_if d ++ back)) (sym e) s }

  with_behind : (now : List Node) (a b : Bool) (front back : List Content) → SpaceBehind now n (front ++ space_if a) back → b ≡ true → SeamsAround now n a b front back
  with_behind now a b front back s e =
      record { quiet = s.quiet; rest = s.rest; parts = s.parts; silent = s.silent; now = subst (λ d. StandsBetween now n (front ++ space_if a) (s.quiet ++ (space_if d ++ s.rest))) (sym e) s.now }

  unspaced : (front back : List Content) → StandsBetween old n front back → StandsBetween old n (front ++ space_if false) back
  unspaced front back s = subst (λ (l : List Content). StandsBetween old n l back) (sym (append-nil front)) s

  by : (a b : Bool) (o : Option ℕ) → seen_behind old n ≡ o → begins_bare old o ≡ b → AreSpaced old (listed (cond a (Some n) None) ++ listed (cond b o None)) new
      → (front back : List Content) → StandsBetween old n front back → SeamsAround new n a b front back
  by false false o seen told same front back s = subst (λ ns. SeamsAround ns n false false front back) (sym same) (behind_parts old false false front back (unspaced front back s) refl)
  by false true None seen told spaced front back s = absurd (none_true told)
  by false true (Some x) seen told (now, space, r, same) front back s =
      subst (λ ns. SeamsAround ns n false true front back) (sym same) (with_behind now false true front back (space_behind old now x space tree r n seen (front ++ space_if false) back (unspaced front back s)) refl)
  by true false o seen told (now, space, r, same) front back s =
      subst (λ ns. SeamsAround ns n true false front back) (sym same) (behind_parts now true false front back (space_before old now n space tree r front back s) refl)
  by true true None seen told spaced front back s = absurd (none_true told)
  by true true (Some x) seen told (now, space, r, (then, other_space, t, same)) front back s =
      let still : seen_behind now n ≡ Some x = behind_n old now n space tree r ∙ seen in
      subst (λ ns. SeamsAround ns n true true front back) (sym same)
      (with_behind then true true front back (space_behind now then x other_space r.tree t n still (front ++ space_if true) back (space_before old now n space tree r front back s)) refl)

  bare_or_not : (bare a b : Bool) → AreSpaced old (cond bare (listed (cond a (Some n) None) ++ listed (cond b (seen_behind old n) None)) []) new → begins_bare old (seen_behind old n) ≡ b
      → (front back : List Content) → StandsBetween old n front back → SeamsAround new n (bare && a) (bare && b) front back
  bare_or_not true a b spaced told front back s = by a b (seen_behind old n) refl told spaced front back s
  bare_or_not false a b same told front back s = subst (λ ns. SeamsAround ns n false false front back) (sym same) (behind_parts old false false front back (unspaced front back s) refl)

pub spaces_stand_around : (ready spaced : List Node) (n : ℕ) (content : Content) → SpacesStandAround ready spaced n content
spaces_stand_around ready spaced n content tree put front back s =
    bare_or_not ready spaced n tree (is_bare content) (ends_bare ready (seen_before ready n)) (begins_bare ready (seen_behind ready n)) put refl front back s

-- and the one that is due where siblings leave
pub space_stands_between : (ready spaced : List Node) (from to : ℕ) → SpaceStandsBetween ready spaced from to
space_stands_between ready spaced from to tree put front back s = by (is_space_needed_between ready from to) (seen_behind ready to) refl refl put
  where
    both : (a b : Bool) → a && b ≡ true → b ≡ true
    both true b h = h
    both false b h = cc

    by : (d : Bool) (o : Option ℕ) → is_space_needed_between ready from to ≡ d → seen_behind ready to ≡ o → AreSpaced ready (listed (cond d o None)) spaced
        → (quiet rest : List Content) × (back ≡ quiet ++ rest) × PrintNothing quiet × StandsBetween spaced to front (quiet ++ (space_if d ++ rest))
    by false o due seen same = ([], back, refl, tt, subst (λ ns. StandsBetween ns to front back) (sym same) s)
    by true None due seen spaced_so = absurd (let bare = both (ends_bare ready (seen_before ready from)) (begins_bare ready (seen_behind ready to)) (both (prints_within ready from to) (ends_bare ready (seen_before ready from) && begins_bare ready (seen_behind ready to)) due) in let wrong : false ≡ true = ap (begins_bare ready) (sym seen) ∙ bare in cc)
    by true (Some x) due seen (now, space, r, same) =
        let b = space_behind ready now x space tree r to seen front back s in
        (b.quiet, b.rest, b.parts, b.silent, subst (λ ns. StandsBetween ns to front (b.quiet ++ (a_space ∷ b.rest))) (sym same) b.now)
