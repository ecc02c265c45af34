-- The node at a path stands between the leaves between which the value at the path stands in the ordered tree.
use Rattle.std.proofs.Common.{◌≡◌, ℕ, suc, ◌+◌, ◌<◌, not, List, [], ◌∷◌, ◌++◌, length, take, drop, filter, slice_index, Some, None, inl, inr, refl, sym, ap, subst, ◌∙◌, arith, add-zero, length-append, length-take, length-drop, get_or-take, get_or-drop}
use Rattle.std.proofs.lemmas.Bool.{cases_Bool}
use Rattle.std.proofs.lemmas.List.{append_assoc, append-nil, drop_more, drop_at, get_or_at, length-take-le, length_push, take-append-drop, take_at}
use Rattle.jsonc_tree.specs.Content.{Content, array, object, property}
use Rattle.jsonc_tree.specs.OrderedTree.{OrderedTree, more, own_leaf, leaves, followed_by, ordered_tree, Shows, shows_none, shows_more, Top}
use Rattle.jsonc_tree.specs.Tree.{Node, content_at, parent_at, children_at, place_at, IsTree, IsOver}
use Rattle.jsonc_tree.specs.Values.{is_passed_over}
use Rattle.jsonc_tree.proofs.Order.{not_over_parent, parent_there}
use Rattle.jsonc_tree.proofs.OrderedTrees.{Shows-unique}
use Rattle.jsonc_tree.proofs.Rows.{Shows-part}
use Rattle.jsonc_layout.specs.nodes.Kinds.{is_element_at}
use Rattle.jsonc_sound.specs.TreeChanges.{property_of}
use Rattle.jsonc_edit.specs.Changes.{row_below, top_at, Replaces}
use Rattle.jsonc_edit.specs.Paths.{IsElementOf, LeadsTo, IsAt}
use Rattle.jsonc_edit.specs.Paths as paths
use Rattle.jsonc_edit.proofs.Elements.{StandsAt, stands_at, left, taken}
use Rattle.jsonc_edit.proofs.ReplacedChildren.{put_parent}
use Rattle.jsonc_edit.proofs.Splices.{spliced_in}
use Rattle.jsonc_edit.proofs.Uniqueness.{element_parent, element_there}
use Rattle.jsonc_edit.proofs.ChangesUpward.{ChangedIn, Shows-row_below, apart_kept, document_is}
use Rattle.jsonc_edit.specs.Seams.{StandsBetween, as_root, as_child}
use Rattle.jsonc_edit.specs.SeamPlaces.{RowHolds, this_element, past_other, past_element, ValueHolds, itself, in_array, in_object, DocumentHolds, in_root}
use Rattle.jsonc_edit.proofs.LeavesAroundNodes.{within, stands_so, between_above}

-- a node stands between the same leaves, however that is known
pub stands_once : (ns : List Node) → IsTree ns → (n : ℕ) (f b g d : List Content) → StandsBetween ns n f b → StandsBetween ns n g d → (f ≡ g) × (b ≡ d)
stands_once ns tree _ _ _ g d as_root s = root_alone g d s refl
  where
    root_alone : {k : ℕ} (g d : List Content) → StandsBetween ns k g d → k ≡ 0 → ([] ≡ g) × ([] ≡ d)
    root_alone _ _ as_root e = (refl, refl)
    root_alone _ _ (as_child {c = c} said up fr bk) e = absurd (let wrong : None ≡ Some c = sym tree.root_alone ∙ ap (parent_at ns) (sym e) ∙ said in cc)
stands_once ns tree n _ _ g d (as_child {c = c} {f = f} {b = b} {front = front} {back = back} said up fr bk) s =
    let w = within ns tree n c g d said s in
    let above = stands_once ns tree c f b w.g w.d up w.up in
    let first : front ≡ w.front = Shows-unique ns (take (place_at ns n) (children_at ns c)) front w.front fr w.before in
    let last : back ≡ w.back = Shows-unique ns (drop (place_at ns n + 1) (children_at ns c)) back w.back bk w.behind in
    (ap (λ l. l ++ leaves front) above.0 ∙ ap (λ (t : OrderedTree). w.g ++ leaves t) first ∙ sym w.first, ap (λ l. leaves back ++ l) above.1 ∙ ap (λ (t : OrderedTree). leaves t ++ w.d) last ∙ sym w.last)

pub first_shown : (ns : List Node) (n : ℕ) (rest : List ℕ) (t : OrderedTree) → Shows ns (n ∷ rest) t → (below : OrderedTree) × (after : OrderedTree) × (t ≡ more (content_at ns n) below after) × Shows ns (children_at ns n) below × Shows ns rest after
first_shown ns n rest _ (shows_more {below = b} {after = a} p q) = (b, a, refl, p, q)

-- an element behind a row
holds_behind : (ns : List Node) (top : Top) (xs : List ℕ) (front : OrderedTree) (i : ℕ) (x : OrderedTree) (f b : List Content) → Shows ns xs front → RowHolds top i x f b
    → RowHolds top (length (filter (is_element_at ns) xs) + i) (followed_by front x) (leaves front ++ f) b
holds_behind ns top _ _ i x f b shows_none h = subst (λ k. RowHolds top k x f b) (omega arith) h
holds_behind ns top _ _ i x f b (shows_more {n = n} {rest = rest} {below = below} {after = after} p q) h =
    let count : ℕ = length (filter (is_element_at ns) rest) in
    let further = holds_behind ns top rest after i x f b q h in
    let t : OrderedTree = more (content_at ns n) below (followed_by after x) in
    let own : List Content = own_leaf (content_at ns n) in
    let same : own ++ (leaves below ++ (leaves after ++ f)) ≡ (own ++ (leaves below ++ leaves after)) ++ f = sym (append_assoc own (leaves below ++ leaves after) f ∙ ap (λ l. own ++ l) (append_assoc (leaves below) (leaves after) f)) in
    subst (λ l. RowHolds top (length (filter (is_element_at ns) (n ∷ rest)) + i) t l b) same
    (elim (cases_Bool (is_passed_over (content_at ns n))) [
      | inl over ↦
          let long : length (filter (is_element_at ns) (n ∷ rest)) ≡ count = ap length (left (is_element_at ns) n rest (ap not over)) in
          subst (λ k. RowHolds top k t (own ++ (leaves below ++ (leaves after ++ f))) b) (ap (λ m. m + i) (sym long)) (past_other over further)
      | inr element ↦
          let long : length (filter (is_element_at ns) (n ∷ rest)) ≡ suc count = ap length (taken (is_element_at ns) n rest (ap not element)) in
          let place : suc (count + i) ≡ length (filter (is_element_at ns) (n ∷ rest)) + i = omega (arith, long) in
          subst (λ k. RowHolds top k t (own ++ (leaves below ++ (leaves after ++ f))) b) place (past_element (ap not element) further)
    ])

module _ (ns : List Node) (tree : IsTree ns) where
  -- element q of p, between leaves of the row of p
  pub record ElementBetween (p i q : ℕ) (f b : List Content) : Type 0 where
    pub first : List Content
    pub last : List Content
    pub holds : RowHolds (top_at ns q) i (row_below ns p) first last
    pub stands : StandsBetween ns q (f ++ first) (last ++ b)

  pub element_between : (p i q : ℕ) (f b : List Content) → IsElementOf ns p i q → StandsBetween ns p f b → ElementBetween p i q f b
  element_between p i q f b e up =
      let cs : List ℕ = children_at ns p in
      let at : StandsAt (is_element_at ns) cs i q = stands_at (is_element_at ns) cs i q e in
      let k : ℕ = at.0 in
      let said : parent_at ns q ≡ Some p = element_parent ns tree p i q e in
      let place : place_at ns q ≡ k = ap (place_at ns) (sym at.2) ∙ tree.placed p k at.1 in
      let parts : cs ≡ take k cs ++ q ∷ drop (k + 1) cs = sym (take-append-drop k cs) ∙ ap (λ l. take k cs ++ l) (drop_more cs k 0 at.1) ∙ ap (λ n. take k cs ++ n ∷ drop (k + 1) cs) at.2 in
      let whole : Shows ns cs (row_below ns p) = Shows-row_below ns tree p (parent_there ns tree q p said).1 in
      let two = Shows-part ns (take k cs) (q ∷ drop (k + 1) cs) (row_below ns p) (subst (λ (l : List ℕ). Shows ns l (row_below ns p)) parts whole) in
      let one = first_shown ns q (drop (k + 1) cs) two.1 two.4 in
      let below : one.0 ≡ row_below ns q = Shows-unique ns (children_at ns q) one.0 (row_below ns q) one.3 (Shows-row_below ns tree q (element_there ns tree p i q e)) in
      let row : row_below ns p ≡ followed_by two.0 (more (content_at ns q) (row_below ns q) one.1) = two.2 ∙ ap (followed_by two.0) (one.2 ∙ ap (λ (t : OrderedTree). more (content_at ns q) t one.1) below) in
      let here : RowHolds (top_at ns q) 0 (more (content_at ns q) (row_below ns q) one.1) [] (leaves one.1) = this_element at.3 in
      let count : length (filter (is_element_at ns) (take k cs)) + 0 ≡ i = add-zero (length (filter (is_element_at ns) (take k cs))) ∙ at.4 in
      let held = holds_behind ns (top_at ns q) (take k cs) two.0 0 (more (content_at ns q) (row_below ns q) one.1) [] (leaves one.1) two.3 here in
      let numbered = subst (λ j. RowHolds (top_at ns q) j (followed_by two.0 (more (content_at ns q) (row_below ns q) one.1)) (leaves two.0 ++ []) (leaves one.1)) count held in
      let shorter = subst (λ l. RowHolds (top_at ns q) i (followed_by two.0 (more (content_at ns q) (row_below ns q) one.1)) l (leaves one.1)) (append-nil (leaves two.0)) numbered in
      record {
        first = leaves two.0;
        last = leaves one.1;
        holds = subst (λ (t : OrderedTree). RowHolds (top_at ns q) i t (leaves two.0) (leaves one.1)) (sym row) shorter;
        stands = as_child said up (subst (λ j. Shows ns (take j cs) two.0) (sym place) two.3) (subst (λ j. Shows ns (drop (j + 1) cs) one.1) (sym place) one.4);
      }

  -- the node that a path leads to, between leaves of the value that it leads from
  record LedBetween (n v : ℕ) (path : List ℕ) (f b : List Content) : Type 0 where
    first : List Content
    last : List Content
    holds : ValueHolds (top_at ns n) path (top_at ns v) first last
    stands : StandsBetween ns n (f ++ first) (last ++ b)

  top_so : (v : ℕ) (content : Content) → content_at ns v ≡ content → record { content = content; below = row_below ns v } ≡ top_at ns v
  top_so v content e = ap (λ (w : Content). record { content = w; below = row_below ns v }) (sym e)

  stands_as : (n : ℕ) (f g b d : List Content) → f ≡ g → b ≡ d → StandsBetween ns n f b → StandsBetween ns n g d
  stands_as n f g b d e h s = subst (λ (l : List Content). StandsBetween ns n l d) e (subst (λ (l : List Content). StandsBetween ns n f l) h s)

  led_between : (n v : ℕ) (path : List ℕ) (f b : List Content) → LeadsTo ns n v path → StandsBetween ns v f b → LedBetween n v path f b
  led_between n _ _ f b paths.itself s = record { first = []; last = []; holds = itself; stands = stands_as n f (f ++ []) b b (sym (append-nil f)) refl s }
  led_between n v _ f b (paths.step {i = i} {q = q} {path = path} (paths.in_array a e) more_steps) s =
      let one = element_between v i q f b e s in
      let rest = led_between n q path (f ++ one.first) (one.last ++ b) more_steps one.stands in
      record {
        first = one.first ++ rest.first;
        last = rest.last ++ one.last;
        holds = subst (λ (t : Top). ValueHolds (top_at ns n) (i ∷ path) t (one.first ++ rest.first) (rest.last ++ one.last)) (top_so v array a) (in_array one.holds rest.holds);
        stands = stands_as n ((f ++ one.first) ++ rest.first) (f ++ (one.first ++ rest.first)) (rest.last ++ (one.last ++ b)) ((rest.last ++ one.last) ++ b) (append_assoc f one.first rest.first) (sym (append_assoc rest.last one.last b)) rest.stands;
      }
  led_between n v _ f b (paths.step {i = i} {q = q} {path = path} (paths.in_object {r = r} o e h) more_steps) s =
      let outer = element_between v i r f b e s in
      let inner = element_between r 1 q (f ++ outer.first) (outer.last ++ b) h.1 outer.stands in
      let rest = led_between n q path ((f ++ outer.first) ++ inner.first) (inner.last ++ (outer.last ++ b)) more_steps inner.stands in
      let held : RowHolds (property_of (row_below ns r)) i (row_below ns v) outer.first outer.last = subst (λ (t : Top). RowHolds t i (row_below ns v) outer.first outer.last) (sym (top_so r property h.0)) outer.holds in
      record {
        first = outer.first ++ (inner.first ++ rest.first);
        last = (rest.last ++ inner.last) ++ outer.last;
        holds = subst (λ (t : Top). ValueHolds (top_at ns n) (i ∷ path) t (outer.first ++ (inner.first ++ rest.first)) ((rest.last ++ inner.last) ++ outer.last)) (top_so v object o) (in_object held inner.holds rest.holds);
        stands = stands_as n (((f ++ outer.first) ++ inner.first) ++ rest.first) (f ++ (outer.first ++ (inner.first ++ rest.first))) (rest.last ++ (inner.last ++ (outer.last ++ b))) (((rest.last ++ inner.last) ++ outer.last) ++ b)
            (append_assoc (f ++ outer.first) inner.first rest.first ∙ append_assoc f outer.first (inner.first ++ rest.first))
            (sym (append_assoc (rest.last ++ inner.last) outer.last b ∙ append_assoc rest.last inner.last (outer.last ++ b))) rest.stands;
      }

  -- so the node at a path of the document
  pub record AtBetween (path : List ℕ) (n : ℕ) : Type 0 where
    pub first : List Content
    pub last : List Content
    pub holds : DocumentHolds (top_at ns n) path (ordered_tree ns 0) first last
    pub stands : StandsBetween ns n first last

  pub at_between : (path : List ℕ) (n : ℕ) → IsAt ns path n → AtBetween path n
  at_between path n (v, e, leads) =
      let one = element_between 0 0 v [] [] e as_root in
      let rest = led_between n v path ([] ++ one.first) (one.last ++ []) leads one.stands in
      record {
        first = one.first ++ rest.first;
        last = rest.last ++ one.last;
        holds = subst (λ (t : OrderedTree). DocumentHolds (top_at ns n) path t (one.first ++ rest.first) (rest.last ++ one.last)) (document_is ns tree (row_below ns 0) (Shows-row_below ns tree 0 tree.first)) (in_root one.holds rest.holds);
        stands = stands_as n (one.first ++ rest.first) (one.first ++ rest.first) (rest.last ++ (one.last ++ [])) (rest.last ++ one.last) refl (ap (λ l. rest.last ++ l) (append-nil one.last)) rest.stands;
      }

  -- what stands there between leaves does so in the ordered tree
  pub holds_between : (path : List ℕ) (n : ℕ) (f b : List Content) → IsAt ns path n → StandsBetween ns n f b → DocumentHolds (top_at ns n) path (ordered_tree ns 0) f b
  holds_between path n f b at s =
      let a = at_between path n at in
      let same = stands_once ns tree n a.first a.last f b a.stands s in
      subst (λ l. DocumentHolds (top_at ns n) path (ordered_tree ns 0) l b) same.0 (subst (λ l. DocumentHolds (top_at ns n) path (ordered_tree ns 0) a.first l) same.1 a.holds)

-- where m takes the place of n, it stands between what n stood between
module _ (old new : List Node) (n m : ℕ) (r : Replaces old new n m) where
  abbrev c : ℕ
  c = r.container

  abbrev row : List ℕ
  row = children_at old c

  abbrev place : ℕ
  place = place_at old n

  inn : place < length row
  inn = r.tree.within n c r.parent

  changed : ChangedIn old new c
  changed = spliced_in old new c place (place + 1) (m ∷ []) r.tree r.spliced

  long : length (take place row) ≡ place
  long = length-take-le place row (omega (arith, inn))

  up_to : length (take place row ++ m ∷ []) ≡ place + 1
  up_to = length_push (take place row) m ∙ ap (λ k. k + 1) long

  kids : children_at new c ≡ take place row ++ m ∷ drop (place + 1) row
  kids = r.spliced.children

  kids_regrouped : children_at new c ≡ (take place row ++ m ∷ []) ++ drop (place + 1) row
  kids_regrouped = kids ∙ sym (append_assoc (take place row) (m ∷ []) (drop (place + 1) row))

  at_place : slice_index (children_at new c) place ≡ m
  at_place = ap (λ l. slice_index l place) kids ∙ get_or_at (take place row) m (drop (place + 1) row) 0 place long

  inn_new : place < length (children_at new c)
  inn_new = omega (arith, ap length kids_regrouped, length-append (take place row ++ m ∷ []) (drop (place + 1) row), up_to)

  placed : place_at new m ≡ place
  placed = ap (place_at new) (sym at_place) ∙ r.after.placed c place inn_new

  child_apart : (e : ℕ) → e < length row → IsOver old (slice_index row e) c → ⊥
  child_apart e h = not_over_parent old r.tree (slice_index row e) c (r.tree.named c e h)

  ahead : take (place_at new m) (children_at new c) ≡ take place row
  ahead = ap (λ k. take k (children_at new c)) placed ∙ ap (take place) kids ∙ take_at (take place row) (m ∷ drop (place + 1) row) place long

  beyond : drop (place_at new m + 1) (children_at new c) ≡ drop (place + 1) row
  beyond = ap (λ k. drop (k + 1) (children_at new c)) placed ∙ ap (drop (place + 1)) kids_regrouped ∙ drop_at (take place row ++ m ∷ []) (drop (place + 1) row) (place + 1) up_to

  shows_first : (t : OrderedTree) → Shows old (take place row) t → Shows new (take place row) t
  shows_first t shows = apart_kept old new c changed (take place row) t (λ e l over. let low : e < place = omega (arith, l, length-take place row) in child_apart e (omega (arith, l, length-take place row)) (subst (λ k. IsOver old k c) (get_or-take place row e 0 low) over)) shows

  shows_last : (t : OrderedTree) → Shows old (drop (place + 1) row) t → Shows new (drop (place + 1) row) t
  shows_last t shows = apart_kept old new c changed (drop (place + 1) row) t (λ e l over. child_apart (place + 1 + e) (omega (arith, l, length-drop (place + 1) row)) (subst (λ k. IsOver old k c) (get_or-drop (place + 1) row e 0) over)) shows

  pub takes_between : (f b : List Content) → StandsBetween old n f b → StandsBetween new m f b
  takes_between f b s =
      let w = within old r.tree n c f b r.parent s in
      stands_so new m c w.g w.d f b w.front w.back (put_parent old r.tree n c r.parent new m r.spliced) (between_above old new c changed r.after c w.g w.d w.up IsOver.itself)
      (subst (λ (l : List ℕ). Shows new l w.front) (sym ahead) (shows_first w.front w.before))
      (subst (λ (l : List ℕ). Shows new l w.back) (sym beyond) (shows_last w.back w.behind)) (sym w.first) (sym w.last)
