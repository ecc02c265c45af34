-- A node behind the last child of a container, where which child that is is kept apart.
use Rattle.std.proofs.Common.{◌≡◌, ◌≢◌, Bool, ℕ, true, ◌+◌, ◌<◌, ◌≤◌, List, [], ◌∷◌, ◌++◌, length, set, cond, eqb, Option, None, Some, IfSome, inl, inr, refl, sym, ap, subst, ◌∙◌, arith, length-set, eq-eqb, ◌-◌, ◌^◌}
use Rattle.std.proofs.lemmas.Bool.{cases_eq, cases_Bool, ne_eqb}
use Rattle.std.proofs.lemmas.List.{get_or_append_left, get_or_push, length_push, set-set}
use Rattle.jsonc_tree.specs.Content.{Content, is_container, is_newline, root}
use Rattle.jsonc_tree.specs.Tree as tree
use Rattle.jsonc_tree.specs.Tree.{children_at, is_container_at}
use Rattle.jsonc_tree.specs.Changes.{Adds, Appends, CanAppend, Pushes}
use Rattle.jsonc_tree.specs.Growing.{child_behind}
use Rattle.jsonc_tree.specs.Stored.{LinkedNode, bare, nowhere, link_at, nodes_of, ahead_set, back_set, counted_in, lines_set, one_if, IsStored}
use Rattle.jsonc_tree.proofs.AgreeingLinks.{length_shown, list_same, row_shorter}
use Rattle.jsonc_tree.proofs.Appending.{Appends-splice, CanAppend-adds}
use Rattle.jsonc_tree.proofs.Moves.{comes, gap_front_there, in_memory}
use Rattle.jsonc_tree.proofs.UnchangedRows.{alone_stored, end_gap, pushed_adds, pushed_stored}
use Rattle.jsonc_tree.proofs.LineEnds.{line_ends-short}
use Rattle.jsonc_tree.proofs.Written.{same_here, same_there, back_set_keeps, content_kept, length-ahead_set, length-back_set, relinked}

-- what a write makes of the link at a place
abbrev one_set : (LinkedNode → LinkedNode) → ℕ → ℕ → LinkedNode → LinkedNode
one_set f n k e = cond (eqb k n) (f e) e

abbrev one_ahead : ℕ → Option ℕ → Option ℕ → ℕ → LinkedNode → LinkedNode
one_ahead c None t k e = one_set (λ m. record m { first = t }) c k e
one_ahead c (Some n) t k e = one_set (λ m. record m { next = t }) n k e

abbrev with_last : Option ℕ → LinkedNode → LinkedNode
with_last t e = record e { last = t }

abbrev with_place : Option ℕ → Option ℕ → Option ℕ → LinkedNode → LinkedNode
with_place p q r e = record e { parent = p; previous = q; next = r }

here : (f : LinkedNode → LinkedNode) (n : ℕ) (e : LinkedNode) → one_set f n n e ≡ f e
here f n e = ap (λ b. cond b (f e) e) (eq-eqb n n refl)

there : (f : LinkedNode → LinkedNode) (n k : ℕ) (e : LinkedNode) → k ≢ n → one_set f n k e ≡ e
there f n k e ne = ap (λ b. cond b (f e) e) (ne_eqb k n ne)

set_said : (f : LinkedNode → LinkedNode) (ls : List LinkedNode) (n k : ℕ) → n < length ls → link_at (set ls n (f (link_at ls n))) k ≡ one_set f n k (link_at ls k)
set_said f ls n k h =
    elim (cases_eq k n) [
      | inl is ↦ ap (link_at (set ls n (f (link_at ls n)))) is ∙ same_here (λ m. m) ls n (f (link_at ls n)) h ∙ sym (here f n (link_at ls n)) ∙ ap (λ m. one_set f n m (link_at ls m)) (sym is)
      | inr ne ↦ same_there (λ m. m) ls n k (f (link_at ls n)) ne ∙ sym (there f n k (link_at ls k) ne)
    ]

ahead_said : (ls : List LinkedNode) (c : ℕ) (o t : Option ℕ) (k : ℕ) → c < length ls → IfSome o (λ n. n < length ls) → link_at (ahead_set ls c o t) k ≡ one_ahead c o t k (link_at ls k)
ahead_said ls c None t k at inn = set_said (λ m. record m { first = t }) ls c k at
ahead_said ls c (Some n) t k at inn = set_said (λ m. record m { next = t }) ls n k inn

-- a later last link undoes an earlier one
last_again : (c : ℕ) (o s l t : Option ℕ) (k : ℕ) (e : LinkedNode) → record (one_ahead c o s k (record e { last = l })) { last = t } ≡ record (one_ahead c o s k e) { last = t }
last_again c None s l t k e = elim (cases_Bool (eqb k c)) [
  | inl y ↦ rw y refl
  | inr n ↦ rw n refl
]
last_again c (Some m) s l t k e = elim (cases_Bool (eqb k m)) [
  | inl y ↦ rw y refl
  | inr n ↦ rw n refl
]

-- the link ahead is another's
ahead_else : (c : ℕ) (o t : Option ℕ) (k : ℕ) (e : LinkedNode) → k ≢ c → IfSome o (λ n. n < k) → one_ahead c o t k e ≡ e
ahead_else c None t k e ne lt = there (λ m. record m { first = t }) c k e ne
ahead_else c (Some n) t k e ne lt = there (λ m. record m { next = t }) n k e (λ is. omega (arith, is, lt))

if_below : (o : Option ℕ) (m size : ℕ) → m ≤ size → IfSome o (λ n. n < m) → IfSome o (λ n. n < size)
if_below None m size h lt = tt
if_below (Some n) m size h lt = omega (arith, h, lt)

-- what an added node that is appended makes
Pushes-from : (old mid new : List tree.Node) (c : ℕ) (content : Content) → c < length old → Adds old mid content → Appends mid new c (length old) → Pushes old new c content
Pushes-from old mid new c content at adds appends = record {
  len = omega (arith, adds.len, appends.len);
  last = appends.content (length old) ∙ adds.last;
  bare = appends.others (length old) (λ e. omega (arith, e, at)) ∙ adds.bare.1;
  parent = appends.parent;
  children = appends.children ∙ ap (λ (n : tree.Node). n.children ++ length old ∷ []) (adds.rest c at);
  contents = λ m h. appends.content m ∙ ap (λ (n : tree.Node). n.content) (adds.rest m h);
  parents = λ m h. appends.parents m (λ e. omega (arith, e, h)) ∙ ap (λ (n : tree.Node). n.parent) (adds.rest m h);
  others = λ m h ne. appends.others m ne ∙ ap (λ (n : tree.Node). n.children) (adds.rest m h);
}

module _ (ls : List LinkedNode) (c : ℕ) (last : Option ℕ) where
  -- the nodes with the last child in its place
  abbrev filled : List LinkedNode
  filled = back_set ls c None last

  -- in memory too once the container is left
  pub left : (items : List LinkedNode) (now : Option ℕ) → now ≡ last → items ≡ back_set ls c None now → items ≡ filled
  left items now at_last said = said ∙ ap (back_set ls c None) at_last

  module _ (ok : IsStored filled) (at : c < length (nodes_of filled)) where
    pub size_same : length (nodes_of filled) ≡ length ls
    size_same = length_shown filled ∙ length-back_set ls c None last

    last_is : last ≡ (link_at filled c).last
    last_is = sym (same_here (λ m. m.last) ls c (record (link_at ls c) { last = last }) (omega (arith, size_same)))

    -- the last child is there
    pub last_there : (size : ℕ) → size ≡ length ls → IfSome last (λ n. n < size)
    last_there size s = gap_front_there filled ok c (length (children_at (nodes_of filled) c)) size last None (end_gap filled ok c last last_is) (s ∙ sym size_same)

    -- and has a number that a link can hold
    pub last_fits : IfSome last (λ n. n < 2 ^ 32 - 1)
    last_fits = in_memory last (length ls) (last_there (length ls) refl) (omega (arith, ok.few, length-back_set ls c None last))

    -- another container's last child is there
    other_last_there : (items : List LinkedNode) (d : ℕ) (l : Option ℕ) (size : ℕ) → items ≡ filled → l ≡ (link_at items d).last → size ≡ length ls → IfSome l (λ n. n < size)
    other_last_there items d l size is said s =
        gap_front_there filled ok d (length (children_at (nodes_of filled) d)) size l None (end_gap filled ok d l (said ∙ ap (λ m. (link_at m d).last) is)) (s ∙ sym size_same)

    pub other_last_fits : (items : List LinkedNode) (d : ℕ) (l : Option ℕ) → items ≡ filled → l ≡ (link_at items d).last → IfSome l (λ n. n < 2 ^ 32 - 1)
    other_last_fits items d l is said = in_memory l (length ls) (other_last_there items d l (length ls) is said refl) (omega (arith, ok.few, length-back_set ls c None last))

    -- few ends of lines are counted
    pub lines_at_hand : (link_at ls c).lines + 1 < 2 ^ 32
    lines_at_hand =
        let inside : c < length ls = omega (arith, at, size_same) in
        omega (arith, same_here (λ m. m.lines) ls c (record (link_at ls c) { last = last }) inside, ok.lines c, line_ends-short (nodes_of filled) (children_at (nodes_of filled) c), row_shorter (nodes_of filled) ok.tree c, length_shown filled, ok.few)

    module _ (content : Content) where
      abbrev child : LinkedNode
      child = record (bare content) { parent = Some c; previous = last }

      abbrev added : List LinkedNode
      added = filled ++ bare content ∷ []

      abbrev written : List LinkedNode
      written = ahead_set (ls ++ child ∷ []) c last (Some (length ls))

      abbrev grown : List LinkedNode
      grown = back_set written c None (Some (length ls))

      abbrev by_steps : List LinkedNode
      by_steps = relinked added c last None (Some (length ls)) (Some (length ls)) (length ls) (Some c) last None

      length-added : length added ≡ length ls + 1
      length-added = omega (arith, length_push filled (bare content), length-back_set ls c None last)

      inside : c < length ls
      inside = omega (arith, at, size_same)

      there_by : (size : ℕ) → length ls ≤ size → IfSome last (λ n. n < size)
      there_by size h = if_below last (length ls) size h (last_there (length ls) refl)

      -- both at a place: what the write ahead leaves of the link there, with the last link of the container at hand
      grown_said : (k : ℕ) → link_at grown k ≡ one_set (with_last (Some (length ls))) c k (one_ahead c last (Some (length ls)) k (link_at (ls ++ child ∷ []) k))
      grown_said k =
          let long = length_push ls child in
          set_said (with_last (Some (length ls))) written c k (omega (arith, long, inside, length-ahead_set (ls ++ child ∷ []) c last (Some (length ls))))
          ∙ ap (one_set (with_last (Some (length ls))) c k) (ahead_said (ls ++ child ∷ []) c last (Some (length ls)) k (omega (arith, long, inside)) (there_by (length (ls ++ child ∷ [])) (omega (arith, long))))

      steps_said : (k : ℕ) → link_at by_steps k ≡ one_set (with_place (Some c) last None) (length ls) k (one_set (with_last (Some (length ls))) c k (one_ahead c last (Some (length ls)) k (link_at added k)))
      steps_said k =
          let ahead : List LinkedNode = ahead_set added c last (Some (length ls)) in
          let long = length-ahead_set added c last (Some (length ls)) in
          set_said (with_place (Some c) last None) (back_set ahead c None (Some (length ls))) (length ls) k (omega (arith, long, length-added, length-back_set ahead c None (Some (length ls))))
          ∙ ap (one_set (with_place (Some c) last None) (length ls) k)
          (set_said (with_last (Some (length ls))) ahead c k (omega (arith, long, length-added, inside))
          ∙ ap (one_set (with_last (Some (length ls))) c k) (ahead_said added c last (Some (length ls)) k (omega (arith, length-added, inside)) (there_by (length added) (omega (arith, length-added)))))

      same_container : link_at by_steps c ≡ link_at grown c
      same_container =
          let e : LinkedNode = link_at ls c in
          let mine : link_at added c ≡ record e { last = last } = get_or_append_left filled (bare content ∷ []) nowhere c (omega (arith, inside, length-back_set ls c None last)) ∙ same_here (λ m. m) ls c (record e { last = last }) inside in
          let was : link_at (ls ++ child ∷ []) c ≡ e = get_or_append_left ls (child ∷ []) nowhere c inside in
          steps_said c
          ∙ there (with_place (Some c) last None) (length ls) c (one_set (with_last (Some (length ls))) c c (one_ahead c last (Some (length ls)) c (link_at added c))) (λ is. omega (arith, is, inside))
          ∙ here (with_last (Some (length ls))) c (one_ahead c last (Some (length ls)) c (link_at added c))
          ∙ ap (λ m. with_last (Some (length ls)) (one_ahead c last (Some (length ls)) c m)) mine
          ∙ last_again c last (Some (length ls)) last (Some (length ls)) c e
          ∙ ap (λ m. with_last (Some (length ls)) (one_ahead c last (Some (length ls)) c m)) (sym was)
          ∙ sym (here (with_last (Some (length ls))) c (one_ahead c last (Some (length ls)) c (link_at (ls ++ child ∷ []) c)))
          ∙ sym (grown_said c)

      -- nothing of the new node is left to say after the write ahead
      new_else : (e : LinkedNode) → one_set (with_last (Some (length ls))) c (length ls) (one_ahead c last (Some (length ls)) (length ls) e) ≡ e
      new_else e =
          there (with_last (Some (length ls))) c (length ls) (one_ahead c last (Some (length ls)) (length ls) e) (λ is. omega (arith, is, inside))
          ∙ ahead_else c last (Some (length ls)) (length ls) e (λ is. omega (arith, is, inside)) (last_there (length ls) refl)

      same_child : link_at by_steps (length ls) ≡ link_at grown (length ls)
      same_child =
          let mine : link_at added (length ls) ≡ bare content = get_or_push filled (bare content) nowhere (length ls) (length-back_set ls c None last) in
          let was : link_at (ls ++ child ∷ []) (length ls) ≡ child = get_or_push ls child nowhere (length ls) refl in
          steps_said (length ls)
          ∙ here (with_place (Some c) last None) (length ls) (one_set (with_last (Some (length ls))) c (length ls) (one_ahead c last (Some (length ls)) (length ls) (link_at added (length ls))))
          ∙ ap (with_place (Some c) last None) (new_else (link_at added (length ls)) ∙ mine)
          ∙ sym (new_else (link_at (ls ++ child ∷ []) (length ls)) ∙ was)
          ∙ sym (grown_said (length ls))

      same_other : (k : ℕ) → k ≢ c → k < length ls → link_at by_steps k ≡ link_at grown k
      same_other k ne h =
          let mine : link_at added k ≡ link_at ls k = get_or_append_left filled (bare content ∷ []) nowhere k (omega (arith, h, length-back_set ls c None last)) ∙ same_there (λ m. m) ls c k (record (link_at ls c) { last = last }) ne in
          let was : link_at (ls ++ child ∷ []) k ≡ link_at ls k = get_or_append_left ls (child ∷ []) nowhere k h in
          steps_said k
          ∙ there (with_place (Some c) last None) (length ls) k (one_set (with_last (Some (length ls))) c k (one_ahead c last (Some (length ls)) k (link_at added k))) (λ is. omega (arith, is, h))
          ∙ ap (λ m. one_set (with_last (Some (length ls))) c k (one_ahead c last (Some (length ls)) k m)) (mine ∙ sym was)
          ∙ sym (grown_said k)

      length-grown : length grown ≡ length ls + 1
      length-grown = omega (arith, length-back_set written c None (Some (length ls)), length-ahead_set (ls ++ child ∷ []) c last (Some (length ls)), length_push ls child)

      length-steps : length by_steps ≡ length ls + 1
      length-steps =
          let ahead : List LinkedNode = ahead_set added c last (Some (length ls)) in
          omega (arith, length-set (back_set ahead c None (Some (length ls))) (length ls) (record (link_at (back_set ahead c None (Some (length ls))) (length ls)) { parent = Some c; previous = last; next = None }), length-back_set ahead c None (Some (length ls)), length-ahead_set added c last (Some (length ls)), length-added)

      -- what the steps of an append make is what stands in memory, with the last child in its place
      steps_same : by_steps ≡ grown
      steps_same = list_same nowhere by_steps grown (length-steps ∙ sym length-grown) (λ k h. elim (cases_eq k c) [
        | inl is ↦ ap (link_at by_steps) is ∙ same_container ∙ ap (link_at grown) (sym is)
        | inr ne ↦ elim (cases_eq k (length ls)) [
          | inl is ↦ ap (link_at by_steps) is ∙ same_child ∙ ap (link_at grown) (sym is)
          | inr past ↦ same_other k ne (omega (arith, h, length-grown, past))
        ]
      ])

      -- a container at hand counts the end of a line just as well before its last child is written
      counted_grown : (to : ℕ) → back_set (lines_set written c to) c None (Some (length ls)) ≡ lines_set grown c to
      counted_grown to =
          let long : c < length written = omega (arith, length-ahead_set (ls ++ child ∷ []) c last (Some (length ls)), length_push ls child, inside) in
          let e : LinkedNode = link_at written c in
          ap (λ m. set (set written c (record e { lines = to })) c (record m { last = Some (length ls) })) (same_here (λ m. m) written c (record e { lines = to }) long)
          ∙ set-set written c _ _
          ∙ sym (ap (λ m. set (set written c (record e { last = Some (length ls) })) c (record m { lines = to })) (same_here (λ m. m) written c (record e { last = Some (length ls) }) long) ∙ set-set written c _ _)

      -- what a push makes of the nodes
      grows : (w : Bool) → w ≡ is_newline content → length ls < 2 ^ 32 - 1 → is_container_at (nodes_of filled) c ≡ true → Pushes (nodes_of filled) (nodes_of (back_set (counted_in written c w) c None (Some (length ls)))) c content × IsStored (back_set (counted_in written c w) c None (Some (length ls)))
      grows w w_is fits holds =
          let stored = pushed_stored filled content ok (omega (arith, fits, length-back_set ls c None last)) in
          let adds = pushed_adds filled content ok in
          let old : List tree.Node = nodes_of filled in
          let mid : List tree.Node = nodes_of added in
          let can : CanAppend mid c (length ls) = subst (CanAppend mid c) size_same (CanAppend-adds old mid content c stored.tree at holds adds) in
          let last_added : last ≡ (link_at added c).last = last_is ∙ sym (ap (λ (m : LinkedNode). m.last) (get_or_append_left filled (bare content ∷ []) nowhere c (omega (arith, inside, length-back_set ls c None last)))) in
          let gap = end_gap added stored c last last_added in
          let weighed : w ≡ is_newline (link_at by_steps (length ls)).content = w_is ∙ ap is_newline (sym (content_kept added c last None (Some (length ls)) (Some (length ls)) (length ls) (Some c) last None (length ls) ∙ ap (λ (m : LinkedNode). m.content) (get_or_push filled (bare content) nowhere (length ls) (length-back_set ls c None last)))) in
          let came = comes added stored c (length (children_at mid c)) (length ls) last None w can gap weighed in
          let counted : counted_in by_steps c w ≡ back_set (counted_in written c w) c None (Some (length ls)) =
          ap (λ l. counted_in l c w) steps_same
          ∙ ap (λ n. lines_set grown c (n + one_if w)) (back_set_keeps (λ m. m.lines) written c c (Some (length ls)) None (λ n. refl) (λ n. refl))
          ∙ sym (counted_grown ((link_at written c).lines + one_if w)) in
          let appends : Appends mid (nodes_of (counted_in by_steps c w)) c (length ls) = Appends-splice mid (nodes_of (counted_in by_steps c w)) c (length (children_at mid c)) (length ls) refl came.0 in
          let pushes : Pushes old (nodes_of (counted_in by_steps c w)) c content = Pushes-from old mid (nodes_of (counted_in by_steps c w)) c content at adds (subst (Appends mid (nodes_of (counted_in by_steps c w)) c) (sym size_same) appends) in
          (subst (λ l. Pushes old (nodes_of l) c content) counted pushes, subst IsStored counted came.1)

      -- by what a call says of it
      pub grows_by : (items : List LinkedNode) (now end : Option ℕ) (size : ℕ) → size < 2 ^ 32 - 1 → is_container_at (nodes_of filled) c ≡ true → now ≡ last → size ≡ length ls → end ≡ Some size → items ≡ child_behind ls c now content size → Pushes (nodes_of filled) (nodes_of (back_set items c None end)) c content × IsStored (back_set items c None end)
      grows_by items now end size fits holds at_last at_size at_end said =
          let is : items ≡ counted_in written c (is_newline content) = said ∙ ap (λ o. child_behind ls c o content size) at_last ∙ ap (child_behind ls c last content) at_size in
          let whole : back_set items c None end ≡ back_set (counted_in written c (is_newline content)) c None (Some (length ls)) = ap (λ l. back_set l c None end) is ∙ ap (back_set (counted_in written c (is_newline content)) c None) (at_end ∙ ap Some at_size) in
          subst (λ l. Pushes (nodes_of filled) (nodes_of l) c content × IsStored l) (sym whole) (grows (is_newline content) refl (omega (arith, fits, at_size)) holds)

-- the container at hand stays one
pub Pushes-holds : (old new : List tree.Node) (c : ℕ) (content : Content) → Pushes old new c content → c < length old → is_container_at old c ≡ true → (c < length new) × (is_container_at new c ≡ true)
Pushes-holds old new c content pushes at holds = (omega (arith, pushes.len, at), ap is_container (pushes.contents c at) ∙ holds)

-- the first node is the root
pub starts : (items : List LinkedNode) (last : Option ℕ) → items ≡ bare root ∷ [] → last ≡ None → IsStored (back_set items 0 None last) × (0 < length (nodes_of (back_set items 0 None last))) × (is_container_at (nodes_of (back_set items 0 None last)) 0 ≡ true)
starts items last is none =
    let alone : List LinkedNode = bare root ∷ [] in
    let whole : back_set items 0 None last ≡ alone = ap (λ l. back_set l 0 None last) is ∙ ap (back_set alone 0 None) none in
    subst (λ l. IsStored l × (0 < length (nodes_of l)) × (is_container_at (nodes_of l) 0 ≡ true)) (sym whole) (alone_stored root refl, omega arith, refl)
