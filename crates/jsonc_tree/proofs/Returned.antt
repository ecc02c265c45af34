-- A stretch that goes out of a row: the gap that it leaves, and what is there once it was put back.
use Rattle.std.proofs.Common.{◌≡◌, ℕ, zero, suc, ◌+◌, ◌-◌, ◌<◌, ◌≤◌, List, [], ◌∷◌, length, get_or, cond, Option, None, Some, inl, inr, slice_get, slice_range, refl, sym, ap, subst, ◌∙◌, arith, length-append, length-take, length-drop}
use Rattle.std.specs.List.{splice}
use Rattle.std.proofs.lemmas.Bool.{cases_Bool, cases_eq, cases_lt}
use Rattle.std.proofs.lemmas.Option.{slice_get-get_or}
use Rattle.std.proofs.lemmas.List.{nil_from_length}
use Rattle.std.proofs.lemmas.List.Edits.{length-between, get_or-between, split_between}
use Rattle.jsonc_tree.specs.Tree.{Node, Tree, node_at, nowhere, children_at, parent_at, place_at, is_in, IsOver, IsTree, above, itself}
use Rattle.jsonc_tree.specs.Codes.{tree_same}
use Rattle.jsonc_tree.specs.Changes.{Splices, CanJoin}
use Rattle.jsonc_tree.specs.Building.{Keeps}
use Rattle.jsonc_tree.specs.Siblings.{before, CanFill, IsGap, TakesOut}
use Rattle.jsonc_tree.specs.Stored.{link_at, nodes_of, IsStored, LinkedNode}
use Rattle.jsonc_tree.proofs.AgreeingLinks.{list_same, node_same}
use Rattle.jsonc_tree.proofs.Gaps.{at_named, at_placed}
use Rattle.jsonc_tree.proofs.LinkSteps.{next_step, some_at, take_step}
use Rattle.jsonc_tree.proofs.Moves.{next_is, previous_is}
use Rattle.jsonc_tree.proofs.Splicing.{in_at, in_where}
use Rattle.jsonc_tree.proofs.Order.{not_over_parent, parent_there}
use Rattle.jsonc_tree.proofs.Stretches.{CanJoin-gone, Splices-more, row_more}

-- what stands before a stretch that went out, and behind it
gone_low : (xs : List ℕ) (i j k : ℕ) → k < i → i ≤ j → j ≤ length xs → slice_get (splice xs i j []) k ≡ slice_get xs k
gone_low [] i j k lt le h = absurd (omega arith)
gone_low (x ∷ xs) zero j k lt le h = absurd (omega arith)
gone_low (x ∷ xs) (suc i) zero k lt le h = absurd (omega arith)
gone_low (x ∷ xs) (suc i) (suc j) zero lt le h = refl
gone_low (x ∷ xs) (suc i) (suc j) (suc k) lt le h = gone_low xs i j k (omega arith) (omega arith) (omega arith)

gone_high : (xs : List ℕ) (i j : ℕ) → i ≤ j → j ≤ length xs → slice_get (splice xs i j []) i ≡ slice_get xs j
gone_high [] zero zero le h = refl
gone_high [] zero (suc j) le h = absurd (omega arith)
gone_high [] (suc i) j le h = absurd (omega arith)
gone_high (x ∷ xs) zero zero le h = refl
gone_high (x ∷ xs) zero (suc j) le h = gone_high xs zero j (omega arith) (omega arith)
gone_high (x ∷ xs) (suc i) zero le h = absurd (omega arith)
gone_high (x ∷ xs) (suc i) (suc j) le h = gone_high xs i j (omega arith) (omega arith)

gone_behind : (xs : List ℕ) (i j : ℕ) → i ≤ j → j ≤ length xs → slice_get (splice xs i j []) (suc i) ≡ slice_get xs (suc j)
gone_behind [] zero zero le h = refl
gone_behind [] zero (suc j) le h = absurd (omega arith)
gone_behind [] (suc i) j le h = absurd (omega arith)
gone_behind (x ∷ xs) zero zero le h = refl
gone_behind (x ∷ xs) zero (suc j) le h = gone_behind xs zero j (omega arith) (omega arith)
gone_behind (x ∷ xs) (suc i) zero le h = absurd (omega arith)
gone_behind (x ∷ xs) (suc i) (suc j) le h = gone_behind xs i j (omega arith) (omega arith)

gone_front : (xs : List ℕ) (i j : ℕ) → i ≤ j → j ≤ length xs → before (splice xs i j []) i ≡ before xs i
gone_front xs zero j le h = refl
gone_front xs (suc i) j le h = gone_low xs (suc i) j i (omega arith) le h

pub length_without : (xs : List ℕ) (i j : ℕ) → i ≤ j → j ≤ length xs → length (splice xs i j []) + (j - i) ≡ length xs
length_without xs i j le h = simp (length-append, length-take, length-drop) (omega arith)

-- the gap that a stretch leaves is between those that stood before it and behind it
pub IsGap-gone : (old cur : List Node) (c i j : ℕ) (b a : Option ℕ) → i ≤ j → j ≤ length (children_at old c) → b ≡ before (children_at old c) i → a ≡ slice_get (children_at old c) j → Splices old cur c i j [] → IsGap cur c i b a
IsGap-gone old cur c i j b a le h front back splices =
    let row : List ℕ = children_at old c in
    record {
      inside = omega (arith, ap length splices.children, length_without row i j le h);
      front = front ∙ sym (ap (λ l. before l i) splices.children ∙ gone_front row i j le h);
      back = back ∙ sym (ap (λ l. slice_get l i) splices.children ∙ gone_high row i j le h);
    }

-- what comes into that gap is in the place of the stretch
pub Splices-refilled : (old cur new : List Node) (c i j : ℕ) (xs : List ℕ) → i ≤ j → j ≤ length (children_at old c) → Splices old cur c i j [] → Splices cur new c i i xs → Splices old new c i j xs
Splices-refilled old cur new c i j xs le h out back = Splices-more old cur new c i j i [] xs le h (omega arith) out back

-- the gap that a child leaves
module _ (ls ms : List LinkedNode) (ok : IsStored ls) where
  pub IsGap-left : (c x : ℕ) (b a : Option ℕ) → parent_at (nodes_of ls) x ≡ Some c → b ≡ (link_at ls x).previous → a ≡ (link_at ls x).next → TakesOut (nodes_of ls) (nodes_of ms) c x → Splices (nodes_of ls) (nodes_of ms) c (place_at (nodes_of ls) x) (place_at (nodes_of ls) x + 1) [] × IsGap (nodes_of ms) c (place_at (nodes_of ls) x) b a
  IsGap-left c x b a said front back gone =
      let k : ℕ = place_at (nodes_of ls) x in
      let one : suc k ≡ k + 1 = omega arith in
      let out : Splices (nodes_of ls) (nodes_of ms) c k (k + 1) [] = subst (λ m. Splices (nodes_of ls) (nodes_of ms) c k m []) one gone in (
        out,
        IsGap-gone (nodes_of ls) (nodes_of ms) c k (k + 1) b a (omega arith) (omega (arith, ok.tree.within x c said)) (front ∙ previous_is ls ok x c said) (back ∙ next_is ls ok x c said ∙ ap (slice_get (children_at (nodes_of ls) c)) one) out,
      )

  -- while a stretch goes, its next node is the first of what is left of it, and that behind it stands behind it
  pub stretch_at : (old : List Node) (c i x : ℕ) → IsTree old → i ≤ place_at old x → parent_at old x ≡ Some c → Splices old (nodes_of ls) c i (place_at old x) [] → (slice_get (children_at (nodes_of ls) c) i ≡ Some x) × ((link_at ls x).next ≡ slice_get (children_at old c) (place_at old x + 1)) × (parent_at (nodes_of ls) x ≡ Some c)
  stretch_at old c i x t le said so_far =
      let row : List ℕ = children_at old c in
      let m : ℕ = place_at old x in
      let within = t.within x c said in
      let one : suc m ≡ m + 1 = omega arith in
      let stood : slice_get row m ≡ Some x = slice_get-get_or row m 0 within ∙ ap Some (t.found x c said) in
      let stands : slice_get (children_at (nodes_of ls) c) i ≡ Some x = ap (λ l. slice_get l i) so_far.children ∙ gone_high row i m le (omega arith) ∙ stood in (
        stands,
        next_step ls ok c i x stands ∙ ap (λ l. slice_get l (suc i)) so_far.children ∙ gone_behind row i m le (omega arith) ∙ ap (slice_get row) one,
        at_named (nodes_of ls) ok.tree c i x stands,
      )

  pub stretch_step : (old : List Node) (c i x : ℕ) → IsTree old → i ≤ place_at old x → parent_at old x ≡ Some c → Splices old (nodes_of ls) c i (place_at old x) [] → TakesOut (nodes_of ls) (nodes_of ms) c x → Splices old (nodes_of ms) c i (place_at old x + 1) []
  stretch_step old c i x t le said so_far gone =
      (take_step ls ms ok old c i (place_at old x) x le (t.within x c said) so_far (stretch_at old c i x t le said so_far).0 gone).0

module _ (ns : List Node) (t : IsTree ns) where
  -- of two children of a container, the one that stands before the other has another behind it
  pub stretch_more : (c x last : ℕ) → parent_at ns x ≡ Some c → parent_at ns last ≡ Some c → place_at ns x ≤ place_at ns last → (x ≡ last → ⊥) → (place_at ns x < place_at ns last) × (slice_get (children_at ns c) (place_at ns x + 1) ≡ None → ⊥)
  stretch_more c x last said end le ne =
      elim (cases_lt (place_at ns x) (place_at ns last)) [
        | inl lt ↦ (lt, some_at (children_at ns c) (place_at ns x + 1) (omega (arith, t.within last c end)))
        | inr ge ↦
            let both : place_at ns x ≡ place_at ns last = omega arith in
            absurd (ne (sym (t.found x c said) ∙ ap (λ k. get_or (children_at ns c) k 0) both ∙ t.found last c end))
      ]

  pub stretch_next : (c k m : ℕ) → slice_get (children_at ns c) k ≡ Some m → (parent_at ns m ≡ Some c) × (place_at ns m ≡ k)
  stretch_next c k m e = (at_named ns t c k m e, at_placed ns t c k m e)

-- a stretch that was taken out can come back into the gap that it left
stretch_parent : (old : List Node) → IsTree old → (c i j k : ℕ) → j ≤ length (children_at old c) → k < length (slice_range (children_at old c) i j) → (parent_at old (get_or (slice_range (children_at old c) i j) k 0) ≡ Some c) × (get_or (slice_range (children_at old c) i j) k 0 < length old) × (place_at old (get_or (slice_range (children_at old c) i j) k 0) ≡ i + k)
stretch_parent old t c i j k h lt =
    let row : List ℕ = children_at old c in
    let wide = length-between row i j h in
    let is : get_or (slice_range row i j) k 0 ≡ get_or row (i + k) 0 = get_or-between row i j k 0 (omega (arith, wide)) in
    rw is (t.named c (i + k) (omega (arith, wide)), t.in_tree c (i + k) (omega (arith, wide)), t.placed c (i + k) (omega (arith, wide)))

pub CanJoin-back : (old : List Node) → IsTree old → (c i j : ℕ) → j ≤ length (children_at old c) → CanJoin old c i j (slice_range (children_at old c) i j)
CanJoin-back old t c i j h =
    let xs : List ℕ = slice_range (children_at old c) i j in
    record {
      in_tree = λ k lt. (stretch_parent old t c i j k h lt).1;
      not_root = λ k lt e. let wrong : Some c ≡ None = sym (stretch_parent old t c i j k h lt).0 ∙ ap (parent_at old) e ∙ t.root_alone in cc;
      once = λ a b la lb e. omega (arith, (stretch_parent old t c i j a h la).2, (stretch_parent old t c i j b h lb).2, ap (place_at old) e);
      free = λ k lt. inr (in_at xs k lt);
      not_over = λ k lt over. not_over_parent old t (get_or xs k 0) c (stretch_parent old t c i j k h lt).0 over;
    }

splice_same : (xs : List ℕ) (i j : ℕ) → i ≤ j → splice xs i j (slice_range xs i j) ≡ xs
splice_same xs i j le = sym (split_between xs i j le)

-- a stretch that is put back where it was leaves each row and each parent as they were
-- a node of the stretch has the container as its parent, and any other is not asked
parent_either : (old : List Node) → IsTree old → (c i j n : ℕ) → j ≤ length (children_at old c) → cond (is_in n (slice_range (children_at old c) i j)) (Some c) (cond (is_in n (slice_range (children_at old c) i j)) None (parent_at old n)) ≡ parent_at old n
parent_either old t c i j n h =
    elim (cases_Bool (is_in n (slice_range (children_at old c) i j))) [
      | inl e ↦
          let w = in_where n (slice_range (children_at old c) i j) e in
          ap (λ b. cond b (Some c) (cond (is_in n (slice_range (children_at old c) i j)) None (parent_at old n))) e
          ∙ sym (ap (parent_at old) (sym w.2) ∙ (stretch_parent old t c i j w.0 h w.1).0)
      | inr e ↦
          ap (λ b. cond b (Some c) (cond (is_in n (slice_range (children_at old c) i j)) None (parent_at old n))) e
          ∙ ap (λ b. cond b None (parent_at old n)) e
    ]

module _ (old cur new : List Node) (t : IsTree old) (c i j : ℕ) (le : i ≤ j) (h : j ≤ length (children_at old c)) (out : Splices old cur c i j []) (back : Splices cur new c i i (slice_range (children_at old c) i j)) where
  whole : Splices old new c i j (slice_range (children_at old c) i j)
  whole = Splices-refilled old cur new c i j (slice_range (children_at old c) i j) le h out back

  children_back : (n : ℕ) → children_at new n ≡ children_at old n
  children_back n =
      elim (cases_eq n c) [
        | inl is ↦ ap (children_at new) is ∙ whole.children ∙ splice_same (children_at old c) i j le ∙ ap (children_at old) (sym is)
        | inr ne ↦ whole.others n ne
      ]

  parent_back : (n : ℕ) → parent_at new n ≡ parent_at old n
  parent_back n = whole.parents n ∙ parent_either old t c i j n h

  -- the nodes are those that were there before
  pub nodes_back : new ≡ old
  nodes_back = list_same nowhere new old (back.len ∙ out.len) (λ k lt. node_same (node_at new k) (node_at old k) (back.content k ∙ out.content k) (parent_back k) (children_back k))

-- and so the tree is the one that was there before
pub tree_back : (old cur new : Tree) (c i j : ℕ) → i ≤ j → j ≤ length (children_at old.nodes c) → Splices old.nodes cur.nodes c i j [] → Splices cur.nodes new.nodes c i i (slice_range (children_at old.nodes c) i j) → new ≡ old
tree_back old cur new c i j le h out back = tree_same new old (nodes_back old.nodes cur.nodes new.nodes old.tree c i j le h out back)

over_kept : (cur mid : List Node) → IsTree cur → Keeps (length cur) cur mid → (m n : ℕ) → n < length cur → IsOver mid m n → IsOver cur m n
over_kept cur mid t keeps m _ lt itself = itself
over_kept cur mid t keeps m n lt (above {c = p} said r) =
    let was : parent_at cur n ≡ Some p = sym (keeps.parent n lt) ∙ said in
    above was (over_kept cur mid t keeps m p (parent_there cur t n p was).1 r)

nothing_between : (xs : List ℕ) (k : ℕ) → k ≤ length xs → slice_range xs k k ≡ []
nothing_between xs k h = nil_from_length (slice_range xs k k) (omega (arith, length-between xs k k h))

-- the stretch fits into the gap that it left
pub CanFill-back : (old cur : List Node) → IsTree old → (c i j : ℕ) (b a : Option ℕ) → i ≤ j → j ≤ length (children_at old c) → b ≡ before (children_at old c) i → a ≡ slice_get (children_at old c) j → Splices old cur c i j [] → CanFill cur c b a (slice_range (children_at old c) i j)
CanFill-back old cur t c i j b a le h front back out =
    (i, IsGap-gone old cur c i j b a le h front back out, CanJoin-gone old cur c i j (slice_range (children_at old c) i j) out (CanJoin-back old t c i j h))

-- nodes that were added while the stretch was out change neither the gap nor what fits into it
pub CanJoin-kept : (cur mid : List Node) → IsTree cur → (c i j : ℕ) (xs : List ℕ) → c < length cur → Keeps (length cur) cur mid → CanJoin cur c i j xs → CanJoin mid c i j xs
CanJoin-kept cur mid t c i j xs at keeps join = record {
  in_tree = λ k lt. omega (arith, join.in_tree k lt, keeps.len);
  not_root = join.not_root;
  once = join.once;
  free = λ k lt. elim (join.free k lt) [
    | inl alone ↦ inl (keeps.parent (get_or xs k 0) (join.in_tree k lt) ∙ alone)
    | inr gone ↦ inr (ap (λ l. is_in (get_or xs k 0) (slice_range l i j)) (keeps.children c at) ∙ gone)
  ];
  not_over = λ k lt over. join.not_over k lt (over_kept cur mid t keeps (get_or xs k 0) c at over);
}

pub CanFill-kept : (cur mid : List Node) → IsTree cur → (c : ℕ) (b a : Option ℕ) (xs : List ℕ) → c < length cur → Keeps (length cur) cur mid → CanFill cur c b a xs → CanFill mid c b a xs
CanFill-kept cur mid t c b a xs at keeps (g, gap, join) =
    let row : children_at mid c ≡ children_at cur c = keeps.children c at in (
      g,
      record {
        inside = omega (arith, gap.inside, ap length row);
        front = gap.front ∙ ap (λ l. before l g) (sym row);
        back = gap.back ∙ ap (λ l. slice_get l g) (sym row);
      },
      CanJoin-kept cur mid t c g g xs at keeps join,
    )

-- once it was put back, each node that was there before is as it was, whatever was added beside them
pub Keeps-back : (old cur mid new : List Node) → IsTree old → IsTree cur → (c i j : ℕ) → c < length old → i ≤ j → j ≤ length (children_at old c) → Splices old cur c i j [] → Keeps (length cur) cur mid → Splices mid new c i i (slice_range (children_at old c) i j) → Keeps (length old) old new
Keeps-back old cur mid new t u c i j at le h out keeps back =
    let xs : List ℕ = slice_range (children_at old c) i j in
    let there : c < length cur = omega (arith, out.len) in
    let row : children_at mid c ≡ children_at cur c = keeps.children c there in
    let none : slice_range (children_at mid c) i i ≡ [] = nothing_between (children_at mid c) i (omega (arith, ap length row, ap length out.children, length_without (children_at old c) i j le h)) in
    record {
      len = omega (arith, out.len, keeps.len, back.len);
      content = λ n lt. back.content n ∙ keeps.content n (omega (arith, out.len)) ∙ out.content n;
      parent = λ n lt.
          back.parents n
          ∙ ap (λ l. cond (is_in n xs) (Some c) (cond (is_in n l) None (parent_at mid n))) none
          ∙ ap (cond (is_in n xs) (Some c)) (keeps.parent n (omega (arith, out.len)) ∙ out.parents n)
          ∙ parent_either old t c i j n h;
      children = λ n lt. elim (cases_eq n c) [
        | inl is ↦
            ap (children_at new) is ∙ back.children
            ∙ ap (λ l. splice l i i xs) (row ∙ out.children)
            ∙ ap (λ k. splice (splice (children_at old c) i j []) k k xs) (omega arith)
            ∙ row_more (children_at old c) [] xs i j (omega arith)
            ∙ splice_same (children_at old c) i j le ∙ ap (children_at old) (sym is)
        | inr ne ↦ back.others n ne ∙ keeps.children n (omega (arith, out.len)) ∙ out.others n ne
      ];
    }
