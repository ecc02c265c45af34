-- Steps in one row, as one change of the whole row.
use Rattle.std.proofs.Common.{◌≡◌, ℕ, zero, suc, ◌+◌, ◌-◌, ◌<◌, ◌≤◌, ◌||◌, Bool, eqb, List, [], ◌∷◌, ◌++◌, append-nil, length, get_or, take, drop, cond, false, true, Option, None, Some, inl, inr, slice_range, refl, sym, ap, subst, ◌∙◌, arith}
use Rattle.std.specs.List.{splice}
use Rattle.std.proofs.lemmas.Bool.{cases_Bool, cases_eq, false≢true}
use Rattle.std.proofs.lemmas.List.{drop_all, nil_from_length, take_all}
use Rattle.std.proofs.lemmas.List.Edits.{length-between}
use Rattle.jsonc_tree.specs.Content.{is_container}
use Rattle.jsonc_tree.specs.Tree.{Node, children_at, parent_at, place_at, is_container_at, is_in, IsTree}
use Rattle.jsonc_tree.specs.Building.{Keeps}
use Rattle.jsonc_tree.specs.Changes.{Splices, CanJoin}
use Rattle.jsonc_tree.proofs.Moves.{spliced}
use Rattle.jsonc_tree.proofs.Returned.{CanJoin-back, CanJoin-kept, Keeps-back, length_without}
use Rattle.jsonc_tree.proofs.Splicing.{in_at, in_where}
use Rattle.jsonc_tree.proofs.Stretches.{CanJoin-gone}

-- the new nodes are the old ones, but for one container's row, whatever came and went
abbrev pub RowBecomes : List Node → List Node → ℕ → Type 0
RowBecomes old new c = Splices old new c 0 (length (children_at old c)) (children_at new c)

whole_row : (xs ys : List ℕ) → splice xs 0 (length xs) ys ≡ ys
whole_row xs ys = ap (λ l. ys ++ l) (drop_all (length xs) xs (omega arith)) ∙ append-nil ys

whole_range : (xs : List ℕ) → slice_range xs 0 (length xs) ≡ xs
whole_range xs = take_all (length xs - 0) xs (omega arith)

-- who stands in a row, and who does not
module _ (ns : List Node) (t : IsTree ns) where
  in_row_named : (c n : ℕ) → is_in n (children_at ns c) ≡ true → parent_at ns n ≡ Some c
  in_row_named c n e = let w = in_where n (children_at ns c) e in ap (parent_at ns) (sym w.2) ∙ t.named c w.0 w.1

  named_in_row : (c n : ℕ) → parent_at ns n ≡ Some c → is_in n (children_at ns c) ≡ true
  named_in_row c n said = ap (λ m. is_in m (children_at ns c)) (sym (t.found n c said)) ∙ in_at (children_at ns c) (place_at ns n) (t.within n c said)

or_true_by : (a b d : Bool) → (b ≡ true → d ≡ true) → (a || b) ≡ true → (a || d) ≡ true
or_true_by true b d f e = refl
or_true_by false b d f e = f e

or_true_right : (a b : Bool) → b ≡ true → (a || b) ≡ true
or_true_right true b e = refl
or_true_right false b e = e

in_take : (k n : ℕ) (xs : List ℕ) → is_in n (take k xs) ≡ true → is_in n xs ≡ true
in_take zero n xs e = absurd (false≢true e)
in_take (suc k) n [] e = absurd (false≢true e)
in_take (suc k) n (x ∷ xs) e = or_true_by (eqb n x) (is_in n (take k xs)) (is_in n xs) (in_take k n xs) e

in_drop : (k n : ℕ) (xs : List ℕ) → is_in n (drop k xs) ≡ true → is_in n xs ≡ true
in_drop zero n xs e = e
in_drop (suc k) n [] e = absurd (false≢true e)
in_drop (suc k) n (x ∷ xs) e = or_true_right (eqb n x) (is_in n xs) (in_drop k n xs e)

module _ (old new : List Node) (t : IsTree old) (u : IsTree new) (c i j : ℕ) (xs : List ℕ) (step : Splices old new c i j xs) where
  came_in : (n : ℕ) → is_in n xs ≡ true → is_in n (children_at new c) ≡ true
  came_in n e = named_in_row new u c n (step.parents n ∙ ap (λ b. cond b (Some c) (cond (is_in n (slice_range (children_at old c) i j)) None (parent_at old n))) e)

  went_from : (n : ℕ) → is_in n (slice_range (children_at old c) i j) ≡ true → is_in n (children_at old c) ≡ true
  went_from n e = in_drop i n (children_at old c) (in_take (j - i) n (drop i (children_at old c)) e)

  parent_becomes : (n : ℕ) → parent_at new n ≡ cond (is_in n (children_at new c)) (Some c) (cond (is_in n (children_at old c)) None (parent_at old n))
  parent_becomes n =
      elim (cases_Bool (is_in n (children_at new c))) [
        | inl here ↦ in_row_named new u c n here ∙ sym (ap (λ b. cond b (Some c) (cond (is_in n (children_at old c)) None (parent_at old n))) here)
        | inr away ↦ elim (cases_Bool (is_in n xs)) [
          | inl e ↦ absurd (false≢true (sym away ∙ came_in n e))
          | inr e ↦
              let as_before : parent_at new n ≡ cond (is_in n (slice_range (children_at old c) i j)) None (parent_at old n) = step.parents n ∙ ap (λ b. cond b (Some c) (cond (is_in n (slice_range (children_at old c) i j)) None (parent_at old n))) e in
              elim (cases_Bool (is_in n (slice_range (children_at old c) i j))) [
                | inl gone ↦
                    as_before ∙ ap (λ b. cond b None (parent_at old n)) gone
                    ∙ sym (ap (λ b. cond b None (parent_at old n)) (went_from n gone))
                    ∙ sym (ap (λ b. cond b (Some c) (cond (is_in n (children_at old c)) None (parent_at old n))) away)
                | inr kept ↦
                    let same : parent_at new n ≡ parent_at old n = as_before ∙ ap (λ b. cond b None (parent_at old n)) kept in
                    elim (cases_Bool (is_in n (children_at old c))) [
                      | inl stood ↦ absurd (false≢true (sym away ∙ named_in_row new u c n (same ∙ in_row_named old t c n stood)))
                      | inr other ↦
                          same
                          ∙ sym (ap (λ b. cond b None (parent_at old n)) other)
                          ∙ sym (ap (λ b. cond b (Some c) (cond (is_in n (children_at old c)) None (parent_at old n))) away)
                    ]
              ]
        ]
      ]

  -- a change of a stretch is one of the whole row
  pub RowBecomes-splice : RowBecomes old new c
  RowBecomes-splice = record {
    len = step.len;
    content = step.content;
    children = sym (whole_row (children_at old c) (children_at new c));
    others = step.others;
    parents = λ n. parent_becomes n ∙ ap (λ l. cond (is_in n (children_at new c)) (Some c) (cond (is_in n l) None (parent_at old n))) (sym (whole_range (children_at old c)));
  }

both_steps : (d b a : Bool) (o p q : Option ℕ) → (b ≡ true → d ≡ false → a ≡ true) → p ≡ cond b o (cond a None q) → cond d o (cond b None p) ≡ cond d o (cond a None q)
both_steps true b a o p q stays e = refl
both_steps false true true o p q stays e = refl
both_steps false true false o p q stays e = absurd (false≢true (stays refl refl))
both_steps false false a o p q stays e = e

-- two changes of a row are one, where what came with the first stays with the second
pub RowBecomes-then : (a b d : List Node) (c : ℕ) → RowBecomes a b c → RowBecomes b d c → ((n : ℕ) → is_in n (children_at b c) ≡ true → is_in n (children_at d c) ≡ false → is_in n (children_at a c) ≡ true) → RowBecomes a d c
RowBecomes-then a b d c p q stays = record {
  len = q.len ∙ p.len;
  content = λ n. q.content n ∙ p.content n;
  children = sym (whole_row (children_at a c) (children_at d c));
  others = λ n ne. q.others n ne ∙ p.others n ne;
  parents = λ n.
      let first : parent_at b n ≡ cond (is_in n (children_at b c)) (Some c) (cond (is_in n (children_at a c)) None (parent_at a n)) = p.parents n ∙ ap (λ l. cond (is_in n (children_at b c)) (Some c) (cond (is_in n l) None (parent_at a n))) (whole_range (children_at a c)) in
      let second : parent_at d n ≡ cond (is_in n (children_at d c)) (Some c) (cond (is_in n (children_at b c)) None (parent_at b n)) = q.parents n ∙ ap (λ l. cond (is_in n (children_at d c)) (Some c) (cond (is_in n l) None (parent_at b n))) (whole_range (children_at b c)) in
      second
      ∙ both_steps (is_in n (children_at d c)) (is_in n (children_at b c)) (is_in n (children_at a c)) (Some c) (parent_at b n) (parent_at a n) (stays n) first
      ∙ ap (λ l. cond (is_in n (children_at d c)) (Some c) (cond (is_in n l) None (parent_at a n))) (sym (whole_range (children_at a c)));
}

-- what was put in and is taken out again leaves the nodes as they were
take_front : (xs ys : List ℕ) → take (length xs) (xs ++ ys) ≡ xs
take_front [] ys = refl
take_front (x ∷ xs) ys = ap (λ l. x ∷ l) (take_front xs ys)

drop_past : (xs ys : List ℕ) → drop (length xs) (xs ++ ys) ≡ ys
drop_past [] ys = refl
drop_past (x ∷ xs) ys = drop_past xs ys

drop_front : (row z : List ℕ) (i : ℕ) → i ≤ length row → drop i (take i row ++ z) ≡ z
drop_front row z zero h = refl
drop_front [] z (suc i) h = absurd (omega arith)
drop_front (x ∷ row) z (suc i) h = drop_front row z i (omega arith)

nothing_between : (xs : List ℕ) (k : ℕ) → k ≤ length xs → slice_range xs k k ≡ []
nothing_between xs k h = nil_from_length (slice_range xs k k) (omega (arith, length-between xs k k h))

alone_by : (mid : List Node) (c i : ℕ) (xs : List ℕ) → slice_range (children_at mid c) i i ≡ [] → CanJoin mid c i i xs → (k : ℕ) → k < length xs → parent_at mid (get_or xs k 0) ≡ None
alone_by mid c i xs none join k h =
    elim (join.free k h) [
      | inl alone ↦ alone
      | inr gone ↦ let wrong : false ≡ true = sym (ap (is_in (get_or xs k 0)) none) ∙ gone in absurd (false≢true wrong)
    ]

parent_again : (mid ready : List Node) (c i : ℕ) (xs : List ℕ) → slice_range (children_at mid c) i i ≡ [] → CanJoin mid c i i xs → Splices mid ready c i i xs → (n : ℕ) → cond (is_in n xs) None (parent_at ready n) ≡ parent_at mid n
parent_again mid ready c i xs none join step n =
    elim (cases_Bool (is_in n xs)) [
      | inl e ↦
          let w = in_where n xs e in
          ap (λ b. cond b None (parent_at ready n)) e ∙ sym (ap (parent_at mid) (sym w.2) ∙ alone_by mid c i xs none join w.0 w.1)
      | inr e ↦
          ap (λ b. cond b None (parent_at ready n)) e ∙ step.parents n
          ∙ ap (λ b. cond b (Some c) (cond (is_in n (slice_range (children_at mid c) i i)) None (parent_at mid n))) e
          ∙ ap (λ l. cond (is_in n l) None (parent_at mid n)) none
    ]

range_put : (row xs : List ℕ) (i : ℕ) → i ≤ length row → slice_range (splice row i i xs) i (i + length xs) ≡ xs
range_put row xs i h =
    let wide : (i + length xs) - i ≡ length xs = omega arith in
    ap (λ k. take k (drop i (splice row i i xs))) wide ∙ ap (take (length xs)) (drop_front row (xs ++ drop i row) i h) ∙ take_front xs (drop i row)

row_put : (row xs : List ℕ) (i : ℕ) → i ≤ length row → splice (splice row i i xs) i (i + length xs) [] ≡ row
row_put [] xs zero h =
    let all : 0 + length xs ≡ length xs = omega arith in
    ap (λ k. splice (splice [] 0 0 xs) 0 k []) all ∙ drop_past xs []
row_put [] xs (suc i) h = absurd (omega arith)
row_put (x ∷ row) xs zero h =
    let all : 0 + length xs ≡ length xs = omega arith in
    ap (λ k. splice (splice (x ∷ row) 0 0 xs) 0 k []) all ∙ drop_past xs (x ∷ row)
row_put (x ∷ row) xs (suc i) h =
    let one : suc i + length xs ≡ suc (i + length xs) = omega arith in
    ap (λ k. splice (splice (x ∷ row) (suc i) (suc i) xs) (suc i) k []) one ∙ ap (λ l. x ∷ l) (row_put row xs i (omega arith))

pub Splices-again : (mid ready : List Node) (c i : ℕ) (xs : List ℕ) → i ≤ length (children_at mid c) → CanJoin mid c i i xs → Splices mid ready c i i xs → Splices ready mid c i (i + length xs) []
Splices-again mid ready c i xs h join step =
    let row : List ℕ = children_at mid c in
    let none : slice_range row i i ≡ [] = nothing_between row i h in
    let put : slice_range (children_at ready c) i (i + length xs) ≡ xs = ap (λ l. slice_range l i (i + length xs)) step.children ∙ range_put row xs i h in
    record {
      len = sym step.len;
      content = λ n. sym (step.content n);
      children = sym (ap (λ l. splice l i (i + length xs) []) step.children ∙ row_put row xs i h);
      others = λ n ne. sym (step.others n ne);
      parents = λ n.
          sym (ap (λ l. cond (is_in n l) None (parent_at ready n)) put
          ∙ parent_again mid ready c i xs none join step n);
    }

-- A stretch that went before other nodes were added might as well have gone behind them: there are nodes to which those were added while it still stood
-- there, and of which it went then.
pub ready_before : (old cur mid : List Node) → IsTree old → IsTree cur → IsTree mid → (c i j : ℕ) → c < length old → is_container_at old c ≡ true → i ≤ j → j ≤ length (children_at old c) → Splices old cur c i j [] → Keeps (length cur) cur mid → (ready : List Node) × Keeps (length old) old ready × IsTree ready × Splices ready mid c i j []
ready_before old cur mid t u v c i j at holds le h out keeps =
    let row : List ℕ = children_at old c in
    let xs : List ℕ = slice_range row i j in
    let there : c < length cur = omega (arith, out.len) in
    let kind : is_container_at mid c ≡ true = ap is_container (keeps.content c there ∙ out.content c) ∙ holds in
    let wide : i + length xs ≡ j = omega (arith, length-between row i j h) in
    let join = CanJoin-kept cur mid u c i i xs there keeps (CanJoin-gone old cur c i j xs out (CanJoin-back old t c i j h)) in
    let inside : i ≤ length (children_at mid c) = omega (arith, ap length (keeps.children c there), ap length out.children, length_without row i j le h) in
    let made = spliced mid c i i xs v (omega (arith, keeps.len, there)) kind (omega arith) inside join in (
      made.0,
      Keeps-back old cur mid made.0 t u c i j at le h out keeps made.1,
      made.2,
      subst (λ k. Splices made.0 mid c i k []) wide (Splices-again mid made.0 c i xs inside join made.1),
    )

either_way : (b : Bool) (o p : Option ℕ) → p ≡ o → cond b o p ≡ o
either_way true o p e = refl
either_way false o p e = e

-- who stood in a row that lost a stretch stood there before, and who stood in one that gained some still stands there
pub row_shrinks : (a b : List Node) → IsTree a → IsTree b → (c i j : ℕ) → Splices a b c i j [] → (n : ℕ) → is_in n (children_at b c) ≡ true → is_in n (children_at a c) ≡ true
row_shrinks a b t u c i j step n e =
    let said : parent_at b n ≡ Some c = in_row_named b u c n e in
    elim (cases_Bool (is_in n (slice_range (children_at a c) i j))) [
      | inl gone ↦ let wrong : None ≡ Some c = sym (step.parents n ∙ ap (λ x. cond x None (parent_at a n)) gone) ∙ said in cc
      | inr kept ↦ named_in_row a t c n (sym (step.parents n ∙ ap (λ x. cond x None (parent_at a n)) kept) ∙ said)
    ]

pub row_grows : (a b : List Node) → IsTree a → IsTree b → (c i : ℕ) (xs : List ℕ) → i ≤ length (children_at a c) → Splices a b c i i xs → (n : ℕ) → is_in n (children_at a c) ≡ true → is_in n (children_at b c) ≡ true
row_grows a b t u c i xs h step n e =
    let said : parent_at a n ≡ Some c = in_row_named a t c n e in
    let now : parent_at b n ≡ cond (is_in n xs) (Some c) (parent_at a n) = step.parents n ∙ ap (λ l. cond (is_in n xs) (Some c) (cond (is_in n l) None (parent_at a n))) (nothing_between (children_at a c) i h) in
    named_in_row b u c n (now ∙ either_way (is_in n xs) (Some c) (parent_at a n) said)

-- Two stretches leave a row, nodes are added, and then some of them come into it in two steps: so it is as if all were added first, and the whole row
-- became another at once.
pub steps_as_one : (old one two mid three new : List Node) → IsTree old → IsTree one → IsTree two → IsTree mid → IsTree three → IsTree new → (c i j k l g h : ℕ) (xs ys : List ℕ) → c < length old → is_container_at old c ≡ true → i ≤ j → j ≤ length (children_at old c) → k ≤ l → l ≤ length (children_at one c) → g ≤ length (children_at mid c) → h ≤ length (children_at three c) → Splices old one c i j [] → Splices one two c k l [] → Keeps (length two) two mid → Splices mid three c g g xs → Splices three new c h h ys → (ready : List Node) × Keeps (length old) old ready × IsTree ready × RowBecomes ready new c
steps_as_one old one two mid three new to t1 t2 tm t3 tn c i j k l g h xs ys at holds ij inside kl within gap later first second keeps third fourth =
    let at_one : c < length one = omega (arith, first.len) in
    let holds_one : is_container_at one c ≡ true = ap is_container (first.content c) ∙ holds in
    let inner = ready_before one two mid t1 t2 tm c k l at_one holds_one kl within second keeps in
    let outer = ready_before old one inner.0 to t1 inner.2 c i j at holds ij inside first inner.1 in
    let ready : List Node = outer.0 in
    let tr = outer.2 in
    let down : RowBecomes ready mid c = RowBecomes-then ready inner.0 mid c (RowBecomes-splice ready inner.0 tr inner.2 c i j [] outer.3) (RowBecomes-splice inner.0 mid inner.2 tm c k l [] inner.3) (λ n e out. row_shrinks ready inner.0 tr inner.2 c i j outer.3 n e) in
    let up : RowBecomes mid new c = RowBecomes-then mid three new c (RowBecomes-splice mid three tm t3 c g g xs third) (RowBecomes-splice three new t3 tn c h h ys fourth)
    (λ n e out. absurd (false≢true (sym out ∙ row_grows three new t3 tn c h ys later fourth n e))) in (
      ready,
      outer.1,
      tr,
      RowBecomes-then ready mid new c down up (λ n e out. row_shrinks ready inner.0 tr inner.2 c i j outer.3 n (row_shrinks inner.0 mid inner.2 tm c k l inner.3 n e)),
    )

-- Where the row is in the end what it was, each old node is as it was: so what gave way to other nodes, and came back in their place, leaves nothing behind.
pub row_again : (old ready new : List Node) → IsTree old → (c : ℕ) → c < length old → Keeps (length old) old ready → RowBecomes ready new c → children_at new c ≡ children_at old c → Keeps (length old) old new
row_again old ready new t c at keeps becomes same =
    let row : children_at ready c ≡ children_at old c = keeps.children c at in
    record {
      len = omega (arith, keeps.len, becomes.len);
      content = λ n h. becomes.content n ∙ keeps.content n h;
      parent = λ n h.
          becomes.parents n
          ∙ ap (λ l. cond (is_in n (children_at new c)) (Some c) (cond (is_in n l) None (parent_at ready n))) (whole_range (children_at ready c) ∙ row)
          ∙ ap (λ l. cond (is_in n l) (Some c) (cond (is_in n (children_at old c)) None (parent_at ready n))) same
          ∙ by_row (is_in n (children_at old c)) (Some c) (parent_at ready n) (parent_at old n) (in_row_named old t c n) (keeps.parent n h);
      children = λ n h. elim (cases_eq n c) [
        | inl is ↦ ap (children_at new) is ∙ same ∙ ap (children_at old) (sym is)
        | inr ne ↦ becomes.others n ne ∙ keeps.children n h
      ];
    }
  where
    by_row : (b : Bool) (o p q : Option ℕ) → (b ≡ true → q ≡ o) → p ≡ q → cond b o (cond b None p) ≡ q
    by_row true o p q here e = sym (here refl)
    by_row false o p q here e = e
