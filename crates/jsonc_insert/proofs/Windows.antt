-- A plan in the end of a row, as a plan in the row; and the children that stand where it says.
use Rattle.std.proofs.Common.{◌≡◌, ◌<◌, ◌≤◌, ◌+◌, ◌-◌, ◌&&◌, inl, inr, ℕ, zero, suc, Bool, true, false, not, cond, List, [], ◌∷◌, ◌++◌, All, length, reverse, take, drop, slice_get, slice_index, slice_range, Option, Some, None, IfSome, option_map, is_some, Result, Ok, Err, IfOk, refl, sym, ap, subst, ◌∙◌, arith, length-append}
use Rattle.std.specs.List.{take_while}
use Rattle.std.proofs.lemmas.Bool.{cases_eq, eq-eqb, ne_eqb}
use Rattle.std.proofs.lemmas.List.{drop_more, get_or-append-add, length-take, take-append-drop}
use Rattle.std.proofs.lemmas.List.Sums.{take_while-cons}
use Rattle.std.specs.Option.{option_or}
use Rattle.std.proofs.lemmas.List.Elements.{All-filter, All-from_get_or}
use Rattle.std.proofs.lemmas.Option.{get_or_from_slice_get, slice_get_past, slice_get_within}
use Rattle.std.proofs.Math.Seq.{drop-append-add}
use Rattle.jsonc_tree.specs.Order.{with_parent}
use Rattle.jsonc_tree.specs.Siblings.{siblings_after}
use Rattle.jsonc_tree.specs.Tree.{Node, children_at, parent_at, place_among, place_at, place_under, IsTree}
use Rattle.jsonc_layout.specs.lines.Breadth.{last_element}
use Rattle.jsonc_layout.specs.nodes.Kinds.{is_element_at}
use Rattle.jsonc_layout.proofs.lemmas.nodes.InTree.{All-reverse}
use Rattle.jsonc_insert.specs.Neighbours.{place_behind, IsBeside, SameGaps}
use Rattle.jsonc_insert.specs.Planned.{before_next, behind_comma, comma_comes, comma_wanted, element_before, elements, is_other, line, parting, past_comments, place_in, plan_behind, plan_between, through_comments, trivia}
use Rattle.jsonc_insert.specs.declared.neighbours.Neighbours.{Neighbours}
use Rattle.jsonc_insert.specs.declared.plan.Gap.TheVariants.{Nothing}
use Rattle.jsonc_insert.specs.declared.plan.Plan.{Plan}
use Rattle.jsonc_insert.proofs.BeforeTheBracket.{holds_found}
use Rattle.jsonc_insert.proofs.ElementsInTree.{few_elements}

-- the same, so many places further back
abbrev pub shifted : ℕ → Plan → Plan
shifted p q = record { comma = option_map (λ k. p + k) q.comma; place = p + q.place; before = q.before; comma_behind = q.comma_behind; behind = q.behind }

same_map : (o : Option ℕ) → option_map (λ k. 0 + k) o ≡ o
same_map None = refl
same_map (Some k) = ap Some (omega arith)

pub shifted_none : (q : Plan) → shifted 0 q ≡ q
shifted_none q =
    let place : 0 + q.place ≡ q.place = omega arith in
    ap (λ o. record { comma = o; place = 0 + q.place; before = q.before; comma_behind = q.comma_behind; behind = q.behind }) (same_map q.comma)
    ∙ ap (λ k. record { comma = q.comma; place = k; before = q.before; comma_behind = q.comma_behind; behind = q.behind }) place

module _ (ns : List Node) (several commas : Bool) (xs w : List ℕ) where
  abbrev p : ℕ
  p = length xs

  abbrev row : List ℕ
  row = xs ++ w

  drop_there : (k : ℕ) → drop (p + k) row ≡ drop k w
  drop_there k = drop-append-add xs w k

  range_there : (k : ℕ) → slice_range row (p + k) (length row) ≡ slice_range w k (length w)
  range_there k =
      let wide : length row - (p + k) ≡ length w - k = omega (arith, length-append xs w) in
      ap (λ j. take j (drop (p + k) row)) wide ∙ ap (take (length w - k)) (drop_there k)

  behind_by : (b : Bool) (k t : ℕ) → cond b (p + k + t + 1) (p + k) ≡ p + cond b (k + t + 1) k
  behind_by true k t = omega arith
  behind_by false k t = refl

  behind_there : (k : ℕ) → behind_comma ns row (p + k) ≡ p + behind_comma ns w k
  behind_there k =
      ap (λ l. cond (comma_comes ns l) (p + k + trivia ns l + 1) (p + k)) (drop_there k) ∙ behind_by (comma_comes ns (drop k w)) k (trivia ns (drop k w))

  wanted_by : (b : Bool) (k : ℕ) → cond b None (Some (p + k)) ≡ option_map (λ j. p + j) (cond b None (Some k))
  wanted_by true k = refl
  wanted_by false k = refl

  wanted_there : (k : ℕ) → comma_wanted ns row (p + k) ≡ option_map (λ j. p + j) (comma_wanted ns w k)
  wanted_there k = ap (λ l. cond (comma_comes ns l) None (Some (p + k))) (drop_there k) ∙ wanted_by (comma_comes ns (drop k w)) k

  past_there : (k : ℕ) → past_comments ns row (p + k) ≡ p + past_comments ns w k
  past_there k =
      let more : ℕ = through_comments ns (line ns (slice_range w k (length w))) in
      let all : p + k + more ≡ p + (k + more) = omega arith in
      ap (λ l. p + k + through_comments ns (line ns l)) (range_there k) ∙ all

  between_there : (more : Bool) (comma inner : Option ℕ) (place k : ℕ) → comma ≡ option_map (λ j. p + j) inner → place ≡ p + k → plan_between ns several commas row more comma place ≡ shifted p (plan_between ns several commas w more inner k)
  between_there true comma inner place k e f =
      ap (λ o. record { comma = o; place = place; before = parting several; comma_behind = true; behind = before_next ns several (slice_range row place (length row)) }) e
      ∙ ap (λ j. record { comma = option_map (λ j. p + j) inner; place = j; before = parting several; comma_behind = true; behind = before_next ns several (slice_range row j (length row)) }) f
      ∙ ap (λ l. record { comma = option_map (λ j. p + j) inner; place = p + k; before = parting several; comma_behind = true; behind = before_next ns several l }) (range_there k)
  between_there false comma inner place k e f =
      ap (λ o. record { comma = o; place = place; before = parting several; comma_behind = several && commas; behind = Nothing }) e
      ∙ ap (λ j. record { comma = option_map (λ j. p + j) inner; place = j; before = parting several; comma_behind = several && commas; behind = Nothing }) f

  pub plan_there : (more : Bool) (k : ℕ) → plan_behind ns several commas row more (p + k) ≡ shifted p (plan_behind ns several commas w more k)
  plan_there more k =
      between_there more (comma_wanted ns row (p + k)) (comma_wanted ns w k) (past_comments ns row (behind_comma ns row (p + k))) (past_comments ns w (behind_comma ns w k)) (wanted_there k)
      (ap (past_comments ns row) (behind_there k) ∙ past_there (behind_comma ns w k))

-- the child before each place is the one that it says
map_some : (f : ℕ → ℕ) (o : Option ℕ) → is_some (option_map f o) ≡ is_some o
map_some f None = refl
map_some f (Some k) = refl

module _ (ns : List Node) (tree : IsTree ns) (c : ℕ) (xs w : List ℕ) (row : children_at ns c ≡ xs ++ w) where
  before_is : (k : ℕ) → 1 ≤ k → k ≤ length w → (parent_at ns (slice_index w (k - 1)) ≡ Some c) × (place_at ns (slice_index w (k - 1)) ≡ length xs + (k - 1))
  before_is k low high =
      let at : slice_index (children_at ns c) (length xs + (k - 1)) ≡ slice_index w (k - 1) = ap (λ l. slice_index l (length xs + (k - 1))) row ∙ get_or-append-add xs w (k - 1) 0 in
      let within : length xs + (k - 1) < length (children_at ns c) = omega (arith, low, high, ap length row, length-append xs w) in (
        ap (parent_at ns) (sym at) ∙ tree.named c (length xs + (k - 1)) within,
        ap (place_at ns) (sym at) ∙ tree.placed c (length xs + (k - 1)) within,
      )

  comma_is : (o : Option ℕ) → IfSome o (λ k. (1 ≤ k) × (k ≤ length w)) → option_map (λ k. length xs + k) o ≡ option_map (place_behind ns) (option_map (λ k. slice_index w (k - 1)) o)
  comma_is None h = refl
  comma_is (Some k) h = let at = before_is k h.0 h.1 in ap Some (omega (arith, at.1, h.0))

  comma_before : (o : Option ℕ) (place : ℕ) → 1 ≤ place → place ≤ length w → IfSome o (λ k. (1 ≤ k) × (k ≤ length w)) → IfSome o (λ k. k ≤ place)
      → IfSome (option_map (λ k. slice_index w (k - 1)) o) (λ n. (parent_at ns n ≡ Some c) × (place_at ns n ≤ place_at ns (slice_index w (place - 1))))
  comma_before None place low high h order = tt
  comma_before (Some k) place low high h order =
      let at = before_is k h.0 h.1 in
      let end = before_is place low high in
      (at.0, omega (arith, at.1, end.1, order))

  pub beside_is : (q : Plan) (b : Neighbours) → 1 ≤ q.place → q.place ≤ length w → IfSome q.comma (λ k. (1 ≤ k) × (k ≤ length w)) → IfSome q.comma (λ k. k ≤ q.place) → b.plan ≡ q → b.after ≡ slice_index w (q.place - 1) → b.comma ≡ option_map (λ k. slice_index w (k - 1)) q.comma
      → IsBeside ns c (shifted (length xs) q) b
  beside_is q b low high inner order plan after comma =
      let at = before_is q.place low high in
      let same = ap (place_at ns) after in
      record {
        gaps = subst (SameGaps (shifted (length xs) q)) (sym plan) (record { comma = map_some (λ k. length xs + k) q.comma; before = refl; comma_behind = refl; behind = refl });
        after = ap (parent_at ns) after ∙ at.0;
        place = omega (arith, low, at.1, same);
        comma = comma_is q.comma inner ∙ ap (option_map (place_behind ns)) (sym comma);
        before = subst (λ o. IfSome o (λ n. (parent_at ns n ≡ Some c) × (place_at ns n ≤ place_at ns b.after))) (sym comma)
            (subst (λ m. IfSome (option_map (λ k. slice_index w (k - 1)) q.comma) (λ n. (parent_at ns n ≡ Some c) × (place_at ns n ≤ place_at ns m))) (sym after) (comma_before q.comma q.place low high inner order));
      }

-- a node's place in a row of which it is told
same_by : (b : Bool) (m j k : ℕ) (ms : List ℕ) → j ≡ k → length ms ≡ j → length (cond (not b) (m ∷ ms) []) ≡ cond b 0 (suc k)
same_by true m j k ms e f = refl
same_by false m j k ms e f = ap suc (f ∙ e)

place_same : (n : ℕ) (xs : List ℕ) → place_in n xs ≡ place_among n xs
place_same n [] = refl
place_same n (m ∷ ms) =
    ap length (take_while-cons (is_other n) m ms)
    ∙ elim (cases_eq m n) [
      | inl e ↦ ap (λ b. length (cond (not b) (m ∷ take_while (is_other n) ms) [])) (eq-eqb m n e) ∙ sym (ap (λ b. cond b 0 (suc (place_among n ms))) (eq-eqb n m (sym e)))
      | inr ne ↦ ap (λ b. length (cond (not b) (m ∷ take_while (is_other n) ms) [])) (ne_eqb m n ne) ∙ ap suc (place_same n ms)
          ∙ sym (ap (λ b. cond b 0 (suc (place_among n ms))) (ne_eqb n m (λ f. ne (sym f))))
    ]

wanted_within : (b : Bool) (w : List ℕ) → 1 ≤ length w → IfSome (cond b None (Some 1)) (λ k. (1 ≤ k) × (k ≤ length w))
wanted_within true w h = tt
wanted_within false w h = (omega arith, h)

wanted_low : (b : Bool) (place : ℕ) → 1 ≤ place → IfSome (cond b None (Some 1)) (λ k. k ≤ place)
wanted_low true place h = tt
wanted_low false place h = h

behind_low : (b : Bool) (t : ℕ) → 1 ≤ cond b (1 + t + 1) 1
behind_low true t = omega arith
behind_low false t = omega arith

module _ (ns : List Node) (tree : IsTree ns) (c n : ℕ) (said : parent_at ns n ≡ Some c) where
  abbrev front : List ℕ
  front = take (place_at ns n) (children_at ns c)

  abbrev window : List ℕ
  window = n ∷ siblings_after ns n

  pub front_long : length front ≡ place_at ns n
  front_long = let l = length-take (place_at ns n) (children_at ns c) in omega (arith, l, tree.within n c said)

  pub place_is : place_in n (children_at ns c) ≡ place_at ns n
  place_is = place_same n (children_at ns c) ∙ ap (place_under ns n) (sym said)

  pub row_is : children_at ns c ≡ front ++ window
  row_is =
      let rest : drop (place_at ns n) (children_at ns c) ≡ window =
      drop_more (children_at ns c) (place_at ns n) 0 (tree.within n c said)
      ∙ ap (λ m. m ∷ drop (place_at ns n + 1) (children_at ns c)) (tree.found n c said)
      ∙ ap (λ p. n ∷ drop (place_at ns n + 1) (with_parent p (children_at ns))) (sym said) in
      sym (take-append-drop (place_at ns n) (children_at ns c)) ∙ ap (λ l. front ++ l) rest

  pub plan_is : (several commas more : Bool) → plan_behind ns several commas (children_at ns c) more (place_in n (children_at ns c) + 1) ≡ shifted (length front) (plan_behind ns several commas window more 1)
  plan_is several commas more =
      let at : place_in n (children_at ns c) + 1 ≡ length front + 1 = omega (arith, place_is, front_long) in
      ap (plan_behind ns several commas (children_at ns c) more) at
      ∙ ap (λ l. plan_behind ns several commas l more (length front + 1)) row_is
      ∙ plan_there ns several commas front window more 1

  at_least : (w : List ℕ) → 1 ≤ past_comments ns w (behind_comma ns w 1)
  at_least w = omega (arith, behind_low (comma_comes ns (drop 1 w)) (trivia ns (drop 1 w)))

  pub wanted_at : (several commas more : Bool) (w : List ℕ) → (plan_behind ns several commas w more 1).comma ≡ comma_wanted ns w 1
  wanted_at several commas true w = refl
  wanted_at several commas false w = refl

  pub place_at_least : (several commas more : Bool) (w : List ℕ) → 1 ≤ (plan_behind ns several commas w more 1).place
  place_at_least several commas true w = at_least w
  place_at_least several commas false w = at_least w

  pub beside_told : (several commas more : Bool) (i : ℕ) → is_some (slice_get (elements ns (children_at ns c)) i) ≡ more → (w : List ℕ) → w ≡ window → (q : Plan) → q ≡ plan_behind ns several commas w more 1 → q.place ≤ length w
      → (b : Neighbours) → b.plan ≡ q → b.after ≡ slice_index w (q.place - 1) → b.comma ≡ option_map (λ k. slice_index w (k - 1)) q.comma
      → IsBeside ns c (plan_behind ns several commas (children_at ns c) (is_some (slice_get (elements ns (children_at ns c)) i)) (place_in n (children_at ns c) + 1)) b
  beside_told several commas more i tells w whole q is high b plan after comma =
      let low : 1 ≤ q.place = subst (λ (r : Plan). 1 ≤ r.place) (sym is) (place_at_least several commas more w) in
      let told : q.comma ≡ comma_wanted ns w 1 = ap (λ (r : Plan). r.comma) is ∙ wanted_at several commas more w in
      let row : children_at ns c ≡ front ++ w = row_is ∙ ap (λ l. front ++ l) (sym whole) in
      let same : plan_behind ns several commas (children_at ns c) (is_some (slice_get (elements ns (children_at ns c)) i)) (place_in n (children_at ns c) + 1) ≡ shifted (length front) q =
      ap (λ m. plan_behind ns several commas (children_at ns c) m (place_in n (children_at ns c) + 1)) tells
      ∙ plan_is several commas more ∙ ap (λ l. shifted (length front) (plan_behind ns several commas l more 1)) (sym whole) ∙ ap (shifted (length front)) (sym is) in
      subst (λ r. IsBeside ns c r b) (sym same)
      (beside_is ns tree c front w row q b low high
      (subst (λ o. IfSome o (λ k. (1 ≤ k) × (k ≤ length w))) (sym told) (wanted_within (comma_comes ns (drop 1 w)) w (omega (arith, low, high))))
      (subst (λ o. IfSome o (λ k. k ≤ q.place)) (sym told) (wanted_low (comma_comes ns (drop 1 w)) q.place low)) plan after comma)

-- the whole row as its own end
pub front_told : (ns : List Node) → IsTree ns → (c : ℕ) (w : List ℕ) → w ≡ children_at ns c → (q : Plan) → 1 ≤ q.place → q.place ≤ length w → q.comma ≡ None → (b : Neighbours) → b.plan ≡ q → b.after ≡ slice_index w (q.place - 1) → b.comma ≡ option_map (λ k. slice_index w (k - 1)) q.comma
    → (p : Plan) → q ≡ p → IsBeside ns c p b
front_told ns tree c w whole q low high none b plan after comma p is =
    subst (λ r. IsBeside ns c r b) (shifted_none q ∙ is)
    (beside_is ns tree c [] w (sym whole) q b low high (subst (λ o. IfSome o (λ k. (1 ≤ k) × (k ≤ length w))) (sym none) tt) (subst (λ o. IfSome o (λ k. k ≤ q.place)) (sym none) tt) plan after comma)

-- there are fewer elements than nodes
pub no_more : (ns : List Node) → IsTree ns → (c i len : ℕ) → len ≡ length ns → len ≤ i → slice_get (elements ns (children_at ns c)) i ≡ None
no_more ns tree c i len all past = slice_get_past (elements ns (children_at ns c)) i (omega (arith, past, few_elements ns tree c len all))

pub last_before : (ns : List Node) → IsTree ns → (c i len : ℕ) → len ≡ length ns → len ≤ i → last_element ns (children_at ns c) ≡ element_before ns (children_at ns c) i
last_before ns tree c zero len all past = absurd (omega (arith, past, all, tree.first))
last_before ns tree c (suc i) len all past =
    sym (ap (λ o. option_or o (last_element ns (children_at ns c))) (slice_get_past (elements ns (children_at ns c)) i (omega (arith, past, few_elements ns tree c len all))))

-- what an element comes behind is a child
pub child_before : (ns : List Node) → IsTree ns → (c i n : ℕ) → element_before ns (children_at ns c) i ≡ Some n → parent_at ns n ≡ Some c
child_before ns tree c zero n e = absurd (let wrong : None ≡ Some n = e in cc)
child_before ns tree c (suc i) n e = by (slice_get (elements ns (children_at ns c)) i) refl e
  where
    kids : All (λ m. parent_at ns m ≡ Some c) (children_at ns c)
    kids = All-from_get_or (λ m. parent_at ns m ≡ Some c) (children_at ns c) 0 (λ k h. tree.named c k h)

    by : (o : Option ℕ) → slice_get (elements ns (children_at ns c)) i ≡ o → option_or o (last_element ns (children_at ns c)) ≡ Some n → parent_at ns n ≡ Some c
    by (Some x) f g =
        let h : slice_get (elements ns (children_at ns c)) i ≡ Some n = f ∙ g in
        let at = get_or_from_slice_get (elements ns (children_at ns c)) i n 0 h in
        subst (λ m. parent_at ns m ≡ Some c) at (All-filter (is_element_at ns) (λ m. parent_at ns m ≡ Some c) (children_at ns c) kids i 0 (slice_get_within (elements ns (children_at ns c)) i n h))
    by None f g = (holds_found (is_element_at ns) (λ m. parent_at ns m ≡ Some c) (reverse (children_at ns c)) (All-reverse (λ m. parent_at ns m ≡ Some c) (children_at ns c) kids) n g).0

pub on_ok : {A E : Type 0} {P Q : A → Type 0} (r : Result A E) → ((a : A) → P a → Q a) → IfOk r P → IfOk r Q
on_ok (Ok a) f h = f a h
on_ok (Err e) f h = tt
