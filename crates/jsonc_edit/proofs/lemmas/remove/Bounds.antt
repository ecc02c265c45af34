-- The places of siblings, and of what leaves with a node.
use Rattle.std.proofs.Common.{◌≡◌, ℕ, zero, suc, ◌+◌, ◌-◌, ◌<◌, ◌≤◌, Bool, true, false, not, ◌||◌, cond, List, [], ◌∷◌, length, get_or, take, drop, reverse, slice_index, Option, Some, None, inl, inr, refl, sym, ap, subst, ◌∙◌, arith, get_or-drop, length-drop, get_or-take}
use Rattle.std.proofs.lemmas.Bool.{cases_Bool}
use Rattle.std.proofs.lemmas.List.{get_or-reverse, get_or_default, length-reverse, length-take-le, reverse-append, take_more}
use Rattle.std.proofs.lemmas.List.Elements.{All-head, All-tail, All-weaker}
use Rattle.std.specs.List.{find, All}
use Rattle.jsonc_tree.specs.Content.{Content}
use Rattle.jsonc_tree.specs.Order.{with_parent}
use Rattle.jsonc_tree.specs.Siblings.{siblings_after, siblings_before}
use Rattle.jsonc_tree.specs.Tree.{Node, content_at, parent_at, children_at, place_at, IsTree}
use Rattle.jsonc_layout.specs.nodes.Kinds.{is_inline_trivia, is_inline_trivia_at, is_newline_at, is_comma_at, is_comma}
use Rattle.jsonc_layout.specs.lines.Siblings.{is_no_trivia_at, if_comma, after_trivia_at, trailing_comma_at}
use Rattle.jsonc_edit.specs.remove.Leaving.{comma_before, comma_gone, comma_unless, ends_line_at, first_gone, last_gone, last_past, line_end, line_end_at, outermost, trails}
use Rattle.jsonc_edit.proofs.Elements.{Some_same}

-- what holds of each of these nodes holds of those that are picked from them
module _ (P : ℕ → Type 0) where
  cond_in : (b : Bool) (x y : ℕ) → P x → P y → P (cond b x y)
  cond_in true x y p q = p
  cond_in false x y p q = q

  found_in : (test : ℕ → Bool) (xs : List ℕ) (x : ℕ) → find test xs ≡ Some x → All P xs → P x
  found_in test [] x e h = absurd (let wrong : None ≡ Some x = e in cc)
  found_in test (y ∷ ys) x e h =
      elim (cases_Bool (test y)) [
        | inl passes ↦ subst P (Some_same y x (sym (ap (λ b. cond b (Some y) (find test ys)) passes) ∙ e)) (All-head P y ys h)
        | inr fails ↦ found_in test ys x (sym (ap (λ b. cond b (Some y) (find test ys)) fails) ∙ e) (All-tail P y ys h)
      ]

  outermost_in : (ns : List Node) (xs : List ℕ) (n : ℕ) → P n → All P xs → P (outermost ns n xs)
  outermost_in ns [] n p h = p
  outermost_in ns (m ∷ rest) n p h = cond_in (is_inline_trivia_at ns m) (outermost ns m rest) n (outermost_in ns rest m (All-head P m rest h) (All-tail P m rest h)) p

  line_end_in : (ns : List Node) (xs : List ℕ) (n : ℕ) → P n → All P xs → P (line_end ns n xs)
  line_end_in ns [] n p h = p
  line_end_in ns (m ∷ rest) n p h =
      let goes_on : Bool = trails ns m rest in
      let first : P m = All-head P m rest h in
      cond_in (is_newline_at ns m) m (cond goes_on (line_end ns m rest) n) first (cond_in goes_on (line_end ns m rest) n (line_end_in ns rest m first (All-tail P m rest h)) p)

-- a comma is no whitespace, and no comment
no_comma : (content : Content) → is_inline_trivia content ≡ true → is_comma content ≡ false
no_comma (Content.whitespace s) e = refl
no_comma (Content.comment s) e = refl
no_comma content e = cc

module _ (ns : List Node) where
  comma_is : (o : Option ℕ) (k : ℕ) → if_comma ns o ≡ Some k → o ≡ Some k
  comma_is None k e = e
  comma_is (Some m) k e = by (is_comma (content_at ns m)) e
    where
      by : (b : Bool) → cond b (Some m) None ≡ Some k → Some m ≡ Some k
      by true e = e
      by false e = absurd (let wrong : None ≡ Some k = e in cc)

module _ (ns : List Node) (tree : IsTree ns) (c : ℕ) where
  abbrev row : List ℕ
  row = children_at ns c

  -- a child that stands before a place, or from one on
  abbrev pub Ahead : ℕ → ℕ → Type 0
  Ahead k m = (parent_at ns m ≡ Some c) × (place_at ns m < k)

  abbrev pub From : ℕ → ℕ → Type 0
  From k m = (parent_at ns m ≡ Some c) × (k ≤ place_at ns m)

  dropped : (k : ℕ) → All (From k) (drop k row)
  dropped k = λ j d h.
      let low : k + j < length row = omega (arith, h, length-drop k row) in
      let same : slice_index row (k + j) ≡ get_or (drop k row) j d = get_or_default row (k + j) 0 d low ∙ sym (get_or-drop k row j d) in
      subst (From k) same (tree.named c (k + j) low, omega (arith, tree.placed c (k + j) low))

  taken : (k : ℕ) → k ≤ length row → All (Ahead k) (reverse (take k row))
  taken k within = λ j d h.
      let xs : List ℕ = take k row in
      let long : length xs ≡ k = length-take-le k row within in
      let near : j < length xs = omega (arith, h, length-reverse xs) in
      let i : ℕ = length xs - 1 - j in
      let less : i < k = omega (arith, long, near) in
      let same : slice_index row i ≡ get_or (reverse xs) j d = get_or_default row i 0 d (omega (arith, less, within)) ∙ sym (get_or-take k row i d less) ∙ sym (get_or-reverse xs j d near) in
      subst (Ahead k) same (tree.named c i (omega (arith, less, within)), omega (arith, tree.placed c i (omega (arith, less, within)), less))

  module _ (n : ℕ) (said : parent_at ns n ≡ Some c) where
    place_within : place_at ns n < length row
    place_within = tree.within n c said

    after_is : siblings_after ns n ≡ drop (place_at ns n + 1) row
    after_is = ap (λ o. drop (place_at ns n + 1) (with_parent o (children_at ns))) said

    before_is : siblings_before ns n ≡ reverse (take (place_at ns n) row)
    before_is = ap (λ o. reverse (take (place_at ns n) (with_parent o (children_at ns)))) said

    after_from : All (From (place_at ns n + 1)) (siblings_after ns n)
    after_from = subst (All (From (place_at ns n + 1))) (sym after_is) (dropped (place_at ns n + 1))

    before_ahead : All (Ahead (place_at ns n)) (siblings_before ns n)
    before_ahead = subst (All (Ahead (place_at ns n))) (sym before_is) (taken (place_at ns n) (omega (arith, place_within)))

    -- what leaves first stands no later than the node
    pub first_ahead : Ahead (place_at ns n + 1) (first_gone ns n)
    first_ahead =
        outermost_in (Ahead (place_at ns n + 1)) ns (siblings_before ns n) n (said, omega arith)
        (All-weaker (Ahead (place_at ns n)) (Ahead (place_at ns n + 1)) (λ m (p, less). (p, omega (arith, less))) (siblings_before ns n) before_ahead)

    line_from : From (place_at ns n) (line_end_at ns n)
    line_from =
        line_end_in (From (place_at ns n)) ns (siblings_after ns n) n (said, omega arith)
        (All-weaker (From (place_at ns n + 1)) (From (place_at ns n)) (λ m (p, more). (p, omega (arith, more))) (siblings_after ns n) after_from)

    comma_from : (k : ℕ) → trailing_comma_at ns n ≡ Some k → From (place_at ns n + 1) k
    comma_from k e = found_in (From (place_at ns n + 1)) (is_no_trivia_at ns) (siblings_after ns n) k (comma_is ns (after_trivia_at ns n) k e) after_from

    -- the nearest comma before it stands before it
    pub comma_ahead : (k : ℕ) → comma_before ns n ≡ Some k → Ahead (place_at ns n) k
    comma_ahead k e = found_in (Ahead (place_at ns n)) (is_comma_at ns) (siblings_before ns n) k e before_ahead

  -- what leaves last stands no earlier
  last_by : (n : ℕ) (said : parent_at ns n ≡ Some c) (o : Option ℕ) → trailing_comma_at ns n ≡ o → From (place_at ns n) (last_past ns n o)
  last_by n said None e = line_from n said
  last_by n said (Some k) e =
      let comma = comma_from n said k e in
      let line = line_from k comma.0 in
      cond_in (From (place_at ns n)) (ends_line_at ns n || not (ends_line_at ns k)) k (line_end_at ns k) (comma.0, omega (arith, comma.1)) (line.0, omega (arith, comma.1, line.1))

  pub last_from : (n : ℕ) → parent_at ns n ≡ Some c → From (place_at ns n) (last_gone ns n)
  last_from n said = last_by n said (trailing_comma_at ns n) refl

  -- one more of a row, backwards
  back_more : (k : ℕ) → k < length row → reverse (take (suc k) row) ≡ get_or row k 0 ∷ reverse (take k row)
  back_more k h =
      let one : suc k ≡ k + 1 = omega arith in
      ap (λ m. reverse (take m row)) one ∙ ap (λ (l : List ℕ). reverse l) (take_more row k 0 h) ∙ reverse-append (take k row) (get_or row k 0 ∷ [])

  -- the nearest comma stands before all whitespace and comments that are nearer
  comma_first : (k : ℕ) → k ≤ length row → (n x : ℕ) → k ≤ place_at ns n → find (is_comma_at ns) (reverse (take k row)) ≡ Some x → place_at ns x < place_at ns (outermost ns n (reverse (take k row)))
  comma_first zero within n x low e = absurd (let wrong : None ≡ Some x = e in cc)
  comma_first (suc k) within n x low e =
      let inn : k < length row = omega (arith, within) in
      let m : ℕ = get_or row k 0 in
      let rest : List ℕ = reverse (take k row) in
      let is : reverse (take (suc k) row) ≡ m ∷ rest = back_more k inn in
      let found : find (is_comma_at ns) (m ∷ rest) ≡ Some x = sym (ap (find (is_comma_at ns)) is) ∙ e in
      let place : place_at ns m ≡ k = tree.placed c k inn in
      let less = (found_in (Ahead (suc k)) (is_comma_at ns) (reverse (take (suc k) row)) x e (taken (suc k) within)).1 in
      subst (λ l. place_at ns x < place_at ns (outermost ns n l)) (sym is)
      (elim (cases_Bool (is_inline_trivia_at ns m)) [
        | inl beside ↦
            let plain : is_comma_at ns m ≡ false = no_comma (content_at ns m) beside in
            let further : find (is_comma_at ns) rest ≡ Some x = sym (ap (λ b. cond b (Some m) (find (is_comma_at ns) rest)) plain) ∙ found in
            subst (λ b. place_at ns x < place_at ns (cond b (outermost ns m rest) n)) (sym beside) (comma_first k (omega (arith, inn)) m x (omega (arith, place)) further)
        | inr other ↦ subst (λ b. place_at ns x < place_at ns (cond b (outermost ns m rest) n)) (sym other) (omega (arith, less, low))
      ])

  pub comma_before_first : (n : ℕ) → parent_at ns n ≡ Some c → (k : ℕ) → comma_before ns n ≡ Some k → place_at ns k < place_at ns (first_gone ns n)
  comma_before_first n said k e =
      let inn = tree.within n c said in
      subst (λ l. place_at ns k < place_at ns (outermost ns n l)) (sym (before_is n said))
      (comma_first (place_at ns n) (omega (arith, inn)) n k (omega arith) (sym (ap (find (is_comma_at ns)) (before_is n said)) ∙ e))

  unless_is : (o found : Option ℕ) (k : ℕ) → comma_unless o found ≡ Some k → found ≡ Some k
  unless_is None found k e = e
  unless_is (Some j) found k e = absurd (let wrong : None ≡ Some k = e in cc)

  -- so the comma that leaves from before a node is a child, before the first that leaves
  pub gone_ahead : (n : ℕ) → parent_at ns n ≡ Some c → (k : ℕ) → comma_gone ns n ≡ Some k → Ahead (place_at ns (first_gone ns n)) k
  gone_ahead n said k e =
      let found : comma_before ns n ≡ Some k = unless_is (trailing_comma_at ns n) (comma_before ns n) k e in
      ((comma_ahead n said k found).0, comma_before_first n said k found)
