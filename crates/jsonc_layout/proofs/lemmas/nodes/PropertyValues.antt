-- The value of a property goes by the kinds of its children, whatever trivia stands among them.
use Rattle.std.proofs.Common.{◌≡◌, ◌≢◌, ℕ, Bool, true, false, cond, not, All, List, [], ◌∷◌, ◌++◌, filter, slice_get, Option, Some, None, inl, inr, refl, sym, ap, subst, ◌∙◌}
use Rattle.std.specs.List.{find}
use Rattle.std.proofs.lemmas.Bool.{cases_Bool, false≢true}
use Rattle.std.proofs.lemmas.List.Elements.{All-head, All-tail, filter-append}
use Rattle.jsonc_tree.specs.Content.{Content, root, object, array, property, string, word, number, boolean, null, token, whitespace, newline, comment}
use Rattle.jsonc_tree.specs.Tree.{Node, content_at, children_at}
use Rattle.jsonc_layout.specs.nodes.Kinds.{is_element, is_colon, is_trivia, is_element_at, is_colon_at}
use Rattle.jsonc_layout.specs.nodes.Properties.{is_name, is_name_at, behind_first, value_at, value_by}

some_same : (m n : ℕ) → Some m ≡ Some n → m ≡ n
some_same m n e = cc

nothing_found : {X : Type 0} (m : ℕ) → None ≡ Some m → X
nothing_found m e = absurd (let wrong : None ≡ Some m = e in cc)

-- one step of a search
module _ (test : ℕ → Bool) where
  finds : (x : ℕ) (xs : List ℕ) → test x ≡ true → find test (x ∷ xs) ≡ Some x
  finds x xs h = ap (λ b. cond b (Some x) (find test xs)) h

  finds_later : (x : ℕ) (xs : List ℕ) → test x ≡ false → find test (x ∷ xs) ≡ find test xs
  finds_later x xs h = ap (λ b. cond b (Some x) (find test xs)) h

  begins : (x : ℕ) (xs : List ℕ) → test x ≡ true → behind_first test (x ∷ xs) ≡ xs
  begins x xs h = ap (λ b. cond b xs (behind_first test xs)) h

  begins_later : (x : ℕ) (xs : List ℕ) → test x ≡ false → behind_first test (x ∷ xs) ≡ behind_first test xs
  begins_later x xs h = ap (λ b. cond b xs (behind_first test xs)) h

  kept : (x : ℕ) (xs : List ℕ) → test x ≡ true → filter test (x ∷ xs) ≡ x ∷ filter test xs
  kept x xs h = ap (λ b. cond b (x ∷ filter test xs) (filter test xs)) h

  left : (x : ℕ) (xs : List ℕ) → test x ≡ false → filter test (x ∷ xs) ≡ filter test xs
  left x xs h = ap (λ b. cond b (x ∷ filter test xs) (filter test xs)) h

  -- what is found is the first of those that pass
  pub first_kept : (xs : List ℕ) → slice_get (filter test xs) 0 ≡ find test xs
  first_kept [] = refl
  first_kept (x ∷ xs) =
      elim (cases_Bool (test x)) [
        | inl h ↦ ap (λ l. slice_get l 0) (kept x xs h) ∙ sym (finds x xs h)
        | inr h ↦ ap (λ l. slice_get l 0) (left x xs h) ∙ first_kept xs ∙ sym (finds_later x xs h)
      ]

  -- what holds of each of a list holds of those behind one, and of what is found
  All-behind : (P : ℕ → Type 0) (xs : List ℕ) → All P xs → All P (behind_first test xs)
  All-behind P [] h = h
  All-behind P (x ∷ xs) h =
      elim (cases_Bool (test x)) [
        | inl e ↦ subst (λ (l : List ℕ). All P l) (sym (begins x xs e)) (All-tail P x xs h)
        | inr e ↦ subst (λ (l : List ℕ). All P l) (sym (begins_later x xs e)) (All-behind P xs (All-tail P x xs h))
      ]

  pub found_among : (P : ℕ → Type 0) (xs : List ℕ) (m : ℕ) → All P xs → find test xs ≡ Some m → P m
  found_among P [] m h e = nothing_found m e
  found_among P (x ∷ xs) m h e =
      elim (cases_Bool (test x)) [
        | inl p ↦ subst P (some_same x m (sym (finds x xs p) ∙ e)) (All-head P x xs h)
        | inr p ↦ found_among P xs m (All-tail P x xs h) (sym (finds_later x xs p) ∙ e)
      ]

-- tests that agree on a list
module _ (f g : ℕ → Bool) where
  abbrev Agree : ℕ → Type 0
  Agree k = f k ≡ g k

  find_alike : (xs : List ℕ) → All Agree xs → find f xs ≡ find g xs
  find_alike [] h = refl
  find_alike (x ∷ xs) h = ap (λ b. cond b (Some x) (find f xs)) (All-head Agree x xs h) ∙ ap (λ o. cond (g x) (Some x) o) (find_alike xs (All-tail Agree x xs h))

  behind_alike : (xs : List ℕ) → All Agree xs → behind_first f xs ≡ behind_first g xs
  behind_alike [] h = refl
  behind_alike (x ∷ xs) h = ap (λ b. cond b xs (behind_first f xs)) (All-head Agree x xs h) ∙ ap (λ l. cond (g x) xs l) (behind_alike xs (All-tail Agree x xs h))

-- a search among those that are kept, where what is left out fails the test
module _ (keep test : ℕ → Bool) (fails : (k : ℕ) → keep k ≡ false → test k ≡ false) where
  find_kept : (xs : List ℕ) → find test (filter keep xs) ≡ find test xs
  find_kept [] = refl
  find_kept (x ∷ xs) =
      elim (cases_Bool (keep x)) [
        | inl h ↦ ap (find test) (kept keep x xs h) ∙ ap (λ o. cond (test x) (Some x) o) (find_kept xs)
        | inr h ↦ ap (find test) (left keep x xs h) ∙ find_kept xs ∙ sym (finds_later test x xs (fails x h))
      ]

  either_kept : (b : Bool) (xs ys : List ℕ) → cond b (filter keep xs) (filter keep ys) ≡ filter keep (cond b xs ys)
  either_kept true xs ys = refl
  either_kept false xs ys = refl

  behind_kept : (xs : List ℕ) → behind_first test (filter keep xs) ≡ filter keep (behind_first test xs)
  behind_kept [] = refl
  behind_kept (x ∷ xs) =
      elim (cases_Bool (keep x)) [
        | inl h ↦ ap (behind_first test) (kept keep x xs h) ∙ ap (λ l. cond (test x) (filter keep xs) l) (behind_kept xs) ∙ either_kept (test x) xs (behind_first test xs)
        | inr h ↦ ap (behind_first test) (left keep x xs h) ∙ behind_kept xs ∙ ap (filter keep) (sym (begins_later test x xs (fails x h)))
      ]

-- a node that was found has been replaced by another, that passes too
module _ (name colon element name_now colon_now element_now : ℕ → Bool) (x m : ℕ) (back : List ℕ) (passes : element_now m ≡ true) (behind : All (λ k. k ≢ x) back) where
  abbrev Apart : ℕ → Type 0
  Apart k = k ≢ x

  -- a node before it is another, of the same kind
  record Before (k : ℕ) : Type 0 where
    apart : k ≢ x
    names : name_now k ≡ name k
    colons : colon_now k ≡ colon k
    elements : element_now k ≡ element k

  lost : (xs : List ℕ) → All Apart xs → find element xs ≡ Some x → ⊥
  lost xs h e = found_among element Apart xs x h e refl

  replaced_element : (front : List ℕ) → All Before front → find element (front ++ x ∷ back) ≡ Some x → find element_now (front ++ m ∷ back) ≡ Some m
  replaced_element [] h e = finds element_now m back passes
  replaced_element (y ∷ ys) h e =
      let first = All-head Before y ys h in
      elim (cases_Bool (element y)) [
        | inl p ↦ absurd (first.apart (some_same y x (sym (finds element y (ys ++ x ∷ back) p) ∙ e)))
        | inr p ↦ finds_later element_now y (ys ++ m ∷ back) (first.elements ∙ p) ∙ replaced_element ys (All-tail Before y ys h) (sym (finds_later element y (ys ++ x ∷ back) p) ∙ e)
      ]

  replaced_colon : (front : List ℕ) → All Before front → find element (behind_first colon (front ++ x ∷ back)) ≡ Some x → find element_now (behind_first colon_now (front ++ m ∷ back)) ≡ Some m
  replaced_colon [] h e =
      elim (cases_Bool (colon x)) [
        | inl p ↦ absurd (lost back behind (sym (ap (find element) (begins colon x back p)) ∙ e))
        | inr p ↦ absurd (lost (behind_first colon back) (All-behind colon Apart back behind) (sym (ap (find element) (begins_later colon x back p)) ∙ e))
      ]
  replaced_colon (y ∷ ys) h e =
      let first = All-head Before y ys h in
      elim (cases_Bool (colon y)) [
        | inl p ↦
            ap (find element_now) (begins colon_now y (ys ++ m ∷ back) (first.colons ∙ p))
            ∙ replaced_element ys (All-tail Before y ys h) (sym (ap (find element) (begins colon y (ys ++ x ∷ back) p)) ∙ e)
        | inr p ↦
            ap (find element_now) (begins_later colon_now y (ys ++ m ∷ back) (first.colons ∙ p))
            ∙ replaced_colon ys (All-tail Before y ys h) (sym (ap (find element) (begins_later colon y (ys ++ x ∷ back) p)) ∙ e)
      ]

  abbrev held : List ℕ → Option ℕ
  held row = find element (behind_first colon (behind_first name row))

  abbrev held_now : List ℕ → Option ℕ
  held_now row = find element_now (behind_first colon_now (behind_first name_now row))

  replaced_name : (front : List ℕ) → All Before front → held (front ++ x ∷ back) ≡ Some x → held_now (front ++ m ∷ back) ≡ Some m
  replaced_name [] h e =
      elim (cases_Bool (name x)) [
        | inl p ↦ absurd (lost (behind_first colon back) (All-behind colon Apart back behind) (sym (ap (λ l. find element (behind_first colon l)) (begins name x back p)) ∙ e))
        | inr p ↦
            absurd (lost (behind_first colon (behind_first name back)) (All-behind colon Apart (behind_first name back) (All-behind name Apart back behind))
            (sym (ap (λ l. find element (behind_first colon l)) (begins_later name x back p)) ∙ e))
      ]
  replaced_name (y ∷ ys) h e =
      let first = All-head Before y ys h in
      elim (cases_Bool (name y)) [
        | inl p ↦
            ap (λ l. find element_now (behind_first colon_now l)) (begins name_now y (ys ++ m ∷ back) (first.names ∙ p))
            ∙ replaced_colon ys (All-tail Before y ys h) (sym (ap (λ l. find element (behind_first colon l)) (begins name y (ys ++ x ∷ back) p)) ∙ e)
        | inr p ↦
            ap (λ l. find element_now (behind_first colon_now l)) (begins_later name_now y (ys ++ m ∷ back) (first.names ∙ p))
            ∙ replaced_name ys (All-tail Before y ys h) (sym (ap (λ l. find element (behind_first colon l)) (begins_later name y (ys ++ x ∷ back) p)) ∙ e)
      ]

-- the value that a property over this row has
abbrev pub held_in : List Node → List ℕ → Option ℕ
held_in ns row = find (is_element_at ns) (behind_first (is_colon_at ns) (behind_first (is_name_at ns) row))

pub value_is_held : (ns : List Node) (r : ℕ) → content_at ns r ≡ property → value_at ns r ≡ held_in ns (children_at ns r)
value_is_held ns r is = ap (λ w. value_by w ns r) is

-- of the same kind, as far as the value goes by it
pub record SameKind (c d : Content) : Type 0 where
  pub names : is_name c ≡ is_name d
  pub colons : is_colon c ≡ is_colon d
  pub elements : is_element c ≡ is_element d

pub same_kind : (c d : Content) → c ≡ d → SameKind c d
same_kind c d e = record { names = ap is_name e; colons = ap is_colon e; elements = ap is_element e }

abbrev pub IsAlike : List Node → List Node → ℕ → Type 0
IsAlike old new k = SameKind (content_at new k) (content_at old k)

-- where the children are of the same kinds, the value is the same
pub held_alike : (old new : List Node) (row : List ℕ) → All (IsAlike old new) row → held_in new row ≡ held_in old row
held_alike old new row h =
    let behind = All-behind (is_name_at old) (IsAlike old new) row h in
    ap (λ l. find (is_element_at new) (behind_first (is_colon_at new) l)) (behind_alike (is_name_at new) (is_name_at old) row (λ k d l. (h k d l).names))
    ∙ ap (find (is_element_at new)) (behind_alike (is_colon_at new) (is_colon_at old) (behind_first (is_name_at old) row) (λ k d l. (behind k d l).colons))
    ∙ find_alike (is_element_at new) (is_element_at old) (behind_first (is_colon_at old) (behind_first (is_name_at old) row))
    (λ k d l. (All-behind (is_colon_at old) (IsAlike old new) (behind_first (is_name_at old) row) behind k d l).elements)

-- so it is without trivia
abbrev is_part_at : List Node → ℕ → Bool
is_part_at ns k = not (is_trivia (content_at ns k))

record IsNothing (content : Content) : Type 0 where
  name : is_name content ≡ false
  colon : is_colon content ≡ false
  element : is_element content ≡ false

not_so : {X : Type 0} → true ≡ false → X
not_so e = absurd (false≢true (sym e))

trivia_is : (content : Content) → not (is_trivia content) ≡ false → IsNothing content
trivia_is (whitespace s) h = record { name = refl; colon = refl; element = refl }
trivia_is (newline k) h = record { name = refl; colon = refl; element = refl }
trivia_is (comment s) h = record { name = refl; colon = refl; element = refl }
trivia_is root h = not_so h
trivia_is object h = not_so h
trivia_is array h = not_so h
trivia_is property h = not_so h
trivia_is (string s) h = not_so h
trivia_is (word s) h = not_so h
trivia_is (number s) h = not_so h
trivia_is (boolean b) h = not_so h
trivia_is null h = not_so h
trivia_is (token c) h = not_so h

pub held_without_trivia : (ns : List Node) (row : List ℕ) → held_in ns (filter (is_part_at ns) row) ≡ held_in ns row
held_without_trivia ns row =
    let name = behind_kept (is_part_at ns) (is_name_at ns) (λ k h. (trivia_is (content_at ns k) h).name) row in
    let colon = behind_kept (is_part_at ns) (is_colon_at ns) (λ k h. (trivia_is (content_at ns k) h).colon) (behind_first (is_name_at ns) row) in
    ap (λ l. find (is_element_at ns) (behind_first (is_colon_at ns) l)) name ∙ ap (find (is_element_at ns)) colon
    ∙ find_kept (is_part_at ns) (is_element_at ns) (λ k h. (trivia_is (content_at ns k) h).element) (behind_first (is_colon_at ns) (behind_first (is_name_at ns) row))

-- one leaf of trivia more or less
pub held_beside : (ns : List Node) (front back : List ℕ) (leaf : ℕ) → is_trivia (content_at ns leaf) ≡ true → held_in ns (front ++ leaf ∷ back) ≡ held_in ns (front ++ back)
held_beside ns front back leaf h =
    sym (held_without_trivia ns (front ++ leaf ∷ back))
    ∙ ap (held_in ns) (
    filter-append (is_part_at ns) front (leaf ∷ back) ∙ ap (λ l. filter (is_part_at ns) front ++ l) (left (is_part_at ns) leaf back (ap not h)) ∙ sym (filter-append (is_part_at ns) front back)
    )
    ∙ held_without_trivia ns (front ++ back)

-- a value that has been replaced by an element in its place
pub held_replaced : (old new : List Node) (n m : ℕ) (front back : List ℕ) → All (λ k. k ≢ n) front → All (λ k. k ≢ n) back → All (IsAlike old new) front → is_element_at new m ≡ true
    → held_in old (front ++ n ∷ back) ≡ Some n → held_in new (front ++ m ∷ back) ≡ Some m
held_replaced old new n m front back before behind alike element held =
    replaced_name (is_name_at old) (is_colon_at old) (is_element_at old) (is_name_at new) (is_colon_at new) (is_element_at new) n m back element behind front
    (λ k d l. record { apart = before k d l; names = (alike k d l).names; colons = (alike k d l).colons; elements = (alike k d l).elements }) held

-- what holds of each child holds of the value
pub held_among : (P : ℕ → Type 0) (ns : List Node) (row : List ℕ) (m : ℕ) → All P row → held_in ns row ≡ Some m → P m
held_among P ns row m all e =
    found_among (is_element_at ns) P (behind_first (is_colon_at ns) (behind_first (is_name_at ns) row)) m
    (All-behind (is_colon_at ns) P (behind_first (is_name_at ns) row) (All-behind (is_name_at ns) P row all)) e
