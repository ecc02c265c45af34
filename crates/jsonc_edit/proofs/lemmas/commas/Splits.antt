-- A row parted at its last element and at the comma behind it.
use Rattle.std.proofs.Common.{◌≡◌, ◌∙◌, sym, ap, subst, refl, ℕ, suc, ◌+◌, ◌<◌, Bool, true, false, not, cond, ◌==◌, inl, inr, List, [], ◌∷◌, ◌++◌, length, get_or, reverse, drop, Option, Some, None, is_some, arith, length-append, append_assoc}
use Rattle.std.specs.List.{find, AllByRecursion}
use Rattle.std.specs.Option.{option_and_then}
use Rattle.std.proofs.lemmas.Bool.{cases_Bool, false≢true}
use Rattle.std.proofs.lemmas.List.{reverse-append, reverse-reverse}
use Rattle.jsonc_tree.specs.Content.{Content}
use Rattle.jsonc_tree.specs.OrderedTree.{OrderedTree, more}
use Rattle.jsonc_tree.specs.Order.{with_parent}
use Rattle.jsonc_tree.specs.Siblings.{siblings_after}
use Rattle.jsonc_tree.specs.Tree.{Node, content_at, children_at, parent_at, place_at, IsTree}
use Rattle.jsonc_tree.specs.Values as values
use Rattle.jsonc_tree.specs.Values.{is_passed_over, HasNoValue}
use Rattle.jsonc_layout.specs.nodes.Kinds.{is_element_at, is_trivia, is_comma}
use Rattle.jsonc_layout.specs.lines.Siblings.{if_comma, is_no_trivia_at, trailing_comma_at}
use Rattle.jsonc_edit.specs.Changes.{row_below}
use Rattle.jsonc_edit.specs.commas.Commas.{comma_gone, comma_wanted_behind, has_newline, if_without_comma, last_element}
use Rattle.jsonc_edit.proofs.lemmas.commas.CommaRows.{comma_first}
use Rattle.jsonc_edit.proofs.Standing.{standing}
use Rattle.jsonc_edit.proofs.Lists.{not_false}

-- no number of the list passes the test
abbrev pub NoneOf : (ℕ → Bool) → List ℕ → Type 0
NoneOf p [] = Unit {0}
NoneOf p (x ∷ xs) = (p x ≡ false) × NoneOf p xs

module _ (p : ℕ → Bool) where
  pub none_joined : (xs ys : List ℕ) → NoneOf p xs → NoneOf p ys → NoneOf p (xs ++ ys)
  none_joined [] ys h k = k
  none_joined (x ∷ xs) ys h k = (h.0, none_joined xs ys h.1 k)

  pub none_front : (xs ys : List ℕ) → NoneOf p (xs ++ ys) → NoneOf p xs
  none_front [] ys h = tt
  none_front (x ∷ xs) ys h = (h.0, none_front xs ys h.1)

  pub none_back : (xs ys : List ℕ) → NoneOf p (xs ++ ys) → NoneOf p ys
  none_back [] ys h = h
  none_back (x ∷ xs) ys h = none_back xs ys h.1

  none_turned : (xs : List ℕ) → NoneOf p xs → NoneOf p (reverse xs)
  none_turned [] h = tt
  none_turned (x ∷ xs) h = subst (NoneOf p) (sym (reverse-append (x ∷ []) xs)) (none_joined (reverse xs) (x ∷ []) (none_turned xs h.1) (h.0, tt))

  none_found : (xs : List ℕ) → find p xs ≡ None → NoneOf p xs
  none_found [] e = tt
  none_found (x ∷ xs) e =
      elim (cases_Bool (p x)) [
        | inl t ↦ let wrong : Some x ≡ None = sym (ap (λ b. cond b (Some x) (find p xs)) t) ∙ e in cc
        | inr f ↦ (f, none_found xs (sym (ap (λ b. cond b (Some x) (find p xs)) f) ∙ e))
      ]

  -- where none was found from behind, none passes
  pub none_found_back : (xs : List ℕ) → find p (reverse xs) ≡ None → NoneOf p xs
  none_found_back xs e = subst (NoneOf p) (reverse-reverse xs) (none_turned (reverse xs) (none_found (reverse xs) e))

  -- the first that passes
  pub record Parted (xs : List ℕ) (n : ℕ) : Type 0 where
    pub front : List ℕ
    pub back : List ℕ
    pub are : xs ≡ front ++ n ∷ back
    pub before : NoneOf p front
    pub is : p n ≡ true

  pub parted : (xs : List ℕ) (n : ℕ) → find p xs ≡ Some n → Parted xs n
  parted [] n e = let wrong : None ≡ Some n = e in cc
  parted (x ∷ xs) n e =
      elim (cases_Bool (p x)) [
        | inl t ↦
            let one : Some x ≡ Some n = sym (ap (λ b. cond b (Some x) (find p xs)) t) ∙ e in
            let same : x ≡ n = cc in
            record { front = []; back = xs; are = ap (λ y. y ∷ xs) same; before = tt; is = ap p (sym same) ∙ t }
        | inr f ↦
            let r = parted xs n (sym (ap (λ b. cond b (Some x) (find p xs)) f) ∙ e) in
            record { front = x ∷ r.front; back = r.back; are = ap (λ l. x ∷ l) r.are; before = (f, r.before); is = r.is }
      ]

  pub found_first : (front back : List ℕ) (n : ℕ) → NoneOf p front → p n ≡ true → find p (front ++ n ∷ back) ≡ Some n
  found_first [] back n h t = ap (λ b. cond b (Some n) (find p back)) t
  found_first (x ∷ front) back n h t = ap (λ b. cond b (Some x) (find p (front ++ n ∷ back))) h.0 ∙ found_first front back n h.1 t

  pub found_past : (front back : List ℕ) → NoneOf p front → find p (front ++ back) ≡ find p back
  found_past [] back h = refl
  found_past (x ∷ front) back h = ap (λ b. cond b (Some x) (find p (front ++ back))) h.0 ∙ found_past front back h.1

  turned_around : (front back : List ℕ) (n : ℕ) → reverse (front ++ n ∷ back) ≡ reverse back ++ n ∷ reverse front
  turned_around front back n =
      reverse-append front (n ∷ back) ∙ ap (λ l. l ++ reverse front) (reverse-append (n ∷ []) back) ∙ append_assoc (reverse back) (n ∷ []) (reverse front)

  -- the last that passes
  pub record PartedLast (xs : List ℕ) (n : ℕ) : Type 0 where
    pub front : List ℕ
    pub back : List ℕ
    pub are : xs ≡ front ++ n ∷ back
    pub behind : NoneOf p back
    pub is : p n ≡ true

  pub parted_last : (xs : List ℕ) (n : ℕ) → find p (reverse xs) ≡ Some n → PartedLast xs n
  parted_last xs n e =
      let r = parted (reverse xs) n e in
      record {
        front = reverse r.back;
        back = reverse r.front;
        are = sym (reverse-reverse xs) ∙ ap (λ (l : List ℕ). reverse l) r.are ∙ turned_around r.front r.back n;
        behind = none_turned r.front r.before;
        is = r.is;
      }

  pub found_last : (front back : List ℕ) (n : ℕ) → NoneOf p back → p n ≡ true → find p (reverse (front ++ n ∷ back)) ≡ Some n
  found_last front back n h t = ap (find p) (turned_around front back n) ∙ found_first (reverse back) (reverse front) n (none_turned back h) t

-- where tests agree on a list
pub none_alike : (p q : ℕ → Bool) (xs : List ℕ) → (P : ℕ → Type 0) → ((x : ℕ) → P x → q x ≡ p x) → AllByRecursion P xs → NoneOf p xs → NoneOf q xs
none_alike p q [] P same all h = tt
none_alike p q (x ∷ xs) P same all h = (same x all.0 ∙ h.0, none_alike p q xs P same all.1 h.1)

pub at_length : (front back : List ℕ) (n : ℕ) → get_or (front ++ n ∷ back) (length front) 0 ≡ n
at_length [] back n = refl
at_length (x ∷ front) back n = at_length front back n

pub drop_past : (front back : List ℕ) (n k : ℕ) → k ≡ length front + 1 → drop k (front ++ n ∷ back) ≡ back
drop_past [] back n k e = ap (λ m. drop m (n ∷ back)) e
drop_past (x ∷ front) back n k e =
    let more_one : k ≡ suc (length front + 1) = omega (arith, e) in
    ap (λ m. drop m (x ∷ (front ++ n ∷ back))) more_one ∙ drop_past front back n (length front + 1) refl

-- a node of a row that is parted there
module _ (ns : List Node) (tree : IsTree ns) (c n : ℕ) (front back : List ℕ) (are : children_at ns c ≡ front ++ n ∷ back) where
  within : length front < length (children_at ns c)
  within = omega (arith, ap length are, length-append front (n ∷ back))

  it : get_or (children_at ns c) (length front) 0 ≡ n
  it = ap (λ l. get_or l (length front) 0) are ∙ at_length front back n

  pub split_parent : parent_at ns n ≡ Some c
  split_parent = ap (parent_at ns) (sym it) ∙ tree.named c (length front) within

  pub split_place : place_at ns n ≡ length front
  split_place = ap (place_at ns) (sym it) ∙ tree.placed c (length front) within

  pub split_after : siblings_after ns n ≡ back
  split_after =
      ap (λ o. drop (place_at ns n + 1) (with_parent o (children_at ns))) split_parent
      ∙ ap (λ k. drop (k + 1) (children_at ns c)) split_place
      ∙ ap (drop (length front + 1)) are
      ∙ drop_past front back n (length front + 1) refl

pub no_elements : (ns : List Node) (xs : List ℕ) → NoneOf (is_element_at ns) xs → HasNoValue (standing ns xs)
no_elements ns [] h = values.end
no_elements ns (x ∷ xs) h = values.pass (not_false (is_passed_over (content_at ns x)) h.0) (no_elements ns xs h.1)

-- past trivia a comma comes, by the numbers and in the tree
module _ (ns : List Node) where
  abbrev found_comma : List ℕ → Bool
  found_comma xs = is_some (if_comma ns (find (is_no_trivia_at ns) xs))

  tested : (b : Bool) (x : ℕ) → is_some (cond b (Some x) None) ≡ b
  tested true x = refl
  tested false x = refl

  comma_here : (x : ℕ) (xs : List ℕ) (below : OrderedTree) (w : Content) → content_at ns x ≡ w → comma_first (standing ns xs) ≡ found_comma xs
      → comma_first (more w below (standing ns xs)) ≡ is_some (if_comma ns (cond (not (is_trivia w)) (Some x) (find (is_no_trivia_at ns) xs)))
  comma_here x xs below (Content.whitespace s) e rest = rest
  comma_here x xs below (Content.newline k) e rest = rest
  comma_here x xs below (Content.comment s) e rest = rest
  comma_here x xs below (Content.token c) e rest = sym (tested (c == 0x2C) x) ∙ ap (λ v. is_some (cond (is_comma v) (Some x) None)) (sym e)
  comma_here x xs below Content.root e rest = ap (λ v. is_some (cond (is_comma v) (Some x) None)) (sym e)
  comma_here x xs below Content.object e rest = ap (λ v. is_some (cond (is_comma v) (Some x) None)) (sym e)
  comma_here x xs below Content.array e rest = ap (λ v. is_some (cond (is_comma v) (Some x) None)) (sym e)
  comma_here x xs below Content.property e rest = ap (λ v. is_some (cond (is_comma v) (Some x) None)) (sym e)
  comma_here x xs below (Content.string s) e rest = ap (λ v. is_some (cond (is_comma v) (Some x) None)) (sym e)
  comma_here x xs below (Content.word s) e rest = ap (λ v. is_some (cond (is_comma v) (Some x) None)) (sym e)
  comma_here x xs below (Content.number s) e rest = ap (λ v. is_some (cond (is_comma v) (Some x) None)) (sym e)
  comma_here x xs below (Content.boolean b) e rest = ap (λ v. is_some (cond (is_comma v) (Some x) None)) (sym e)
  comma_here x xs below Content.null e rest = ap (λ v. is_some (cond (is_comma v) (Some x) None)) (sym e)

  pub comma_found : (xs : List ℕ) → comma_first (standing ns xs) ≡ found_comma xs
  comma_found [] = refl
  comma_found (x ∷ xs) = comma_here x xs (row_below ns x) (content_at ns x) refl (comma_found xs)

-- what was found
some_tested : (b : Bool) (m k : ℕ) → cond b (Some m) None ≡ Some k → (b ≡ true) × (m ≡ k)
some_tested true m k e = (refl, (let one : Some m ≡ Some k = e in cc))
some_tested false m k e = let wrong : None ≡ Some k = e in cc

module _ (ns : List Node) where
  pub comma_some : (o : Option ℕ) (k : ℕ) → if_comma ns o ≡ Some k → (o ≡ Some k) × (is_comma (content_at ns k) ≡ true)
  comma_some None k e = let wrong : None ≡ Some k = e in cc
  comma_some (Some m) k e = let t = some_tested (is_comma (content_at ns m)) m k e in (ap (λ x. Some x) t.1, ap (λ x. is_comma (content_at ns x)) (sym t.1) ∙ t.0)

pub bind_some : (f : ℕ → Option ℕ) (o : Option ℕ) (k : ℕ) → option_and_then f o ≡ Some k → (n : ℕ) × (o ≡ Some n) × (f n ≡ Some k)
bind_some f None k e = let wrong : None ≡ Some k = e in cc
bind_some f (Some n) k e = (n, refl, e)

-- the row of c, parted at its last element, and at the comma behind that
pub record GoneComma (ns : List Node) (c k : ℕ) : Type 0 where
  pub front : List ℕ
  pub last : ℕ
  pub mid : List ℕ
  pub back : List ℕ
  pub are : children_at ns c ≡ front ++ last ∷ (mid ++ k ∷ back)
  pub element : is_element_at ns last ≡ true
  pub behind : NoneOf (is_element_at ns) (mid ++ k ∷ back)
  pub between : NoneOf (is_no_trivia_at ns) mid
  pub comma : is_comma (content_at ns k) ≡ true

pub gone_parted : (ns : List Node) → IsTree ns → (c k : ℕ) → comma_gone ns c ≡ Some k → GoneComma ns c k
gone_parted ns tree c k e =
    let b = bind_some (trailing_comma_at ns) (last_element ns c) k e in
    let l = parted_last (is_element_at ns) (children_at ns c) b.0 b.1 in
    let row : siblings_after ns b.0 ≡ l.back = split_after ns tree c b.0 l.front l.back l.are in
    let comma = comma_some ns (find (is_no_trivia_at ns) (siblings_after ns b.0)) k b.2 in
    let r = parted (is_no_trivia_at ns) l.back k (ap (find (is_no_trivia_at ns)) (sym row) ∙ comma.0) in
    record {
      front = l.front;
      last = b.0;
      mid = r.front;
      back = r.back;
      are = l.are ∙ ap (λ x. l.front ++ b.0 ∷ x) r.are;
      element = l.is;
      behind = subst (NoneOf (is_element_at ns)) r.are l.behind;
      between = r.before;
      comma = comma.1;
    }

if_some : (b : Bool) (o : Option ℕ) (n : ℕ) → cond b o None ≡ Some n → (b ≡ true) × (o ≡ Some n)
if_some true o n e = (refl, e)
if_some false o n e = let wrong : None ≡ Some n = e in cc

none_tested : (b : Bool) (m n : ℕ) → cond b None (Some m) ≡ Some n → (b ≡ false) × (m ≡ n)
none_tested true m n e = let wrong : None ≡ Some n = e in cc
none_tested false m n e = (refl, (let one : Some m ≡ Some n = e in cc))

-- the row of c, parted at its last element, which has no comma
pub record WantedComma (ns : List Node) (c n : ℕ) : Type 0 where
  pub front : List ℕ
  pub back : List ℕ
  pub are : children_at ns c ≡ front ++ n ∷ back
  pub element : is_element_at ns n ≡ true
  pub behind : NoneOf (is_element_at ns) back
  pub lacks : comma_first (standing ns back) ≡ false
  pub line : has_newline ns c ≡ true

pub wanted_parted : (ns : List Node) → IsTree ns → (c n : ℕ) → comma_wanted_behind ns c ≡ Some n → WantedComma ns c n
wanted_parted ns tree c n e =
    let w = if_some (has_newline ns c) (option_and_then (if_without_comma ns) (last_element ns c)) n e in
    let b = bind_some (if_without_comma ns) (last_element ns c) n w.1 in
    let t = none_tested (is_some (trailing_comma_at ns b.0)) b.0 n b.2 in
    let l = parted_last (is_element_at ns) (children_at ns c) n (b.1 ∙ ap (λ x. Some x) t.1) in
    let row : siblings_after ns n ≡ l.back = split_after ns tree c n l.front l.back l.are in
    record {
      front = l.front;
      back = l.back;
      are = l.are;
      element = l.is;
      behind = l.behind;
      lacks = comma_found ns l.back ∙ ap (λ x. is_some (if_comma ns (find (is_no_trivia_at ns) x))) (sym row) ∙ ap (λ x. is_some (trailing_comma_at ns x)) (sym t.1) ∙ t.0;
      line = w.0;
    }

-- a row in which no comma stands behind its last element
pub data EndsBare (ns : List Node) (xs : List ℕ) : Type 0 where
  empty : NoneOf (is_element_at ns) xs → EndsBare ns xs
  behind_last : (front : List ℕ) (n : ℕ) (back : List ℕ) → xs ≡ front ++ n ∷ back → is_element_at ns n ≡ true → NoneOf (is_element_at ns) back
      → comma_first (standing ns back) ≡ false → EndsBare ns xs

no_some : (o : Option ℕ) → o ≡ None → is_some o ≡ false
no_some o e = ap is_some e

pub bare_end : (ns : List Node) → IsTree ns → (c : ℕ) → comma_gone ns c ≡ None → EndsBare ns (children_at ns c)
bare_end ns tree c e = by (last_element ns c) refl
  where
    by : (o : Option ℕ) → last_element ns c ≡ o → EndsBare ns (children_at ns c)
    by None f = empty (none_found_back (is_element_at ns) (children_at ns c) f)
    by (Some n) f =
        let l = parted_last (is_element_at ns) (children_at ns c) n f in
        let row : siblings_after ns n ≡ l.back = split_after ns tree c n l.front l.back l.are in
        let gone : trailing_comma_at ns n ≡ None = sym (ap (option_and_then (trailing_comma_at ns)) f) ∙ e in
        behind_last l.front n l.back l.are l.is l.behind
        (comma_found ns l.back ∙ ap (λ x. is_some (if_comma ns (find (is_no_trivia_at ns) x))) (sym row) ∙ no_some (trailing_comma_at ns n) gone)

pub without_first : (ns : List Node) (x : ℕ) (xs : List ℕ) → is_element_at ns x ≡ false → EndsBare ns (x ∷ xs) → EndsBare ns xs
without_first ns x xs e (empty h) = empty h.1
without_first ns x xs e (behind_last [] n back are is past lacks) = let same : x ≡ n = cc in absurd (false≢true (sym e ∙ ap (is_element_at ns) same ∙ is))
without_first ns x xs e (behind_last (y ∷ front) n back are is past lacks) = behind_last front n back (let rest : xs ≡ front ++ n ∷ back = cc in rest) is past lacks
