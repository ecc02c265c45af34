-- A row whose comma has been set: what is read of it then.
use Rattle.std.proofs.Common.{◌≡◌, ◌∙◌, sym, ap, subst, refl, ℕ, suc, ◌+◌, ◌<◌, Bool, true, false, not, cond, List, [], ◌∷◌, ◌++◌, length, reverse, take, drop, Option, Some, None, is_some, arith, append_assoc}
use Rattle.std.specs.List.{find, All}
use Rattle.std.specs.Option.{option_and_then}
use Rattle.std.proofs.lemmas.List.{take_at}
use Rattle.std.proofs.lemmas.List.Elements.{All-from_get_or}
use Rattle.jsonc_tree.specs.Siblings.{TakesOut}
use Rattle.jsonc_tree.specs.Tree.{Node, content_at, children_at, place_at, IsTree}
use Rattle.jsonc_layout.specs.nodes.Kinds.{is_element, is_element_at, is_trivia, is_comma}
use Rattle.jsonc_layout.specs.lines.Siblings.{if_comma, is_no_trivia_at, trailing_comma_at}
use Rattle.jsonc_edit.specs.commas.Commas.{a_comma, comma_gone, comma_wanted_behind, has_newline, if_without_comma, last_element, CommaInsertedAfter}
use Rattle.jsonc_edit.proofs.lemmas.commas.CommaRows.{comma_first}
use Rattle.jsonc_edit.proofs.lemmas.commas.ContainersKept.{ready_children}
use Rattle.jsonc_edit.proofs.lemmas.commas.Splits.{comma_found, drop_past, found_first, found_last, found_past, none_joined, none_front, none_back, split_after, split_place, GoneComma, NoneOf, WantedComma}
use Rattle.jsonc_edit.proofs.Lists.{all_rest}
use Rattle.jsonc_edit.proofs.Standing.{standing}

none_same : (p q : ℕ → Bool) → ((x : ℕ) → q x ≡ p x) → (xs : List ℕ) → NoneOf p xs → NoneOf q xs
none_same p q same [] h = tt
none_same p q same (x ∷ xs) h = (same x ∙ h.0, none_same p q same xs h.1)

find_same : (p q : ℕ → Bool) → ((x : ℕ) → q x ≡ p x) → (xs : List ℕ) → find q xs ≡ find p xs
find_same p q same [] = refl
find_same p q same (x ∷ xs) = ap (λ b. cond b (Some x) (find q xs)) (same x) ∙ ap (λ o. cond (p x) (Some x) o) (find_same p q same xs)

none_of_none : (o : Option ℕ) → is_some o ≡ false → o ≡ None
none_of_none None e = refl
none_of_none (Some k) e = cc

-- a comma stands behind the last element
module _ (old : List Node) (c k : ℕ) (g : GoneComma old c k) where
  abbrev ahead : List ℕ
  ahead = g.front ++ g.last ∷ g.mid

  pub parts : children_at old c ≡ ahead ++ k ∷ g.back
  parts = g.are ∙ sym (append_assoc g.front (g.last ∷ g.mid) (k ∷ g.back))

  pub place : IsTree old → place_at old k ≡ length ahead
  place tree = split_place old tree c k ahead g.back parts

-- it has left
module _ (old new : List Node) (tree : IsTree old) (after : IsTree new) (c k : ℕ) (g : GoneComma old c k) (s : TakesOut old new c k) (only : comma_first (standing old g.back) ≡ false) where
  pub row_now : children_at new c ≡ ahead old c k g ++ g.back
  row_now =
      let front : List ℕ = ahead old c k g in
      s.children
      ∙ ap (λ l. take (place_at old k) l ++ drop (suc (place_at old k)) l) (parts old c k g)
      ∙ ap (λ l. l ++ drop (suc (place_at old k)) (front ++ k ∷ g.back)) (take_at front (k ∷ g.back) (place_at old k) (sym (place old c k g tree)))
      ∙ ap (λ l. front ++ l) (drop_past front g.back k (suc (place_at old k)) (omega (arith, place old c k g tree)))

  split : children_at new c ≡ g.front ++ g.last ∷ (g.mid ++ g.back)
  split = row_now ∙ append_assoc g.front (g.last ∷ g.mid) g.back

  kind : (x : ℕ) → is_element_at new x ≡ is_element_at old x
  kind x = ap is_element (s.content x)

  trivial : (x : ℕ) → is_no_trivia_at new x ≡ is_no_trivia_at old x
  trivial x = ap (λ w. not (is_trivia w)) (s.content x)

  last_now : last_element new c ≡ Some g.last
  last_now =
      ap (λ (l : List ℕ). find (is_element_at new) (reverse l)) split
      ∙ found_last (is_element_at new) g.front (g.mid ++ g.back) g.last
      (none_same (is_element_at old) (is_element_at new) kind (g.mid ++ g.back) (none_joined (is_element_at old) g.mid g.back (none_front (is_element_at old) g.mid (k ∷ g.back) g.behind) (none_back (is_element_at old) g.mid (k ∷ g.back) g.behind).1))
      (kind g.last ∙ g.element)

  if_comma_now : (o : Option ℕ) → if_comma new o ≡ if_comma old o
  if_comma_now None = refl
  if_comma_now (Some x) = ap (λ w. cond (is_comma w) (Some x) None) (s.content x)

  none_now : trailing_comma_at new g.last ≡ None
  none_now =
      ap (λ l. if_comma new (find (is_no_trivia_at new) l)) (split_after new after c g.last g.front (g.mid ++ g.back) split)
      ∙ ap (if_comma new) (find_same (is_no_trivia_at old) (is_no_trivia_at new) trivial (g.mid ++ g.back) ∙ found_past (is_no_trivia_at old) g.mid g.back g.between)
      ∙ if_comma_now (find (is_no_trivia_at old) g.back)
      ∙ none_of_none (if_comma old (find (is_no_trivia_at old) g.back)) (sym (comma_found old g.back) ∙ only)

  pub lost_now : comma_gone new c ≡ None
  lost_now = ap (option_and_then (trailing_comma_at new)) last_now ∙ none_now

pub take_past : (front back : List ℕ) (n k : ℕ) → k ≡ length front + 1 → take k (front ++ n ∷ back) ≡ front ++ n ∷ []
take_past [] back n k e = ap (λ m. take m (n ∷ back)) e
take_past (x ∷ front) back n k e =
    let one : k ≡ suc (length front + 1) = omega (arith, e) in
    ap (λ m. take m (x ∷ (front ++ n ∷ back))) one ∙ ap (λ l. x ∷ l) (take_past front back n (length front + 1) refl)

none_low : (p q : ℕ → Bool) (P : ℕ → Type 0) → ((x : ℕ) → P x → q x ≡ p x) → (xs : List ℕ) → All P xs → NoneOf p xs → NoneOf q xs
none_low p q P same [] all h = tt
none_low p q P same (x ∷ xs) all h = (same x (all 0 0 (omega arith)) ∙ h.0, none_low p q P same xs (λ k d l. all (suc k) d (omega arith)) h.1)

-- the comma has come
module _ (old new : List Node) (tree : IsTree old) (after : IsTree new) (c n : ℕ) (g : WantedComma old c n) (r : CommaInsertedAfter old new c n) where
  abbrev m : ℕ
  m = length old

  pub ready_row : children_at r.ready c ≡ g.front ++ n ∷ g.back
  ready_row = ready_children old new c n r c ∙ g.are

  pub gap_is : suc (place_at r.ready n) ≡ length g.front + 1
  gap_is = omega (arith, split_place r.ready r.tree c n g.front g.back ready_row)

  pub came_row : children_at new c ≡ g.front ++ n ∷ (m ∷ g.back)
  came_row =
      let gap : ℕ = suc (place_at r.ready n) in
      r.put.children
      ∙ ap (λ l. take gap l ++ m ∷ drop gap l) ready_row
      ∙ ap (λ l. l ++ m ∷ drop gap (g.front ++ n ∷ g.back)) (take_past g.front g.back n gap gap_is)
      ∙ ap (λ l. (g.front ++ n ∷ []) ++ m ∷ l) (drop_past g.front g.back n gap gap_is)
      ∙ append_assoc g.front (n ∷ []) (m ∷ g.back)

  low : All (λ x. x < length old) (n ∷ g.back)
  low = all_rest (λ x. x < length old) g.front (n ∷ g.back) (subst (All (λ x. x < length old)) g.are (All-from_get_or (λ x. x < length old) (children_at old c) 0 (λ k h. tree.in_tree c k h)))

  content_now : (x : ℕ) → x < length old → content_at new x ≡ content_at old x
  content_now x h = r.put.content x ∙ ap (λ (y : Node). y.content) (r.added.rest x h)

  is_comma_now : content_at new m ≡ a_comma
  is_comma_now = r.put.content m ∙ r.added.last

  came_last : last_element new c ≡ Some n
  came_last =
      ap (λ (l : List ℕ). find (is_element_at new) (reverse l)) came_row
      ∙ found_last (is_element_at new) g.front (m ∷ g.back) n
      (ap is_element is_comma_now, none_low (is_element_at old) (is_element_at new) (λ x. x < length old) (λ x h. ap is_element (content_now x h)) g.back (λ k d l. low (suc k) d (omega arith)) g.behind)
      (ap is_element (content_now n (low 0 0 (omega arith))) ∙ g.element)

  has_one : trailing_comma_at new n ≡ Some m
  has_one =
      ap (λ l. if_comma new (find (is_no_trivia_at new) l)) (split_after new after c n g.front (m ∷ g.back) came_row)
      ∙ ap (if_comma new) (found_first (is_no_trivia_at new) [] g.back m tt (ap (λ w. not (is_trivia w)) is_comma_now))
      ∙ ap (λ w. cond (is_comma w) (Some m) None) is_comma_now

  either_none : (b : Bool) (o : Option ℕ) → o ≡ None → cond b o None ≡ None
  either_none true o e = e
  either_none false o e = refl

  pub came_now : comma_wanted_behind new c ≡ None
  came_now =
      either_none (has_newline new c) (option_and_then (if_without_comma new) (last_element new c))
      (ap (option_and_then (if_without_comma new)) came_last ∙ ap (λ o. cond (is_some o) None (Some n)) has_one)
