-- Lists in which no number stands twice.
use Rattle.std.proofs.Common.{◌≡◌, ◌<◌, ◌≤◌, ◌+◌, ◌-◌, inl, inr, ℕ, List, ◌++◌, All, length, take, drop, slice_index, sym, subst, ◌∙◌, arith, length-append, length-drop}
use Rattle.std.proofs.lemmas.Bool.{cases_lt}
use Rattle.std.proofs.lemmas.List.{get_or-append-add, get_or-drop, get_or-take, length-take}
use Rattle.std.proofs.lemmas.List.Elements.{All-append, All-drop, All-from_get_or, All-take}
use Rattle.jsonc_tree.specs.Changes.{EachOnce}
use Rattle.jsonc_layout.proofs.lemmas.Building.{left_at, once_append, right_at, right_in, Apart}
use Rattle.jsonc_insert.specs.Trimmed.{with_at}

module _ (xs : List ℕ) (k : ℕ) where
  take_in : (a : ℕ) → a < length (take k xs) → (a < k) × (a < length xs)
  take_in a h = (omega (arith, h, length-take k xs), omega (arith, h, length-take k xs))

  take_at : (a : ℕ) → a < length (take k xs) → slice_index (take k xs) a ≡ slice_index xs a
  take_at a h = get_or-take k xs a 0 (take_in a h).0

  drop_at : (a : ℕ) → slice_index (drop k xs) a ≡ slice_index xs (k + a)
  drop_at a = get_or-drop k xs a 0

  drop_in : (a : ℕ) → a < length (drop k xs) → k + a < length xs
  drop_in a h = omega (arith, h, length-drop k xs)

  pub once_take : EachOnce xs → EachOnce (take k xs)
  once_take once a b ha hb e = once a b (take_in a ha).1 (take_in b hb).1 (sym (take_at a ha) ∙ e ∙ take_at b hb)

  pub once_drop : EachOnce xs → EachOnce (drop k xs)
  once_drop once a b ha hb e =
      let same : k + a ≡ k + b = once (k + a) (k + b) (drop_in a ha) (drop_in b hb) (sym (drop_at a) ∙ e ∙ drop_at b) in
      omega (arith, same)

-- the front of such a list, and what stands further back
pub front_apart : (xs : List ℕ) (i j : ℕ) → i ≤ j → EachOnce xs → Apart (take i xs) (drop j xs)
front_apart xs i j h once a b ha hb e =
    let f = take_in xs i a ha in
    let same : a ≡ j + b = once a (j + b) f.1 (drop_in xs j b hb) (sym (take_at xs i a ha) ∙ e ∙ drop_at xs j b) in
    omega (arith, f.0, same, h)

-- lists of which one passes what the other doesn't
pub apart_by : (P Q : ℕ → Type 0) → ((n : ℕ) → P n → Q n → ⊥) → (xs ys : List ℕ) → All P xs → All Q ys → Apart xs ys
apart_by P Q never xs ys all none a b ha hb e = never (slice_index ys b) (subst P e (all a 0 ha)) (none b 0 hb)

-- a list without a stretch
pub once_without : (xs : List ℕ) (i j : ℕ) → i ≤ j → EachOnce xs → EachOnce (take i xs ++ drop j xs)
once_without xs i j h once = once_append (take i xs) (drop j xs) (once_take xs i once) (once_drop xs j once) (front_apart xs i j h once)

-- others that come into such a list
module _ (P Q : ℕ → Type 0) (never : (n : ℕ) → P n → Q n → ⊥) (place : ℕ) (xs row : List ℕ) (new : All P xs) (old : All Q row) where
  front_new : Apart (take place row) xs
  front_new a b ha hb e = apart_by P Q never xs (take place row) new (All-take Q place row old) b a hb ha (sym e)

  behind_apart : EachOnce row → Apart (take place row ++ xs) (drop place row)
  behind_apart once a b ha hb e =
      elim (cases_lt a (length (take place row))) [
        | inl la ↦ front_apart row place place (omega arith) once a b la hb (sym (left_at (take place row) xs a la) ∙ e)
        | inr ra ↦ apart_by P Q never xs (drop place row) new (All-drop Q place row old) (a - length (take place row)) b (right_in (take place row) xs a ra ha) hb (sym (right_at (take place row) xs a ra) ∙ e)
      ]

  pub once_with_at : EachOnce xs → EachOnce row → EachOnce (with_at place xs row)
  once_with_at first once =
      once_append (take place row ++ xs) (drop place row) (once_append (take place row) xs (once_take row place once) first front_new) (once_drop row place once) (behind_apart once)

pub all_with_at : (R : ℕ → Type 0) (place : ℕ) (xs row : List ℕ) → All R xs → All R row → All R (with_at place xs row)
all_with_at R place xs row new old = All-append R (take place row ++ xs) (drop place row) (All-append R (take place row) xs (All-take R place row old) new) (All-drop R place row old)

-- the parts of such a list
module _ (xs ys : List ℕ) (once : EachOnce (xs ++ ys)) where
  in_left : (a : ℕ) → a < length xs → a < length (xs ++ ys)
  in_left a h = omega (arith, h, length-append xs ys)

  in_right : (a : ℕ) → a < length ys → length xs + a < length (xs ++ ys)
  in_right a h = omega (arith, h, length-append xs ys)

  at_right : (a : ℕ) → slice_index (xs ++ ys) (length xs + a) ≡ slice_index ys a
  at_right a = get_or-append-add xs ys a 0

  pub once_left : EachOnce xs
  once_left a b ha hb e = once a b (in_left a ha) (in_left b hb) (left_at xs ys a ha ∙ e ∙ sym (left_at xs ys b hb))

  pub once_right : EachOnce ys
  once_right a b ha hb e =
      let same : length xs + a ≡ length xs + b = once (length xs + a) (length xs + b) (in_right a ha) (in_right b hb) (at_right a ∙ e ∙ sym (at_right b)) in
      omega (arith, same)

  pub parts_apart : Apart xs ys
  parts_apart a b ha hb e =
      let same : a ≡ length xs + b = once a (length xs + b) (in_left a ha) (in_right b hb) (left_at xs ys a ha ∙ e ∙ sym (at_right b)) in
      omega (arith, same, ha)

  pub all_parts : (P : ℕ → Type 0) → ((k : ℕ) → k < length (xs ++ ys) → P (slice_index (xs ++ ys) k)) → All P xs × All P ys
  all_parts P each = (
    All-from_get_or P xs 0 (λ k h. subst P (left_at xs ys k h) (each k (in_left k h))),
    All-from_get_or P ys 0 (λ k h. subst P (at_right k) (each (length xs + k) (in_right k h))),
  )
