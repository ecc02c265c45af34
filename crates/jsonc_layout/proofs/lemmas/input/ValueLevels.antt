-- What values stand for, level by level.
use Rattle.std.proofs.Common.{◌≡◌, ◌∙◌, ℕ, ◌+◌, ◌<◌, ◌≤◌, List, [], ◌∷◌, ◌++◌, map, take, get_or, length, refl, sym, ap, rules, ◌*◌, arith}
use denote.Param.Weighed.{most, at_most}
use Rattle.std.proofs.lemmas.List.{map_push, take_more, take_all}
use Rattle.std.specs.declared.string.String.{String}
use Rattle.std.specs.declared.vec.Vec.{Vec}
use Rattle.jsonc_text.specs.Plain.{array, object, number, member, string}
use Rattle.jsonc_layout.specs.input.Views.{plain, items_plain, members_plain, named, chars_of}
use Rattle.jsonc_layout.specs.declared.input.value.CstInputValue.{CstInputValue, Object, Number, the_lemmas}
use Rattle.jsonc_layout.specs.declared.input.value.CstInputValue as value

module _ {A : Type 0} where
  pub plain-Object : (ps : Vec (String A × CstInputValue A) A) → plain (Object ps) ≡ object (members_plain ps.items)
  plain-Object ps = search (rules, the_lemmas)

  pub plain-Number : (s : String A) → plain (Number s) ≡ number (chars_of s)
  plain-Number s = search (rules, the_lemmas)

  pub plain-String : (s : String A) → plain (value.String s) ≡ string (chars_of s)
  plain-String s = search (rules, the_lemmas)

  pub plain-Array : (vs : Vec (CstInputValue A) A) → plain (value.Array vs) ≡ array (items_plain vs.items)
  plain-Array vs = search (rules, the_lemmas)

  -- properties of the same names and values are the same
  pub same_members : (ps qs : List (String A × CstInputValue A)) → map named ps ≡ map named qs → members_plain ps ≡ members_plain qs
  same_members [] [] same = refl
  same_members [] (q ∷ qs) same = let never : ⊥ = cc in absurd never
  same_members (p ∷ ps) [] same = let never : ⊥ = cc in absurd never
  same_members (p ∷ ps) (q ∷ qs) same =
      let first : named p ≡ named q = cc in
      let rest : map named ps ≡ map named qs = cc in
      λ i. member (first i).0 (first i).1 (same_members ps qs rest i)

-- what is no larger than an element of a list is smaller than one more than twice the largest
pub part_smaller : {P : Type 0} (size : P → ℕ) (xs : List P) (i : ℕ) (p : P) (n t : ℕ)
    → 2 * most size xs + 1 ≡ t → i < length xs → p ≡ get_or xs i p → n ≤ size p → 2 * n + 0 < t
part_smaller size xs i p n t whole within at part =
    let bound : size (get_or xs i p) ≤ most size xs = at_most size xs i p within in
    let same : size p ≡ size (get_or xs i p) = ap size at in
    omega arith

-- one more is copied
pub one_copied : {X Y : Type 0} (f : X → Y) (xs copies new : List X) (i : ℕ) (x copy : X)
    → map f copies ≡ map f (take i xs) → i < length xs → x ≡ get_or xs i x → f copy ≡ f x → new ≡ copies ++ copy ∷ []
    → map f new ≡ map f (take (i + 1) xs)
one_copied f xs copies new i x copy so_far within at same pushed =
    ap (map f) pushed ∙ map_push f copies copy ∙ (λ j. so_far j ++ same j ∷ []) ∙ ap (λ y. map f (take i xs) ++ f y ∷ []) at
    ∙ sym (map_push f (take i xs) (get_or xs i x)) ∙ ap (map f) (sym (take_more xs i x within))

-- all are
pub all_copied : {X Y : Type 0} (f : X → Y) (xs copies : List X) (i : ℕ) → map f copies ≡ map f (take i xs) → length xs ≤ i → map f copies ≡ map f xs
all_copied f xs copies i so_far past = so_far ∙ ap (map f) (take_all i xs past)
