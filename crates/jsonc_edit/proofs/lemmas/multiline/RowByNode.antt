-- A row on lines, node by node.
use Rattle.std.proofs.Common.{◌≡◌, ℕ, suc, ◌-◌, ◌<◌, ◌≤◌, Bool, true, false, inl, inr, List, [], ◌∷◌, ◌++◌, length, map, take, drop, slice_index, refl, ap, ◌∙◌, arith, length-take}
use Rattle.std.specs.List.{flat_map, onto_first, prefix_len, suffix_len}
use Rattle.std.proofs.lemmas.List.Sums.{suffix_len_is}
use Rattle.std.proofs.lemmas.Bool.{cases_Bool}
use Rattle.jsonc_tree.specs.Content.{Content}
use Rattle.jsonc_tree.specs.Tree.{Node, content_at}
use Rattle.jsonc_layout.specs.nodes.Kinds.{is_whitespace, is_whitespace_at, is_comma_at, is_comma}
use Rattle.jsonc_edit.specs.multiline.Slots.{Slot, stays}
use Rattle.jsonc_edit.specs.multiline.Lines.{Lines, parts, without_front, new_line, on_line}
use Rattle.jsonc_edit.specs.multiline.Plans.{child_slots, begins_behind}

-- how long a row is without the whitespace at its end
pub back_count : (p : ℕ → Bool) (row : List ℕ) (n : ℕ) → n ≤ length row → ((k : ℕ) → n ≤ k → k < length row → p (slice_index row k) ≡ true) → (0 < n → p (slice_index row (n - 1)) ≡ false) → n ≡ length (take (length row - suffix_len p row) row)
back_count p row n within blank last =
    let e : suffix_len p row ≡ length row - n = suffix_len_is p row n 0 within blank last in
    omega (arith, e, within, length-take (length row - suffix_len p row) row)

module _ (lines : Lines) (ns : List Node) where
  -- what a row becomes, where a part begins or goes on
  abbrev pub woven : Bool → List ℕ → List Slot
  woven begins [] = []
  woven begins (n ∷ row) = child_slots lines begins (is_whitespace_at ns n) n ++ woven (begins_behind begins (is_whitespace_at ns n) (is_comma_at ns n)) row

  abbrev part_line : List ℕ → List Slot
  part_line part = on_line lines (without_front ns part)

  -- the rest of a part, and then the others
  abbrev going_on : List (List ℕ) → List Slot
  going_on [] = []
  going_on (part ∷ rest) = map stays part ++ flat_map part_line rest

  goes_onto : (n : ℕ) (rest : List (List ℕ)) → going_on (onto_first n rest) ≡ stays n ∷ going_on rest
  goes_onto n [] = refl
  goes_onto n (part ∷ rest) = refl

  -- a part begins with whitespace, or not
  begins_blank : (n : ℕ) (rest : List (List ℕ)) → is_whitespace_at ns n ≡ true → flat_map part_line (onto_first n rest) ≡ flat_map part_line rest
  begins_blank n [] e = rw e refl
  begins_blank n (part ∷ rest) e = ap (λ k. on_line lines (drop k (n ∷ part)) ++ flat_map part_line rest) (by part)
    where
      by : (part : List ℕ) → prefix_len (is_whitespace_at ns) (n ∷ part) ≡ suc (prefix_len (is_whitespace_at ns) part)
      by part = rw e (omega arith)

  begins_line : (n : ℕ) (rest : List (List ℕ)) → is_whitespace_at ns n ≡ false → flat_map part_line (onto_first n rest) ≡ new_line lines ++ stays n ∷ going_on rest
  begins_line n [] e = rw e refl
  begins_line n (part ∷ rest) e = rw e refl

  comma_no_blank : (n : ℕ) → is_comma_at ns n ≡ true → is_whitespace_at ns n ≡ false
  comma_no_blank n e = by (content_at ns n) e
    where
      by : (content : Content) → is_comma content ≡ true → is_whitespace content ≡ false
      by (Content.whitespace s) e = cc
      by content e = refl

  -- where a part begins the others are on lines, and so they are where one goes on
  pub both_woven : (row : List ℕ) → (flat_map part_line (parts ns row) ≡ woven true row) × (going_on (parts ns row) ≡ woven false row)
  both_woven [] = (refl, refl)
  both_woven (n ∷ row) =
      let rest = both_woven row in
      elim (cases_Bool (is_comma_at ns n)) [
        | inl comma ↦ (let blank = comma_no_blank n comma in (rw (comma, blank) (ap (λ l. new_line lines ++ stays n ∷ l) rest.0), rw comma (ap (λ l. stays n ∷ l) rest.0)))
        | inr other ↦ (
          elim (cases_Bool (is_whitespace_at ns n)) [
            | inl blank ↦ rw (other, blank) (begins_blank n (parts ns row) blank ∙ rest.0)
            | inr solid ↦ rw (other, solid) (begins_line n (parts ns row) solid ∙ ap (λ l. new_line lines ++ stays n ∷ l) rest.1)
          ],
          rw other (goes_onto n (parts ns row) ∙ ap (λ l. stays n ∷ l) rest.1),
        )
      ]
