-- How deep a plain value is nested in which the value at a path has been replaced by another.
use Rattle.std.proofs.Common.{ℕ, zero, suc, ◌+◌, ◌≤◌, ◌<◌, ◌≡◌, refl, ◌∙◌, List, [], ◌∷◌, ◌++◌, length, get_or, map, max, IsPermutation, arith}
use Rattle.std.specs.List.{range_with_len}
use Rattle.std.proofs.lemmas.List.Elements.{All-cons, All-head, All-nil, All-tail}
use Rattle.std.proofs.lemmas.List.Sorted.{All-permutation}
use Rattle.std.specs.List.{All}
use Rattle.jsonc_text.specs.Plain.{Plain, around, items_around, members_around}
use Rattle.jsonc_run.specs.Depth.{levels, levels_of_item, levels_of_member, entering}
use Rattle.jsonc_run.specs.texts.Entries.{Named, of, items, members, Changed, itself, inside}
use Rattle.jsonc_run.specs.texts.Paths.{Kind, an_array, an_object}

-- how many containers and properties are around a value of these entries, at most, where each adds so many
abbrev pub around_entries : ℕ → List Named → ℕ
around_entries n [] = 0
around_entries n (e ∷ es) = max (n + around e.value) (around_entries n es)

array_around : (es : List Named) → items_around (items es) ≡ around_entries 1 es
array_around [] = refl
array_around (e ∷ es) = omega (arith, array_around es)

object_around : (es : List Named) → members_around (members es) ≡ around_entries 2 es
object_around [] = refl
object_around (e ∷ es) = omega (arith, object_around es)

pub of_around : (kind : Kind) (es : List Named) → around (of kind es) ≡ around_entries (entering kind) es
of_around an_array es = array_around es
of_around an_object es = object_around es

around_both : (n : ℕ) (front back : List Named) → around_entries n (front ++ back) ≡ max (around_entries n front) (around_entries n back)
around_both n [] back = omega arith
around_both n (e ∷ front) back = omega (arith, around_both n front back)

-- what is around an entry between others
pub of_one : (kind : Kind) (front back : List Named) (e : Named) → around (of kind (front ++ e ∷ back)) ≡ max (around_entries (entering kind) front) (max (entering kind + around e.value) (around_entries (entering kind) back))
of_one kind front back e = of_around kind (front ++ e ∷ back) ∙ around_both (entering kind) front (e ∷ back)

pub of_both : (kind : Kind) (front back : List Named) → around (of kind (front ++ back)) ≡ max (around_entries (entering kind) front) (around_entries (entering kind) back)
of_both kind front back = of_around kind (front ++ back) ∙ around_both (entering kind) front back

-- a path leads through an entry to its value
item_levels : (path : List ℕ) (front back : List Named) (e : Named) → levels_of_item path (length front) (items (front ++ e ∷ back)) ≡ levels path e.value
item_levels path [] back e = refl
item_levels path (f ∷ front) back e = item_levels path front back e

member_levels : (path : List ℕ) (front back : List Named) (e : Named) → levels_of_member path (length front) (members (front ++ e ∷ back)) ≡ levels path e.value
member_levels path [] back e = refl
member_levels path (f ∷ front) back e = member_levels path front back e

pub entry_levels : (kind : Kind) (path : List ℕ) (front back : List Named) (e : Named) → levels (length front ∷ path) (of kind (front ++ e ∷ back)) ≡ entering kind + levels path e.value
entry_levels an_array path front back e = omega (arith, item_levels path front back e)
entry_levels an_object path front back e = omega (arith, member_levels path front back e)

-- with what is around its place, a value at a path is nested no deeper than all
pub at_path : {was now : Plain} {path : List ℕ} {x y : Plain} → Changed was now path x y → levels path x + around was ≤ around x
at_path itself = omega arith
at_path (inside kind front back name {path = path} {x = x} h) =
    omega (arith, at_path h, entry_levels kind path front back (record { name = name; value = x }), of_one kind front back (record { name = name; value = x }))

-- as deep as it was, or as the new value with what is around its place
pub replaced : {was now : Plain} {path : List ℕ} {x y : Plain} → Changed was now path x y → around y ≤ max (around x) (levels path x + around now)
replaced itself = omega arith
replaced (inside kind front back name {path = path} {x = x} {y = y} h) =
    omega (
      arith,
      replaced h,
      entry_levels kind path front back (record { name = name; value = x }),
      of_one kind front back (record { name = name; value = x }),
      of_one kind front back (record { name = name; value = y }),
    )

-- so no deeper, where the new value at the path is no deeper than the old one there
pub no_deeper : {was now : Plain} {path : List ℕ} {x y : Plain} → Changed was now path x y → around now ≤ around was → around y ≤ around x
no_deeper h less = omega (arith, at_path h, replaced h, less)

-- a step further
pub levels_further : {was now : Plain} {path : List ℕ} {x y : Plain} (rest : List ℕ) → Changed was now path x y → levels (path ++ rest) x ≡ levels path x + levels rest was
levels_further rest itself = omega arith
levels_further rest (inside kind front back name {path = path} {x = x} h) =
    omega (
      arith,
      levels_further rest h,
      entry_levels kind path front back (record { name = name; value = x }),
      entry_levels kind (path ++ rest) front back (record { name = name; value = x }),
    )

-- an entry among others, and entries that are these in another order
nth_around : (n : ℕ) (es : List Named) (d : Named) (i : ℕ) → i < length es → n + around (get_or es i d).value ≤ around_entries n es
nth_around n [] d i less = absurd (omega arith)
nth_around n (e ∷ es) d zero less = omega arith
nth_around n (e ∷ es) d (suc i) less = omega (arith, nth_around n es d i (omega arith))

picked_around : (n : ℕ) (es : List Named) (d : Named) (order : List ℕ) → All (λ i. i < length es) order → around_entries n (map (λ i. get_or es i d) order) ≤ around_entries n es
picked_around n es d [] h = omega arith
picked_around n es d (i ∷ order) h =
    omega (arith, nth_around n es d i (All-head (λ k. k < length es) i order h), picked_around n es d order (All-tail (λ k. k < length es) i order h))

all_in_range : (n from m : ℕ) → from + n ≡ m → All (λ i. i < m) (range_with_len from n)
all_in_range zero from m e = All-nil (λ i. i < m)
all_in_range (suc n) from m e = All-cons (λ i. i < m) from (range_with_len (from + 1) n) (omega (arith, e)) (all_in_range n (from + 1) m (omega (arith, e)))

pub sorted_around : (kind : Kind) (es : List Named) (d : Named) (order : List ℕ) → IsPermutation (range_with_len 0 (length es)) order → around (of kind (map (λ i. get_or es i d) order)) ≤ around (of kind es)
sorted_around kind es d order moved =
    let all = All-permutation (λ i. i < length es) (range_with_len 0 (length es)) order moved (all_in_range (length es) 0 (length es) (omega arith)) in
    omega (arith, of_around kind es, of_around kind (map (λ i. get_or es i d) order), picked_around (entering kind) es d order all)
