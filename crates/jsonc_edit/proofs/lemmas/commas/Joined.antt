-- Two changes of what stands at one path are one.
use Rattle.std.proofs.Common.{◌≡◌, ℕ, zero, suc, List, refl, sym, ap, subst}
use Rattle.jsonc_tree.specs.Content.{array, object}
use Rattle.jsonc_tree.specs.OrderedTree.{OrderedTree, Top, more}
use Rattle.jsonc_sound.specs.TreeChanges.{IsElement, ElementChanged, this_element, passed, later_element, ValueChanged, itself, in_array, in_object, DocumentChanged, in_root, property_of}
use Rattle.jsonc_sound.proofs.FirstNodes.{here, over, beyond, meets_first, no_element}
use Rattle.jsonc_edit.proofs.Standing.{same_top}

-- the element that came is the one that leaves then, and the row has changed from the first to the last
record Joined (a b c d : Top) (i : ℕ) (row new : OrderedTree) : Type 0 where
  same : b ≡ c
  changed : ElementChanged a d i row new

join_elements : {a b c d : Top} {i : ℕ} {row mid new : OrderedTree} → IsElement d.content → ElementChanged a b i row mid → ElementChanged c d i mid new → Joined a b c d i row new
join_elements {a} {b} {c} {d} {new = new} kind (this_element {after = after} p q) e =
    elim (meets_first e) [
      | here z is under el f ↦ record { same = same_top b.content c.content b.below c.below is under; changed = subst (λ l. ElementChanged a d 0 (more a.content a.below after) l) (sym f) (this_element p kind) }
      | over h k f ↦ absurd (no_element b.content q h)
      | beyond z el k f ↦ let wrong : zero ≡ suc _ = z in cc
    ]
join_elements {a} {b} {c} {d} {i} {new = new} kind (passed {content = content} {below = below} {x = x} h k) e =
    elim (meets_first e) [
      | here z is under el f ↦ absurd (no_element content el h)
      | over {rest = rest} g l f ↦
          let j = join_elements kind k l in
          record { same = j.same; changed = subst (λ w. ElementChanged a d i (more content below x) w) (sym f) (passed h j.changed) }
      | beyond z el l f ↦ absurd (no_element content el h)
    ]
join_elements {a} {b} {c} {d} {new = new} kind (later_element {i = i} {content = content} {below = below} {x = x} {y = y} h k) e =
    elim (meets_first e) [
      | here z is under el f ↦ let wrong : suc i ≡ zero = z in cc
      | over g l f ↦ absurd (no_element content h g)
      | beyond {j = n} {rest = rest} z el l f ↦
          let n_is : n ≡ i = cc in
          let j = join_elements kind k (subst (λ m. ElementChanged c d m y rest) n_is l) in
          record { same = j.same; changed = subst (λ w. ElementChanged a d (suc i) (more content below x) w) (sym f) (later_element h j.changed) }
    ]

-- what holds a changed element is one
changed_kind : {was now : Top} {path : List ℕ} {x y : Top} → IsElement now.content → ValueChanged was now path x y → IsElement y.content
changed_kind kind itself = kind
changed_kind kind (in_array e v) = refl
changed_kind kind (in_object e h v) = refl

property_row : {x y : OrderedTree} → property_of x ≡ property_of y → x ≡ y
property_row e = ap (λ (t : Top). t.below) e

join_values : {a b c : Top} {path : List ℕ} {x y z w : Top} → IsElement c.content → ValueChanged a b path x y → ValueChanged b c path z w → y ≡ z → ValueChanged a c path x w
join_values kind itself itself same = itself
join_values {a} {b} {c} kind (in_array {i = i} {path = path} {row = row} {new = mid} e v) (in_array {x = p} {y = q} {row = row2} {new = new} f u) same =
    let rows : row2 ≡ mid = sym (ap (λ (t : Top). t.below) same) in
    let j = join_elements (changed_kind kind u) e (subst (λ (r : OrderedTree). ElementChanged p q i r new) rows f) in
    in_array j.changed (join_values kind v u j.same)
join_values {a} {b} {c} kind (in_object {i = i} {path = path} {held = held} {given = given} {row = row} {new = mid} e h v) (in_object {x = p} {y = q} {held = held2} {given = given2} {row = row2} {new = new} f k u) same =
    let rows : row2 ≡ mid = sym (ap (λ (t : Top). t.below) same) in
    let j = join_elements refl e (subst (λ (r : OrderedTree). ElementChanged (property_of held2) (property_of given2) i r new) rows f) in
    let under : held2 ≡ given = sym (property_row j.same) in
    let l = join_elements (changed_kind kind u) h (subst (λ (r : OrderedTree). ElementChanged p q 1 r given2) under k) in
    in_object j.changed l.changed (join_values kind v u l.same)
join_values kind (in_array e v) (in_object f k u) same = let wrong : array ≡ object = ap (λ (t : Top). t.content) same in cc
join_values kind (in_object e h v) (in_array f u) same = let wrong : object ≡ array = ap (λ (t : Top). t.content) same in cc

pub join_documents : {a b c : Top} {path : List ℕ} {t s u : OrderedTree} → IsElement c.content → DocumentChanged a b path t s → DocumentChanged b c path s u → DocumentChanged a c path t u
join_documents kind (in_root e v) (in_root f u) =
    let j = join_elements (changed_kind kind u) e f in in_root j.changed (join_values kind v u j.same)
