-- The value of a document at a path, whatever comes in its place.
use Rattle.std.proofs.Common.{ℕ, ◌≡◌, sym, subst, refl, List, Some}
use Rattle.jsonc_text.specs.Options.{Options}
use Rattle.jsonc_text.specs.Plain.{Plain, Items, Members}
use Rattle.jsonc_tree.specs.Content.{Content}
use Rattle.jsonc_tree.specs.OrderedTree.{OrderedTree, none, more}
use Rattle.jsonc_tree.specs.Values as values
use Rattle.jsonc_tree.specs.Values.{DocumentValueOf}
use Rattle.jsonc_sound.specs.Changes as changes
use Rattle.jsonc_sound.specs.Changes.{ItemChanged, MemberChanged, Changed}
use Rattle.jsonc_sound.specs.Sound.{HasValue}
use Rattle.jsonc_tree.specs.OrderedTree.{Top}
use Rattle.jsonc_sound.specs.TreeChanges.{IsElement, property_of, ElementChanged, this_element, passed, later_element, ValueChanged, itself, in_array, in_object, DocumentChanged, in_root}
use Rattle.jsonc_sound.proofs.Values.{document_change}

-- any element may come where one has come
element_instead : {x y : Top} {i : ℕ} {row new : OrderedTree} (z : Top) → IsElement z.content → ElementChanged x y i row new → (other : OrderedTree) × ElementChanged x z i row other
element_instead z h (this_element {after = after} p q) = (more z.content z.below after, this_element p h)
element_instead z h (passed {content = content} {below = below} p k) = let m = element_instead z h k in (more content below m.0, passed p m.1)
element_instead z h (later_element {content = content} {below = below} p k) = let m = element_instead z h k in (more content below m.0, later_element p m.1)

value_instead : {was now : Top} {path : List ℕ} {x y : Top} (z : Top) → IsElement z.content → ValueChanged was now path x y → (w : Top) × IsElement w.content × ValueChanged was z path x w
value_instead z h itself = (z, h, itself)
value_instead z h (in_array e k) =
    let m = value_instead z h k in
    let n = element_instead m.0 m.1 e in
    (record { content = Content.array; below = n.0 }, refl, in_array n.1 m.2)
value_instead z h (in_object e g k) =
    let m = value_instead z h k in
    let n = element_instead m.0 m.1 g in
    let l = element_instead (property_of n.0) refl e in
    (record { content = Content.object; below = l.0 }, refl, in_object l.1 n.1 m.2)

document_instead : {was now : Top} {path : List ℕ} {t u : OrderedTree} (z : Top) → IsElement z.content → DocumentChanged was now path t u → (s : OrderedTree) × DocumentChanged was z path t s
document_instead z h (in_root e k) =
    let m = value_instead z h k in
    let n = element_instead m.0 m.1 e in
    (more Content.root n.0 none, in_root n.1 m.2)

-- one value stands at a path
item_same : {a b c d : Plain} {i : ℕ} {vs ws us : Items} → ItemChanged a b i vs ws → ItemChanged c d i vs us → a ≡ c
item_same changes.this_item changes.this_item = refl
item_same (changes.later_item k) (changes.later_item l) = item_same k l

member_same : {a b c d : Plain} {i : ℕ} {ms ns ls : Members} → MemberChanged a b i ms ns → MemberChanged c d i ms ls → a ≡ c
member_same changes.this_member changes.this_member = refl
member_same (changes.later_member k) (changes.later_member l) = member_same k l

same_at_path : {a b c d : Plain} {path : List ℕ} {x y z : Plain} → Changed a b path x y → Changed c d path x z → a ≡ c
same_at_path changes.itself changes.itself = refl
same_at_path {c = c} {d = d} (changes.in_array {path = path} e k) (changes.in_array {y = y} f l) =
    same_at_path k (subst (λ v. Changed c d path v y) (sym (item_same e f)) l)
same_at_path {c = c} {d = d} (changes.in_object {path = path} e k) (changes.in_object {y = y} f l) =
    same_at_path k (subst (λ v. Changed c d path v y) (sym (member_same e f)) l)

module _ (o : Options) where
  -- the value that stood at the path of a node, and the document's for each that the new node may have
  pub record HeldAtPath (was now : Top) (path : List ℕ) (x : Plain) (u : OrderedTree) : Type 0 where
    pub old : Plain
    pub had : HasValue o was old
    pub has : (v : Plain) → HasValue o now v → (y : Plain) × DocumentValueOf o u (Some y) × Changed old v path x y

  pub held_at_path : {was now : Top} {path : List ℕ} {t u : OrderedTree} (x : Plain) → DocumentValueOf o t (Some x) → DocumentChanged was now path t u → HeldAtPath was now path x u
  held_at_path {path = path} x h d =
      let other = document_instead (record { content = Content.null; below = none }) refl d in
      let before = document_change o x Plain.null other.1 values.null h in
      record {
        old = before.0;
        had = before.2;
        has = λ v n. let m = document_change o x v d n h in (m.1, m.4, subst (λ w. Changed w v path x m.1) (same_at_path m.3 before.3) m.3);
      }
