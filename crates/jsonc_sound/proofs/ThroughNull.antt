-- A change of a document's value where what comes has a value that goes by the one of what leaves: first `null` comes, and then is replaced.
use Rattle.std.proofs.Common.{ℕ, ◌≡◌, sym, subst, refl, List, Some}
use Rattle.jsonc_text.specs.Options.{Options}
use Rattle.jsonc_text.specs.Plain.{Plain, Items, Members}
use Rattle.jsonc_tree.specs.Content.{Content, array, object}
use Rattle.jsonc_tree.specs.OrderedTree.{OrderedTree, none, more}
use Rattle.jsonc_tree.specs.Values as values
use Rattle.jsonc_tree.specs.Values.{ValueOf, DocumentValueOf}
use Rattle.jsonc_sound.specs.Changes as changes
use Rattle.jsonc_sound.specs.Changes.{ItemChanged, MemberChanged, Changed}
use Rattle.jsonc_sound.specs.Sound.{HasValue}
use Rattle.jsonc_tree.specs.OrderedTree.{Top}
use Rattle.jsonc_sound.specs.TreeChanges.{IsElement, property_of, ElementChanged, this_element, passed, later_element, ValueChanged, itself, in_array, in_object, DocumentChanged, in_root}
use Rattle.jsonc_sound.proofs.Values.{document_change}

-- a change by way of another node
element_between : {x y : Top} {i : ℕ} {row new : OrderedTree} (z : Top) → IsElement z.content → ElementChanged x y i row new → (mid : OrderedTree) × ElementChanged x z i row mid × ElementChanged z y i mid new
element_between z e (this_element {after = after} p q) = (more z.content z.below after, this_element p e, this_element e q)
element_between z e (passed {content = content} {below = below} h k) = let d = element_between z e k in (more content below d.0, passed h d.1, passed h d.2)
element_between z e (later_element {content = content} {below = below} h k) = let d = element_between z e k in (more content below d.0, later_element h d.1, later_element h d.2)

value_between : {was now : Top} {path : List ℕ} {x y : Top} (z : Top) → IsElement z.content → ValueChanged was now path x y → (mid : Top) × IsElement mid.content × ValueChanged was z path x mid × ValueChanged z now path mid y
value_between z e itself = (z, e, itself, itself)
value_between z e (in_array g h) =
    let d = value_between z e h in
    let k = element_between d.0 d.1 g in
    (record { content = array; below = k.0 }, refl, in_array k.1 d.2, in_array k.2 d.3)
value_between z e (in_object g f h) =
    let d = value_between z e h in
    let m = element_between d.0 d.1 f in
    let k = element_between (property_of m.0) refl g in
    (record { content = object; below = k.0 }, refl, in_object k.1 m.1 d.2, in_object k.2 m.2 d.3)

document_between : {was now : Top} {path : List ℕ} {t u : OrderedTree} (z : Top) → IsElement z.content → DocumentChanged was now path t u → (mid : OrderedTree) × DocumentChanged was z path t mid × DocumentChanged z now path mid u
document_between z e (in_root g h) =
    let d = value_between z e h in
    let k = element_between d.0 d.1 g in
    (more Content.root k.0 none, in_root k.1 d.2, in_root k.2 d.3)

-- two changes of one place are one
items_then : {a b c d : Plain} {i : ℕ} {vs ws us : Items} → ItemChanged a b i vs ws → ItemChanged c d i ws us → (b ≡ c) × ItemChanged a d i vs us
items_then changes.this_item changes.this_item = (refl, changes.this_item)
items_then (changes.later_item h) (changes.later_item k) = let d = items_then h k in (d.0, changes.later_item d.1)

members_then : {a b c d : Plain} {i : ℕ} {ms ns ls : Members} → MemberChanged a b i ms ns → MemberChanged c d i ns ls → (b ≡ c) × MemberChanged a d i ms ls
members_then changes.this_member changes.this_member = (refl, changes.this_member)
members_then (changes.later_member h) (changes.later_member k) = let d = members_then h k in (d.0, changes.later_member d.1)

changed_then : {a b c d : Plain} {path : List ℕ} {x y z : Plain} → Changed a b path x y → Changed c d path y z → Changed a d path x z
changed_then changes.itself changes.itself = changes.itself
changed_then {c = c} {d = e} (changes.in_array g h) (changes.in_array {path = path} {y = z} f k) =
    let d = items_then g f in
    changes.in_array d.1 (changed_then h (subst (λ w. Changed c e path w z) (sym d.0) k))
changed_then {c = c} {d = e} (changes.in_object g h) (changes.in_object {path = path} {y = z} f k) =
    let d = members_then g f in
    changes.in_object d.1 (changed_then h (subst (λ w. Changed c e path w z) (sym d.0) k))

-- a leaf with a value of its own
abbrev null_leaf : Top
null_leaf = record { content = Content.null; below = none }

null_only : {o : Options} {v : Plain} → ValueOf o Content.null none v → v ≡ Plain.null
null_only values.null = refl

-- what left had a value, what came one that goes by it, and so the document's has changed
pub record ValueGiven (o : Options) (R : Plain → Plain → Type 0) (path : List ℕ) (u : OrderedTree) (x : Plain) : Type 0 where
  pub was : Plain
  pub now : Plain
  pub y : Plain
  pub related : R was now
  pub changed : Changed was now path x y
  pub value : DocumentValueOf o u (Some y)

pub value_given : (o : Options) (R : Plain → Plain → Type 0) {was now : Top} {path : List ℕ} {t u : OrderedTree} (x : Plain) → ((a : Plain) → HasValue o was a → (b : Plain) × R a b × HasValue o now b)
    → DocumentChanged was now path t u → DocumentValueOf o t (Some x) → ValueGiven o R path u x
value_given o R {path = path} x f c h =
    let d = document_between null_leaf refl c in
    let first = document_change o x Plain.null d.1 values.null h in
    let new = f first.0 first.2 in
    let second = document_change o first.1 new.0 d.2 new.2 first.4 in
    record {
      was = first.0;
      now = new.0;
      y = second.1;
      related = new.1;
      changed = changed_then first.3 (subst (λ w. Changed w new.0 path first.1 second.1) (null_only second.2) second.3);
      value = second.4;
    }
