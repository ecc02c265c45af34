-- A document in which a node is replaced by the same is the same.
use Rattle.std.proofs.Common.{◌≡◌, ℕ, List, ap}
use Rattle.jsonc_tree.specs.Content.{root, array, object}
use Rattle.jsonc_tree.specs.OrderedTree.{OrderedTree, Top, none, more}
use Rattle.jsonc_sound.specs.TreeChanges as changes
use Rattle.jsonc_sound.specs.TreeChanges.{ElementChanged, ValueChanged, DocumentChanged, property_of}

element_same : {was now : Top} {i : ℕ} {x y : OrderedTree} → was ≡ now → ElementChanged was now i x y → x ≡ y
element_same e (changes.this_element {after = after} h k) = ap (λ (t : Top). more t.content t.below after) e
element_same e (changes.passed {content = content} {below = below} h c) = ap (more content below) (element_same e c)
element_same e (changes.later_element {content = content} {below = below} h c) = ap (more content below) (element_same e c)

value_same : {was now : Top} {path : List ℕ} {x y : Top} → was ≡ now → ValueChanged was now path x y → x ≡ y
value_same e changes.itself = e
value_same e (changes.in_array c v) = ap (λ (row : OrderedTree). let t : Top = record { content = array; below = row } in t) (element_same (value_same e v) c)
value_same e (changes.in_object c h v) = ap (λ (row : OrderedTree). let t : Top = record { content = object; below = row } in t) (element_same (ap property_of (element_same (value_same e v) h)) c)

pub document_same : {was now : Top} {path : List ℕ} {t u : OrderedTree} → was ≡ now → DocumentChanged was now path t u → t ≡ u
document_same e (changes.in_root c v) = ap (λ row. more root row none) (element_same (value_same e v) c)
