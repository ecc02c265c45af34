-- The value that stands at a path of a document.
use Rattle.std.proofs.Common.{◌≡◌, ℕ, List, Some, refl, sym, subst}
use Rattle.jsonc_text.specs.Options.{Options}
use Rattle.jsonc_text.specs.Plain.{Plain, Items, Members}
use Rattle.jsonc_text.specs.Grammar.{IsDocument}
use Rattle.jsonc_text.proofs.UniqueValues.{document_unique}
use Rattle.jsonc_tree.specs.OrderedTree.{OrderedTree, ordered_tree}
use Rattle.jsonc_tree.specs.Tree.{Node, IsTree, IsOver}
use Rattle.jsonc_tree.specs.Values.{DocumentValueOf}
use Rattle.jsonc_sound.specs.Shape.{printed_text}
use Rattle.jsonc_sound.proofs.ShapeValues.{document_printed}
use Rattle.jsonc_sound.specs.Changes as changes
use Rattle.jsonc_sound.specs.Changes.{ItemChanged, MemberChanged, Changed}
use Rattle.jsonc_sound.specs.Sound.{HasValue}
use Rattle.jsonc_sound.specs.SoundTrees.{SoundTree}
use Rattle.jsonc_sound.specs.TreeChanges.{DocumentChanged}
use Rattle.jsonc_sound.proofs.AtPath.{held_at_path}
use Rattle.jsonc_edit.specs.Changes.{top_at}
use Rattle.jsonc_edit.specs.Paths.{IsAt}
use Rattle.jsonc_edit.proofs.OneValue.{document_once}
use Rattle.jsonc_edit.proofs.ChangesUpward.{changed_over}

-- a node at a path may be said to be replaced by itself
pub gives_way_to_itself : (ns : List Node) → IsTree ns → (path : List ℕ) (n : ℕ) → IsAt ns path n → DocumentChanged (top_at ns n) (top_at ns n) path (ordered_tree ns 0) (ordered_tree ns 0)
gives_way_to_itself ns tree path n at =
    changed_over ns ns n (record { tree = tree; content = λ k ne. refl; children = λ k ne. refl }) tree refl n IsOver.itself (λ element. element) path at

-- the text of a sound document has the value that its tree has
pub value_of_text : (o : Options) (t : OrderedTree) → SoundTree o t → (x : Plain) → IsDocument o (printed_text t) (Some x) → DocumentValueOf o t (Some x)
value_of_text o t s x text =
    let known = document_printed o t s.shaped s.lines in
    subst (DocumentValueOf o t) (document_unique o (printed_text t) known.0 (Some x) known.1 text) known.2

-- the node's value stands at the path in the document's
pub record HasAtPath (o : Options) (ns : List Node) (path : List ℕ) (n : ℕ) (x : Plain) : Type 0 where
  pub value : Plain
  pub has : HasValue o (top_at ns n) value
  pub at : Changed value value path x x

pub value_at_path : (o : Options) (ns : List Node) → IsTree ns → (path : List ℕ) (n : ℕ) → IsAt ns path n → (x : Plain) → DocumentValueOf o (ordered_tree ns 0) (Some x) → HasAtPath o ns path n x
value_at_path o ns tree path n at x value =
    let held = held_at_path o x value (gives_way_to_itself ns tree path n at) in
    let again = held.has held.old held.had in
    let both : Some again.0 ≡ Some x = document_once o (ordered_tree ns 0) (Some again.0) (Some x) again.1 value in
    let same : again.0 ≡ x = cc in
    record { value = held.old; has = held.had; at = subst (λ y. Changed held.old held.old path x y) same again.2 }

-- and no other does
item_once : {a b c d : Plain} {i : ℕ} {vs ws us : Items} → ItemChanged a b i vs ws → ItemChanged c d i vs us → a ≡ c
item_once changes.this_item changes.this_item = refl
item_once (changes.later_item k) (changes.later_item l) = item_once k l

member_once : {a b c d : Plain} {i : ℕ} {ms ns ls : Members} → MemberChanged a b i ms ns → MemberChanged c d i ms ls → a ≡ c
member_once changes.this_member changes.this_member = refl
member_once (changes.later_member k) (changes.later_member l) = member_once k l

pub value_once : {a b c d : Plain} {path : List ℕ} {x y z : Plain} → Changed a b path x y → Changed c d path x z → a ≡ c
value_once changes.itself changes.itself = refl
value_once {c = c} {d = d} (changes.in_array {path = path} e k) (changes.in_array {y = y} f l) =
    value_once k (subst (λ v. Changed c d path v y) (sym (item_once e f)) l)
value_once {c = c} {d = d} (changes.in_object {path = path} e k) (changes.in_object {y = y} f l) =
    value_once k (subst (λ v. Changed c d path v y) (sym (member_once e f)) l)
