-- Values of properties by name: which nodes stay, and what is refused.
use Rattle.std.proofs.Common.{◌≡◌, ℕ, ◌<◌, List, length, Option, Some, None, refl, ap}
use Rattle.jsonc_text.specs.Options.{Options}
use Rattle.jsonc_tree.specs.Content as content
use Rattle.jsonc_tree.specs.Content.{property}
use Rattle.jsonc_tree.specs.OrderedTree.{ordered_tree}
use Rattle.jsonc_tree.specs.Tree.{Node, content_at, IsTree}
use Rattle.jsonc_tree.proofs.Order.{parent_there}
use Rattle.jsonc_layout.specs.nodes.Names.{FirstInObject}
use Rattle.jsonc_layout.specs.nodes.Properties.{value_at}
use Rattle.jsonc_text.specs.declared.edit.EditError.{EditError}
use Rattle.jsonc_text.specs.declared.edit.Over.{Over}
use Rattle.jsonc_text.specs.declared.edit.Over.TheVariants as over
use Rattle.jsonc_text.specs.declared.edit.Shape.{Shape}
use Rattle.jsonc_insert.specs.named.Named.{EnsuredFor, EnsureError, NamedEnsured}
use Rattle.jsonc_edit.specs.set.Shapes.{is_of, empty_of}
use Rattle.jsonc_insert.proofs.lemmas.named.Writing.{wants_memory}
use Rattle.jsonc_cst.specs.typed.Edits.{KeepsDocumentOf}
use Rattle.jsonc_cst.specs.typed.Removing.{OnlyOutOfMemory}
use Rattle.jsonc_layout.specs.lines.Kinds.{is_array_or_object}
use Rattle.jsonc_edit.proofs.lemmas.commas.Holders.{holder_path}
use Rattle.jsonc_run.proofs.Calls.{found_there}
use Rattle.jsonc_run.proofs.DetachedNodes.{out_down, put_elsewhere}
use Rattle.jsonc_cst.proofs.lemmas.typed.DetachedNodes.{found_elsewhere}
use Rattle.jsonc_cst.proofs.lemmas.typed.PropertyValues.{stay_found}
use Rattle.jsonc_cst.proofs.lemmas.typed.HandlesKept.{Stays, stay_same}
use Rattle.jsonc_cst.proofs.lemmas.objects.InsertedProperties.{put_stays}

module _ (old new : List Node) (c : ℕ) (name : List ℕ) (shape : Shape) (how : Over) (tree : IsTree old) (there : c < length old) where
  stays_for : (h : Over) (found answer : Option ℕ) → EnsuredFor shape h old new c name found answer → Stays old new
  stays_for h None answer (m, told, comes) = put_stays old new c _ name (empty_of shape) comes.property tree there comes.put
  stays_for over.Keep (Some r) answer (told, same) = stay_same old new same
  stays_for over.Replace (Some r) answer (m, told, set) = stay_found (is_of shape) (empty_of shape) old new r (value_at old r) m set.1

  pub named_stays : (answer : Option ℕ) → NamedEnsured shape how old new c name answer → Stays old new
  named_stays answer (found, first, by) = stays_for how found answer by

-- an object that is not in the document leaves the document as it was
module _ (old new : List Node) (c : ℕ) (name : List ℕ) (shape : Shape) (tree : IsTree old) (after : IsTree new) (there : c < length old) where
  elsewhere_for : (h : Over) (found answer : Option ℕ) → FirstInObject old c name found → EnsuredFor shape h old new c name found answer → KeepsDocumentOf old new c
  elsewhere_for h None answer first (m, told, comes) = put_elsewhere old tree new c _ name (empty_of shape) comes.property there comes.put
  elsewhere_for over.Keep (Some r) answer first (told, same) = λ out. ap (λ (ns : List Node). ordered_tree ns 0) same
  elsewhere_for over.Replace (Some r) answer first (m, told, set) = λ out.
      let at = found_there old tree c name r first in
      found_elsewhere old new tree after r (parent_there old tree r c at.0).0 at.1 (empty_of shape) (is_of shape) (value_at old r) m refl set.1 (out_down old tree r c at.0 out)

  pub named_elsewhere : (how : Over) (answer : Option ℕ) → NamedEnsured shape how old new c name answer → KeepsDocumentOf old new c
  named_elsewhere how answer (found, first, by) = elsewhere_for how found answer first by

module _ (old new : List Node) (c : ℕ) (name : List ℕ) (shape : Shape) (how : Over) (tree : IsTree old) (is : content_at old c ≡ content.object) where
  pub named_for_memory : (o : Options) (e : EditError) → EnsureError shape how old c name e → OnlyOutOfMemory o old c e
  named_for_memory o e told = λ sound over.
      let place = holder_path o old tree sound c over (ap is_array_or_object is) in
      wants_memory o old place.0 c name shape how e tree sound place.1 is told
