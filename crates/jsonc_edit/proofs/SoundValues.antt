-- A document of which a value has changed has a value, and a sound document prints the value that it has.
use Rattle.std.proofs.Common.{◌≡◌, ℕ, List, Option, Some, None, subst}
use Rattle.jsonc_text.specs.Options.{Options}
use Rattle.jsonc_text.specs.Plain.{Plain}
use Rattle.jsonc_text.specs.Grammar.{IsDocument}
use Rattle.jsonc_tree.specs.OrderedTree.{OrderedTree, Top}
use Rattle.jsonc_tree.specs.Values as values
use Rattle.jsonc_tree.specs.Values.{HasNoValue, DocumentValueOf}
use Rattle.jsonc_sound.specs.Shape.{printed_text, PrintsDocument}
use Rattle.jsonc_sound.specs.TreeChanges.{ElementChanged, DocumentChanged, in_root}
use Rattle.jsonc_sound.specs.SoundTrees.{SoundTree}
use Rattle.jsonc_sound.proofs.ShapeValues.{document_printed}
use Rattle.jsonc_sound.proofs.FirstNodes.{here, over, beyond, meets_first, none_changed, no_element}
use Rattle.jsonc_edit.specs.Spaced.{SpacesPut}
use Rattle.jsonc_edit.proofs.OneValue.{document_once}
use Rattle.jsonc_edit.proofs.Spacing.{spaces_value}

-- a document of which a value has changed has one
no_value_there : {was now : Top} {i : ℕ} {row new : OrderedTree} → HasNoValue row → ElementChanged was now i row new → ⊥
no_value_there values.end e = none_changed e
no_value_there (values.pass {content = content} h g) e =
    elim (meets_first e) [
      | here a p b q f ↦ no_element content q h
      | over q k f ↦ no_value_there g k
      | beyond a q k f ↦ no_element content q h
    ]

pub some_value : (o : Options) {was now : Top} {path : List ℕ} {t u : OrderedTree} → DocumentChanged was now path t u → DocumentValueOf o t None → ⊥
some_value o (in_root {row = row} e k) (below, same, h) = let first : below ≡ row = cc in no_value_there (subst HasNoValue first h) e

pub some_value_of : (o : Options) {was now : Top} {path : List ℕ} {t u : OrderedTree} → DocumentChanged was now path t u → (w : Option Plain) → DocumentValueOf o t w → (x : Plain) × DocumentValueOf o t (Some x)
some_value_of o changed None h = absurd (some_value o changed h)
some_value_of o changed (Some x) h = (x, h)

-- a text with a value, which the tree has
pub record MeansSome (o : Options) (t : OrderedTree) : Type 0 where
  pub value : Plain
  pub text : IsDocument o (printed_text t) (Some value)
  pub tree : DocumentValueOf o t (Some value)

pub means_some : (o : Options) {was now : Top} {path : List ℕ} {t u : OrderedTree} → DocumentChanged was now path t u → PrintsDocument o t → MeansSome o t
means_some o changed (None, text, tree) = absurd (some_value o changed tree)
means_some o changed (Some x, text, tree) = record { value = x; text = text; tree = tree }

-- a sound document prints the value that it has, also before spaces came
pub prints_value : (o : Options) (t : OrderedTree) (w : Option Plain) → SoundTree o t → DocumentValueOf o t w → IsDocument o (printed_text t) w
prints_value o t w s value =
    let known = document_printed o t s.shaped s.lines in
    subst (IsDocument o (printed_text t)) (document_once o t known.0 w known.2 value) known.1

pub prints_first : (o : Options) {t u : OrderedTree} → SpacesPut t u → SoundTree o t → (w : Option Plain) → DocumentValueOf o u w → IsDocument o (printed_text t) w
prints_first o {t} {u} puts s w value =
    let known = document_printed o t s.shaped s.lines in
    subst (IsDocument o (printed_text t)) (document_once o u known.0 w (spaces_value o known.0 puts known.2) value) known.1
