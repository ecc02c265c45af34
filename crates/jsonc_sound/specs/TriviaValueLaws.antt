-- Laws of changes of trivia: what is said of each change of a stretch of leaves in a document.
use Rattle.std.specs.Prelude.{List, Option}
use Rattle.jsonc_text.specs.Options.{Options}
use Rattle.jsonc_text.specs.Plain.{Plain}
use Rattle.jsonc_tree.specs.Content.{Content}
use Rattle.jsonc_tree.specs.OrderedTree.{OrderedTree, leaves}
use Rattle.jsonc_tree.specs.Values.{DocumentValueOf}
use Rattle.jsonc_sound.specs.ChangeLaws.{DiffersIn}
use Rattle.jsonc_sound.specs.TriviaChanges.{AreTrivia, StretchChanged}

-- where trivia is replaced by trivia, the document has the value that it had, or none as before
abbrev pub KeepsValue : Options → OrderedTree → Option Plain → Type 0
KeepsValue o t w = DocumentValueOf o t w → (was now : List Content) (u : OrderedTree) → StretchChanged was now t u
    → AreTrivia was → AreTrivia now → DocumentValueOf o u w

-- where trivia is replaced by trivia, all other leaves stay, in order
abbrev pub KeepsOtherLeaves : OrderedTree → Type 0
KeepsOtherLeaves t = (was now : List Content) (u : OrderedTree) → StretchChanged was now t u → AreTrivia was
    → AreTrivia now → DiffersIn was now (leaves t) (leaves u)
