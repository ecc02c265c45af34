-- Laws of what nodes give.
use Rattle.std.specs.Prelude.{◌≡◌, Option, Some}
use Rattle.jsonc_text.specs.Options.{Options}
use Rattle.jsonc_text.specs.Plain.{Plain}
use Rattle.jsonc_tree.specs.Content.{Content}
use Rattle.jsonc_tree.specs.OrderedTree.{OrderedTree}
use Rattle.jsonc_tree.specs.Values.{ValueOf, DocumentValueOf}
use Rattle.jsonc_layout.specs.to_input.Given.{Gives, HaveColons}
use Rattle.jsonc_layout.specs.to_input.Taken.{TreeGives}

-- a node gives one value or none, and no two
abbrev pub GivesOnce : Content → OrderedTree → Type 0
GivesOnce content below = (v w : Option Plain) → Gives content below v → Gives content below w → v ≡ w

-- where a node has a value, and each property below it its name with a colon behind it, it gives that value
abbrev pub GivesItsValue : Options → Content → OrderedTree → Type 0
GivesItsValue o content below = (v : Plain) → ValueOf o content below v → HaveColons below → Gives content below (Some v)

-- a document gives its value, or none
abbrev pub GivesDocumentValue : Options → OrderedTree → Type 0
GivesDocumentValue o tree = (found : Option Plain) → DocumentValueOf o tree found → HaveColons tree → TreeGives tree found
