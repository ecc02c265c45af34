-- How deep the documents of a chain of edits are nested, and what an edit needs by the nodes above its place.
use Rattle.std.specs.Prelude.{ℕ, ◌≡◌, ◌≤◌, max, List, Option}
use Rattle.jsonc_text.specs.Documents.{Document}
use Rattle.jsonc_text.specs.Options.{Options}
use Rattle.jsonc_text.specs.Plain.{Plain}
use Rattle.jsonc_tree.specs.OrderedTree.{ordered_tree}
use Rattle.jsonc_tree.specs.Tree.{Node, IsTree}
use Rattle.jsonc_tree.specs.Values.{DocumentValueOf}
use Rattle.jsonc_edit.specs.Paths.{IsAt}
use Rattle.jsonc_run.specs.Depth.{around_in, levels_in, needs, needs_in, needs_at, nesting_at, IsNoDeeper}
use Rattle.jsonc_run.specs.Edits.{PlainEdit, place_of}
use Rattle.jsonc_run.specs.Named.{Asks}
use Rattle.jsonc_run.specs.Places.{AtPlace}
use Rattle.jsonc_run.specs.declared.edit.Edit.{Edit}
use Rattle.jsonc_run.specs.promise.Asked.{EditsTo, none_asked, one_asked}
use Rattle.jsonc_run.specs.texts.Edits.{Operation}

-- each edit of the chain writes, in the document where it is made, nothing that is nested deeper than the limit
abbrev pub NeedNoMore : {A : Type 0} {d f : Document} {es : List (Edit A)} → ℕ → EditsTo d es f → Type 0
NeedNoMore limit (none_asked is) = Unit {0}
NeedNoMore limit (one_asked {d = d} order op place asks run rest) = (needs d.value op ≤ limit) × NeedNoMore limit rest

-- no document of the chain is nested deeper than the limit
abbrev pub AreNoDeeper : {A : Type 0} {d f : Document} {es : List (Edit A)} → ℕ → EditsTo d es f → Type 0
AreNoDeeper limit (none_asked {d = d} is) = IsNoDeeper limit d.value
AreNoDeeper limit (one_asked {d = d} order op place asks run rest) = IsNoDeeper limit d.value × AreNoDeeper limit rest

-- If no edit of a chain writes what is nested deeper than a limit, and the first document is not, then none of its documents is, and neither is the last one.
abbrev pub ChainsKeepDepth : {A : Type 0} (limit : ℕ) {d f : Document} {es : List (Edit A)} → EditsTo d es f → Type 0
ChainsKeepDepth limit {d} {f} chain = NeedNoMore limit chain → IsNoDeeper limit d.value → AreNoDeeper limit chain × IsNoDeeper limit f.value

-- the operation that an edit asks for needs no more than the edit; and where the edit needs more, because a value may stay, the document does
abbrev pub NeedsAsAsked : Option Plain → PlainEdit → Operation → Type 0
NeedsAsAsked w e op = Asks w e op → (needs w op ≤ needs_in w e) × (needs_in w e ≤ max (around_in w) (needs w op))

-- as many arrays, objects and properties are above the node at the path as are around the value there
abbrev pub NestsAsValue : Options → List Node → List ℕ → ℕ → Type 0
NestsAsValue o ns path n = IsTree ns → (w : Option Plain) → DocumentValueOf o (ordered_tree ns 0) w → IsAt ns path n → nesting_at ns n ≡ levels_in path w

-- so an edit needs at its place what it needs in the document's value
abbrev pub NeedsAtPlace : Options → List Node → PlainEdit → Type 0
NeedsAtPlace o ns e = IsTree ns → (w : Option Plain) → DocumentValueOf o (ordered_tree ns 0) w → (n : ℕ) → AtPlace ns (place_of e) (λ m. m ≡ n) → needs_at ns n e ≡ needs_in w e
