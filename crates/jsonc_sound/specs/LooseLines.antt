-- Laws of line comments that end with their lines, in an array or an object perhaps behind whitespace.
use Rattle.std.specs.Prelude.{◌↔◌, ℕ, List, ◌++◌, Bool, false, not, IsTrue}
use Rattle.jsonc_text.specs.Options.{Options}
use Rattle.jsonc_text.specs.Gaps.{Gap}
use Rattle.jsonc_tree.specs.OrderedTree.{OrderedTree, none, more, followed_by, Top}
use Rattle.jsonc_layout.specs.nodes.Kinds.{is_trivia}
use Rattle.jsonc_sound.specs.Lines.{is_loose, ends_loosely, LinesEndLoosely, DocumentLinesEndLoosely}
use Rattle.jsonc_sound.specs.Shape.{Trivia, printed_text}
use Rattle.jsonc_sound.specs.TreeChanges.{DocumentChanged}

-- the row is empty, or begins with no trivia
abbrev pub StartsNoTrivia : OrderedTree → Type 0
StartsNoTrivia none = Unit {0}
StartsNoTrivia (more content below after) = IsTrue (not (is_trivia content))

-- trivia whose line comments end so is a gap, up to what is no trivia
abbrev pub LooseTriviaIsGap : Options → Bool → OrderedTree → OrderedTree → Type 0
LooseTriviaIsGap o loose t r = Trivia o t r → StartsNoTrivia r → LinesEndLoosely loose false t → (z : List ℕ)
    → Gap o (printed_text t ++ z) (printed_text r ++ z)

-- where a value is replaced by one whose line comments end so, those of the document still do
abbrev pub StaysLoose : OrderedTree → Type 0
StaysLoose t = DocumentLinesEndLoosely t → (was now : Top) (path : List ℕ) (u : OrderedTree)
    → DocumentChanged was now path t u → LinesEndLoosely (is_loose now.content) false now.below
    → DocumentLinesEndLoosely u

-- those of two stretches do exactly where those of each do, where what ends a line first in the second serves the first
abbrev pub LooseLinesComeApart : Bool → Bool → OrderedTree → OrderedTree → Type 0
LooseLinesComeApart loose at_end first second
    = LinesEndLoosely loose at_end (followed_by first second)
    ↔ LinesEndLoosely loose (ends_loosely loose at_end second) first × LinesEndLoosely loose at_end second
