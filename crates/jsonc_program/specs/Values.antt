-- The value at a place.
use Rattle.std.specs.Borrow.{Bor}
use Rattle.std.specs.Prelude.{◌≡◌, ◌⊎◌, ◌++◌, ◌∷◌, [], ℕ, Bool, true, false, List, chars}
use Rattle.jsonc_text.specs.Documents.{Document}
use Rattle.jsonc_text.specs.Options.{Options}
use Rattle.jsonc_text.specs.Plain.{Plain}
use Rattle.jsonc_tree.specs.OrderedTree.{ordered_tree, printed}
use Rattle.jsonc_tree.specs.Tree.{Node}
use Rattle.jsonc_edit.specs.Paths.{IsAt}
use Rattle.jsonc_engine.specs.Change.{IsGot}
use Rattle.jsonc_engine.specs.Finding.{IsParsed, IsPointer}
use Rattle.jsonc_engine.specs.declared.command.Place.{Place}
use Rattle.jsonc_engine.specs.declared.command.Place.TheVariants.{Names, Pointer}
use Rattle.jsonc_engine.specs.declared.fault.Fault.TheVariants.{NoSuchValue}
use Rattle.jsonc_parser.specs.patch.Putting.{LeadsAlong}
use Rattle.jsonc_program.specs.Raw.{IsRaw}
use Rattle.jsonc_program.specs.declared.edit.fault.EditFault.{EditFault}
use Rattle.jsonc_program.specs.declared.edit.fault.EditFault.TheVariants.{Engine}
use Rattle.jsonc_program.specs.edit.Faults.{IsFaultOfInput, IsFaultOfPlace, IsForMemory}
use Rattle.jsonc_program.specs.edit.Routes.{LeadsNowhere, tokens as by_tokens}

-- The output is the value to which the pointer leads in the document of the input, as it is written there, and a line feed. Of equal names the first leads on.
pub record IsPointed (o : Options) (text input output : List ℕ) : Type 0 where
  pub tokens : List (List ℕ)
  pub pointer : IsPointer text tokens
  pub document : Document
  pub nodes : List Node
  pub parsed : IsParsed o input document nodes
  pub path : List ℕ
  pub value : Plain
  pub leads : LeadsAlong document.value tokens path value
  pub node : ℕ
  pub at : IsAt nodes path node
  pub prints : output ≡ printed (ordered_tree nodes node) ++ 0x0A ∷ []

-- it leads to nothing there
pub record PointsToNothing (o : Options) (text input : List ℕ) : Type 0 where
  pub tokens : List (List ℕ)
  pub pointer : IsPointer text tokens
  pub document : Document
  pub nodes : List Node
  pub parsed : IsParsed o input document nodes
  pub nothing : LeadsNowhere (by_tokens tokens) document.value

-- the fault is true of the pointer, or of the input, or nothing is there, or memory is lacking
abbrev pub IsNotPointed : {A : Type 0} → Options → Bor (List ℕ) → List ℕ → EditFault A → Type 0
IsNotPointed o text input fault = IsFaultOfPlace (Pointer text) fault ⊎ (IsFaultOfInput o input fault
    ⊎ (((fault ≡ Engine NoSuchValue) × PointsToNothing o text.now input) ⊎ IsForMemory fault))

-- the value at a place, as it is written
abbrev pub IsWrittenAt : Options → Place → List ℕ → List ℕ → Type 0
IsWrittenAt o (Names names) input written = IsGot o names.now input written
IsWrittenAt o (Pointer pointer) input written = IsPointed o pointer.now input written

-- or raw
abbrev pub IsValueText : Options → Place → Bool → List ℕ → List ℕ → Type 0
IsValueText o place false input text = IsWrittenAt o place input text
IsValueText o place true input text = (written : List ℕ) × IsWrittenAt o place input written × IsRaw o written text
