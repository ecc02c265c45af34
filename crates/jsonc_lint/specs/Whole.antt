-- What is found in a text, with faults or without: all faults, and what the rules say of its mended text.
use Rattle.std.specs.Prelude.{◌≡◌, ℕ, Bool, true, false, List, [], ◌∷◌, ◌++◌, Option, Some, None, chars}
use Rattle.jsonc_text.specs.Options.{Options}
use Rattle.jsonc_text.specs.Places.{LineColumn}
use Rattle.jsonc_mend.specs.declared.changes.Fault.{Fault}
use Rattle.jsonc_mend.specs.contracts.changes.FaultPartialEq.TheImpl as fault_eq
use Rattle.jsonc_mends.specs.Mends.{IsMended, mended_text}
use Rattle.jsonc_mends.specs.Places.{GoesBack, IsWrittenBy}
use Rattle.jsonc_mends.specs.declared.told.Mend.{Mend}
use Rattle.jsonc_mends.specs.declared.mends.Mends.{Mends}
use Rattle.jsonc_lint.specs.declared.finding.Finding.{Finding}
use Rattle.jsonc_lint.specs.declared.finding.FindingKind.{FindingKind}
use Rattle.jsonc_lint.specs.declared.finding.FindingKind.TheVariants as kinds
use Rattle.jsonc_lint.specs.declared.finding.FirstProperty.{FirstProperty}
use Rattle.jsonc_lint.specs.declared.rules.Rules.{Rules}
use Rattle.jsonc_lint.specs.Linted.{IsLinted}

-- the last fault, if there is one, equals this one
abbrev pub equals_last : Option Fault → Fault → Bool
equals_last None fault = false
equals_last (Some last) fault = (fault_eq.ghosts).eq last fault

-- the first property of a name, at the place of the text that goes with its place in the mended text
pub record IsFirstInText (text : List ℕ) (ms : List Mend) (first here : FirstProperty) : Type 0 where
  pub start : GoesBack ms first.start here.start
  pub position : LineColumn (chars text) here.start here.line here.column

module _ {A : Type 0} where
  -- the finding is the fault of this mend, at its bytes, line and column
  pub record TellsMend (m : Mend) (finding : Finding A) : Type 0 where
    pub kind : finding.kind ≡ kinds.Fault m.fault.kind
    pub range : finding.range ≡ m.fault.range
    pub line : finding.line ≡ m.at.line
    pub column : finding.column ≡ m.at.column

  -- The faults of these mends, in their order, where the last mend is for this fault, if there is one. A mend whose fault equals that of the mend before it is
  -- told with that one.
  pub data AreFaults : List Mend → Option Fault → List (Finding A) → Type 0 where
    no_mend : AreFaults [] None []
    again : {ms : List Mend} {last : Option Fault} {found : List (Finding A)} (m : Mend) → AreFaults ms last found → equals_last last m.fault ≡ true
        → AreFaults (ms ++ m ∷ []) (Some m.fault) found
    another : {ms : List Mend} {last : Option Fault} {found : List (Finding A)} (m : Mend) (finding : Finding A) → AreFaults ms last found → equals_last last m.fault ≡ false → TellsMend m finding
        → AreFaults (ms ++ m ∷ []) (Some m.fault) (found ++ finding ∷ [])

  abbrev pub TellFaults : List Mend → List (Finding A) → Type 0
  TellFaults ms found = (last : Option Fault) × AreFaults ms last found

  -- of a text, and its mends
  module _ (text : List ℕ) (ms : List Mend) where
    -- the same rule, and of a repeated name the same name
    abbrev pub IsKindInText : FindingKind A → FindingKind A → Type 0
    IsKindInText (kinds.RepeatedName name first) (kinds.RepeatedName same here) = (same ≡ name) × IsFirstInText text ms first here
    IsKindInText kinds.Todo kind = kind ≡ kinds.Todo
    IsKindInText kinds.TrailingComma kind = kind ≡ kinds.TrailingComma
    IsKindInText _ _ = ⊥

    -- a finding of the mended text, at the places of the text that go with its places
    pub record IsInText (finding here : Finding A) : Type 0 where
      pub kind : IsKindInText finding.kind here.kind
      pub start : GoesBack ms finding.range.start here.range.start
      pub end : GoesBack ms finding.range.end here.range.end
      pub position : LineColumn (chars text) here.range.start here.line here.column

    -- These findings of the mended text, in their order, at places of the text: each but those whose bytes one change wrote.
    pub data AreInText : List (Finding A) → List (Finding A) → Type 0 where
      none : AreInText [] []
      written : {found heres : List (Finding A)} (finding : Finding A) → AreInText found heres → IsWrittenBy ms finding.range.start finding.range.end → AreInText (found ++ finding ∷ []) heres
      one : {found heres : List (Finding A)} (finding here : Finding A) → AreInText found heres → (IsWrittenBy ms finding.range.start finding.range.end → ⊥) → IsInText finding here
          → AreInText (found ++ finding ∷ []) (heres ++ here ∷ [])

  -- The text has these mends. What is found are their faults, and then the findings of the mended text, at places of the text.
  pub record IsWhole (o : Options) (rules : Rules) (text : List ℕ) (found : List (Finding A)) : Type 0 where
    pub mends : Mends A
    pub mended : IsMended o text mends
    pub faults : List (Finding A)
    pub told : TellFaults mends.list.items faults
    pub inner : List (Finding A)
    pub linted : IsLinted o rules (mended_text mends) inner
    pub rest : List (Finding A)
    pub moved : AreInText text mends.list.items inner rest
    pub split : found ≡ faults ++ rest
