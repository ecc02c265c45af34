-- What a finding of a mended text has to be, so that it has a place in the text.
use Rattle.std.specs.Prelude.{◌≡◌, ◌≤◌, ℕ, List, ◌++◌, Option, Some, None, IsCharBoundary, IsUtf8, length}
use Rattle.std.specs.List.{All}
use Rattle.jsonc_text.specs.Options.{Options}
use Rattle.jsonc_mends.specs.Mends.{IsMended, mended_text}
use Rattle.jsonc_mends.specs.Places.{IsWrittenBy}
use Rattle.jsonc_mends.specs.declared.told.Mend.{Mend}
use Rattle.jsonc_mends.specs.declared.mends.Mends.{Mends}
use Rattle.jsonc_lint.specs.declared.finding.Finding.{Finding}
use Rattle.jsonc_lint.specs.declared.finding.FindingKind.{FindingKind}
use Rattle.jsonc_lint.specs.declared.finding.FindingKind.TheVariants.{Fault, RepeatedName, Todo, TrailingComma}
use Rattle.jsonc_lint.specs.Whole.{AreInText, IsInText}

module _ {A : Type 0} where
  -- the text has these mends, under some options
  pub record HasMends (text : List ℕ) (mends : Mends A) : Type 0 where
    pub utf8 : IsUtf8 text
    pub options : Options
    pub mended : IsMended options text mends

  -- it is no fault, and a first property begins between two characters of this text
  abbrev pub IsKindOf : List ℕ → FindingKind A → Type 0
  IsKindOf text (Fault kind) = ⊥
  IsKindOf text (RepeatedName name first) = IsCharBoundary text first.start
  IsKindOf text Todo = Unit {0}
  IsKindOf text TrailingComma = Unit {0}

  -- the finding is no fault, and lies in this text
  pub record LiesInText (text : List ℕ) (finding : Finding A) : Type 0 where
    pub kind : IsKindOf text finding.kind
    pub start : IsCharBoundary text finding.range.start
    pub end : finding.range.end ≤ length text

  abbrev pub AllLieIn : Mends A → List (Finding A) → Type 0
  AllLieIn mends found = All (LiesInText (mended_text mends)) found

  -- one change wrote its bytes, or this is the finding at places of the text
  abbrev pub IsSeen : List ℕ → List Mend → Finding A → Option (Finding A) → Type 0
  IsSeen text ms finding None = IsWrittenBy ms finding.range.start finding.range.end
  IsSeen text ms finding (Some here) = (IsWrittenBy ms finding.range.start finding.range.end → ⊥) × IsInText text ms finding here

  -- the findings at places of the text are added
  abbrev pub AreAdded : List ℕ → List Mend → List (Finding A) → List (Finding A) → List (Finding A) → Type 0
  AreAdded text ms found old new = (heres : List (Finding A)) × AreInText text ms found heres × (new ≡ old ++ heres)
