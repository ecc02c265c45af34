-- What is found at one node.
use Rattle.std.specs.Prelude.{◌≡◌, ◌<◌, ◌^◌, ℕ, List, [], ◌∷◌, ◌++◌, length, Option, Some, None, String, IsCharBoundary, IsTrue, codes}
use Rattle.std.specs.HashMap.{HashMap}
use Rattle.std.specs.Str.Iter.{HasSubslice}
use Rattle.jsonc_tree.specs.OrderedTree.{ordered_tree, printed}
use Rattle.jsonc_tree.specs.Tree.{Node}
use Rattle.jsonc_cst.specs.Ranges.{IsBefore}
use Rattle.jsonc_lint.specs.declared.finding.Finding.{Finding}
use Rattle.jsonc_lint.specs.declared.finding.FindingKind.{FindingKind}
use Rattle.jsonc_lint.specs.declared.finding.FindingKind.TheVariants.{Todo, TrailingComma}
use Rattle.jsonc_lint.specs.declared.rules.Rules.{Rules}
use Rattle.jsonc_lint.specs.Findings.{IsFinding, IsOf, IsTrailingComma}
use Rattle.jsonc_lint.specs.SeenNames.{Knows}

-- the nodes print this text, which memory can count, and each begins between two characters of it
pub record PrintsText (ns : List Node) (text : List ℕ) : Type 0 where
  pub printed : printed (ordered_tree ns 0) ≡ text
  pub small : length text < 2 ^ 64
  pub boundary : (n start : ℕ) → IsBefore ns n start → IsCharBoundary text start

-- the rule of comments is true of this text, or it is not
abbrev pub IsCommentKind : {A : Type 0} → List ℕ → Option (FindingKind A) → Type 0
IsCommentKind text None = HasSubslice text (codes "TODO") → ⊥
IsCommentKind text (Some kind) = (kind ≡ Todo) × HasSubslice text (codes "TODO")

-- the rule of tokens that is asked for is true of the node, or it is not
abbrev pub IsTokenKind : {A : Type 0} → Rules → List Node → ℕ → Option (FindingKind A) → Type 0
IsTokenKind rules ns n None = IsTrue rules.trailing_commas → IsTrailingComma ns n → ⊥
IsTokenKind rules ns n (Some kind) = (kind ≡ TrailingComma) × IsTrue rules.trailing_commas × IsTrailingComma ns n

module _ {A : Type 0} (rules : Rules) (ns : List Node) (t : List ℕ) where
  -- what is found is true of the node, or no rule is
  abbrev pub IsAnswer : List ℕ → ℕ → Option (FindingKind A) → Type 0
  IsAnswer before n None = (kind : FindingKind A) → IsOf rules ns t before n kind → ⊥
  IsAnswer before n (Some kind) = IsOf rules ns t before n kind

  -- the same with the place
  abbrev pub IsPlacedAnswer : List ℕ → ℕ → Option (Finding A) → Type 0
  IsPlacedAnswer before n None = (kind : FindingKind A) → IsOf rules ns t before n kind → ⊥
  IsPlacedAnswer before n (Some finding) = IsFinding rules ns t before n finding

  module _ {S : Type 0} (n : ℕ) (old new : HashMap (ℕ × String A) ℕ S) where
    -- whatever nodes the names are those of, this is found at the node, and the names become those of these nodes and this one
    abbrev pub IsKindFound : Option (FindingKind A) → Type 0
    IsKindFound answer = (before : List ℕ) → Knows ns before old → IsAnswer before n answer × Knows ns (before ++ n ∷ []) new

    abbrev pub IsFound : Option (Finding A) → Type 0
    IsFound answer = (before : List ℕ) → Knows ns before old → IsPlacedAnswer before n answer × Knows ns (before ++ n ∷ []) new
