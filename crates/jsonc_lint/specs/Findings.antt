-- What is found at the nodes of a document: each rule, and the list of all findings.
use Rattle.std.specs.Prelude.{◌≡◌, ℕ, Bool, false, not, ◌==◌, ◌||◌, List, [], ◌∷◌, ◌++◌, Option, Some, None, IsTrue, codes, chars, string_bytes}
use Rattle.std.specs.List.{find, Contains}
use Rattle.std.specs.Str.Iter.{HasSubslice}
use Rattle.jsonc_text.specs.Places.{LineColumn}
use Rattle.jsonc_tree.specs.Content.{Content, comment, token}
use Rattle.jsonc_tree.specs.Siblings.{siblings_after}
use Rattle.jsonc_tree.specs.Tree.{Node, content_at, parent_at}
use Rattle.jsonc_layout.specs.nodes.Kinds.{is_trivia_at}
use Rattle.jsonc_layout.specs.nodes.Names.{IsNamed}
use Rattle.jsonc_cst.specs.Ranges.{IsBefore, PrintsRange}
use Rattle.jsonc_lint.specs.declared.finding.Finding.{Finding}
use Rattle.jsonc_lint.specs.declared.finding.FindingKind.{FindingKind}
use Rattle.jsonc_lint.specs.declared.finding.FindingKind.TheVariants.{Fault, RepeatedName, Todo, TrailingComma}
use Rattle.jsonc_lint.specs.declared.finding.FirstProperty.{FirstProperty}
use Rattle.jsonc_lint.specs.declared.rules.Rules.{Rules}

-- the node is a property of this name, and a child of this container
abbrev pub IsPropertyOf : List Node → ℕ → List ℕ → ℕ → Type 0
IsPropertyOf ns container v n = (parent_at ns n ≡ Some container) × IsNamed ns v n

-- the first of these nodes of which P is true
pub record IsFirst (P : ℕ → Type 0) (row : List ℕ) (n : ℕ) : Type 0 where
  pub before : List ℕ
  pub after : List ℕ
  pub split : row ≡ before ++ n ∷ after
  pub none_before : (m : ℕ) → Contains before m → P m → ⊥
  pub here : P n

-- The node is a property of this name, and one of the nodes before it in the document is a property of the name in the same object: this is the first of them. Names
-- within an object should be unique: RFC 8259, section 4.
abbrev pub Repeats : List Node → List ℕ → ℕ → List ℕ → ℕ → Type 0
Repeats ns before n v first = (object : ℕ) × IsPropertyOf ns object v n × IsFirst (IsPropertyOf ns object v) before first

-- the node is a comment whose text has TODO in it
abbrev pub SaysTodo : List Node → ℕ → Type 0
SaysTodo ns n = (s : List ℕ) × (content_at ns n ≡ comment s) × HasSubslice s (codes "TODO")

-- what is next to a node after all blanks, ends of lines and comments, if anything is
abbrev pub after_trivia : List Node → ℕ → Option ℕ
after_trivia ns n = find (λ m. not (is_trivia_at ns m)) (siblings_after ns n)

abbrev pub is_closing : Content → Bool
is_closing (token c) = c == 0x5D || c == 0x7D
is_closing _ = false

-- it is a closing bracket
abbrev pub closes : List Node → Option ℕ → Bool
closes ns None = false
closes ns (Some m) = is_closing (content_at ns m)

-- the node is a comma, and a closing bracket is next to it after all blanks, ends of lines and comments
abbrev pub IsTrailingComma : List Node → ℕ → Type 0
IsTrailingComma ns n = (content_at ns n ≡ token 0x2C) × IsTrue (closes ns (after_trivia ns n))

-- the node begins at this byte of the text t, which is in this line and column
pub record BeginsAt (ns : List Node) (t : List ℕ) (n : ℕ) (at : FirstProperty) : Type 0 where
  pub start : IsBefore ns n at.start
  pub position : LineColumn t at.start at.line at.column

module _ {A : Type 0} (rules : Rules) (ns : List Node) (t : List ℕ) where
  -- the rule of this kind is true of the node, where those are the nodes before it in the document
  abbrev pub IsOf : List ℕ → ℕ → FindingKind A → Type 0
  IsOf before n (Fault kind) = ⊥
  IsOf before n (RepeatedName name first) = (m : ℕ) × Repeats ns before n (chars (string_bytes name)) m × BeginsAt ns t m first
  IsOf before n Todo = SaysTodo ns n
  IsOf before n TrailingComma = IsTrue rules.trailing_commas × IsTrailingComma ns n

  -- the finding is of the node: its rule is true of it, and its bytes, line and column are those of the node
  pub record IsFinding (before : List ℕ) (n : ℕ) (finding : Finding A) : Type 0 where
    pub kind : IsOf before n finding.kind
    pub range : PrintsRange ns n finding.range.start finding.range.end
    pub position : LineColumn t finding.range.start finding.line finding.column

  -- The findings of these nodes, in their order: one of each node of which a rule is true, and none of any other.
  pub data AreFindings : List ℕ → List (Finding A) → Type 0 where
    none : AreFindings [] []
    nothing : {before : List ℕ} {found : List (Finding A)} (n : ℕ) → AreFindings before found → ((kind : FindingKind A) → IsOf before n kind → ⊥) → AreFindings (before ++ n ∷ []) found
    one : {before : List ℕ} {found : List (Finding A)} (n : ℕ) (finding : Finding A) → AreFindings before found → IsFinding before n finding → AreFindings (before ++ n ∷ []) (found ++ finding ∷ [])
