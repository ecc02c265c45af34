-- What is found in a text.
use Rattle.std.specs.Prelude.{◌≡◌, ◌≢◌, ℕ, List, [], ◌∷◌, Vec, true, chars}
use Rattle.jsonc_text.specs.Options.{Options}
use Rattle.jsonc_text.specs.Faults.{IsFault, column_of, kind_of, line_of, range_of}
use Rattle.jsonc_text.specs.declared.errors.ParseError.{ParseError}
use Rattle.jsonc_text.specs.declared.errors.ParseErrorKind.TheVariants.{OutOfMemory}
use Rattle.jsonc_tree.specs.Order.{in_order}
use Rattle.jsonc_walk.specs.Faults.{ParseFault}
use Rattle.jsonc_walk.specs.Refusals.{RefusesText}
use Rattle.jsonc_sound.specs.Documents.{ShowsText}
use Rattle.jsonc_cst.specs.declared.cst.CstRootNode.{CstRootNode}
use Rattle.jsonc_cst.specs.Document.{nodes_of, printed_of, tree_of, HasNoDeeperValue, LiesIn}
use Rattle.jsonc_lint.specs.declared.finding.Finding.{Finding}
use Rattle.jsonc_lint.specs.declared.finding.FindingKind.TheVariants.{Fault}
use Rattle.jsonc_lint.specs.declared.rules.Rules.{Rules}
use Rattle.jsonc_lint.specs.Findings.{AreFindings}

-- The fault is that of the text under these options: it has no document, and reading stops with this fault there.
pub record IsFaultOf (o : Options) (text : List ℕ) (e : ParseError) : Type 0 where
  pub refused : RefusesText o text e
  pub place : IsFault text e
  pub fault : ParseFault o text true e
  pub memory : kind_of e ≢ OutOfMemory

module _ {A : Type 0} where
  -- the finding is this fault, at its bytes, line and column
  pub record TellsFault (e : ParseError) (finding : Finding A) : Type 0 where
    pub kind : finding.kind ≡ Fault (kind_of e)
    pub range : finding.range ≡ range_of e
    pub line : finding.line ≡ line_of e
    pub column : finding.column ≡ column_of e

  -- The document is that of the text under these options, whose value is not nested too deep: it prints the text, is sound with the text's value and marks, and lies
  -- in the text node by node.
  pub record IsDocumentOf (o : Options) (text : List ℕ) (d : CstRootNode A) : Type 0 where
    pub printed : printed_of d ≡ text
    pub within : HasNoDeeperValue o text
    pub shows : ShowsText o (chars text) (tree_of d)
    pub lies : LiesIn o text (tree_of d)

  -- These are the findings of the text: its fault alone, where it has no document; or those of the nodes of its document, in their order.
  pub data IsLinted (o : Options) (rules : Rules) (text : List ℕ) : List (Finding A) → Type 0 where
    refused : (e : ParseError) (finding : Finding A) → IsFaultOf o text e → TellsFault e finding → IsLinted o rules text (finding ∷ [])
    read : (d : CstRootNode A) (found : List (Finding A)) → IsDocumentOf o text d → AreFindings rules (nodes_of d) (chars text) (in_order (nodes_of d) 0) found → IsLinted o rules text found

  -- this fault alone is found
  abbrev pub IsFaultAlone : ParseError → Vec (Finding A) A → Type 0
  IsFaultAlone e found = (finding : Finding A) × (found.items ≡ finding ∷ []) × TellsFault e finding
