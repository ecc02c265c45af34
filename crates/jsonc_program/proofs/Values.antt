-- The value to which a pointer leads in a document that was read.
use Rattle.std.proofs.Common.{List, chars, ℕ}
use Rattle.jsonc_text.specs.Options.{Options}
use Rattle.jsonc_sound.specs.Documents.{ShowsText}
use Rattle.jsonc_cst.specs.declared.cst.CstRootNode.{CstRootNode}
use Rattle.jsonc_cst.specs.Document.{nodes_of, tree_of}
use Rattle.jsonc_parser.specs.patch.Found.{IsOfShown}
use Rattle.jsonc_engine.specs.Finding.{IsPointer}
use Rattle.jsonc_program.specs.Values.{PointsToNothing}
use Rattle.jsonc_program.specs.edit.Routes.{LeadsNowhere, tokens as by_tokens}

-- it leads to nothing in the document of the input, where it does so in whatever document is shown
pub pointed_nowhere : {A : Type 0} (o : Options) (text input : List ℕ) (doc : CstRootNode A) (ts : List (List ℕ)) → IsPointer text ts
    → ShowsText o (chars input) (tree_of doc) → IsOfShown doc (λ d. LeadsNowhere (by_tokens ts) d.value) → PointsToNothing o text input
pointed_nowhere o text input doc ts pointer shown led = record {
  tokens = ts;
  pointer = pointer;
  document = shown.0;
  nodes = nodes_of doc;
  parsed = record { options = shown.1; text = shown.2; shown = shown.3 };
  nothing = led shown.0 shown.3;
}
