-- What a pointer refers to in a document that was read.
use Rattle.std.proofs.Common.{◌≡◌, ◌++◌, ◌∷◌, [], ℕ, List, None, Option, Some, String, chars, inl, inr, refl}
use Rattle.jsonc_text.specs.Documents.{Document}
use Rattle.jsonc_text.specs.Grammar.{IsDocument}
use Rattle.jsonc_text.specs.Options.{Options}
use Rattle.jsonc_text.specs.Plain.{Plain}
use Rattle.jsonc_tree.specs.OrderedTree.{ordered_tree, printed}
use Rattle.jsonc_tree.specs.Tree.{Node}
use Rattle.jsonc_tree.specs.Values.{DocumentValueOf}
use Rattle.jsonc_sound.specs.Documents.{Shows, ShowsText, document_of}
use Rattle.jsonc_sound.specs.Shape.{printed_text}
use Rattle.jsonc_sound.specs.SoundTrees.{SoundTree}
use Rattle.jsonc_sound.proofs.ShapeValues.{document_printed}
use Rattle.jsonc_cst.specs.declared.cst.CstRootNode.{CstRootNode}
use Rattle.jsonc_cst.specs.declared.cst.node.CstNode.{CstNode}
use Rattle.jsonc_cst.specs.Document.{nodes_of, printed_of, tree_of}
use Rattle.jsonc_cst.specs.Nodes.{number_of}
use Rattle.jsonc_parser.specs.patch.Found.{FindFails, Finds, IsOfShown}
use Rattle.jsonc_parser.specs.declared.patch.reference.FindError.TheVariants as error
use Rattle.jsonc_text.specs.declared.edit.EditError.TheVariants.{OutOfMemory}
use Rattle.jsonc_engine.specs.Command.{find}
use Rattle.jsonc_engine.specs.Fault.{IsFaultOn}
use Rattle.jsonc_engine.specs.Finding.{IsFound, IsParsed, IsPointer, OfPointer}
use Rattle.jsonc_engine.specs.declared.fault.Fault.TheVariants.{Edit, NoSuchValue, RepeatedName}

-- a sound document shows the one that it prints
pub shows_text : {A : Type 0} (o : Options) (doc : CstRootNode A) → SoundTree o (tree_of doc) → ShowsText o (chars (printed_of doc)) (tree_of doc)
shows_text o doc sound =
    let text : (w : Option Plain) × IsDocument o (printed_text (tree_of doc)) w × DocumentValueOf o (tree_of doc) w = document_printed o (tree_of doc) sound.shaped sound.lines in
    let shown : Shows (document_of o (tree_of doc) text.0) (tree_of doc) = record { sound = sound; value = text.2; is = refl } in
    (document_of o (tree_of doc) text.0, refl, refl, shown)

module _ {A : Type 0} (o : Options) (words : List ℕ) (doc : CstRootNode A) (tokens : List (List ℕ)) (pointer : IsPointer words tokens) (sound : SoundTree o (tree_of doc)) where
  shows : ShowsText o (chars (printed_of doc)) (tree_of doc)
  shows = shows_text o doc sound

  parsed : IsParsed o (printed_of doc) shows.0 (nodes_of doc)
  parsed = record { options = shows.1; text = shows.2; shown = shows.3 }

  of_it : (is_so : Document → List Node → List (List ℕ) → Type 0) → is_so shows.0 (nodes_of doc) tokens → OfPointer o words (printed_of doc) is_so
  of_it is_so h = record { tokens = tokens; pointer = pointer; document = shows.0; nodes = nodes_of doc; parsed = parsed; so = h }

  pub found_there : (node : CstNode) (output : List ℕ) → IsOfShown doc (λ d. Finds d doc tokens (Some node)) → output ≡ printed (ordered_tree (nodes_of doc) (number_of node)) ++ 0x0A ∷ []
      → IsFound o words (printed_of doc) output
  found_there node output h prints = record {
    tokens = tokens;
    pointer = pointer;
    document = shows.0;
    nodes = nodes_of doc;
    parsed = parsed;
    node = number_of node;
    refers = h shows.0 shows.3;
    prints = prints;
  }

  pub nothing_there : IsOfShown doc (λ d. Finds d doc tokens None) → IsFaultOn {A = A} o (find words) (printed_of doc) NoSuchValue
  nothing_there h = of_it _ (h shows.0 shows.3)

  pub repeated_there : (name : String A) → IsOfShown doc (λ d. FindFails d doc tokens (error.RepeatedName name)) → IsFaultOn {A = A} o (find words) (printed_of doc) (RepeatedName name)
  repeated_there name h = of_it _ (h shows.0 shows.3)

  -- for what allocation failed
  pub memory_finding : IsOfShown doc (λ d. FindFails d doc tokens error.OutOfMemory) → IsFaultOn {A = A} o (find words) (printed_of doc) (Edit OutOfMemory)
  memory_finding h = of_it _ (inl (h shows.0 shows.3))

  pub memory_showing : (node : CstNode) → IsOfShown doc (λ d. Finds d doc tokens (Some node)) → IsFaultOn {A = A} o (find words) (printed_of doc) (Edit OutOfMemory)
  memory_showing node h = of_it _ (inr (number_of node, h shows.0 shows.3))
