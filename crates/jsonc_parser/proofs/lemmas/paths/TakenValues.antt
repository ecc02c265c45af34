-- What is taken of a node that names lead to represents its value.
use Rattle.std.proofs.Common.{◌≡◌, ◌∙◌, ℕ, List, Option, Some, None, Result, Ok, Err, IfOk, option_map, sym, ap, subst}
use Rattle.jsonc_text.specs.Documents.{Document}
use Rattle.jsonc_text.specs.Plain.{Plain, collapse}
use Rattle.jsonc_layout.specs.input.Views.{plain}
use Rattle.jsonc_layout.specs.declared.input.value.CstInputValue.{CstInputValue}
use Rattle.jsonc_tree.specs.Content.{Content}
use Rattle.jsonc_tree.specs.OrderedTree.{OrderedTree, none, more, ordered_tree}
use Rattle.jsonc_tree.specs.Tree.{Node, content_at, IsTree}
use Rattle.jsonc_layout.specs.to_input.Given.{Gives}
use Rattle.jsonc_layout.specs.to_input.Taken.{IsTaken}
use Rattle.jsonc_layout.proofs.lemmas.to_input.ReadValues.{value_gives}
use Rattle.jsonc_layout.proofs.lemmas.to_input.OneValue.{gives_once}
use Rattle.jsonc_sound.specs.Documents.{Shows}
use Rattle.jsonc_sound.proofs.HeldValues.{document_held}
use Rattle.jsonc_sound.specs.Sound.{HasValue}
use Rattle.jsonc_edit.specs.Changes.{row_below, top_at}
use Rattle.jsonc_edit.specs.Paths.{IsAt}
use Rattle.jsonc_edit.proofs.OneValue.{document_once}
use Rattle.jsonc_edit.proofs.SoundValues.{some_value_of}
use Rattle.jsonc_cst.specs.declared.cst.CstRootNode.{CstRootNode}
use Rattle.jsonc_cst.specs.declared.cst.node.CstNode.{CstNode}
use Rattle.jsonc_cst.specs.Document.{nodes_of}
use Rattle.jsonc_cst.specs.Nodes.{number_of}
use Rattle.jsonc_cst.specs.Values.{IsValueTaken}
use Rattle.jsonc_cst.proofs.Colons.{value_colons}
use Rattle.jsonc_insert.proofs.lemmas.named.PathValues.{gives_way_to_itself, value_at_path}
use Rattle.jsonc_parser.specs.paths.AtPaths.{NodesHaveValues}
use Rattle.jsonc_parser.specs.paths.Found.{FindsWhatShown, Reads, ReadsWhatShown}
use Rattle.jsonc_parser.specs.paths.NamedNodes.{NamesNode}
use Rattle.jsonc_parser.specs.declared.paths.which.Which.TheVariants.{First}

module _ (d : Document) (ns : List Node) (tree : IsTree ns) (shown : Shows d (ordered_tree ns 0)) where
  -- it gives its value, as a node of a document of the grammar
  pub gives_value : (path : List ℕ) (n : ℕ) (v : Plain) → IsAt ns path n → HasValue d.options (top_at ns n) v → Gives (content_at ns n) (row_below ns n) (Some v)
  gives_value path n v at has = value_gives has (value_colons d.options (document_held d.options (gives_way_to_itself ns tree path n at) shown.sound.shaped).1)

  taken_there : {A : Type 0} (path : List ℕ) (n : ℕ) (v : Plain) → IsAt ns path n → HasValue d.options (top_at ns n) v → (taken : Option (CstInputValue A)) → IsTaken (ordered_tree ns n) taken → option_map plain taken ≡ Some (collapse v)
  unfolding ordered_tree
  taken_there path n v at has taken is =
      let theirs = is.gives in
      let same_tree : more theirs.0 theirs.1 none ≡ more (content_at ns n) (row_below ns n) none = sym theirs.2 in
      let what : theirs.0 ≡ content_at ns n = cc in
      let row : theirs.1 ≡ row_below ns n = cc in
      let over : Gives (content_at ns n) theirs.1 is.given = subst (λ (c : Content). Gives c theirs.1 is.given) what theirs.3 in
      let here : Gives (content_at ns n) (row_below ns n) is.given = subst (λ (r : OrderedTree). Gives (content_at ns n) r is.given) row over in
      is.collapsed ∙ ap (option_map collapse) (gives_once here (gives_value path n v at has))

  pub read_there : {A : Type 0} (names : List (List ℕ)) (n : ℕ) → NamesNode First d ns names n → (taken : Option (CstInputValue A)) → IsTaken (ordered_tree ns n) taken → Reads d names taken
  read_there names n w None is = absurd (let wrong : None ≡ Some (collapse w.v) = taken_there w.path n w.v w.at w.has None is in cc)
  read_there names n w (Some x) is = (w.v, w.there, (let same : Some (plain x) ≡ Some (collapse w.v) = taken_there w.path n w.v w.at w.has (Some x) is in cc))

-- the node at a path has its value
pub nodes_have_values : {A : Type 0} (d : Document) (ns : List Node) (path : List ℕ) (n : ℕ) → NodesHaveValues A d ns path n
nodes_have_values d ns path n tree shown at =
    let some = some_value_of d.options (gives_way_to_itself ns tree path n at) d.value shown.value in
    let held = value_at_path d.options ns tree path n at some.0 some.1 in
    let same : d.value ≡ Some some.0 = document_once d.options (ordered_tree ns 0) d.value (Some some.0) shown.value some.1 in
    record { x = some.0; is = same; v = held.value; there = held.at; has = held.has; taken = λ taken is. taken_there d ns tree shown path n held.value at held.has taken is }

-- what was answered of the node that was found
pub read_result : {A E : Type 0} (doc : CstRootNode A) (node : CstNode) (names : List (List ℕ)) (r : Result (Option (CstInputValue A)) E) → IsTree (nodes_of doc) → IfOk r (IsValueTaken doc node) → FindsWhatShown doc names (Some node)
    → IfOk r (ReadsWhatShown doc names)
read_result doc node names (Ok taken) tree is found = λ d shown. read_there d (nodes_of doc) tree shown names (number_of node) (found d shown) taken is
read_result doc node names (Err e) tree is found = tt
