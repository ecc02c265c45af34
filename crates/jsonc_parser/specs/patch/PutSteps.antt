-- How far tokens lead in a document, one after another, and what is to be written there.
use Rattle.std.specs.Prelude.{◌≡◌, ◌⊎◌, ◌<◌, ◌+◌, ◌++◌, ◌∷◌, [], ℕ, List, length, drop, Option, Some, None, true}
use Rattle.std.specs.List.{All}
use Rattle.jsonc_text.specs.Documents.{Document}
use Rattle.jsonc_text.specs.Plain.{Plain}
use Rattle.jsonc_text.specs.declared.edit.EditError.TheVariants.{NestingDepthExceeded, OutOfMemory}
use Rattle.jsonc_text.specs.declared.edit.Over.{Over}
use Rattle.jsonc_tree.specs.OrderedTree.{ordered_tree}
use Rattle.jsonc_tree.specs.Content.{object, property}
use Rattle.jsonc_tree.specs.Tree.{Node, content_at}
use Rattle.jsonc_sound.specs.Documents.{Shows}
use Rattle.jsonc_edit.specs.Paths.{IsAt, IsElementOf}
use Rattle.jsonc_run.specs.declared.edit.Edit.{Edit}
use Rattle.jsonc_run.specs.Edits.{is_whole, operation_of, unsorted}
use Rattle.jsonc_cst.specs.declared.cst.CstRootNode.{CstRootNode}
use Rattle.jsonc_cst.specs.declared.cst.node.CstNode.{CstNode}
use Rattle.jsonc_cst.specs.Document.{nodes_of, HasNode}
use Rattle.jsonc_cst.specs.Nodes.{number_of}
use Rattle.jsonc_parser.specs.paths.Calls.{FitsAt}
use Rattle.jsonc_parser.specs.patch.Found.{IsOfShown}
use Rattle.jsonc_parser.specs.patch.Putting.{IsPutBy, LeadsFirst, MayBeIndex, Stops}
use Rattle.jsonc_parser.specs.patch.PutCalls.{LeadsToNode}
use Rattle.jsonc_parser.specs.declared.patch.entry.Entry.{Entry}
use Rattle.jsonc_parser.specs.declared.patch.entry.Entry.TheVariants as entries
use Rattle.jsonc_parser.specs.declared.patch.entry.Led.{Led}
use Rattle.jsonc_parser.specs.declared.patch.entry.Led.TheVariants as led
use Rattle.jsonc_parser.specs.declared.patch.entry.Stop.{Stop}
use Rattle.jsonc_parser.specs.declared.patch.putting.PutError.{PutError}
use Rattle.jsonc_parser.specs.declared.patch.putting.PutError.TheVariants as errors

-- from the value w of the node n the token leads over one position, at which the node has r, a property if n is an object
pub record EntersAt (ns : List Node) (n : ℕ) (w : Plain) (token : List ℕ) (r : ℕ) : Type 0 where
  pub place : ℕ
  pub v : Plain
  pub leads : LeadsFirst w (token ∷ []) (place ∷ []) v
  pub is : IsElementOf ns n place r
  pub kind : content_at ns n ≡ object → content_at ns r ≡ property

-- the tokens before the one of this number lead to the node, from whose value it leads to nothing, for this cause
pub record StopsAtNode (d : Document) (ns : List Node) (tokens : List (List ℕ)) (n number : ℕ) (stop : Stop) : Type 0 where
  pub front : List (List ℕ)
  pub token : List ℕ
  pub rest : List (List ℕ)
  pub split : tokens ≡ front ++ token ∷ rest
  pub is : number ≡ length front
  pub leads : LeadsToNode d ns front n
  pub stops : Stops stop token leads.v

module _ {A : Type 0} where
  -- what a token leads to from a node to which tokens lead
  abbrev pub Enters : CstRootNode A → CstNode → List ℕ → Entry → Type 0
  Enters doc node token (entries.There entry) = (d : Document) (tokens : List (List ℕ)) → Shows d (ordered_tree (nodes_of doc) 0) → (w : LeadsToNode d (nodes_of doc) tokens (number_of node))
      → EntersAt (nodes_of doc) (number_of node) w.v token (number_of entry)
  Enters doc node token (entries.Stops stop) = (d : Document) (tokens : List (List ℕ)) → Shows d (ordered_tree (nodes_of doc) 0) → (w : LeadsToNode d (nodes_of doc) tokens (number_of node))
      → Stops stop token w.v

  -- so it is of a value that is reached with it
  abbrev pub StepsTo : CstRootNode A → CstNode → List ℕ → Entry → Type 0
  StepsTo doc node token (entries.There inner) = (d : Document) (tokens : List (List ℕ)) → Shows d (ordered_tree (nodes_of doc) 0) → LeadsToNode d (nodes_of doc) tokens (number_of node)
      → LeadsToNode d (nodes_of doc) (tokens ++ token ∷ []) (number_of inner)
  StepsTo doc node token (entries.Stops stop) = (d : Document) (tokens : List (List ℕ)) → Shows d (ordered_tree (nodes_of doc) 0) → (w : LeadsToNode d (nodes_of doc) tokens (number_of node))
      → Stops stop token w.v

  abbrev pub EntryHolds : CstRootNode A → Entry → Type 0
  EntryHolds doc (entries.There node) = HasNode doc node
  EntryHolds doc (entries.Stops stop) = Unit {0}

  -- how far all of them lead
  abbrev pub IsLed : CstRootNode A → List (List ℕ) → Led → Document → Type 0
  IsLed doc tokens led.Nothing d = d.value ≡ None
  IsLed doc tokens (led.To node) d = LeadsToNode d (nodes_of doc) tokens (number_of node)
  IsLed doc tokens (led.Stops node number stop) d = StopsAtNode d (nodes_of doc) tokens (number_of node) number stop

  abbrev pub LedHolds : CstRootNode A → ℕ → Led → Type 0
  LedHolds doc count led.Nothing = Unit {0}
  LedHolds doc count (led.To node) = HasNode doc node
  LedHolds doc count (led.Stops node number stop) = HasNode doc node × (number < count)

  -- the edit puts v, whatever the tree shows
  abbrev pub IsChosen : CstRootNode A → Plain → Over → List (List ℕ) → Edit A → Type 0
  IsChosen doc v over tokens edit = (is_whole edit ≡ true) × IsOfShown doc (λ d. IsPutBy v over d.value tokens (operation_of unsorted edit))

-- of these tokens the one of this number is the first that may be an index
abbrev pub IsFirstIndex : List (List ℕ) → ℕ → Type 0
IsFirstIndex tokens number =
    (names : List (List ℕ)) × (token : List ℕ) × (rest : List (List ℕ)) × (tokens ≡ names ++ token ∷ rest) × All (λ name. ¬ (MayBeIndex name)) names × MayBeIndex token × (number ≡ length names)

-- Why v is not nested by these tokens, before which are so many others: the one of this number among all may be an index. Or none of them may, and v would be nested too deep, or
-- memory is lacking.
abbrev pub IsUnnested : List (List ℕ) → ℕ → Plain → PutError → Type 0
IsUnnested tokens before v (errors.AmbiguousToken number) = (k : ℕ) × IsFirstIndex tokens k × (number ≡ before + k)
IsUnnested tokens before v (errors.Edit NestingDepthExceeded) = All (λ name. ¬ (MayBeIndex name)) tokens × ¬ (FitsAt tokens v)
IsUnnested tokens before v (errors.Edit OutOfMemory) = All (λ name. ¬ (MayBeIndex name)) tokens
IsUnnested tokens before v error = ⊥

module _ {A : Type 0} where
  -- so it is, or the node has no path
  abbrev pub IsUnprepared : CstRootNode A → CstNode → List (List ℕ) → ℕ → Plain → PutError → Type 0
  IsUnprepared doc node tokens before v error = IsUnnested tokens before v error ⊎ ((path : List ℕ) → IsAt (nodes_of doc) path (number_of node) → ⊥)
