-- A value put where a pointer leads in a document that a tree shows, and the entry to which a pointer leads there.
use Rattle.std.specs.Prelude.{◌≡◌, ◌⊎◌, ◌<◌, ◌+◌, ◌++◌, ◌∷◌, [], ℕ, List, length, drop, Option, Some, None, true}
use Rattle.std.specs.List.{All}
use Rattle.jsonc_text.specs.Documents.{Document}
use Rattle.jsonc_text.specs.Plain.{Plain}
use Rattle.jsonc_text.specs.declared.edit.EditError.{EditError}
use Rattle.jsonc_text.specs.declared.edit.EditError.TheVariants.{NestingDepthExceeded, OutOfMemory}
use Rattle.jsonc_text.specs.declared.edit.Over.{Over}
use Rattle.jsonc_text.specs.declared.edit.Over.TheVariants.{Keep}
use Rattle.jsonc_tree.specs.OrderedTree.{ordered_tree}
use Rattle.jsonc_tree.specs.Tree.{Node}
use Rattle.jsonc_layout.specs.nodes.Names.{HoldsEscapedName}
use Rattle.jsonc_sound.specs.Documents.{Shows}
use Rattle.jsonc_sound.specs.Sound.{HasValue}
use Rattle.jsonc_edit.specs.Changes.{top_at}
use Rattle.jsonc_edit.specs.Paths.{IsAt, IsElementOf}
use Rattle.jsonc_edit.specs.Writing.{IsOfNumbers}
use Rattle.jsonc_run.specs.Depth.{needs_in}
use Rattle.jsonc_run.specs.Edits.{EditStep, PlainEdit}
use Rattle.jsonc_run.specs.Named.{Asks}
use Rattle.jsonc_run.specs.promise.Within.{StaysWithin}
use Rattle.jsonc_run.specs.texts.Edits.{Operation, Run}
use Rattle.jsonc_cst.specs.declared.cst.CstRootNode.{CstRootNode}
use Rattle.jsonc_cst.specs.declared.cst.node.CstNode.{CstNode}
use Rattle.jsonc_cst.specs.Document.{nodes_of}
use Rattle.jsonc_cst.specs.Nodes.{number_of}
use Rattle.jsonc_parser.specs.patch.Found.{IsOfShown}
use Rattle.jsonc_parser.specs.patch.Putting.{IsAmbiguousAt, IsPutBy, LeadsAlong, LeadsFirst, Puts, StopsAt}
use Rattle.jsonc_parser.specs.declared.patch.entry.Stop.TheVariants as stops
use Rattle.jsonc_parser.specs.declared.patch.putting.PutError.{PutError}
use Rattle.jsonc_parser.specs.declared.patch.putting.PutError.TheVariants as errors

-- In the document's value the tokens lead to v; and at the positions that they lead over is the node n, which has v.
pub record LeadsToNode (d : Document) (ns : List Node) (tokens : List (List ℕ)) (n : ℕ) : Type 0 where
  pub value : Plain
  pub is : d.value ≡ Some value
  pub v : Plain
  pub path : List ℕ
  pub leads : LeadsFirst value tokens path v
  pub at : IsAt ns path n
  pub has : HasValue d.options (top_at ns n) v

-- The tokens before the last lead to a container; from its value the last one leads to another, over one position; and the node n is the property or element of the container
-- at this position.
pub record IsEntryNode (d : Document) (ns : List Node) (tokens : List (List ℕ)) (n : ℕ) : Type 0 where
  pub front : List (List ℕ)
  pub last : List ℕ
  pub split : tokens ≡ front ++ last ∷ []
  pub container : ℕ
  pub to : LeadsToNode d ns front container
  pub place : ℕ
  pub v : Plain
  pub leads : LeadsFirst to.v (last ∷ []) (place ∷ []) v
  pub is : IsElementOf ns container place n

-- no tokens, or such as lead to nothing
abbrev pub HasNoEntry : Document → List (List ℕ) → Type 0
HasNoEntry d tokens = (path : List ℕ) (v : Plain) → LeadsAlong d.value tokens path v → tokens ≡ []

-- the tokens before one of these lead to an object that has a name with a backslash: to look up the next one there may take memory
pub record PassesEscaped (d : Document) (ns : List Node) (tokens : List (List ℕ)) : Type 0 where
  pub front : List (List ℕ)
  pub token : List ℕ
  pub rest : List (List ℕ)
  pub split : tokens ≡ front ++ token ∷ rest
  pub object : ℕ
  pub leads : LeadsToNode d ns front object
  pub escaped : HoldsEscapedName ns object

-- One edit leads from d to e, by the operation that it asks for, and in the value of e v is put where the tokens lead. A document within the depth stays so.
pub record IsPutIn (d : Document) (v : Plain) (over : Over) (tokens : List (List ℕ)) (edit : PlainEdit) (e : Document) : Type 0 where
  pub op : Operation
  pub asked : Asks d.value edit op
  pub edited : Run d (op ∷ []) e
  pub options : e.options ≡ d.options
  pub put : Puts v over d.value tokens e.value
  pub within : StaysWithin d e

module _ {A : Type 0} where
  -- the entry to which the tokens lead, or none
  abbrev pub FindsEntry : CstRootNode A → List (List ℕ) → Option CstNode → Document → Type 0
  FindsEntry doc tokens None d = HasNoEntry d tokens
  FindsEntry doc tokens (Some node) d = IsEntryNode d (nodes_of doc) tokens (number_of node)

  -- Of whatever document the old tree shows the one edit was made that puts v where the tokens lead; and if the numbers of v are numbers of the options, it is put so in a document
  -- that the new tree shows.
  abbrev pub PutsWhatShown : CstRootNode A → Plain → Over → List (List ℕ) → CstRootNode A → Type 0
  PutsWhatShown old v over tokens new = IsOfShown old (λ d. (edit : PlainEdit) × IsPutBy v over d.value tokens edit × EditStep (nodes_of old) edit (nodes_of new)
      × (IsOfNumbers d.options v → (e : Document) × Shows e (ordered_tree (nodes_of new) 0) × IsPutIn d v over tokens edit e))

  -- Why it was not put. A value of another kind is in the way, and is to stay; the array is shorter than the index; a token may be a name or an index where nothing is yet; or the
  -- edit that puts it would nest a value deeper than texts are parsed. Memory was needed to look up a name, or for that edit.
  abbrev pub IsPutError : CstRootNode A → Plain → Over → List (List ℕ) → PutError → Document → Type 0
  IsPutError doc v over tokens (errors.OtherKind number) d = StopsAt d.value tokens number stops.OtherKind × (over ≡ Keep)
  IsPutError doc v over tokens (errors.NoSuchIndex number) d = StopsAt d.value tokens number stops.PastEnd
  IsPutError doc v over tokens (errors.AmbiguousToken number) d = IsAmbiguousAt v over d.value tokens number
  IsPutError doc v over tokens (errors.Edit NestingDepthExceeded) d = (edit : PlainEdit) × IsPutBy v over d.value tokens edit × (512 < needs_in d.value edit)
  IsPutError doc v over tokens (errors.Edit OutOfMemory) d = PassesEscaped d (nodes_of doc) tokens ⊎ ((edit : PlainEdit) × IsPutBy v over d.value tokens edit)
  IsPutError doc v over tokens (errors.Edit why) d = ⊥

  abbrev pub FailsToPut : CstRootNode A → Plain → Over → List (List ℕ) → PutError → Type 0
  FailsToPut doc v over tokens error = IsOfShown doc (IsPutError doc v over tokens error)
