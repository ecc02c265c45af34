-- What a pointer refers to in the input (RFC 6901).
use Rattle.std.specs.Prelude.{◌≡◌, ◌⊎◌, ◌++◌, ◌∷◌, [], ℕ, List, chars}
use Rattle.jsonc_text.specs.Documents.{Document}
use Rattle.jsonc_text.specs.Options.{Options}
use Rattle.jsonc_tree.specs.OrderedTree.{ordered_tree, printed}
use Rattle.jsonc_tree.specs.Tree.{Node}
use Rattle.jsonc_sound.specs.Documents.{Shows}
use Rattle.jsonc_parser.specs.patch.Found.{RefersToNode, RefersToNothing, WantsToFind}
use Rattle.jsonc_parser.specs.patch.Pointer.{pointer_text}
use Rattle.jsonc_parser.specs.patch.References.{FailsAt}

-- the text is a pointer of these tokens
abbrev pub IsPointer : List ℕ → List (List ℕ) → Type 0
IsPointer text tokens = pointer_text tokens ≡ chars text

-- the nodes are those of a document of the options that prints the input
pub record IsParsed (o : Options) (input : List ℕ) (d : Document) (ns : List Node) : Type 0 where
  pub options : d.options ≡ o
  pub text : d.text ≡ chars input
  pub shown : Shows d (ordered_tree ns 0)

-- the output is the value that the pointer refers to in the document of the input, as it is written there, and a line feed
pub record IsFound (o : Options) (text input output : List ℕ) : Type 0 where
  pub tokens : List (List ℕ)
  pub pointer : IsPointer text tokens
  pub document : Document
  pub nodes : List Node
  pub parsed : IsParsed o input document nodes
  pub node : ℕ
  pub refers : RefersToNode document nodes tokens node
  pub prints : output ≡ printed (ordered_tree nodes node) ++ 0x0A ∷ []

-- the pointer is one of these tokens, and this is so of the document of the input and its nodes
pub record OfPointer (o : Options) (text input : List ℕ) (is_so : Document → List Node → List (List ℕ) → Type 0) : Type 0 where
  pub tokens : List (List ℕ)
  pub pointer : IsPointer text tokens
  pub document : Document
  pub nodes : List Node
  pub parsed : IsParsed o input document nodes
  pub so : is_so document nodes tokens

-- it refers to nothing
abbrev pub HasNothingFor : Options → List ℕ → List ℕ → Type 0
HasNothingFor o text input = OfPointer o text input (λ d ns tokens. RefersToNothing d tokens)

-- more than one property of an object has this name, which it has a token for there
abbrev pub HasTwiceFor : Options → List ℕ → List ℕ → List ℕ → Type 0
HasTwiceFor o text input name = OfPointer o text input (λ d ns tokens. FailsAt d.value tokens name)

-- memory is wanted to follow it, or for the value that it refers to
abbrev pub WantsFor : Options → List ℕ → List ℕ → Type 0
WantsFor o text input = OfPointer o text input (λ d ns tokens. WantsToFind d ns tokens ⊎ ((n : ℕ) × RefersToNode d ns tokens n))
