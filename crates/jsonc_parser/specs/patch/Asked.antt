-- What an operation asks for, and the numbers that it writes.
use Rattle.jsonc_edit.specs.Writing.{IsOfNumbers}
use Rattle.jsonc_layout.specs.input.Views.{plain}
use Rattle.jsonc_text.specs.Options.{Options}
use Rattle.jsonc_parser.specs.patch.Operations as value
use Rattle.jsonc_parser.specs.patch.Pointer.{tokens_of}
use Rattle.jsonc_parser.specs.declared.patch.operation.Operation.{Operation}
use Rattle.jsonc_parser.specs.declared.patch.operation.Operation.TheVariants.{Add, Remove, Replace, Move, Copy, Test}

module _ {A : Type 0} where
  abbrev pub asked : Operation A → value.Operation
  asked (Add path v) = value.add (tokens_of path) (plain v)
  asked (Remove path) = value.remove (tokens_of path)
  asked (Replace path v) = value.replace (tokens_of path) (plain v)
  asked (Move from path) = value.move (tokens_of from) (tokens_of path)
  asked (Copy from path) = value.copy (tokens_of from) (tokens_of path)
  asked (Test path v) = value.test (tokens_of path) (plain v)

  -- the numbers of the value that it writes are, whole, numbers of these options
  abbrev pub FitsIn : Options → Operation A → Type 0
  FitsIn o (Add path v) = IsOfNumbers o (plain v)
  FitsIn o (Replace path v) = IsOfNumbers o (plain v)
  FitsIn o other = Unit {0}
