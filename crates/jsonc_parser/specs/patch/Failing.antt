-- Why an operation of a JSON Patch cannot be made (RFC 6902, 4 and 5), by the value of the document; which may have none.
use Rattle.std.specs.Prelude.{◌≡◌, ◌≢◌, ◌⊎◌, ◌<◌, ℕ, List, [], ◌∷◌, ◌++◌, Option, Some}
use Rattle.jsonc_text.specs.Plain.{Plain, array, object, collapse, Items, Members}
use Rattle.jsonc_insert.specs.elements.Laws.{item_count}
use Rattle.jsonc_parser.specs.patch.Equality.{AreEqual}
use Rattle.jsonc_parser.specs.patch.Numbers.{SameNumber}
use Rattle.jsonc_parser.specs.patch.Operations.{add, remove, replace, move, copy, test, Operation, Removes}
use Rattle.jsonc_parser.specs.patch.References.{FailsAt, IsIndex, RefersTo}
pub use Rattle.jsonc_parser.specs.patch.References.{ReferToNothing}

-- 4.1: There is no place for a value that is to be added: the tokens before the last refer to nothing; or to a value that is neither an array nor an object; or to
-- an array, and the last is neither `-` nor an index that is no greater than the number of elements.
pub data HasNoPlace (w : Option Plain) : List (List ℕ) → Type 0 where
  below_nothing : {tokens : List (List ℕ)} (token : List ℕ) → ReferToNothing w tokens → HasNoPlace w (tokens ++ token ∷ [])
  below_scalar : {tokens : List (List ℕ)} {x : Plain} (token : List ℕ) → RefersTo w tokens x → ((vs : Items) → x ≢ array vs) → ((ms : Members) → x ≢ object ms)
      → HasNoPlace w (tokens ++ token ∷ [])
  past_elements : {tokens : List (List ℕ)} {vs : Items} (token : List ℕ) → RefersTo w tokens (array vs) → token ≢ 0x2D ∷ [] → ((i : ℕ) → IsIndex token i → item_count vs < i)
      → HasNoPlace w (tokens ++ token ∷ [])

-- The value that the operation is to take, replace or test is not there; or there is no place for the one that it adds. What is moved is added to the value that
-- is left after its removal.
abbrev pub HasNoTarget : Operation → Option Plain → Type 0
HasNoTarget (add tokens v) w = HasNoPlace w tokens
HasNoTarget (remove tokens) w = ReferToNothing w tokens
HasNoTarget (replace tokens v) w = ReferToNothing w tokens
HasNoTarget (move from to) w = ReferToNothing w from ⊎ ((u : Option Plain) × Removes from w u × HasNoPlace u to)
HasNoTarget (copy from to) w = ReferToNothing w from ⊎ ((x : Plain) × RefersTo w from x × HasNoPlace w to)
HasNoTarget (test tokens v) w = ReferToNothing w tokens

-- the name, the next token of a pointer, is that of more than one member of an object on the way
abbrev pub MeetsTwice : List ℕ → Operation → Option Plain → Type 0
MeetsTwice name (add tokens v) w = FailsAt w tokens name
MeetsTwice name (remove tokens) w = FailsAt w tokens name
MeetsTwice name (replace tokens v) w = FailsAt w tokens name
MeetsTwice name (move from to) w = FailsAt w from name ⊎ ((u : Option Plain) × Removes from w u × FailsAt u to name)
MeetsTwice name (copy from to) w = FailsAt w from name ⊎ ((x : Plain) × RefersTo w from x × FailsAt w to name)
MeetsTwice name (test tokens v) w = FailsAt w tokens name

-- 4.4: a value was to be moved into itself: the pointer to where it goes leads on from the one to where it is
abbrev pub GoesIntoItself : Operation → Option Plain → Type 0
GoesIntoItself (move from to) w = (x : Plain) × RefersTo w from x × (token : List ℕ) × (rest : List (List ℕ)) × (to ≡ from ++ token ∷ rest)
GoesIntoItself o w = ⊥

-- 4.6: the value that is there is not equal to the one of the test
abbrev pub FindsAnother : Operation → Option Plain → Type 0
FindsAnother (test tokens v) w = (x : Plain) × RefersTo w tokens x × ¬ (AreEqual SameNumber v (collapse x))
FindsAnother o w = ⊥
