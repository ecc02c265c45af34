-- The operations of a JSON Patch, each between the value of a document and the value after it (RFC 6902, 4); a document may have none.
use Rattle.std.specs.Prelude.{◌≡◌, ◌≢◌, ◌⊎◌, ℕ, List, [], ◌∷◌, ◌++◌, length, Option, Some, None}
use Rattle.std.specs.List.{All}
use Rattle.jsonc_text.specs.Plain.{Plain, collapse, object, Members}
use Rattle.jsonc_run.specs.texts.Entries.{of, Becomes, Named}
use Rattle.jsonc_run.specs.texts.Edits.{BecomesProperty}
use Rattle.jsonc_run.specs.texts.Leaving.{Loses}
use Rattle.jsonc_run.specs.texts.Paths.{an_array, an_object}
use Rattle.jsonc_parser.specs.patch.Equality.{AreEqual}
use Rattle.jsonc_parser.specs.patch.Numbers.{SameNumber}
use Rattle.jsonc_parser.specs.patch.References.{IsIndex, Refers, RefersTo, ReferToNothing}

-- an operation at the tokens of its pointers, with the value that it has
pub data Operation : Type 0 where
  add : List (List ℕ) → Plain → Operation
  remove : List (List ℕ) → Operation
  replace : List (List ℕ) → Plain → Operation
  move : List (List ℕ) → List (List ℕ) → Operation
  copy : List (List ℕ) → List (List ℕ) → Operation
  test : List (List ℕ) → Plain → Operation

-- the tokens refer to the value x, along this path
abbrev pub RefersAlong : Option Plain → List (List ℕ) → List ℕ → Plain → Type 0
RefersAlong w tokens path x = (v : Plain) × (w ≡ Some v) × Refers v tokens path x

-- 4.1: The value becomes the document's. Or in the array that the tokens before the last refer to it is inserted as the element of the index, after those before it, or
-- with `-` after all; or into the object as a member, if it has none of the name; or in the place of the value of the member that is there.
pub data Adds (v : Plain) : List (List ℕ) → Option Plain → Option Plain → Type 0 where
  as_whole : {w : Option Plain} → Adds v [] w (Some v)
  as_element : {tokens : List (List ℕ)} {token path : List ℕ} {w y : Option Plain} (front back : List Named) → RefersAlong w tokens path (of an_array (front ++ back))
      → IsIndex token (length front) ⊎ ((token ≡ 0x2D ∷ []) × (back ≡ []))
      → Becomes (of an_array (front ++ back)) (of an_array (front ++ record { name = []; value = v } ∷ back)) path w y → Adds v (tokens ++ token ∷ []) w y
  as_member : {tokens : List (List ℕ)} {path : List ℕ} {w y : Option Plain} (name : List ℕ) (front : List Named) → RefersAlong w tokens path (of an_object front)
      → All (λ e. e.name ≢ name) front
      → Becomes (of an_object front) (of an_object (front ++ record { name = name; value = v } ∷ [])) path w y → Adds v (tokens ++ name ∷ []) w y
  in_member : {tokens : List (List ℕ)} {path place : List ℕ} {w y : Option Plain} {x : Plain} (name : List ℕ) (members : List Named) → RefersAlong w tokens path (of an_object members)
      → RefersAlong w (tokens ++ name ∷ []) place x → Becomes x v place w y → Adds v (tokens ++ name ∷ []) w y

-- 4.2: the value that the tokens refer to is removed, with its member or as the element
abbrev pub Removes : List (List ℕ) → Option Plain → Option Plain → Type 0
Removes tokens w y = (path : List ℕ) × (x : Plain) × RefersAlong w tokens path x × Loses w y path

-- 4.3: the value that the tokens refer to is replaced by another
abbrev pub Replaces : Plain → List (List ℕ) → Option Plain → Option Plain → Type 0
Replaces v tokens w y = (path : List ℕ) × (x : Plain) × RefersAlong w tokens path x × Becomes x v path w y

-- the first tokens do not begin the others
abbrev pub LeadsElsewhere : List (List ℕ) → List (List ℕ) → Type 0
LeadsElsewhere from to = (rest : List (List ℕ)) → to ≢ from ++ rest

-- both are tokens that refer to an object, and one more; and the second refer to nothing
pub record IsWithinObject (from to : List (List ℕ)) (w : Option Plain) : Type 0 where
  pub tokens : List (List ℕ)
  pub last : List ℕ
  pub name : List ℕ
  pub members : Members
  pub first : from ≡ tokens ++ last ∷ []
  pub second : to ≡ tokens ++ name ∷ []
  pub object : RefersTo w tokens (object members)
  pub nothing : ReferToNothing w to

-- 4.4: The value that the first tokens refer to is removed, and is added at the others, which do not lead into it, with all of its members. What is moved to its own place stays;
-- and what is moved within one object, to a name that no member has, is not removed: it stays in its place under this name.
pub data Moves (from : List (List ℕ)) : List (List ℕ) → Option Plain → Option Plain → Type 0 where
  stays : {w : Option Plain} {x : Plain} → RefersTo w from x → Moves from from w w
  moved : {to : List (List ℕ)} {w u y : Option Plain} {x : Plain} → LeadsElsewhere from to → ¬ (IsWithinObject from to w) → RefersTo w from x → Removes from w u → Adds x to u y
      → Moves from to w y
  renamed : {path : List ℕ} {w y : Option Plain} {x : Plain} (tokens : List (List ℕ)) (last name : List ℕ) → from ≡ tokens ++ last ∷ [] → RefersAlong w from path x
      → ReferToNothing w (tokens ++ name ∷ []) → BecomesProperty (λ old. record { name = name; value = old.value }) path w y → Moves from (tokens ++ name ∷ []) w y

-- 4.5: the value that the first tokens refer to is added at the others, with all of its members
abbrev pub Copies : List (List ℕ) → List (List ℕ) → Option Plain → Option Plain → Type 0
Copies from to w y = (x : Plain) × RefersTo w from x × Adds x to w y

-- 4.6: the value that the tokens refer to is equal to this one, and nothing changes
abbrev pub Tests : List (List ℕ) → Plain → Option Plain → Option Plain → Type 0
Tests tokens v w y = (x : Plain) × RefersTo w tokens x × AreEqual SameNumber v (collapse x) × (y ≡ w)

-- the operation leads from the one value to the other
abbrev pub Makes : Operation → Option Plain → Option Plain → Type 0
Makes (add tokens v) w y = Adds v tokens w y
Makes (remove tokens) w y = Removes tokens w y
Makes (replace tokens v) w y = Replaces v tokens w y
Makes (move from to) w y = Moves from to w y
Makes (copy from to) w y = Copies from to w y
Makes (test tokens v) w y = Tests tokens v w y

-- 3: so do operations, each from where the one before it led. This may be said of values, and of documents, by what it is for one operation to lead from one to another.
pub data LeadInOrder {S : Type 0} (Leads : Operation → S → S → Type 0) : List Operation → S → S → Type 0 where
  none_made : {w : S} → LeadInOrder Leads [] w w
  one_made : {o : Operation} {os : List Operation} {w x y : S} → Leads o w x → LeadInOrder Leads os x y → LeadInOrder Leads (o ∷ os) w y

abbrev pub MakesAll : List Operation → Option Plain → Option Plain → Type 0
MakesAll os w y = LeadInOrder Makes os w y
