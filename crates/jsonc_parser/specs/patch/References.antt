-- What a JSON Pointer refers to in a value (RFC 6901, 4).
use Rattle.std.specs.Prelude.{◌≡◌, ◌≢◌, ℕ, suc, List, [], ◌∷◌, length, Option, Some}
use Rattle.std.specs.Str.Parse.{IsNumeral, digits_value}
use Rattle.jsonc_text.specs.Plain.{Plain, array, object, Items, item, Members, member}
use Rattle.jsonc_text.specs.Text.{next}
use Rattle.jsonc_insert.specs.named.Members.{LacksMember, IsFirstMember}

-- the token is digits, of which a 0 is first only where it is alone, and they write this number
pub record IsIndex (token : List ℕ) (i : ℕ) : Type 0 where
  pub digits : IsNumeral 10 token
  pub leading : next token ≡ Some 0x30 → length token ≡ 1
  pub is : digits_value 10 token ≡ i

-- the element of this index has this value
pub data IsItem (v : Plain) : ℕ → Items → Type 0 where
  this_item : {vs : Items} → IsItem v 0 (item v vs)
  later_item : {i : ℕ} {w : Plain} {vs : Items} → IsItem v i vs → IsItem v (suc i) (item w vs)

-- one member alone has this name, the one of this number, which has this value
pub data IsOnly (name : List ℕ) (v : Plain) : ℕ → Members → Type 0 where
  this_only : {ms : Members} → LacksMember name ms → IsOnly name v 0 (member name v ms)
  later_only : {i : ℕ} {n : List ℕ} {w : Plain} {ms : Members} → n ≢ name → IsOnly name v i ms → IsOnly name v (suc i) (member n w ms)

-- more than one member has this name
pub data IsRepeated (name : List ℕ) : Members → Type 0 where
  this_again : {i : ℕ} {v : Plain} {ms : Members} → IsFirstMember name i ms → IsRepeated name (member name v ms)
  later_again : {n : List ℕ} {v : Plain} {ms : Members} → n ≢ name → IsRepeated name ms → IsRepeated name (member n v ms)

-- In the first value the tokens refer to the second, over these positions. No token refers to the value itself. In an object the first token is the name of one member
-- alone, and in an array the index of an element; from its value the others go on.
pub data Refers : Plain → List (List ℕ) → List ℕ → Plain → Type 0 where
  whole : {v : Plain} → Refers v [] [] v
  to_member : {token : List ℕ} {tokens : List (List ℕ)} {i : ℕ} {path : List ℕ} {ms : Members} {x v : Plain} → IsOnly token x i ms → Refers x tokens path v
      → Refers (object ms) (token ∷ tokens) (i ∷ path) v
  to_element : {token : List ℕ} {tokens : List (List ℕ)} {i : ℕ} {path : List ℕ} {vs : Items} {x v : Plain} → IsIndex token i → IsItem x i vs → Refers x tokens path v
      → Refers (array vs) (token ∷ tokens) (i ∷ path) v

-- on the way the tokens lead to an object where this name, the next of them, is that of more than one member: evaluation fails
pub data MeetsRepeated (name : List ℕ) : Plain → List (List ℕ) → Type 0 where
  here : {tokens : List (List ℕ)} {ms : Members} → IsRepeated name ms → MeetsRepeated name (object ms) (name ∷ tokens)
  in_member : {token : List ℕ} {tokens : List (List ℕ)} {i : ℕ} {ms : Members} {x : Plain} → IsOnly token x i ms → MeetsRepeated name x tokens
      → MeetsRepeated name (object ms) (token ∷ tokens)
  in_element : {token : List ℕ} {tokens : List (List ℕ)} {i : ℕ} {vs : Items} {x : Plain} → IsIndex token i → IsItem x i vs → MeetsRepeated name x tokens
      → MeetsRepeated name (array vs) (token ∷ tokens)

-- the same in a document, whose value may be missing
abbrev pub RefersTo : Option Plain → List (List ℕ) → Plain → Type 0
RefersTo w tokens v = (x : Plain) × (w ≡ Some x) × (path : List ℕ) × Refers x tokens path v

abbrev pub FailsAt : Option Plain → List (List ℕ) → List ℕ → Type 0
FailsAt w tokens name = (x : Plain) × (w ≡ Some x) × MeetsRepeated name x tokens

-- the tokens refer to nothing, and on the way to where they end no name occurs twice
abbrev pub ReferToNothing : Option Plain → List (List ℕ) → Type 0
ReferToNothing w tokens = ((v : Plain) → RefersTo w tokens v → ⊥) × ((name : List ℕ) → FailsAt w tokens name → ⊥)
