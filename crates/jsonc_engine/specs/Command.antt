-- The program's commands.
use Rattle.std.specs.Borrow.{Bor}
use Rattle.std.specs.Prelude.{◌≡◌, ◌⊎◌, ◌<◌, ◌^◌, ◌==◌, ℕ, Bool, true, false, List, [], ◌∷◌, Option, Some, None, codes, if◌then◌else◌, map}
use Rattle.std.specs.Str.Parse.{digits_value, without_leading_plus, IsNumeral}
use Rattle.jsonc_engine.specs.declared.command.Command.{Command}
use Rattle.jsonc_engine.specs.declared.command.Command.TheVariants.{Append, Check, Drop, Get, Json, Merge, Patch, Print, Put, Remove, Set, Sort}
use Rattle.jsonc_engine.specs.declared.command.Place.{Place}
use Rattle.jsonc_engine.specs.declared.command.Place.TheVariants.{Names, Pointer}

-- what is asked of the program: a command with the bytes of its words; the value at names is asked for by `get`, and that at a pointer by `find`
pub data Request : Type 0 where
  check : Request
  print : Request
  set : (name json : List ℕ) → Request
  append : (json : List ℕ) → Request
  remove : (name : List ℕ) → Request
  sort : Request
  get : (path : List ℕ) → Request
  find : (pointer : List ℕ) → Request
  put : (path json : List ℕ) → Request
  drop : (path : List ℕ) → Request
  patch : (text : List ℕ) (most : ℕ) → Request
  merge : (text : List ℕ) → Request
  as_json : Request

-- the value at a place
abbrev pub value_at : Place → Request
value_at (Names path) = get path.now
value_at (Pointer pointer) = find pointer.now

abbrev pub request_of : Command → Request
request_of Check = check
request_of Print = print
request_of (Set name json) = set name.now json.now
request_of (Append json) = append json.now
request_of (Remove name) = remove name.now
request_of Sort = sort
request_of (Get place) = value_at place
request_of (Put path json) = put path.now json.now
request_of (Drop path) = drop path.now
request_of (Patch text most) = patch text.now most
request_of (Merge text) = merge text.now
request_of Json = as_json

-- a word is taken as a pointer where it is empty or begins with `/`
abbrev pub is_pointer : List ℕ → Bool
is_pointer [] = true
is_pointer (c ∷ rest) = c == 0x2F

-- the value at the place that a word names
abbrev pub value_by : List ℕ → Request
value_by word = if is_pointer word then find word else get word

-- the word writes this number of bytes: decimal digits, perhaps after a plus sign, of a number below 2 ^ 64
abbrev pub WritesBytes : List ℕ → ℕ → Type 0
WritesBytes word n = (IsNumeral 10 (without_leading_plus word) × (digits_value 10 (without_leading_plus word) < 2 ^ 64)) × (n ≡ digits_value 10 (without_leading_plus word))

-- the words of a command; a patch takes a thousand million bytes where they say nothing else
abbrev pub AreWordsOf : List (List ℕ) → Request → Type 0
AreWordsOf words check = words ≡ codes "check" ∷ []
AreWordsOf words print = words ≡ codes "print" ∷ []
AreWordsOf words (set name json) = words ≡ codes "set" ∷ name ∷ json ∷ []
AreWordsOf words (append json) = words ≡ codes "append" ∷ json ∷ []
AreWordsOf words (remove name) = words ≡ codes "remove" ∷ name ∷ []
AreWordsOf words sort = words ≡ codes "sort" ∷ []
AreWordsOf words (get path) = (words ≡ codes "get" ∷ path ∷ []) × (is_pointer path ≡ false)
AreWordsOf words (find pointer) = (words ≡ codes "get" ∷ pointer ∷ []) × (is_pointer pointer ≡ true)
AreWordsOf words (put path json) = words ≡ codes "put" ∷ path ∷ json ∷ []
AreWordsOf words (drop path) = words ≡ codes "drop" ∷ path ∷ []
AreWordsOf words (patch text most) =
    ((words ≡ codes "patch" ∷ text ∷ []) × (most ≡ 1000000000)) ⊎ ((number : List ℕ) × (words ≡ codes "patch" ∷ codes "--max-bytes" ∷ number ∷ text ∷ []) × WritesBytes number most)
AreWordsOf words (merge text) = words ≡ codes "merge" ∷ text ∷ []
AreWordsOf words as_json = words ≡ codes "json" ∷ []

-- the words name the command
abbrev pub Name : List (Bor (List ℕ)) → Request → Type 0
Name words request = AreWordsOf (map (λ word. word.now) words) request

-- whether the command writes anything
abbrev pub writes : Request → Bool
writes check = false
writes request = true

-- the JSON text of a command, if it has one
abbrev pub json_of : Request → Option (List ℕ)
json_of (set name json) = Some json
json_of (append json) = Some json
json_of (put path json) = Some json
json_of request = None

-- the path of a command, if it has one
abbrev pub path_of : Request → Option (List ℕ)
path_of (get path) = Some path
path_of (put path json) = Some path
path_of (drop path) = Some path
path_of request = None
