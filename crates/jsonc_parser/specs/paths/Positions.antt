-- Names as positions: which positions names lead over, and which one edit at these puts a value, or removes it.
use Rattle.std.specs.Prelude.{◌≡◌, ◌⊎◌, ℕ, List, [], ◌∷◌, ◌++◌, Option, Some, None}
use Rattle.jsonc_text.specs.Plain.{Plain, object, Members}
use Rattle.jsonc_text.specs.declared.edit.Over.{Over}
use Rattle.jsonc_text.specs.declared.edit.Over.TheVariants.{Replace}
use Rattle.jsonc_parser.specs.paths.Operations.{Asks, IsChanged, IsNamed, LacksMember, Operation, PlainEdit, append_property, remove, replace, set_root, set_value}
use Rattle.jsonc_parser.specs.paths.Laws.{MustStay}
use Rattle.jsonc_parser.specs.paths.Settings.{nest, IsNoObject, At, Dropped, Put}
use Rattle.jsonc_parser.specs.paths.Which.{IsChosenAt, seen, seen_if}
use Rattle.jsonc_parser.specs.declared.paths.which.Which.{Which}
use Rattle.jsonc_parser.specs.declared.paths.which.Which.TheVariants.{First}

-- from the first value the names lead over these positions to the second
pub data Leads (which : Which) : List (List ℕ) → List ℕ → Plain → Plain → Type 0 where
  leads_nowhere : {v : Plain} → Leads which [] [] v v
  leads_on : {name : List ℕ} {names : List (List ℕ)} {i : ℕ} {path : List ℕ} {ms : Members} {x v : Plain} → IsChosenAt which name x i ms → Leads which names path x v
      → Leads which (name ∷ names) (i ∷ path) (object ms) v

-- The one edit that puts v at the names: the document's value is set, where there is no name; it is set to v nested, where there was none; the value of the
-- property that all names lead to is set; where one name is missing in the object that those before it lead to, a property of it is appended, with the rest nested;
-- and where those before it lead to a value of another kind, the rest nested is written in its place, if it may be.
pub data IsPutBy (which : Which) (v : Plain) (over : Over) : Option Plain → List (List ℕ) → PlainEdit → Type 0 where
  sets_root : {w : Option Plain} → IsPutBy which v over w [] (set_root v)
  sets_first : {name : List ℕ} {names : List (List ℕ)} → IsPutBy which v over None (name ∷ names) (set_root (nest (name ∷ names) v))
  sets_value : {name : List ℕ} {names : List (List ℕ)} {path : List ℕ} {x was : Plain} → Leads which (name ∷ names) path x was
      → IsPutBy which v over (Some x) (name ∷ names) (set_value path v)
  appends : (front rest : List (List ℕ)) {name : List ℕ} {path : List ℕ} {x : Plain} {ms : Members} → Leads which front path x (object ms)
      → LacksMember name ms → IsPutBy which v over (Some x) (front ++ name ∷ rest) (append_property path name (nest rest v))
  replaces : (front rest : List (List ℕ)) {name : List ℕ} {path : List ℕ} {x other : Plain} → Leads which front path x other → IsNoObject other
      → over ≡ Replace → IsPutBy which v over (Some x) (front ++ name ∷ rest) (replace path (nest (name ∷ rest) v))

-- the one edit that removes what is at the names: that which removes the entry that they lead to, or the document's value
pub data IsDroppedBy : Option Plain → List (List ℕ) → PlainEdit → Type 0 where
  removes : {names : List (List ℕ)} {path : List ℕ} {x was : Plain} → Leads First names path x was → IsDroppedBy (Some x) names (remove path)

-- names lead to a value exactly where it is at them
abbrev pub LeadToWhatIsThere : Option Plain → List (List ℕ) → Plain → Type 0
LeadToWhatIsThere w names v = At w names v → (x : Plain) × (w ≡ Some x) × (path : List ℕ) × Leads First names path x v

-- the edit has its place, and what the operation that it asks for makes of a value is seen as that which has v put at the names
abbrev pub PutsByIt : Which → Plain → Over → Option Plain → List (List ℕ) → PlainEdit → Type 0
PutsByIt which v over w names e =
    IsPutBy which v over w names e → ((count : ℕ) → IsNamed w count e) × ((x : Option Plain) (op : Operation) → Asks w e op → IsChanged w op x → Put (seen which v) over (seen_if which w) names (seen_if which x))

abbrev pub DropsByIt : Option Plain → List (List ℕ) → PlainEdit → Type 0
DropsByIt w names e = IsDroppedBy w names e → ((count : ℕ) → IsNamed w count e) × ((x : Option Plain) (op : Operation) → Asks w e op → IsChanged w op x → Dropped w names x)

-- how far names lead from a value: all the way; or in the object that those before it lead to no property has the next name; or those before it lead to a value of
-- another kind
pub data Reaches (x : Plain) : List (List ℕ) → Type 0 where
  to_value : {names : List (List ℕ)} {path : List ℕ} {v : Plain} → Leads First names path x v → Reaches x names
  to_missing : (front : List (List ℕ)) (name : List ℕ) (rest : List (List ℕ)) {path : List ℕ} {ms : Members} → Leads First front path x (object ms) → LacksMember name ms
      → Reaches x (front ++ name ∷ rest)
  to_another : (front : List (List ℕ)) (name : List ℕ) (rest : List (List ℕ)) {path : List ℕ} {other : Plain} → Leads First front path x other → IsNoObject other
      → Reaches x (front ++ name ∷ rest)

-- one of the edits puts v at the names, or else something must stay that is in the way
abbrev pub IsPutByOne : Plain → Over → Option Plain → List (List ℕ) → Type 0
IsPutByOne v over w names = ((e : PlainEdit) × IsPutBy First v over w names e) ⊎ MustStay over w names
