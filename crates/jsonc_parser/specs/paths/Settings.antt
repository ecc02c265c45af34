-- Settings: values at a path of names. Each name leads from an object to the value of its first property of that name; a document has one value or none.
use Rattle.std.specs.Prelude.{◌≡◌, ◌≢◌, ℕ, suc, List, [], ◌∷◌, Option, Some, None}
use Rattle.jsonc_text.specs.Plain.{Plain, object, Members, no_members, member}
use Rattle.jsonc_text.specs.declared.edit.Over.{Over}
use Rattle.jsonc_text.specs.declared.edit.Over.TheVariants.{Replace}

-- the first property of this name has this value
pub data FirstIs (name : List ℕ) (v : Plain) : Members → Type 0 where
  this_one : {ms : Members} → FirstIs name v (member name v ms)
  later_one : {n : List ℕ} {w : Plain} {ms : Members} → n ≢ name → FirstIs name v ms → FirstIs name v (member n w ms)

-- the first property of this name is the one of this number, and has this value
pub data FirstAt (name : List ℕ) (v : Plain) : ℕ → Members → Type 0 where
  this_at : {ms : Members} → FirstAt name v 0 (member name v ms)
  later_at : {i : ℕ} {n : List ℕ} {w : Plain} {ms : Members} → n ≢ name → FirstAt name v i ms → FirstAt name v (suc i) (member n w ms)

-- the value x of the first property of this name has become y, and nothing else has changed
pub data FirstBecomes (name : List ℕ) (x y : Plain) : Members → Members → Type 0 where
  this_becomes : {ms : Members} → FirstBecomes name x y (member name x ms) (member name y ms)
  later_becomes : {n : List ℕ} {w : Plain} {ms ns : Members} → n ≢ name → FirstBecomes name x y ms ns → FirstBecomes name x y (member n w ms) (member n w ns)

-- the first property of this name has been removed, and nothing else has changed
pub data FirstIsRemoved (name : List ℕ) : Members → Members → Type 0 where
  this_removed : {w : Plain} {ms : Members} → FirstIsRemoved name (member name w ms) ms
  later_removed : {n : List ℕ} {w : Plain} {ms ns : Members} → n ≢ name → FirstIsRemoved name ms ns → FirstIsRemoved name (member n w ms) (member n w ns)

-- none had this name, and one of this name and value has been appended
pub data IsAppended (name : List ℕ) (v : Plain) : Members → Members → Type 0 where
  appended_alone : IsAppended name v no_members (member name v no_members)
  appended_after : {n : List ℕ} {w : Plain} {ms ns : Members} → n ≢ name → IsAppended name v ms ns → IsAppended name v (member n w ms) (member n w ns)

-- the value v is at the names: in each object that of the first property of the name
pub data At : Option Plain → List (List ℕ) → Plain → Type 0 where
  itself : {v : Plain} → At (Some v) [] v
  in_object : {name : List ℕ} {names : List (List ℕ)} {ms : Members} {x v : Plain} → FirstIs name x ms → At (Some x) names v → At (Some (object ms)) (name ∷ names) v

-- v in objects of one property each, for each name one
abbrev pub nest : List (List ℕ) → Plain → Plain
nest [] v = v
nest (name ∷ names) v = object (member name (nest names v) no_members)

-- a value of another kind
abbrev pub IsNoObject : Plain → Type 0
IsNoObject x = (ms : Members) → x ≢ object ms

-- a value of another kind than an object is where a name is still to lead on
pub data IsInTheWay : Option Plain → List (List ℕ) → Type 0 where
  this_in_the_way : {name : List ℕ} {names : List (List ℕ)} {x : Plain} → IsNoObject x → IsInTheWay (Some x) (name ∷ names)
  inner_in_the_way : {name : List ℕ} {names : List (List ℕ)} {ms : Members} {x : Plain} → FirstIs name x ms → IsInTheWay (Some x) names
      → IsInTheWay (Some (object ms)) (name ∷ names)

-- The value v has been put at the names: with no name left it is the value there; the value of the first property of a name that is there changes inside;
-- where none has the name, one is appended, with the rest nested; a document that had no value has all nested; and a value of another kind on the way
-- has been replaced by the rest nested, where it may.
pub data Put (v : Plain) (over : Over) : Option Plain → List (List ℕ) → Option Plain → Type 0 where
  is_there : {w : Option Plain} → Put v over w [] (Some v)
  changes_inside : {name : List ℕ} {names : List (List ℕ)} {ms ns : Members} {x y : Plain} → FirstBecomes name x y ms ns → Put v over (Some x) names (Some y)
      → Put v over (Some (object ms)) (name ∷ names) (Some (object ns))
  is_appended : {name : List ℕ} {names : List (List ℕ)} {ms ns : Members} → IsAppended name (nest names v) ms ns
      → Put v over (Some (object ms)) (name ∷ names) (Some (object ns))
  is_nested : {name : List ℕ} {names : List (List ℕ)} → Put v over None (name ∷ names) (Some (nest (name ∷ names) v))
  gives_way : {name : List ℕ} {names : List (List ℕ)} {x : Plain} → IsNoObject x → over ≡ Replace
      → Put v over (Some x) (name ∷ names) (Some (nest (name ∷ names) v))

-- what was at the names has been dropped: the document's value, or with its property the first of the last name
pub data Dropped : Option Plain → List (List ℕ) → Option Plain → Type 0 where
  value_dropped : {v : Plain} → Dropped (Some v) [] None
  property_dropped : {name : List ℕ} {ms ns : Members} → FirstIsRemoved name ms ns → Dropped (Some (object ms)) (name ∷ []) (Some (object ns))
  dropped_inside : {name : List ℕ} {names : List (List ℕ)} {ms ns : Members} {x y : Plain} → FirstBecomes name x y ms ns → Dropped (Some x) names (Some y)
      → Dropped (Some (object ms)) (name ∷ names) (Some (object ns))

-- two paths differ at a step that both have
pub data Differ : List (List ℕ) → List (List ℕ) → Type 0 where
  differ_here : {a b : List ℕ} {p q : List (List ℕ)} → a ≢ b → Differ (a ∷ p) (b ∷ q)
  differ_later : {a b : List ℕ} {p q : List (List ℕ)} → Differ p q → Differ (a ∷ p) (b ∷ q)
