-- A value put where a pointer leads, through objects and arrays (RFC 6901, 4); of equal names the first leads on.
use Rattle.std.specs.Prelude.{◌≡◌, ◌⊎◌, ◌<◌, ◌+◌, ◌++◌, ℕ, List, [], ◌∷◌, length, Option, Some, None}
use Rattle.std.specs.List.{All}
use Rattle.jsonc_text.specs.Plain.{Plain, array, object, Items, Members}
use Rattle.jsonc_text.specs.declared.edit.Over.{Over}
use Rattle.jsonc_text.specs.declared.edit.Over.TheVariants.{Keep, Replace}
use Rattle.jsonc_sound.specs.Changes.{ItemChanged}
use Rattle.jsonc_insert.specs.elements.Laws.{ItemInserted, item_count}
use Rattle.jsonc_insert.specs.named.Members.{LacksMember}
use Rattle.jsonc_run.specs.Edits.{PlainEdit, append_element, append_property, replace, set_root}
use Rattle.jsonc_parser.specs.paths.Settings.{FirstAt, FirstBecomes, IsAppended, IsNoObject, nest}
use Rattle.jsonc_parser.specs.patch.References.{IsIndex, IsItem}
use Rattle.jsonc_parser.specs.declared.patch.entry.Stop.{Stop}
use Rattle.jsonc_parser.specs.declared.patch.entry.Stop.TheVariants.{AfterLast, NoMember, OtherKind, PastEnd}

-- In the first value the tokens lead to the second, over these positions. No token leads from the value itself. In an object the first token leads to the first member of this
-- name, and in an array to the element of this index; from its value the others go on.
pub data LeadsFirst : Plain → List (List ℕ) → List ℕ → Plain → Type 0 where
  to_itself : {v : Plain} → LeadsFirst v [] [] v
  by_name : {token : List ℕ} {tokens : List (List ℕ)} {i : ℕ} {path : List ℕ} {ms : Members} {x v : Plain} → FirstAt token x i ms → LeadsFirst x tokens path v
      → LeadsFirst (object ms) (token ∷ tokens) (i ∷ path) v
  by_index : {token : List ℕ} {tokens : List (List ℕ)} {i : ℕ} {path : List ℕ} {vs : Items} {x v : Plain} → IsIndex token i → IsItem x i vs → LeadsFirst x tokens path v
      → LeadsFirst (array vs) (token ∷ tokens) (i ∷ path) v

-- the same in a document, whose value may be missing
abbrev pub LeadsAlong : Option Plain → List (List ℕ) → List ℕ → Plain → Type 0
LeadsAlong w tokens path v = (x : Plain) × (w ≡ Some x) × LeadsFirst x tokens path v

-- the token may be meant for an array: it is an index, or `-`
abbrev pub MayBeIndex : List ℕ → Type 0
MayBeIndex token = ((i : ℕ) × IsIndex token i) ⊎ (token ≡ 0x2D ∷ [])

-- by the token an element is appended to so many: it is the index after the last one's, or `-`
abbrev pub IsAfterLast : List ℕ → ℕ → Type 0
IsAfterLast token count = IsIndex token count ⊎ (token ≡ 0x2D ∷ [])

-- the value is of another kind than the token needs: it is no object, and no array if the token may be an index
abbrev pub IsOtherKind : List ℕ → Plain → Type 0
IsOtherKind token x = IsNoObject x × ((vs : Items) → x ≡ array vs → ¬ (MayBeIndex token))

-- u is v in new objects of one member each, for each token one of this name; and no token may be an index
abbrev pub IsNested : List (List ℕ) → Plain → Plain → Type 0
IsNested tokens v u = All (λ token. ¬ (MayBeIndex token)) tokens × (u ≡ nest tokens v)

-- The value v has been put where the tokens lead. With no token left it is the value there; the value of the first member of a name, or of the element of an index, changes
-- inside; a member that is missing is appended, and so is an element, with v nested by the tokens that are left; a document that had no value has v nested by all; and a value
-- of another kind has been replaced by v nested, where it may.
pub data Puts (v : Plain) (over : Over) : Option Plain → List (List ℕ) → Option Plain → Type 0 where
  is_there : {w : Option Plain} → Puts v over w [] (Some v)
  in_member : {name : List ℕ} {tokens : List (List ℕ)} {ms ns : Members} {x y : Plain} → FirstBecomes name x y ms ns → Puts v over (Some x) tokens (Some y)
      → Puts v over (Some (object ms)) (name ∷ tokens) (Some (object ns))
  in_element : {token : List ℕ} {tokens : List (List ℕ)} {i : ℕ} {vs us : Items} {x y : Plain} → IsIndex token i → ItemChanged x y i vs us → Puts v over (Some x) tokens (Some y)
      → Puts v over (Some (array vs)) (token ∷ tokens) (Some (array us))
  as_member : {name : List ℕ} {rest : List (List ℕ)} {ms ns : Members} {u : Plain} → IsNested rest v u → IsAppended name u ms ns
      → Puts v over (Some (object ms)) (name ∷ rest) (Some (object ns))
  as_element : {token : List ℕ} {rest : List (List ℕ)} {vs us : Items} {u : Plain} → IsNested rest v u → IsAfterLast token (item_count vs) → ItemInserted u (item_count vs) vs us
      → Puts v over (Some (array vs)) (token ∷ rest) (Some (array us))
  as_first : {token : List ℕ} {rest : List (List ℕ)} {u : Plain} → IsNested (token ∷ rest) v u → Puts v over None (token ∷ rest) (Some u)
  for_other : {token : List ℕ} {rest : List (List ℕ)} {x u : Plain} → IsNested (token ∷ rest) v u → IsOtherKind token x → over ≡ Replace
      → Puts v over (Some x) (token ∷ rest) (Some u)

-- The one edit that writes u where the tokens lead, and the tokens that are left there. It sets the document's value, where there is no token, or no value; it replaces the value
-- that all tokens lead to; it appends a member to the object that those before its name lead to, or an element to an array; or it replaces the value of another kind that those
-- before a token lead to, if it may.
pub data IsWrittenBy (u : Plain) (over : Over) (w : Option Plain) : List (List ℕ) → List (List ℕ) → PlainEdit → Type 0 where
  sets_root : IsWrittenBy u over w [] [] (set_root u)
  sets_first : {token : List ℕ} {rest : List (List ℕ)} → w ≡ None → IsWrittenBy u over w (token ∷ rest) (token ∷ rest) (set_root u)
  replaces : {token : List ℕ} {rest : List (List ℕ)} {path : List ℕ} {x : Plain} → LeadsAlong w (token ∷ rest) path x → IsWrittenBy u over w (token ∷ rest) [] (replace path u)
  appends_member : (front rest : List (List ℕ)) {name path : List ℕ} {ms : Members} → LeadsAlong w front path (object ms) → LacksMember name ms
      → IsWrittenBy u over w (front ++ name ∷ rest) rest (append_property path name u)
  appends_element : (front rest : List (List ℕ)) {token path : List ℕ} {vs : Items} → LeadsAlong w front path (array vs) → IsAfterLast token (item_count vs)
      → IsWrittenBy u over w (front ++ token ∷ rest) rest (append_element path u)
  replaces_other : (front rest : List (List ℕ)) {token path : List ℕ} {x : Plain} → LeadsAlong w front path x → IsOtherKind token x → over ≡ Replace
      → IsWrittenBy u over w (front ++ token ∷ rest) (token ∷ rest) (replace path u)

-- the one edit that puts v there: it writes v nested by the tokens that are left
pub record IsPutBy (v : Plain) (over : Over) (w : Option Plain) (tokens : List (List ℕ)) (edit : PlainEdit) : Type 0 where
  pub rest : List (List ℕ)
  pub u : Plain
  pub nested : IsNested rest v u
  pub written : IsWrittenBy u over w tokens rest edit

-- why a token leads from a value to nothing
abbrev pub Stops : Stop → List ℕ → Plain → Type 0
Stops NoMember token x = (ms : Members) × (x ≡ object ms) × LacksMember token ms
Stops AfterLast token x = (vs : Items) × (x ≡ array vs) × IsAfterLast token (item_count vs)
Stops PastEnd token x = (vs : Items) × (x ≡ array vs) × (i : ℕ) × IsIndex token i × (item_count vs < i)
Stops OtherKind token x = IsOtherKind token x

-- the tokens before the one of this number lead to a value, from which that leads to nothing, for this cause
pub record StopsAt (w : Option Plain) (tokens : List (List ℕ)) (number : ℕ) (stop : Stop) : Type 0 where
  pub front : List (List ℕ)
  pub token : List ℕ
  pub rest : List (List ℕ)
  pub split : tokens ≡ front ++ token ∷ rest
  pub is : number ≡ length front
  pub path : List ℕ
  pub x : Plain
  pub leads : LeadsAlong w front path x
  pub stops : Stops stop token x

-- of the tokens that are left where a value would be written, the one of this number among all is the first that may be an index
pub record IsAmbiguousAt (v : Plain) (over : Over) (w : Option Plain) (tokens : List (List ℕ)) (number : ℕ) : Type 0 where
  pub left : List (List ℕ)
  pub edit : PlainEdit
  pub written : IsWrittenBy v over w tokens left edit
  pub names : List (List ℕ)
  pub token : List ℕ
  pub rest : List (List ℕ)
  pub split : left ≡ names ++ token ∷ rest
  pub are_names : All (λ name. ¬ (MayBeIndex name)) names
  pub may : MayBeIndex token
  pub is : number + length (token ∷ rest) ≡ length tokens
