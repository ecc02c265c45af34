-- What edits of C ask for.
use Rattle.std.specs.Prelude.{◌≡◌, ◌<◌, ◌⊎◌, ℕ, Bool, true, false, List, [], ◌∷◌, Some, None, IsUtf8, string_bytes, chars}
use Rattle.std.specs.List.{slice_get}
use Rattle.jsonc_text.specs.Grammar.{IsDocument}
use Rattle.jsonc_text.specs.Options.{Options, all_on}
use Rattle.jsonc_text.specs.declared.edit.EditError.{EditError}
use Rattle.jsonc_text.specs.declared.edit.Over.{Over}
use Rattle.jsonc_text.specs.declared.edit.Over.TheVariants.{Keep}
use Rattle.jsonc_text.specs.declared.edit.Over.TheVariants as over
use Rattle.jsonc_text.specs.declared.edit.Place.{Place}
use Rattle.jsonc_text.specs.declared.edit.Place.TheVariants as place
use Rattle.jsonc_text.specs.declared.edit.Shape.{Shape}
use Rattle.jsonc_text.specs.declared.edit.Shape.TheVariants as shape
use Rattle.jsonc_text.specs.declared.errors.ParseError.{ParseError}
use Rattle.jsonc_text.specs.declared.edit.TrailingCommaMode.{TrailingCommaMode}
use Rattle.jsonc_text.specs.declared.edit.TrailingCommaMode.TheVariants as commas
use Rattle.jsonc_layout.specs.input.Views.{plain}
use Rattle.jsonc_layout.specs.declared.input.value.CstInputValue.{CstInputValue}
use Rattle.jsonc_run.specs.declared.edit.Edit.{Edit}
use Rattle.jsonc_run.specs.declared.edit.Edit.TheVariants as edit
use Rattle.jsonc_input.specs.Reads.{IsValueOfText}
use Rattle.jsonc_parser.specs.Promise.{IsEditedText, StopsText}
use Rattle.jsonc_engine.specs.Input.{IsRefusal, IsRefusalOf}
use Rattle.jsonc_c.specs.Told.{IsToldOf, edit_status}
use Rattle.jsonc_c.specs.declared.fault.JsoncFault.{JsoncFault}
use Rattle.jsonc_c.specs.declared.edits.JsoncEdit.{JsoncEdit}

-- an array, or an object
abbrev pub shape_of : Bool → Shape
shape_of true = shape.Array
shape_of false = shape.Object

-- a value of another kind is replaced, or stays
abbrev pub over_of : Bool → Over
over_of true = over.Replace
over_of false = over.Keep

-- no trailing commas, or some
abbrev pub mode_of : Bool → TrailingCommaMode
mode_of true = commas.Never
mode_of false = commas.IfMultiline

-- after an entry on its line, or above it
abbrev pub place_of : Bool → Place
place_of true = place.After
place_of false = place.Above

module _ {A : Type 0} where
  -- v is the value of the JSON text, which may hold all that options allow
  abbrev pub IsValueOf : JsoncEdit → CstInputValue A → Type 0
  IsValueOf c v = IsValueOfText all_on c.json.now (Some (plain v))

  -- the edit is the one that C's edit c asks for
  abbrev pub IsReadAs : JsoncEdit → Edit A → Type 0
  IsReadAs c (edit.Replace path v) = (c.kind ≡ 0) × (path.items ≡ c.path.now) × IsValueOf c v
  IsReadAs c (edit.Remove path) = (c.kind ≡ 1) × (path.items ≡ c.path.now)
  IsReadAs c (edit.RemoveComment number) = (c.kind ≡ 2) × (number ≡ c.index)
  IsReadAs c (edit.SetRoot v) = (c.kind ≡ 3) × IsValueOf c v
  IsReadAs c edit.ClearRoot = c.kind ≡ 4
  IsReadAs c (edit.ReplaceProperty path name v) = (c.kind ≡ 5) × (path.items ≡ c.path.now) × (string_bytes name ≡ c.name.now) × IsValueOf c v
  IsReadAs c (edit.EnsureRoot shape over) = (c.kind ≡ 6) × (shape ≡ shape_of c.first) × (over ≡ over_of c.second)
  IsReadAs c (edit.SetValue path v) = (c.kind ≡ 7) × (path.items ≡ c.path.now) × IsValueOf c v
  IsReadAs c (edit.EnsureValue path shape) = (c.kind ≡ 8) × (path.items ≡ c.path.now) × (shape ≡ shape_of c.first)
  IsReadAs c (edit.SetBoolean path b) = (c.kind ≡ 9) × (path.items ≡ c.path.now) × (b ≡ c.first)
  IsReadAs c (edit.EnsureMultiline path) = (c.kind ≡ 10) × (path.items ≡ c.path.now)
  IsReadAs c (edit.InsertElement path index v) = (c.kind ≡ 11) × (path.items ≡ c.path.now) × (index ≡ c.index) × IsValueOf c v
  IsReadAs c (edit.AppendElement path v) = (c.kind ≡ 12) × (path.items ≡ c.path.now) × IsValueOf c v
  IsReadAs c (edit.InsertProperty path index name v) = (c.kind ≡ 13) × (path.items ≡ c.path.now) × (index ≡ c.index) × (string_bytes name ≡ c.name.now) × IsValueOf c v
  IsReadAs c (edit.AppendProperty path name v) = (c.kind ≡ 14) × (path.items ≡ c.path.now) × (string_bytes name ≡ c.name.now) × IsValueOf c v
  IsReadAs c (edit.EnsureProperty path name shape over) = (c.kind ≡ 15) × (path.items ≡ c.path.now) × (string_bytes name ≡ c.name.now) × (shape ≡ shape_of c.first) × (over ≡ over_of c.second)
  IsReadAs c (edit.SetTrailingCommas path mode) = (c.kind ≡ 16) × (path.items ≡ c.path.now) × (mode ≡ mode_of c.first)
  IsReadAs c (edit.Sort path pin groups) = (c.kind ≡ 17) × (path.items ≡ c.path.now) × (pin ≡ c.first) × (groups ≡ c.second)
  IsReadAs c (edit.RenameProperty path name) = (c.kind ≡ 18) × (path.items ≡ c.path.now) × (string_bytes name ≡ c.name.now)
  IsReadAs c (edit.InsertComment path place comment) = (c.kind ≡ 19) × (path.items ≡ c.path.now) × (place ≡ place_of c.first) × (string_bytes comment ≡ c.name.now)

  -- the edits are those that C's edits ask for, in their order
  pub data AreReadAs : List JsoncEdit → List (Edit A) → Type 0 where
    none_read : AreReadAs [] []
    one_read : {c : JsoncEdit} {e : Edit A} {cs : List JsoncEdit} {es : List (Edit A)} → IsReadAs c e → AreReadAs cs es → AreReadAs (c ∷ cs) (e ∷ es)

-- no edit has a greater kind
abbrev pub greatest_kind : ℕ
greatest_kind = 19

-- the kinds of edits: of the document's value or of a comment that is there; at a path, writing no value; at one, writing a value; at one, writing a property; at
-- one, with a name or the text of a comment
abbrev pub IsOfRoot : ℕ → Type 0
IsOfRoot kind = (kind ≡ 2) ⊎ ((kind ≡ 3) ⊎ ((kind ≡ 4) ⊎ (kind ≡ 6)))

abbrev pub IsOfPath : ℕ → Type 0
IsOfPath kind = (kind ≡ 1) ⊎ ((kind ≡ 8) ⊎ ((kind ≡ 9) ⊎ ((kind ≡ 10) ⊎ ((kind ≡ 16) ⊎ (kind ≡ 17)))))

abbrev pub IsOfValue : ℕ → Type 0
IsOfValue kind = (kind ≡ 0) ⊎ ((kind ≡ 7) ⊎ ((kind ≡ 11) ⊎ (kind ≡ 12)))

abbrev pub IsOfProperty : ℕ → Type 0
IsOfProperty kind = (kind ≡ 5) ⊎ ((kind ≡ 13) ⊎ (kind ≡ 14))

abbrev pub IsOfName : ℕ → Type 0
IsOfName kind = (kind ≡ 15) ⊎ ((kind ≡ 18) ⊎ (kind ≡ 19))

-- the kinds that have a name or a comment, and those that have a value
abbrev pub HasName : ℕ → Type 0
HasName kind = IsOfProperty kind ⊎ IsOfName kind

abbrev pub HasValue : ℕ → Type 0
HasValue kind = (kind ≡ 3) ⊎ (IsOfValue kind ⊎ IsOfProperty kind)

-- an allocation failed, or the name or comment that the kind has is not UTF-8
abbrev pub IsWanting : JsoncEdit → ℕ → Type 0
IsWanting c status = (status ≡ 1) ⊎ ((status ≡ 2) × HasName c.kind × ¬ (IsUtf8 c.name.now))

-- Why C's edit is none: an allocation failed; a name, comment or JSON text that its kind has is not UTF-8; that JSON text is no document, and the fault tells what
-- is wrong with it; it has no value; or no edit has its kind.
pub data IsUnread (c : JsoncEdit) : ℕ → JsoncFault → Type 0 where
  for_memory : {f : JsoncFault} → IsUnread c 1 f
  for_name : {f : JsoncFault} → HasName c.kind → ¬ (IsUtf8 c.name.now) → IsUnread c 2 f
  for_json : {f : JsoncFault} → HasValue c.kind → ¬ (IsUtf8 c.json.now) → IsUnread c 2 f
  for_text : {f : JsoncFault} (e : ParseError) → HasValue c.kind → IsRefusal c.json.now e → IsToldOf e f → IsUnread c 7 f
  for_value : {f : JsoncFault} → HasValue c.kind → IsDocument all_on (chars c.json.now) None → IsUnread c 8 f
  for_kind : {f : JsoncFault} → greatest_kind < c.kind → IsUnread c 16 f

-- why one of C's edits is none: the one of the number that the fault tells
abbrev pub IsUnreadIn : List JsoncEdit → ℕ → JsoncFault → Type 0
IsUnreadIn cs status f = (c : JsoncEdit) × (slice_get cs f.made ≡ Some c) × IsUnread c status f

-- The text is a document, and if the options allow what the edits write, they lead from it to one of the other text.
abbrev pub IsEdited : Type 0 → Options → List ℕ → List JsoncEdit → List ℕ → Type 0
IsEdited A o text cs made = (es : List (Edit A)) × AreReadAs cs es × IsEditedText o (chars text) es (chars made)

-- Why the text was not edited: it is not UTF-8; it is no document, and the fault tells what is wrong with it; or the edit was refused before which so many were
-- made, or there was no memory for the text behind all.
pub data IsUnedited (A : Type 0) (o : Options) (text : List ℕ) (cs : List JsoncEdit) : ℕ → JsoncFault → Type 0 where
  for_edits : {status : ℕ} {f : JsoncFault} → IsUnreadIn cs status f → IsUnedited A o text cs status f
  for_bytes : {f : JsoncFault} → ¬ (IsUtf8 text) → f.made ≡ 0 → IsUnedited A o text cs 3 f
  for_memory : {f : JsoncFault} → f.made ≡ 0 → IsUnedited A o text cs 1 f
  for_text : {f : JsoncFault} (e : ParseError) → IsRefusalOf o text e → IsToldOf e f → f.made ≡ 0 → IsUnedited A o text cs 4 f
  for_edit : {f : JsoncFault} (es : List (Edit A)) (why : EditError) → AreReadAs cs es → StopsText o (chars text) es f.made why → IsUnedited A o text cs (edit_status why) f
