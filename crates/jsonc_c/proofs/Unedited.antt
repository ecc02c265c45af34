-- A text after edits of C, and why there is none.
use Rattle.std.proofs.Common.{◌≡◌, ◌≤◌, ◌⊎◌, ℕ, true, List, arith, chars, inl, inr, refl, subst, sym}
use Rattle.jsonc_text.specs.Options.{Options}
use Rattle.jsonc_text.specs.declared.edit.EditError.{EditError}
use Rattle.jsonc_text.specs.declared.edit.EditError.TheVariants as refused
use Rattle.jsonc_run.specs.declared.edit.Edit.{Edit}
use Rattle.jsonc_parser.specs.Promise.{IsEditedText, StopsText}
use Rattle.jsonc_engine.specs.Parser.{IsFault, ParseError, ParseFault, RefusesText}
use Rattle.jsonc_c.specs.Edits.{AreReadAs, IsEdited, IsUnedited, IsUnread, IsUnreadIn}
use Rattle.jsonc_c.specs.Told.{IsToldOf, edit_status}
use Rattle.jsonc_c.specs.declared.edits.JsoncEdit.{JsoncEdit}
use Rattle.jsonc_c.specs.declared.fault.JsoncFault.{JsoncFault}
use Rattle.jsonc_c.proofs.Unread.{is_refusal}

module _ (A : Type 0) (o p : Options) (text : List ℕ) (cs : List JsoncEdit) (same : o ≡ p) where
  -- the edits that were read lead there
  pub edited_so : (es : List (Edit A)) (made : List ℕ) → AreReadAs cs es → IsEditedText o (chars text) es (chars made) → IsEdited A p text cs made
  edited_so es made read edited = (es, read, subst (λ (q : Options). IsEditedText q (chars text) es (chars made)) same edited)

  -- the text was refused
  pub unedited_text : (e : ParseError) (status : ℕ) (f : JsoncFault) → RefusesText o text e × IsFault text e × ParseFault o text true e → (status ≡ 1) ⊎ ((status ≡ 4) × IsToldOf e f) → f.made ≡ 0
      → IsUnedited A p text cs status f
  unedited_text e status f why (inl is) none = subst (λ (s : ℕ). IsUnedited A p text cs s f) (sym is) (IsUnedited.for_memory none)
  unedited_text e status f why (inr told) none =
      subst (λ (s : ℕ). IsUnedited A p text cs s f) (sym told.0) (IsUnedited.for_text e (is_refusal o p text text e same refl why.1 why.0 why.2) told.1 none)

  -- an edit was
  pub unedited_stop : (es : List (Edit A)) (why : EditError) (f : JsoncFault) (status : ℕ) → AreReadAs cs es → StopsText o (chars text) es f.made why → status ≡ edit_status why → IsUnedited A p text cs status f
  unedited_stop es why f status read stops is =
      subst (λ (s : ℕ). IsUnedited A p text cs s f) (sym is) (IsUnedited.for_edit es why read (subst (λ (q : Options). StopsText q (chars text) es f.made why) same stops))

-- that an edit is none is no success, and no want of room
pub unread_tells : {c : JsoncEdit} {status : ℕ} {f : JsoncFault} → IsUnread c status f → (1 ≤ status) × ¬ (status ≡ 17)
unread_tells IsUnread.for_memory = (omega arith, λ e. omega (arith, e))
unread_tells (IsUnread.for_name has other) = (omega arith, λ e. omega (arith, e))
unread_tells (IsUnread.for_json has other) = (omega arith, λ e. omega (arith, e))
unread_tells (IsUnread.for_text e has refused told) = (omega arith, λ e. omega (arith, e))
unread_tells (IsUnread.for_value has empty) = (omega arith, λ e. omega (arith, e))
unread_tells (IsUnread.for_kind past) = (omega arith, λ e. omega (arith, e))

unread_in_tells : (cs : List JsoncEdit) (status : ℕ) (f : JsoncFault) → IsUnreadIn cs status f → (1 ≤ status) × ¬ (status ≡ 17)
unread_in_tells cs status f (c, at, why) = unread_tells why

refused_tells : (why : EditError) → (1 ≤ edit_status why) × ¬ (edit_status why ≡ 17)
refused_tells refused.OutOfMemory = (omega arith, λ e. omega (arith, e))
refused_tells refused.NoSuchPlace = (omega arith, λ e. omega (arith, e))
refused_tells refused.MissingBrackets = (omega arith, λ e. omega (arith, e))
refused_tells refused.MissingName = (omega arith, λ e. omega (arith, e))
refused_tells refused.InvalidComment = (omega arith, λ e. omega (arith, e))
refused_tells refused.LineContinues = (omega arith, λ e. omega (arith, e))
refused_tells refused.NotAnEntry = (omega arith, λ e. omega (arith, e))
refused_tells refused.NestingDepthExceeded = (omega arith, λ e. omega (arith, e))

-- nor is that a text was not edited
pub unedited_tells : {A : Type 0} {o : Options} {text : List ℕ} {cs : List JsoncEdit} {status : ℕ} {f : JsoncFault} → IsUnedited A o text cs status f → (1 ≤ status) × ¬ (status ≡ 17)
unedited_tells {cs = cs} (IsUnedited.for_edits {status = s} {f = f} why) = unread_in_tells cs s f why
unedited_tells (IsUnedited.for_bytes other none) = (omega arith, λ e. omega (arith, e))
unedited_tells (IsUnedited.for_memory none) = (omega arith, λ e. omega (arith, e))
unedited_tells (IsUnedited.for_text e refused told none) = (omega arith, λ e. omega (arith, e))
unedited_tells (IsUnedited.for_edit es why read stops) = refused_tells why
