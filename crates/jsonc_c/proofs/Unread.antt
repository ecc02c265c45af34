-- Why an edit of C is none.
use Rattle.std.proofs.Common.{◌≡◌, ◌<◌, ◌⊎◌, ℕ, true, List, Option, Some, None, chars, inl, inr, option_map, subst, sym}
use Rattle.jsonc_text.specs.Grammar.{IsDocument}
use Rattle.jsonc_text.specs.Options.{Options, all_on}
use Rattle.jsonc_text.specs.Plain.{Plain, collapse}
use Rattle.jsonc_engine.specs.Input.{IsRefusal, IsRefusalOf}
use Rattle.jsonc_engine.specs.Parser.{IsFault, ParseError, ParseFault, RefusesText}
use Rattle.jsonc_c.specs.Edits.{HasValue, IsOfRoot, IsUnread, IsWanting, for_kind, for_memory, for_name, for_text, greatest_kind}
use Rattle.jsonc_c.specs.Told.{IsToldOf}
use Rattle.jsonc_c.specs.declared.edits.JsoncEdit.{JsoncEdit}
use Rattle.jsonc_c.specs.declared.fault.JsoncFault.{JsoncFault}

-- what a parse tells of a text is true of its bytes, under the options that were read
pub is_refusal : (o p : Options) (bytes text : List ℕ) (e : ParseError) → o ≡ p → text ≡ bytes → IsFault text e → RefusesText o text e → ParseFault o text true e → IsRefusalOf p bytes e
is_refusal o p bytes text e same read fault refused error =
    subst (λ (b : List ℕ). IsRefusalOf p b e) read (subst (λ (q : Options). IsRefusalOf q text e) same (record { fault = fault; refused = refused; error = error }))

-- a text that has no value is a document without one
pub no_value : (bytes text : List ℕ) (o : Options) (w : Option Plain) → o ≡ all_on → text ≡ bytes → None ≡ option_map collapse w → IsDocument o (chars text) w → IsDocument all_on (chars bytes) None
no_value bytes text o None all read e d = subst (λ (b : List ℕ). IsDocument all_on (chars b) None) read (subst (λ (q : Options). IsDocument q (chars text) None) all d)
no_value bytes text o (Some x) all read e d = cc

-- memory was wanting
pub unread_memory : (c : JsoncEdit) (status : ℕ) (f : JsoncFault) → status ≡ 1 → IsUnread c status f
unread_memory c status f is = subst (λ (s : ℕ). IsUnread c s f) (sym is) for_memory

-- memory was, or the name is not UTF-8
pub unread_wanting : (c : JsoncEdit) (status : ℕ) (f : JsoncFault) → IsWanting c status → IsUnread c status f
unread_wanting c status f (inl is) = unread_memory c status f is
unread_wanting c status f (inr other) = subst (λ (s : ℕ). IsUnread c s f) (sym other.0) (for_name other.1 other.2)

-- the JSON text was refused
pub unread_text : (c : JsoncEdit) (e : ParseError) (status : ℕ) (f : JsoncFault) → HasValue c.kind → IsRefusal c.json.now e → (status ≡ 1) ⊎ ((status ≡ 7) × IsToldOf e f) → IsUnread c status f
unread_text c e status f has refused (inl is) = unread_memory c status f is
unread_text c e status f has refused (inr told) = subst (λ (s : ℕ). IsUnread c s f) (sym told.0) (for_text e has refused told.1)

-- no edit has the kind
pub unread_kind : (c : JsoncEdit) (f : JsoncFault) → greatest_kind < c.kind → IsUnread c 16 f
unread_kind c f past = for_kind past

-- of the edits of the document's value or of a comment, one alone has a value
pub root_value : (kind : ℕ) → IsOfRoot kind → ¬ (kind ≡ 2) → ¬ (kind ≡ 4) → ¬ (kind ≡ 6) → HasValue kind
root_value kind (inl comment) other clears ensures_root = absurd (other comment)
root_value kind (inr (inl sets)) other clears ensures_root = inl sets
root_value kind (inr (inr (inl clear))) other clears ensures_root = absurd (clears clear)
root_value kind (inr (inr (inr ensure))) other clears ensures_root = absurd (ensures_root ensure)
