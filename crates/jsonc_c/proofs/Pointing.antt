-- What a pointer leads to, and the statuses of calls of pointers and of JSON.
use Rattle.std.proofs.Common.{◌≡◌, ◌∙◌, ◌⊎◌, ℕ, List, Some, ap, arith, chars, inl, inr, subst, sym}
use Rattle.jsonc_text.specs.Options.{Options}
use Rattle.jsonc_text.specs.Plain.{Plain, null, boolean, number, string, array, object, collapse}
use Rattle.jsonc_text.specs.declared.edit.EditError.{EditError}
use Rattle.jsonc_text.specs.declared.edit.EditError.TheVariants.{InvalidComment, LineContinues, MissingBrackets, MissingName, NestingDepthExceeded, NoSuchPlace, NotAnEntry, OutOfMemory}
use Rattle.jsonc_text.specs.declared.errors.ParseError.{ParseError}
use Rattle.jsonc_layout.specs.input.Views.{plain}
use Rattle.jsonc_layout.specs.declared.input.value.CstInputValue.{CstInputValue}
use Rattle.jsonc_sound.specs.Documents.{ShowsText}
use Rattle.jsonc_edit.specs.Paths.{IsAt}
use Rattle.jsonc_cst.specs.declared.cst.CstRootNode.{CstRootNode}
use Rattle.jsonc_cst.specs.declared.cst.node.CstNode.{CstNode}
use Rattle.jsonc_cst.specs.Document.{nodes_of, tree_of}
use Rattle.jsonc_cst.specs.Nodes.{number_of}
use Rattle.jsonc_parser.specs.patch.Found.{Finds, IsOfShown, Reads}
use Rattle.jsonc_parser.specs.patch.Pointer.{pointer_text}
use Rattle.jsonc_parser.specs.patch.References.{RefersTo}
use Rattle.jsonc_engine.specs.Input.{IsRefusalOf}
use Rattle.jsonc_c.specs.Json.{IsNoJson}
use Rattle.jsonc_c.specs.Patches.{IsNoDocument}
use Rattle.jsonc_c.specs.Pointed.{IsNoStringAt, IsPathOf, IsStringAt, IsUncleared}
use Rattle.jsonc_c.specs.Told.{IsToldOf, edit_status, no_fault}
use Rattle.jsonc_c.specs.declared.fault.JsoncFault.{JsoncFault}
use Rattle.jsonc_c.proofs.Patching.{Ends, ends_past, ends_untold, no_document_ends, no_pointer_ends, unfound_ends}

-- a string alone is left as a string
pub string_stays : (v : Plain) (s : List ℕ) → string s ≡ collapse v → v ≡ string s
string_stays null s h = cc
string_stays (boolean b) s h = cc
string_stays (number t) s h = cc
string_stays (string t) s h = cc
string_stays (array vs) s h = cc
string_stays (object ms) s h = cc

module _ {A : Type 0} (o : Options) (words text : List ℕ) (doc : CstRootNode A) (shown : ShowsText o (chars text) (tree_of doc)) (tokens : List (List ℕ)) (is : pointer_text tokens ≡ chars words) where
  -- the path that leads to the node that was found
  pub path_there : (node : CstNode) (path : List ℕ) → IsOfShown doc (λ d. Finds d doc tokens (Some node)) → IsAt (nodes_of doc) path (number_of node) → IsPathOf o words text path
  path_there node path h at = (tokens, is, (shown.0, nodes_of doc, shown.1, shown.2, shown.3, (number_of node, h shown.0 shown.3, at)))

  -- and there is one
  pub has_path : (node : CstNode) → IsOfShown doc (λ d. Finds d doc tokens (Some node)) → ((path : List ℕ) → IsAt (nodes_of doc) path (number_of node) → ⊥) → ⊥
  has_path node h none = let r = h shown.0 shown.3 in none r.path r.at

  -- what was taken is a string
  pub string_there : (taken : CstInputValue A) (made : List ℕ) → IsOfShown doc (λ d. Reads d tokens (Some taken)) → plain taken ≡ string (chars made) → IsStringAt o words text made
  string_there taken made h same =
      let r = h shown.0 shown.3 in
      let whole : r.0 ≡ string (chars made) = string_stays r.0 (chars made) (sym same ∙ r.2) in
      (tokens, is, (shown.0, nodes_of doc, shown.1, shown.2, shown.3, subst (λ (v : Plain). RefersTo shown.0.value tokens v) whole r.1))

  -- or it is none
  pub other_there : (taken : CstInputValue A) (status : ℕ) (f : JsoncFault) → status ≡ 29 → f ≡ no_fault → IsOfShown doc (λ d. Reads d tokens (Some taken)) → ((s : List ℕ) → plain taken ≡ string s → ⊥)
      → IsNoStringAt o words text status f
  other_there taken status f at none h other =
      let r = h shown.0 shown.3 in
      IsNoStringAt.for_kind at none
      (tokens, is, (shown.0, nodes_of doc, shown.1, shown.2, shown.3, (r.0, r.1, λ s whole. other s (r.2 ∙ ap collapse whole))))

pub no_string_ends : {o : Options} {pointer text : List ℕ} {status : ℕ} {f : JsoncFault} → IsNoStringAt o pointer text status f → Ends status f
no_string_ends (IsNoStringAt.for_value why) = unfound_ends why
no_string_ends {status = s} {f = f} (IsNoStringAt.for_kind is none other) = ends_past 29 s f is (omega arith)

-- the status of a refused edit tells nothing, and is none of a call's own
edit_ends : (why : EditError) (status : ℕ) (f : JsoncFault) → status ≡ edit_status why → f ≡ no_fault → Ends status f
edit_ends OutOfMemory status f is none = ends_untold 1 status f is (omega arith) (omega arith) none
edit_ends NoSuchPlace status f is none = ends_untold 13 status f is (omega arith) (omega arith) none
edit_ends MissingBrackets status f is none = ends_untold 14 status f is (omega arith) (omega arith) none
edit_ends MissingName status f is none = ends_untold 15 status f is (omega arith) (omega arith) none
edit_ends InvalidComment status f is none = ends_past 25 status f is (omega arith)
edit_ends LineContinues status f is none = ends_past 26 status f is (omega arith)
edit_ends NotAnEntry status f is none = ends_past 27 status f is (omega arith)
edit_ends NestingDepthExceeded status f is none = ends_past 28 status f is (omega arith)

pub uncleared_ends : {A : Type 0} {o : Options} {pointer text : List ℕ} {status : ℕ} {f : JsoncFault} → IsUncleared A o pointer text status f → Ends status f
uncleared_ends {status = s} {f = f} (IsUncleared.for_memory is none) = ends_untold 1 s f is (omega arith) (omega arith) none
uncleared_ends (IsUncleared.for_words (inl why)) = no_pointer_ends why
uncleared_ends (IsUncleared.for_words (inr why)) = no_document_ends why
uncleared_ends {status = s} {f = f} (IsUncleared.for_entry is none nothing) = ends_past 20 s f is (omega arith)
uncleared_ends {status = s} {f = f} (IsUncleared.for_removal why is none kept) = edit_ends why s f is none

-- a text is not written as JSON, since it is no document
pub no_json_text : (o p : Options) (bytes text : List ℕ) → text ≡ bytes → o ≡ p → (e : ParseError) (status : ℕ) (old f : JsoncFault) → old ≡ no_fault → IsRefusalOf o text e → (status ≡ 1) ⊎ ((status ≡ 4) × IsToldOf e f)
    → (¬ (status ≡ 4) → f ≡ old) → f.made ≡ old.made → IsNoJson p bytes status f
no_json_text o p bytes text read same e status old f none refused (inl one) kept made = IsNoJson.for_document (IsNoDocument.for_memory one (kept (λ four. omega (arith, one, four)) ∙ none))
no_json_text o p bytes text read same e status old f none refused (inr told) kept made =
    IsNoJson.for_document (IsNoDocument.for_text e told.0 (told.1, made ∙ ap (λ (g : JsoncFault). g.made) none) (subst (λ (b : List ℕ). IsRefusalOf p b e) read (subst (λ (q : Options). IsRefusalOf q text e) same refused)))

pub no_json_ends : {o : Options} {text : List ℕ} {status : ℕ} {f : JsoncFault} → IsNoJson o text status f → Ends status f
no_json_ends (IsNoJson.for_document why) = no_document_ends why
no_json_ends {status = s} {f = f} (IsNoJson.for_value is none empty) = ends_past 30 s f is (omega arith)
no_json_ends {status = s} {f = f} (IsNoJson.for_number place is told) = ends_past 31 s f is (omega arith)
