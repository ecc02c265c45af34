use Rattle.std.proofs.Common.{◌∙◌, ◌+◌, List, Some, None, [], inl, inr, ap, arith, length, refl, subst, sym, ℕ}
use Rattle.jsonc_layout.specs.input.Views.{plain}
use Rattle.jsonc_cst.specs.Document.{nodes_of}
use Rattle.jsonc_parser.specs.paths.Found.{names_of}
use Rattle.jsonc_parser.specs.patch.Found.{IsOfShown}
use Rattle.jsonc_parser.specs.patch.Putting.{IsNested}
use Rattle.jsonc_parser.specs.patch.PutSteps.{IsLed, IsUnnested, IsUnprepared, LedHolds}
use Rattle.jsonc_parser.specs.declared.patch.entry.Led.{Led}
use Rattle.jsonc_parser.proofs.lemmas.paths.ChosenEdit.{no_names, some_names}
use Rattle.jsonc_parser.proofs.lemmas.patch.PutChosen.{chosen_first, chosen_value, chosen_whole, looked_up, none_left, not_nested, value_not_put, writes_first}
use Rattle.jsonc_parser.proofs.patch.putting.choose.Goals as goal

pub returns-then-is_empty-clause-chosen : goal.returns-then-is_empty-clause-chosen
returns-then-is_empty-clause-chosen g c =
    chosen_whole c.args.doc.now c.args.doc.now.tree.tree (plain c.args.value) c.args.over (names_of c.args.tokens.now) c.args.value refl (no_names c.args.tokens.now (sym c.is_empty.ensures ∙ c.if-is_empty.true))

pub returns-in-Ok-clause-chosen : goal.returns-in-Ok-clause-chosen
returns-in-Ok-clause-chosen g c =
    chosen_first c.args.doc.now c.args.doc.now.tree.tree (plain c.args.value) c.args.over (names_of c.args.tokens.now)
    (subst (λ (l : Led). IsOfShown c.args.doc.now (IsLed c.args.doc.now (names_of c.args.tokens.now) l)) c.in-Ok-Nothing.field-0-is c.in-Ok-Nothing.ensures.led) c.in-Ok.value c.in-Ok.ensures.nested

pub returns-in-Err-nested_by-clause-fails : goal.returns-in-Err-nested_by-clause-fails
returns-in-Err-nested_by-clause-fails g c =
    let led = subst (λ (l : Led). IsOfShown c.args.doc.now (IsLed c.args.doc.now (names_of c.args.tokens.now) l)) c.in-Ok-Nothing.field-0-is c.in-Ok-Nothing.ensures.led in
    not_nested c.args.doc.now c.args.doc.now.tree.tree (plain c.args.value) c.args.over (names_of c.args.tokens.now) (names_of c.args.tokens.now) 0 (omega arith)
    (writes_first c.args.doc.now c.args.doc.now.tree.tree (plain c.args.value) c.args.over (names_of c.args.tokens.now) led) c.in-Err-nested_by.error c.in-Err-nested_by.ensures.fails

pub prepare-requires-clause-in_document : goal.prepare-requires-clause-in_document
prepare-requires-clause-in_document g c = subst (LedHolds c.args.doc.now (length c.args.tokens.now)) c.in-Ok-To.field-0-is c.in-Ok-To.ensures.in_document

pub prepare-requires-clause-within : goal.prepare-requires-clause-within
prepare-requires-clause-within g c = omega arith

pub returns-in-Ok-prepare-clause-chosen : goal.returns-in-Ok-prepare-clause-chosen
returns-in-Ok-prepare-clause-chosen g c =
    let led = subst (λ (l : Led). IsOfShown c.args.doc.now (IsLed c.args.doc.now (names_of c.args.tokens.now) l)) c.in-Ok-To.field-0-is c.in-Ok-To.ensures.led in
    chosen_value c.args.doc.now c.args.doc.now.tree.tree (plain c.args.value) c.args.over (names_of c.args.tokens.now) c.in-Ok-To.node led (some_names c.args.tokens.now (sym c.is_empty.ensures ∙ c.if-is_empty.false))
    c.in-Ok-prepare.path c.in-Ok-prepare.ensures.at c.in-Ok-prepare.value
    (subst (λ (l : List (List ℕ)). IsNested l (plain c.args.value) (plain c.in-Ok-prepare.value)) (none_left c.args.tokens.now (length c.args.tokens.now) refl) c.in-Ok-prepare.ensures.nested)

pub returns-in-Err-prepare-clause-fails : goal.returns-in-Err-prepare-clause-fails
returns-in-Err-prepare-clause-fails g c =
    let led = subst (λ (l : Led). IsOfShown c.args.doc.now (IsLed c.args.doc.now (names_of c.args.tokens.now) l)) c.in-Ok-To.field-0-is c.in-Ok-To.ensures.led in
    let some = some_names c.args.tokens.now (sym c.is_empty.ensures ∙ c.if-is_empty.false) in
    value_not_put c.args.doc.now c.args.doc.now.tree.tree (plain c.args.value) c.args.over c.args.tokens.now c.in-Ok-To.node led some (length c.args.tokens.now) refl c.in-Err-prepare.error c.in-Err-prepare.ensures.fails

pub choose_beyond-requires-clause-in_document : goal.choose_beyond-requires-clause-in_document
choose_beyond-requires-clause-in_document g c = (subst (LedHolds c.args.doc.now (length c.args.tokens.now)) c.in-Ok-Stops.field-0-is c.in-Ok-Stops.ensures.in_document).0

pub choose_beyond-requires-clause-within : goal.choose_beyond-requires-clause-within
choose_beyond-requires-clause-within g c = (subst (LedHolds c.args.doc.now (length c.args.tokens.now)) c.in-Ok-Stops.field-0-is c.in-Ok-Stops.ensures.in_document).1

pub choose_beyond-requires-clause-stops : goal.choose_beyond-requires-clause-stops
choose_beyond-requires-clause-stops g c = subst (λ (l : Led). IsOfShown c.args.doc.now (IsLed c.args.doc.now (names_of c.args.tokens.now) l)) c.in-Ok-Stops.field-0-is c.in-Ok-Stops.ensures.led

pub returns-in-Err-clause-fails : goal.returns-in-Err-clause-fails
returns-in-Err-clause-fails g c =
    looked_up c.args.doc.now (plain c.args.value) c.args.over (names_of c.args.tokens.now) c.in-Err.error c.in-Err.ensures.memory c.in-Err.ensures.escaped
