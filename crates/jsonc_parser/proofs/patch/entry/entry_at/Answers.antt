use Rattle.std.proofs.Common.{◌∙◌, List, ap, chars, subst, ℕ}
use Rattle.jsonc_layout.specs.input.Views.{chars_of}
use Rattle.jsonc_parser.specs.paths.Found.{names_of}
use Rattle.jsonc_parser.specs.patch.Found.{IsOfShown}
use Rattle.jsonc_parser.specs.patch.Pointer.{tokens_of}
use Rattle.jsonc_parser.specs.patch.PutSteps.{Enters, EntryHolds, IsLed, LedHolds}
use Rattle.jsonc_parser.specs.declared.patch.entry.Entry.TheVariants as entries
use Rattle.jsonc_parser.specs.declared.patch.entry.Led.{Led}
use Rattle.jsonc_parser.proofs.lemmas.patch.Chains.{all_but_last, at_none, none_at_all}
use Rattle.jsonc_parser.proofs.lemmas.patch.PutFound.{entry_found, entry_missing, escaped_front, escaped_last, front_missing, front_stops}
use Rattle.jsonc_parser.proofs.patch.entry.entry_at.Goals as goal

pub returns-in_default-clause-entry : goal.returns-in_default-clause-entry
returns-in_default-clause-entry g c = λ d shown path v leads.
    none_at_all (tokens_of c.args.pointer.now) c.tokens.result.now c.tokens.ensures (at_none _ _ c.split_last.result c.in_default.is c.split_last.ensures.cases)

pub returns-in-Ok-Nothing-clause-entry : goal.returns-in-Ok-Nothing-clause-entry
returns-in-Ok-Nothing-clause-entry g c =
    let doc = c.args.doc.now in
    let all = tokens_of c.args.pointer.now in
    let parts = all_but_last all c.tokens.result.now c.in-Some.front.now c.in-Some.last.now c.tokens.ensures c.in-Some.ensures.cases.0 in
    let front = names_of c.in-Some.front.now in
    front_missing doc doc.tree.tree all front (chars_of c.in-Some.last.now) parts (subst (λ (l : Led). IsOfShown doc (IsLed doc front l)) c.in-Ok-Nothing.field-0-is c.in-Ok-Nothing.ensures.led)

pub returns-in-Ok-Stops-clause-entry : goal.returns-in-Ok-Stops-clause-entry
returns-in-Ok-Stops-clause-entry g c =
    let doc = c.args.doc.now in
    let all = tokens_of c.args.pointer.now in
    let parts = all_but_last all c.tokens.result.now c.in-Some.front.now c.in-Some.last.now c.tokens.ensures c.in-Some.ensures.cases.0 in
    let front = names_of c.in-Some.front.now in
    front_stops doc doc.tree.tree all front (chars_of c.in-Some.last.now) parts c.in-Ok-Stops.field-0-0 c.in-Ok-Stops.field-0-1 c.in-Ok-Stops.field-0-2
    (subst (λ (l : Led). IsOfShown doc (IsLed doc front l)) c.in-Ok-Stops.field-0-is c.in-Ok-Stops.ensures.led)

pub enter-requires : goal.enter-requires
enter-requires g c = subst (LedHolds c.args.doc.now _) c.in-Ok-To.field-0-is c.in-Ok-To.ensures.in_document

pub returns-in-Ok-There-clause-entry : goal.returns-in-Ok-There-clause-entry
returns-in-Ok-There-clause-entry g c =
    let doc = c.args.doc.now in
    let all = tokens_of c.args.pointer.now in
    let parts = all_but_last all c.tokens.result.now c.in-Some.front.now c.in-Some.last.now c.tokens.ensures c.in-Some.ensures.cases.0 in
    let front = names_of c.in-Some.front.now in
    let to = subst (λ (l : Led). IsOfShown doc (IsLed doc front l)) c.in-Ok-To.field-0-is c.in-Ok-To.ensures.led in
    entry_found doc doc.tree.tree all front (chars_of c.in-Some.last.now) parts c.in-Ok-To.container to c.in-Ok-There.entry
    (subst (λ (s : List ℕ). Enters doc c.in-Ok-To.container s (entries.There c.in-Ok-There.entry)) (ap chars c.deref.ensures) (subst (Enters doc c.in-Ok-To.container (chars c.deref.result.now)) c.in-Ok-There.field-0-is c.in-Ok-There.ensures.entry))

pub returns-in-Ok-Stops-enter-clause-entry : goal.returns-in-Ok-Stops-enter-clause-entry
returns-in-Ok-Stops-enter-clause-entry g c =
    let doc = c.args.doc.now in
    let all = tokens_of c.args.pointer.now in
    let parts = all_but_last all c.tokens.result.now c.in-Some.front.now c.in-Some.last.now c.tokens.ensures c.in-Some.ensures.cases.0 in
    let front = names_of c.in-Some.front.now in
    let to = subst (λ (l : Led). IsOfShown doc (IsLed doc front l)) c.in-Ok-To.field-0-is c.in-Ok-To.ensures.led in
    entry_missing doc doc.tree.tree all front (chars_of c.in-Some.last.now) parts c.in-Ok-To.container to c.in-Ok-Stops-enter.field-0-0
    (subst (λ (s : List ℕ). Enters doc c.in-Ok-To.container s (entries.Stops c.in-Ok-Stops-enter.field-0-0)) (ap chars c.deref.ensures) (subst (Enters doc c.in-Ok-To.container (chars c.deref.result.now)) c.in-Ok-Stops-enter.field-0-is c.in-Ok-Stops-enter.ensures.entry))

pub returns-in-Err-clause-oom_only_if : goal.returns-in-Err-clause-oom_only_if
returns-in-Err-clause-oom_only_if g c =
    let doc = c.args.doc.now in
    let all = tokens_of c.args.pointer.now in
    let parts = all_but_last all c.tokens.result.now c.in-Some.front.now c.in-Some.last.now c.tokens.ensures c.in-Some.ensures.cases.0 in
    escaped_front doc doc.tree.tree all (names_of c.in-Some.front.now) (chars_of c.in-Some.last.now) parts c.in-Err.ensures.escaped

pub returns-in-Err-enter-clause-oom_only_if : goal.returns-in-Err-enter-clause-oom_only_if
returns-in-Err-enter-clause-oom_only_if g c =
    let doc = c.args.doc.now in
    let all = tokens_of c.args.pointer.now in
    let parts = all_but_last all c.tokens.result.now c.in-Some.front.now c.in-Some.last.now c.tokens.ensures c.in-Some.ensures.cases.0 in
    let front = names_of c.in-Some.front.now in
    let to = subst (λ (l : Led). IsOfShown doc (IsLed doc front l)) c.in-Ok-To.field-0-is c.in-Ok-To.ensures.led in
    escaped_last doc doc.tree.tree all front (chars_of c.in-Some.last.now) parts c.in-Ok-To.container to c.in-Err-enter.ensures.escaped
