use Rattle.std.proofs.Common.{arith, sym, ap}
use Rattle.std.proofs.lemmas.Result.{IfErr-weaker, IfOk-weaker}
use Rattle.jsonc_text.specs.declared.string.escape.Meaning.{Meaning}
use Rattle.jsonc_text.specs.string.Escapes.{is_plain, meaning_of, IsEscape, NoPiece}
use Rattle.jsonc_text.proofs.lemmas.string.Escapes.{given_found, other_found, line_found, no_refused, no_taken, counted, taken_extended, where_taken}
use Rattle.jsonc_text.proofs.lemmas.string.Faults.{ends_within, end_taken, told_after, told_decimal, told_end, told_not_taken, told_taken}
use Rattle.jsonc_text.proofs.string.escape.read_escape.Goals as goal

pub returns-in-Gives-clause-found : goal.returns-in-Gives-clause-found
returns-in-Gives-clause-found c =
    given_found _ _ _ _ _ _ _ c.requires.backslash (counted _ _ _ _ c.in-Some.ensures.some c.len_utf8.ensures.value) (omega (arith, c.len_utf8.ensures.lower_bound)) c.in-Gives.ensures.meaning

pub returns-in-Extended-clause-found : goal.returns-in-Extended-clause-found
returns-in-Extended-clause-found c =
    other_found _ _ _ _ _ _ _ (taken_extended _ _ (sym c.if-not-is_taken.ensures) (ap (λ (m : Meaning). is_plain (meaning_of m)) c.in-Extended.is)) c.requires.backslash (counted _ _ _ _ c.in-Some.ensures.some c.len_utf8.ensures.value) (omega (arith, c.len_utf8.ensures.lower_bound)) c.in-Extended.ensures.meaning

pub returns-in-LineEnd-clause-found : goal.returns-in-LineEnd-clause-found
returns-in-LineEnd-clause-found c =
    line_found _ _ _ _ _ _ (taken_extended _ _ (sym c.if-not-is_taken.ensures) (ap (λ (m : Meaning). is_plain (meaning_of m)) c.in-LineEnd.is)) c.requires.backslash (counted _ _ _ _ c.in-Some.ensures.some c.len_utf8.ensures.value) (omega (arith, c.len_utf8.ensures.lower_bound)) c.in-LineEnd.ensures.meaning

pub returns-in-Refused-clause-none : goal.returns-in-Refused-clause-none
returns-in-Refused-clause-none c = no_refused _ _ _ _ _ _ c.requires.backslash c.in-Some.ensures.some c.in-Refused.ensures.meaning

pub returns-then-not-is_taken-clause-none : goal.returns-then-not-is_taken-clause-none
returns-then-not-is_taken-clause-none c =
    no_taken _ _ _ _ _ _ _ (sym c.if-not-is_taken.ensures) c.escape_meaning-meaning.ensures.meaning c.requires.backslash c.in-Some.ensures.some

pub returns-in_default-clause-error : goal.returns-in_default-clause-error
returns-in_default-clause-error c =
    let read = c.unterminated.ensures in
    told_end _ _ _ _ _ _ read.start read.end read.kind (ends_within _ _ _ c.requires.backslash c.in_default.ensures.none)

pub returns-then-not-is_taken-clause-error : goal.returns-then-not-is_taken-clause-error
returns-then-not-is_taken-clause-error c =
    let read = c.string_fault.ensures in
    let why = c.refusal.ensures in
    told_not_taken _ _ _ _ _ _ _ _ _ _ read.start read.end read.kind (sym c.if-not-is_taken.ensures) c.escape_meaning-meaning.ensures.meaning (why.double, why.single, why.other) c.requires.backslash c.in-Some.ensures.some

pub returns-in-CodeUnit-clause-error : goal.returns-in-CodeUnit-clause-error
returns-in-CodeUnit-clause-error c =
    let literal = c.args.literal in
    IfErr-weaker c.read_code_unit.result _ _ (λ f told. told_after _ _ _ _ _ _ (told literal.extended literal.quote)) c.read_code_unit.ensures.error

pub returns-in-CodeByte-clause-error : goal.returns-in-CodeByte-clause-error
returns-in-CodeByte-clause-error c =
    let taken = taken_extended _ _ (sym c.if-not-is_taken.ensures) (ap (λ (m : Meaning). is_plain (meaning_of m)) c.in-CodeByte.is) in
    IfErr-weaker c.read_code_byte.result _ _ (λ f told. told_taken _ _ _ _ _ _ taken (told c.args.literal.quote)) c.read_code_byte.ensures.error

pub returns-in-Nul-clause-error : goal.returns-in-Nul-clause-error
returns-in-Nul-clause-error c =
    let taken = taken_extended _ _ (sym c.if-not-is_taken.ensures) (ap (λ (m : Meaning). is_plain (meaning_of m)) c.in-Nul.is) in
    let literal = c.args.literal in
    IfErr-weaker c.read_nul.result _ _ (λ f told. end_taken literal.extended literal.quote c.args.text.now literal.start c.args.place f taken (told literal.quote)) c.read_nul.ensures.error

pub returns-in-CarriageReturn-clause-error : goal.returns-in-CarriageReturn-clause-error
returns-in-CarriageReturn-clause-error c =
    let taken = taken_extended _ _ (sym c.if-not-is_taken.ensures) (ap (λ (m : Meaning). is_plain (meaning_of m)) c.in-CarriageReturn.is) in
    let literal = c.args.literal in
    IfErr-weaker c.read_line_end.result _ _ (λ f told. end_taken literal.extended literal.quote c.args.text.now literal.start c.args.place f taken (told literal.quote)) c.read_line_end.ensures.error

pub returns-in-Refused-clause-error : goal.returns-in-Refused-clause-error
returns-in-Refused-clause-error c =
    let read = c.string_fault-in-Refused.ensures in
    let taken = taken_extended _ _ (sym c.if-not-is_taken.ensures) (ap (λ (m : Meaning). is_plain (meaning_of m)) c.in-Refused.is) in
    told_after _ _ _ _ _ _ (told_decimal _ _ _ _ _ _ _ read.start read.end read.kind taken c.in-Refused.ensures.meaning c.requires.backslash c.in-Some.ensures.some)

pub returns-in-CodeUnit-clause-found : goal.returns-in-CodeUnit-clause-found
returns-in-CodeUnit-clause-found c =
    let literal = c.args.literal in
    IfOk-weaker c.read_code_unit.result _ _ (λ e h. h literal.extended literal.quote) c.read_code_unit.ensures.found

pub returns-in-CodeUnit-clause-none : goal.returns-in-CodeUnit-clause-none
returns-in-CodeUnit-clause-none c =
    let literal = c.args.literal in
    IfErr-weaker c.read_code_unit.result _ _ (λ f h. h literal.extended literal.quote) c.read_code_unit.ensures.none

pub returns-in-CodeUnit-clause-fault : goal.returns-in-CodeUnit-clause-fault
returns-in-CodeUnit-clause-fault c =
    IfErr-weaker c.read_code_unit.result _ _ (λ f h. record { spans = h.spans; order = omega (arith, h.order, c.requires.spans.order); kind = h.kind }) c.read_code_unit.ensures.fault

pub returns-in-CodeByte-clause-fault : goal.returns-in-CodeByte-clause-fault
returns-in-CodeByte-clause-fault c =
    IfErr-weaker c.read_code_byte.result _ _ (λ f h. record { spans = h.spans; order = omega (arith, h.order, c.requires.spans.order); kind = h.kind }) c.read_code_byte.ensures.fault

pub returns-in-CodeByte-clause-found : goal.returns-in-CodeByte-clause-found
returns-in-CodeByte-clause-found c =
    let literal = c.args.literal in
    let taken = taken_extended _ _ (sym c.if-not-is_taken.ensures) (ap (λ (m : Meaning). is_plain (meaning_of m)) c.in-CodeByte.is) in
    IfOk-weaker c.read_code_byte.result _ _ (λ f h. where_taken literal.extended (λ t. IsEscape t literal.quote c.args.text.now c.args.place f) taken (h literal.quote)) c.read_code_byte.ensures.found

pub returns-in-CodeByte-clause-none : goal.returns-in-CodeByte-clause-none
returns-in-CodeByte-clause-none c =
    let literal = c.args.literal in
    let taken = taken_extended _ _ (sym c.if-not-is_taken.ensures) (ap (λ (m : Meaning). is_plain (meaning_of m)) c.in-CodeByte.is) in
    IfErr-weaker c.read_code_byte.result _ _ (λ f h. where_taken literal.extended (λ t. NoPiece t literal.quote c.args.text.now c.args.place) taken (h literal.quote)) c.read_code_byte.ensures.none

pub returns-in-Nul-clause-found : goal.returns-in-Nul-clause-found
returns-in-Nul-clause-found c =
    let literal = c.args.literal in
    let taken = taken_extended _ _ (sym c.if-not-is_taken.ensures) (ap (λ (m : Meaning). is_plain (meaning_of m)) c.in-Nul.is) in
    IfOk-weaker c.read_nul.result _ _ (λ f h. where_taken literal.extended (λ t. IsEscape t literal.quote c.args.text.now c.args.place f) taken (h literal.quote)) c.read_nul.ensures.found

pub returns-in-Nul-clause-none : goal.returns-in-Nul-clause-none
returns-in-Nul-clause-none c =
    let literal = c.args.literal in
    let taken = taken_extended _ _ (sym c.if-not-is_taken.ensures) (ap (λ (m : Meaning). is_plain (meaning_of m)) c.in-Nul.is) in
    IfErr-weaker c.read_nul.result _ _ (λ f h. where_taken literal.extended (λ t. NoPiece t literal.quote c.args.text.now c.args.place) taken (h literal.quote)) c.read_nul.ensures.none

pub returns-in-CarriageReturn-clause-found : goal.returns-in-CarriageReturn-clause-found
returns-in-CarriageReturn-clause-found c =
    let literal = c.args.literal in
    let taken = taken_extended _ _ (sym c.if-not-is_taken.ensures) (ap (λ (m : Meaning). is_plain (meaning_of m)) c.in-CarriageReturn.is) in
    IfOk-weaker c.read_line_end.result _ _ (λ f h. where_taken literal.extended (λ t. IsEscape t literal.quote c.args.text.now c.args.place f) taken (h literal.quote)) c.read_line_end.ensures.found

pub returns-in-CarriageReturn-clause-none : goal.returns-in-CarriageReturn-clause-none
returns-in-CarriageReturn-clause-none c =
    let literal = c.args.literal in
    let taken = taken_extended _ _ (sym c.if-not-is_taken.ensures) (ap (λ (m : Meaning). is_plain (meaning_of m)) c.in-CarriageReturn.is) in
    IfErr-weaker c.read_line_end.result _ _ (λ f h. where_taken literal.extended (λ t. NoPiece t literal.quote c.args.text.now c.args.place) taken (h literal.quote)) c.read_line_end.ensures.none
