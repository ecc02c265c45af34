use Rattle.std.proofs.Common.{refl, sym, ◌∙◌}
use Rattle.std.proofs.lemmas.Result.{IfErr-weaker}
use Rattle.jsonc_text.specs.OptionsOf.{parse_options}
use Rattle.jsonc_scan.proofs.NoLexemes.{lone_slash_nothing, number_no_names, number_nothing, apostrophe_nothing, word_nothing}
use Rattle.jsonc_scan.proofs.WordFaults.{quote_told}
use Rattle.jsonc_scan.proofs.reads.read_lexeme.Goals as goal

pub returns-in-Some-clause-found : goal.returns-in-Some-clause-found
returns-in-Some-clause-found c = c.in-Some.ensures.found _

pub returns-then-has_byte-clause-none : goal.returns-then-has_byte-clause-none
returns-then-has_byte-clause-none c =
    IfErr-weaker c.read_comment.result _ _ (λ e n. lone_slash_nothing _ _ _ (c.if-has_byte.ensures.here refl) n) c.read_comment.ensures.none

pub returns-then-begins_number-clause-none : goal.returns-then-begins_number-clause-none
returns-then-begins_number-clause-none c =
    let text = c.args.text.now in
    let begins = sym c.begins_number.ensures ∙ c.if-begins_number.true in
    IfErr-weaker
    c.read_number.result
    _
    _
    (λ e n. number_nothing (parse_options c.args.options.now) text c.args.start begins (n (number_no_names text c.args.start begins)))
    c.read_number.ensures.none

pub returns-then-has_byte-2-clause-none : goal.returns-then-has_byte-2-clause-none
returns-then-has_byte-2-clause-none c = apostrophe_nothing _ _ _ (c.if-has_byte-2.ensures.here refl) c.requires.quote

pub returns-clause-none : goal.returns-clause-none
returns-clause-none c =
    let begins = sym c.begins_number.ensures ∙ c.if-begins_number.false in
    IfErr-weaker
    c.read_name_or_word.result
    _
    _
    (λ e n. word_nothing (parse_options c.args.options.now) c.args.text.now c.args.start c.requires.quote c.requires.mark (c.if-has_byte.ensures.other refl) begins c.in_default.ensures.none n)
    c.read_name_or_word.ensures.none

pub returns-then-has_byte-2-clause-error : goal.returns-then-has_byte-2-clause-error
returns-then-has_byte-2-clause-error c = λ l b. quote_told _ _ _ _ (c.if-has_byte-2.ensures.here refl) c.requires.quote c.fault.ensures.error
