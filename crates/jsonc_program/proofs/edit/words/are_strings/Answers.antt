use Rattle.std.proofs.Common.{Bor, List, chars, ℕ}
use Rattle.jsonc_ast.specs.Views as ast
use Rattle.jsonc_program.proofs.EditNames.{no_text, one_seen, other_seen, some_text}
use Rattle.jsonc_program.proofs.edit.words.are_strings.Goals as goal

pub loop-value-preserved : goal.loop-value-preserved
loop-value-preserved g c =
    one_seen c.args.values.now c.loop-value.value-index c.value-item.result (chars c.in-Some.field-0.now) c.loop-value-test.true c.value-item.is
    (some_text (λ (s : Bor (List ℕ)). chars s.now) c.text_of.result c.in-Some.field-0 (ast.plain c.value-item.result) c.text_of.ensures c.in-Some.is) c.loop-value.invariant

pub returns-in_default-clause-other : goal.returns-in_default-clause-other
returns-in_default-clause-other g c = λ _.
    other_seen c.args.values.now c.loop-value.value-index c.value-item.result c.loop-value-test.true c.value-item.is c.loop-value.invariant
    (no_text (λ (s : Bor (List ℕ)). chars s.now) c.text_of.result (ast.plain c.value-item.result) c.text_of.ensures c.in_default.not-Some)
