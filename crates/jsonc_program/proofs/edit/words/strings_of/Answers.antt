use Rattle.std.proofs.Common.{Bor, List, ap, chars, ℕ}
use Rattle.jsonc_ast.specs.Views as ast
use Rattle.jsonc_program.proofs.EditNames.{no_text, not_all, one_more, some_text}
use Rattle.jsonc_program.proofs.edit.words.strings_of.Goals as goal

pub returns-in_default-clause-refused : goal.returns-in_default-clause-refused
returns-in_default-clause-refused g c =
    not_all c.args.values.now c.loop-value.names.items c.loop-value.value-index c.value-item.result c.loop-value-test.true c.value-item.is
    (no_text (λ (s : Bor (List ℕ)). chars s.now) c.text_of.result (ast.plain c.value-item.result) c.text_of.ensures c.in_default.not-Some) c.loop-value.invariant

pub loop-value-preserved : goal.loop-value-preserved
loop-value-preserved g c =
    one_more c.args.values.now c.loop-value.names.items c.push.new.self.items c.in_ok-name.name c.loop-value.value-index c.value-item.result (chars c.in-Some.text.now) c.loop-value-test.true c.value-item.is
    (some_text (λ (s : Bor (List ℕ)). chars s.now) c.text_of.result c.in-Some.text (ast.plain c.value-item.result) c.text_of.ensures c.in-Some.is) (ap chars c.in_ok-name.ensures.ok) c.in_ok-push.ensures.items
    c.loop-value.invariant
