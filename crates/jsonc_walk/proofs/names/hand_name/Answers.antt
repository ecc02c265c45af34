use Rattle.std.proofs.Common.{ap, sym, subst, ◌∙◌}
use Rattle.jsonc_walk.specs.Name.{name_at}
use Rattle.jsonc_walk.specs.Written.{IsWritten}
use Rattle.jsonc_walk.proofs.lemmas.Handing.{is_lent, not_owned, string_inside, string_plain, word_loose, word_means, named_alike}
use Rattle.jsonc_walk.proofs.names.hand_name.Goals as goal

pub word_name-requires-clause-stands : goal.word_name-requires-clause-stands
word_name-requires-clause-stands g c =
    let s = g.R.Receiver.source c.args.to.now in
    word_loose s c.in-Word.word c.requires.utf8 (subst (IsWritten s.options s.bytes) c.in-Word.is c.requires.written)

pub string_name-requires-clause-inside : goal.string_name-requires-clause-inside
string_name-requires-clause-inside g c =
    let s = g.R.Receiver.source c.args.to.now in
    string_inside s c.in-String.string.range c.in-String.string.value (subst (IsWritten s.options s.bytes) c.in-String.is c.requires.written) c.requires.utf8

pub string_name-requires-clause-stands : goal.string_name-requires-clause-stands
string_name-requires-clause-stands g c =
    let s = g.R.Receiver.source c.args.to.now in
    let v = c.in-String.string.value in
    string_plain s c.in-String.string.range v (subst (IsWritten s.options s.bytes) c.in-String.is c.requires.written) (is_lent v c.in-Borrowed.field-0 c.in-Borrowed.is) (not_owned v c.in-Borrowed.field-0 c.in-Borrowed.is)

pub returns-in-Word-clause-named : goal.returns-in-Word-clause-named
returns-in-Word-clause-named g c =
    let s = g.R.Receiver.source c.args.to.now in
    let w = c.in-Word.word in
    let means = word_means s w c.requires.utf8 (subst (IsWritten s.options s.bytes) c.in-Word.is c.requires.written) in
    named_alike (g.R.Receiver.names c.args.to.now c.word_name.new.self) _ _ (ap (λ x. record { range = w.range; name = x }) means ∙ ap name_at (sym c.in-Word.is)) c.word_name.result c.word_name.ensures.named
