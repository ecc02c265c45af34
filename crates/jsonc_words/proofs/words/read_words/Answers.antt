use Rattle.std.proofs.lemmas.Result.{IfOk-weaker}
use Rattle.jsonc_words.proofs.Asked.{asked, whole_rest}
use Rattle.jsonc_words.proofs.words.read_words.Goals as goal

pub returns-in-Some-from_word-clause-read : goal.returns-in-Some-from_word-clause-read
returns-in-Some-from_word-clause-read c = IfOk-weaker c.read_command.result _ _
    (λ call read. asked c.args.words.now _ c.in-Some.word.now c.in-Some-from_word.name call (whole_rest c.args.words.now)
    c.in-Some.ensures.value c.in-Some-from_word.ensures read)
    c.read_command.ensures.read
