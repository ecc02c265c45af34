use Rattle.jsonc_words.proofs.Inputs.{inputs_all, inputs_push}
use Rattle.jsonc_words.proofs.reader.push_inputs.Goals as goal

pub loop-word-preserved : goal.loop-word-preserved
loop-word-preserved c before h = rw (c.in_ok-push.ensures.items) (inputs_push before c.args.words.now c.loop-word.files.items
    c.loop-word.word-index _ c.from_word.result c.loop-word-test.true (c.loop-word.invariant before h) c.from_word.ensures)

pub returns : goal.returns
returns c before h = inputs_all before c.args.words.now c.loop-word.files.items c.loop-word.word-index
    c.loop-word-test.false (c.loop-word.invariant before h)
