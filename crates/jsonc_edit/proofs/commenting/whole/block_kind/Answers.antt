use Rattle.std.proofs.Common.{◌+◌, inr, sym, subst, arith, chars}
use Rattle.jsonc_text.specs.Gaps.{BlockComment}
use Rattle.jsonc_edit.proofs.lemmas.commenting.Whole.{begins_block, block_there, not_whole, nothing_left}
use Rattle.jsonc_edit.proofs.commenting.whole.block_kind.Goals as goal

pub returns-then-close-text-clause-none : goal.returns-then-close-text-clause-none
returns-then-close-text-clause-none c =
    not_whole c.args.text.now c.utf8.text (c.in-Some.close + 2) c.in-Some.ensures.found.slash.1 (omega (arith, c.if-close-text.true))
    (inr (block_there c.args.text.now c.utf8.text c.requires.boundary c.in-Some.close c.requires.front c.in-Some.ensures.found))

pub returns-clause-some : goal.returns-clause-some
returns-clause-some c =
    subst (BlockComment (chars c.args.text.now)) (nothing_left c.args.text.now (c.in-Some.close + 2) (omega (arith, c.if-close-text.false)))
    (block_there c.args.text.now c.utf8.text c.requires.boundary c.in-Some.close c.requires.front c.in-Some.ensures.found)

pub returns-clause-line : goal.returns-clause-line
returns-clause-line c = sym (begins_block c.args.text.now c.utf8.text c.requires.front)
