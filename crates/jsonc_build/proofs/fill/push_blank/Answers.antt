use Rattle.std.proofs.Common.{sym, ap}
use Rattle.std.specs.Char.{len_utf8}
use Rattle.jsonc_tree.specs.Content.{newline}
use Rattle.jsonc_build.proofs.GapLeaves.{feed_at, return_at, blanks_at}
use Rattle.jsonc_build.proofs.Parts.{part_of_same}
use Rattle.jsonc_build.proofs.Stretches.{after_return, inner_many, inner_of, newline_step, return_many}
use Rattle.jsonc_build.proofs.fill.push_blank.Goals as goal

pub returns-then-c-eq10-clause-added : goal.returns-then-c-eq10-clause-added
returns-then-c-eq10-clause-added g c = record {
  content = _;
  leaf = feed_at c.args.text.now c.args.place c.args.c 1 c.requires.stands (sym (ap len_utf8 c.if-c-eq10.true)) c.if-c-eq10.true;
  pushes = c.in_ok-push.ensures.pushes;
}

pub returns-then-c-eq10-clause-blanks : goal.returns-then-c-eq10-clause-blanks
returns-then-c-eq10-clause-blanks g c = newline_step c.args.text.now c.args.place c.args.c c.requires.stands c.requires.blank c.if-c-eq10.true

pub carriage_return-newline-requires : goal.carriage_return-newline-requires
carriage_return-newline-requires g c = after_return c.args.text.now c.args.place c.args.c c.requires.stands c.if-c-eq13.true

pub returns-then-c-eq13-clause-added : goal.returns-then-c-eq13-clause-added
returns-then-c-eq13-clause-added g c =
    let line = c.carriage_return-newline.ensures in record {
      content = newline c.carriage_return-newline.result.0;
      leaf = return_at c.args.text.now c.args.place c.args.c 1 c.carriage_return-newline.result.1 (newline c.carriage_return-newline.result.0)
          c.requires.stands (sym (ap len_utf8 c.if-c-eq13.true)) c.if-c-eq13.true line.order line.place line.leaf;
      pushes = c.in_ok-push-2.ensures.pushes;
    }

pub returns-then-c-eq13-clause-blanks : goal.returns-then-c-eq13-clause-blanks
returns-then-c-eq13-clause-blanks g c = return_many c.args.text.now c.args.place c.args.c c.requires.stands c.carriage_return-newline.result.1 c.if-c-eq13.true c.carriage_return-newline.ensures.leaf

pub returns-clause-added : goal.returns-clause-added
returns-clause-added g c =
    let ends = c.blanks_end-end.ensures in record {
      content = _;
      leaf = blanks_at c.args.text.now c.args.place c.args.c _ c.blanks_end-end.result _ c.utf8.text c.requires.place c.requires.stands (inner_of c.args.c c.requires.blank c.if-c-eq10.false c.if-c-eq13.false)
          ends.order ends.place ends.blanks ends.all (part_of_same _ _ _ c.in_ok-blanks.ensures c.requires.whole);
      pushes = c.in_ok-push-3.ensures.pushes;
    }

pub returns-clause-blanks : goal.returns-clause-blanks
returns-clause-blanks g c = inner_many c.blanks_end-end.ensures.blanks
