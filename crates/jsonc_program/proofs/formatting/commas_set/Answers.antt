use Rattle.std.proofs.Common.{sym}
use Rattle.jsonc_program.proofs.formatting.commas_set.Goals as goal

pub returns-in-Ok-text-clause-set : goal.returns-in-Ok-text-clause-set
returns-in-Ok-text-clause-set g c = record {
  old = c.in-Ok.document;
  new = c.set_commas.new.document;
  shown = c.in-Ok.ensures.document;
  set = c.in_ok-set_commas.ensures.set;
  printed = sym c.in-Ok-text.ensures.printed;
}
