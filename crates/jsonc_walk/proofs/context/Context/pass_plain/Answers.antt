use Rattle.std.proofs.Common.{refl}
use Rattle.jsonc_walk.proofs.lemmas.Plains.{plain_found, plain_kept, plain_collects, plain_none}
use Rattle.jsonc_walk.proofs.context.Context.pass_plain.Goals as goal

pub returns-clause-kept : goal.returns-clause-kept
returns-clause-kept g c = plain_kept c.args.self.now _ refl refl refl refl c.step_plain.result c.step_plain.ensures.blanks

pub returns-clause-found : goal.returns-clause-found
returns-clause-found g c = plain_found c.args.self.now c.step_plain.new.self c.step_plain.new.content c.step_plain.result c.step_plain.ensures.blanks c.step_plain.ensures.found

pub returns-clause-collects : goal.returns-clause-collects
returns-clause-collects g c = plain_collects c.args.self.now _ refl refl refl refl c.step_plain.result (c.collects.ensures.tokens c.if-collects.false) (c.collects.ensures.comments c.if-collects.false) c.step_plain.ensures.blanks c.step_plain.ensures.found c.step_plain.ensures.lexeme

pub returns-clause-none : goal.returns-clause-none
returns-clause-none g c = plain_none c.args.self.now _ refl refl refl refl c.step_plain.result c.step_plain.ensures.none
