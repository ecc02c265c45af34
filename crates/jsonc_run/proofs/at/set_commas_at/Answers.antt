use Rattle.jsonc_run.proofs.CommasSet.{commas_left, commas_made, commas_told}
use Rattle.jsonc_run.proofs.EditsMade.{not_found}
use Rattle.jsonc_run.proofs.at.set_commas_at.Goals as goal

pub returns-in_default : goal.returns-in_default
returns-in_default g c = not_found _ _ c.find_container.ensures.found (λ h. h) c.in_default.not-Some

pub returns : goal.returns
returns g c = record {
  made = commas_made c.args.tree.now.nodes c.args.path.now c.args.mode c.in-Some.container ((c.find_container.ensures.found c.in-Some.container).0 c.in-Some.is) c.set_trailing_commas.result c.set_trailing_commas.new.tree.nodes c.set_trailing_commas.ensures.set;
  error = commas_told c.args.tree.now.nodes c.args.path.now c.args.mode c.in-Some.container ((c.find_container.ensures.found c.in-Some.container).0 c.in-Some.is) c.set_trailing_commas.result c.set_trailing_commas.new.tree.nodes c.args.tree.now.tree c.set_trailing_commas.ensures.memory c.set_trailing_commas.ensures.oom_only_if c.set_trailing_commas.ensures.part;
  left = commas_left c.args.tree.now.nodes c.args.path.now c.args.mode c.in-Some.container ((c.find_container.ensures.found c.in-Some.container).0 c.in-Some.is) c.set_trailing_commas.result c.set_trailing_commas.new.tree.nodes c.set_trailing_commas.ensures.part;
}
