use Rattle.jsonc_text.specs.OptionsOf.{parse_options}
use Rattle.jsonc_lint.proofs.Moves.{all_found, has_mends, inner_lie}
use Rattle.jsonc_lint.proofs.whole.lint_all.Goals as goal

pub add_in_text-requires-clause-mends : goal.add_in_text-requires-clause-mends
add_in_text-requires-clause-mends g c =
    has_mends (parse_options c.args.options.now) c.args.text.now c.in_ok-lines.lines c.in_ok-mends.mends c.in_ok-lines.ensures c.utf8.text c.in_ok-mends.ensures

pub add_in_text-requires-clause-found : goal.add_in_text-requires-clause-found
add_in_text-requires-clause-found g c =
    inner_lie (parse_options c.args.options.now) c.args.rules c.args.text.now c.text.result.now c.in_ok-mends.mends c.in_ok-found.found.items c.text.ensures c.in_ok-mends.ensures c.in_ok-found.ensures

pub returns : goal.returns
returns g c =
    all_found (parse_options c.args.options.now) c.args.rules c.args.text.now c.in_ok-lines.lines c.text.result.now c.in_ok-mends.mends c.list.result.now c.in_ok-findings.findings.items c.in_ok-found.found.items
    c.add_in_text.new.findings.items c.in_ok-lines.ensures c.list.ensures c.text.ensures c.in_ok-mends.ensures c.in_ok-findings.ensures c.in_ok-found.ensures c.in_ok-add_in_text.ensures
