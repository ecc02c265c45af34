use Rattle.std.proofs.Common.{sym, ◌∙◌}
use Rattle.jsonc_layout.specs.input.Views.{plain}
use Rattle.jsonc_layout.specs.from_input.Layout.{layout_of}
use Rattle.jsonc_edit.specs.Reading.{layout_for}
use Rattle.jsonc_edit.proofs.OneLine.{alike_by, laid_alike}
use Rattle.jsonc_edit.proofs.ReplacedChildren.{where_refused}
use Rattle.jsonc_edit.proofs.reading.layout_for_value.Goals as goal

pub returns-then-is_spread : goal.returns-then-is_spread
returns-then-is_spread g c = record {
  alike = alike_by layout_of (layout_for c.args.tree.now.nodes c.args.container c.args.node) (plain c.args.value.now) c.layout_for.result c.layout_for.ensures.layout;
  oom_only_if = where_refused c.layout_for.result (sym c.is_spread.ensures ∙ c.if-is_spread.true);
}

pub returns : goal.returns
returns g c = record {
  alike = laid_alike _ (layout_for c.args.tree.now.nodes c.args.container c.args.node) (plain c.args.value.now) (sym c.is_spread.ensures ∙ c.if-is_spread.false);
  oom_only_if = tt;
}
