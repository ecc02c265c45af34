use Rattle.std.proofs.Common.{◌∙◌, ap}
use Rattle.jsonc_layout.specs.lines.Indents.{IndentTexts}
use Rattle.jsonc_layout.specs.lines.Breadth.{uses_trailing_commas_at}
use Rattle.jsonc_insert.specs.Settings.{indents_inside}
use Rattle.jsonc_insert.proofs.settings.layout_inside.Goals as goal

pub returns : goal.returns
returns g c =
    let ns = c.args.tree.now.nodes in
    let uses = c.uses_trailing_commas-trailing_commas.result in
    let kind = c.newline_kind_at-newline.result in
    let now = indents_inside ns c.args.container in
    let all = uses_trailing_commas_at ns c.args.container in
    ap (λ (i : IndentTexts). record { current = i.current; single = i.single; trailing_commas = uses; newline = kind }) c.in_ok-indents.ensures
    ∙ ap (λ b. record { current = now.current; single = now.single; trailing_commas = b; newline = kind }) c.uses_trailing_commas-trailing_commas.ensures
    ∙ ap (λ k. record { current = now.current; single = now.single; trailing_commas = all; newline = k }) c.newline_kind_at-newline.ensures
