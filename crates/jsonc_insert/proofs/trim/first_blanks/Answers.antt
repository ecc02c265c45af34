use Rattle.std.proofs.Common.{◌≤◌, ap, arith, drop, length-drop, sym, subst, ◌∙◌}
use Rattle.std.proofs.lemmas.List.{take_all}
use Rattle.jsonc_insert.specs.Trimmed.{behind_first_line}
use Rattle.jsonc_insert.specs.declared.trim.Stretch.{Stretch}
use Rattle.jsonc_insert.proofs.BlankRuns.{first_read, on_both}
use Rattle.jsonc_insert.proofs.TrimmedRows.{behind_within}
use Rattle.jsonc_insert.proofs.trim.first_blanks.Goals as goal

pub cut-requires-clause-order : goal.cut-requires-clause-order
cut-requires-clause-order g c = subst (λ (s : Stretch). s.from ≤ s.to) (sym c.behind_first_line-stretch.ensures.stretch) (behind_within c.args.tree.now.nodes 0 _).order

pub returns : goal.returns
returns g c =
    on_both c.cut.result
    (λ b after nodes.
    first_read c.args.tree.now.nodes c.args.tree.now.tree c.args.container c.requires.brackets c.in-Some.open (sym c.first_child.ensures ∙ c.in-Some.is) c.in_ok-row.row.items c.deref.result.now c.in_ok-row.ensures c.deref.ensures.value
    c.behind_first_line-stretch.result (c.behind_first_line-stretch.ensures.stretch ∙ ap (behind_first_line c.args.tree.now.nodes 1) (take_all _ (drop 1 c.deref.result.now) (omega (arith, length-drop 1 c.deref.result.now)))) c.deref-2.result.now c.deref-2.ensures.value b after nodes)
    c.cut.ensures.after c.cut.ensures.nodes
