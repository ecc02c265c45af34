use Rattle.std.proofs.Common.{◌∙◌, refl, sym, codes}
use Rattle.std.proofs.lemmas.Bool.{false≢true}
use Rattle.std.proofs.lemmas.Str.Pattern.{contains_text}
use Rattle.jsonc_lint.proofs.nodes.comment_kind.Goals as goal

pub returns-then-contains : goal.returns-then-contains
returns-then-contains g c = (refl, (contains_text c.contains.result (codes "TODO") c.args.text.now c.contains.ensures.cases).0 c.if-contains.true)

pub returns : goal.returns
returns g c = λ h. false≢true (sym c.if-contains.false ∙ (contains_text c.contains.result (codes "TODO") c.args.text.now c.contains.ensures.cases).1 h)
