use Rattle.std.proofs.Common.{[], false, IsTrue, sym, subst}
use Rattle.jsonc_sound.specs.Lines.{LinesEnd}
use Rattle.jsonc_sound.specs.Sound.{IsValueBefore}
use Rattle.jsonc_tree.specs.OrderedTree.{Top}
use Rattle.jsonc_sound.specs.Spaces.{is_bare}
use Rattle.jsonc_edit.proofs.ReplacedAlone.{stays_sound_apart}
use Rattle.jsonc_edit.proofs.laws.documents_stay_sound.Goals as goal

pub returns : goal.returns
returns c = λ o old new path n m tree s at now v r is fit quiet.
    stays_sound_apart o old new path n m tree s at r (subst (λ (t : Top). IsValueBefore o t []) (sym is) fit.shaped) (subst (λ (t : Top). LinesEnd false t.below) (sym is) fit.lines)
    (λ bare. quiet (subst (λ (t : Top). IsTrue (is_bare t.content)) is bare))
