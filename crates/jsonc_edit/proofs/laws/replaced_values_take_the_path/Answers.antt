use Rattle.jsonc_layout.specs.from_input.Laid.{laid}
use Rattle.jsonc_edit.proofs.ReplacedChildren.{laid_element, in_place}
use Rattle.jsonc_edit.proofs.NewPaths.{at_now}
use Rattle.jsonc_edit.proofs.ReplacedValues.{spaced, spaced_at}
use Rattle.jsonc_edit.proofs.laws.replaced_values_take_the_path.Goals as goal

pub returns : goal.returns
returns c = λ old new n m l v tree g path at.
    at_now g.spaced new (spaced old new n m (laid l v) tree g path at).tree n m (laid l v) (in_place g.spaced new n m (laid l v) g.place) (laid_element l v) path (spaced_at old new n m (laid l v) tree g path at)
