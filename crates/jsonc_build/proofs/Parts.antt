-- Parts of a text that a document owns.
use Rattle.std.proofs.Common.{◌≡◌, ◌∙◌, ℕ, List, slice_range, ap}

-- a part of one text is that of an equal one
pub part_of_same : {s text : List ℕ} (i j : ℕ) (whole : List ℕ) → s ≡ slice_range whole i j → whole ≡ text → s ≡ slice_range text i j
part_of_same i j whole e same = e ∙ ap (λ t. slice_range t i j) same
