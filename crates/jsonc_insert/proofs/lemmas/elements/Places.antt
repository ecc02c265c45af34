-- An array into which an element has come stands where it stood, and the element in it.
use Rattle.std.proofs.Common.{◌≡◌, ◌∙◌, ◌<◌, ℕ, min, List, [], ◌∷◌, ◌++◌, length}
use Rattle.jsonc_text.specs.Plain.{Plain}
use Rattle.jsonc_tree.specs.Content as content
use Rattle.jsonc_tree.specs.Tree.{Node, content_at}
use Rattle.jsonc_layout.specs.nodes.Siblings.{elements_at}
use Rattle.jsonc_edit.specs.Paths.{IsElementOf, StepsTo, LeadsTo, itself, step, IsAt}
use Rattle.jsonc_edit.proofs.FittingNodes.{over_there}
use Rattle.jsonc_edit.proofs.PathsKept.{at_still}
use Rattle.jsonc_edit.proofs.Uniqueness.{over_at}
use Rattle.jsonc_insert.specs.Laws.{KeepsNodesBut}
use Rattle.jsonc_insert.proofs.Numbering.{changes_one_row, takes_number}
use Rattle.jsonc_insert.specs.elements.Laws.{StandsInPlace}

-- one step further
leads_more : (ns : List Node) (n m j : ℕ) {v : ℕ} {path : List ℕ} → LeadsTo ns n v path → StepsTo ns n j m → LeadsTo ns m v (path ++ j ∷ [])
leads_more ns n m j itself s = step s itself
leads_more ns n m j (step t rest) s = step t (leads_more ns n m j rest s)

pub stands_in_place : (old new : List Node) (path : List ℕ) (c i : ℕ) (v : Plain) (m : ℕ) → StandsInPlace old new path c i v m
stands_in_place old new path c i v m tree at is brackets put =
    let there : c < length old = over_there old tree c (over_at old tree path c at) in
    let kept : KeepsNodesBut old new c = (changes_one_row old new c i v m tree there brackets put).1 in
    let still : IsAt new path c = at_still old new c tree kept.content kept.children path at in
    let number : IsElementOf new c (min i (length (elements_at old c))) m = takes_number old new c i v m tree there brackets put in
    let array : content_at new c ≡ content.array = kept.content c there ∙ is in
    (still, (still.0, still.1, leads_more new c m (min i (length (elements_at old c))) still.2 (StepsTo.in_array array number)))
