-- An edit that was made where it needs no more than a limit keeps the document within the limit.
use Rattle.std.proofs.Common.{ℕ, ◌≤◌, ◌<◌, subst, List, [], ◌∷◌, arith}
use Rattle.std.proofs.lemmas.List.Elements.{All-cons, All-nil}
use Rattle.jsonc_text.specs.Documents.{Document}
use Rattle.jsonc_tree.specs.OrderedTree.{ordered_tree}
use Rattle.jsonc_tree.specs.Tree.{Node, IsTree}
use Rattle.jsonc_sound.specs.Documents.{Shows}
use Rattle.jsonc_run.specs.Depth.{needs_in, needs_at, IsNoDeeper}
use Rattle.jsonc_run.specs.Edits.{PlainEdit, place_of, MakesAt, EditStep, none_made, first_made, Allows, IsOfCharacters}
use Rattle.jsonc_run.specs.Places.{AtPlace}
use Rattle.jsonc_run.specs.texts.Edits.{Operation}
use Rattle.jsonc_run.specs.promise.Chains.{NamedRun, none_named, one_named}
use Rattle.jsonc_run.proofs.lemmas.depth.Chains.{run_keeps_depth}
use Rattle.jsonc_run.proofs.lemmas.depth.Needed.{needs_no_more, asked_needs}
use Rattle.jsonc_run.proofs.lemmas.depth.Values.{document_around}
use Rattle.jsonc_run.proofs.lemmas.promise.Leads.{edits_lead}

-- a chain of one edit
named_within : {d f : Document} {e : PlainEdit} {ops : List Operation} (limit : ℕ) → NamedRun d (e ∷ []) ops f → needs_in d.value e ≤ limit → IsNoDeeper limit d.value → IsNoDeeper limit f.value
named_within {d} {e = e} limit (one_named {op = op} named asks run (none_named one)) small within =
    run_keeps_depth limit run (omega (arith, asked_needs d.value e op asks, small)) within

-- what the nodes show behind an edit is nested no deeper than a limit, if what they showed is not, and nothing that the edit writes at its place
pub edit_within : (limit : ℕ) (old new : List Node) (e : PlainEdit) → IsTree old → IsTree new → EditStep old e new → IsOfCharacters e → ¬ (AtPlace old (place_of e) (λ n. limit < needs_at old n e))
    → (d f : Document) → Shows d (ordered_tree old 0) → Allows d.options e → Shows f (ordered_tree new 0) → IsNoDeeper limit d.value → IsNoDeeper limit f.value
edit_within limit old new e tree after made characters small d f shown allows shows within =
    let few : needs_in d.value e ≤ limit = needs_no_more d.options old tree d.value shown.value e limit (λ n. MakesAt old n e new) made small in
    let one = edits_lead old new (e ∷ []) tree (first_made made after none_made) (All-cons IsOfCharacters e [] characters (All-nil IsOfCharacters)) d shown (All-cons (Allows d.options) e [] allows (All-nil (Allows d.options))) in
    let bound : IsNoDeeper limit (one.0).value = named_within limit one.4 few within in
    let same = document_around (one.0).options f.options (ordered_tree new 0) (one.0).value f.value one.1.value shows.value in
    subst (λ n. n ≤ limit) same bound
