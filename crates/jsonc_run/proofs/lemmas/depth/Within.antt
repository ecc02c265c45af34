-- Edits that were made, none of which writes what would be nested too deep, keep a document within the depth that texts are parsed to.
use Rattle.std.proofs.Common.{◌≤◌, sym, subst, List, [], ◌∷◌, get_or, Option, Some, None, Result, Ok, Err, OnOk, arith}
use Rattle.std.specs.List.{All}
use Rattle.std.proofs.lemmas.List.Elements.{All-cons, All-head, All-nil, All-tail}
use Rattle.jsonc_text.specs.Documents.{Document}
use Rattle.jsonc_text.specs.Options.{Options}
use Rattle.jsonc_text.specs.Plain.{Plain}
use Rattle.jsonc_tree.specs.OrderedTree.{ordered_tree}
use Rattle.jsonc_tree.specs.Tree.{Node, IsTree}
use Rattle.jsonc_walk.specs.Refusals.{IsWithin}
use Rattle.jsonc_sound.specs.Documents.{Shows}
use Rattle.jsonc_run.specs.Depth.{needs, IsNoDeeper}
use Rattle.jsonc_run.specs.Edits.{PlainEdit, EditStep, EditSteps, none_made, first_made, Allows, IsOfCharacters}
use Rattle.jsonc_run.specs.Refusals.{IsTooDeep}
use Rattle.jsonc_run.specs.promise.Chains.{NamedRun, none_named, one_named}
use Rattle.jsonc_run.specs.promise.Within.{KeepsWithin, StaysWithin}
use Rattle.jsonc_run.specs.texts.Edits as texts
use Rattle.jsonc_run.specs.texts.Edits.{Operation, Run, options_behind}
use Rattle.jsonc_run.proofs.Wider.{fits_behind}
use Rattle.jsonc_run.proofs.lemmas.depth.Chains.{run_keeps_depth}
use Rattle.jsonc_run.proofs.lemmas.depth.Edits.{edit_within}
use Rattle.jsonc_run.proofs.lemmas.depth.Values.{document_around}
use Rattle.jsonc_run.proofs.lemmas.promise.Leads.{edits_lead}

pub no_deeper : (w : Option Plain) → IsWithin w → IsNoDeeper 512 w
no_deeper None h = omega arith
no_deeper (Some v) h = h

pub is_within : (w : Option Plain) → IsNoDeeper 512 w → IsWithin w
is_within None h = tt
is_within (Some v) h = h

pub stays : (d e : Document) → (IsNoDeeper 512 d.value → IsNoDeeper 512 e.value) → StaysWithin d e
stays d e h within = is_within e.value (h (no_deeper d.value within))

-- one edit
pub edit_keeps : (old new : List Node) (e : PlainEdit) → IsTree old → IsTree new → EditStep old e new → IsOfCharacters e → ¬ (IsTooDeep old e) → KeepsWithin old e new
edit_keeps old new e tree after made characters small d f shown allows shows =
    stays d f (edit_within 512 old new e tree after made characters small d f shown allows shows)

pub answer_within : {T E : Type 0} (old new : List Node) (e : PlainEdit) → IsTree old → IsTree new → IsOfCharacters e → ¬ (IsTooDeep old e) → (r : Result T E) → OnOk r (EditStep old e new) → OnOk r (KeepsWithin old e new)
answer_within old new e tree after characters small (Ok t) made = edit_keeps old new e tree after made characters small
answer_within old new e tree after characters small (Err x) made = tt

-- none of the edits writes, where it was made, what would be nested too deep
abbrev pub AllFit : {old new : List Node} {es : List PlainEdit} → EditSteps old es new → Type 0
AllFit none_made = Unit {0}
AllFit (first_made {old = old} {e = e} made after rest) = ¬ (IsTooDeep old e) × AllFit rest

-- what is allowed before an edit is allowed behind it
options_led : {d m : Document} {e : PlainEdit} {ops : List Operation} → NamedRun d (e ∷ []) ops m → (es : List PlainEdit) → All (Allows d.options) es → All (Allows m.options) es
options_led {d} {m} (one_named {op = op} named asks (texts.one_made is options makes (texts.none_made one)) (none_named also)) es allowed =
    subst (λ (o : Options). All (Allows o) es) (sym options) (λ k x h. fits_behind d.options op (get_or es k x) (allowed k x h))

-- edits made in order
pub steps_keep : {old new : List Node} {es : List PlainEdit} → IsTree old → (made : EditSteps old es new) → AllFit made → All IsOfCharacters es
    → (d f : Document) → Shows d (ordered_tree old 0) → All (Allows d.options) es → Shows f (ordered_tree new 0) → StaysWithin d f
steps_keep {old} tree none_made fit characters d f shown allowed shows within =
    stays d f (λ h. subst (λ n. n ≤ 512) (document_around d.options f.options (ordered_tree old 0) d.value f.value shown.value shows.value) h) within
steps_keep {old} {new} tree (first_made {now = now} {e = e} {es = es} made after rest) fit characters d f shown allowed shows within =
    let few = All-head IsOfCharacters e es characters in
    let one = edits_lead old now (e ∷ []) tree (first_made made after none_made) (All-cons IsOfCharacters e [] few (All-nil IsOfCharacters)) d shown
    (All-cons (Allows d.options) e [] (All-head (Allows d.options) e es allowed) (All-nil (Allows d.options))) in
    let m : Document = one.0 in
    let middle : IsWithin m.value = edit_keeps old now e tree after made few fit.0 d m shown (All-head (Allows d.options) e es allowed) one.1 within in
    steps_keep after rest fit.1 (All-tail IsOfCharacters e es characters) m f one.1 (options_led one.4 es (All-tail (Allows d.options) e es allowed)) shows middle

-- an operation that writes no value
pub run_stays : {d e : Document} {op : Operation} → Run d (op ∷ []) e → ((w : Option Plain) → needs w op ≤ 512) → StaysWithin d e
run_stays {d} {e} run few = stays d e (run_keeps_depth 512 run (few d.value))
