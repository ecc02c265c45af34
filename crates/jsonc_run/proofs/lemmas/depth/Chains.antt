-- No document of a chain of edits is nested deeper than a limit.
use Rattle.std.proofs.Common.{ℕ, ◌≤◌, List, [], ◌∷◌, arith}
use Rattle.jsonc_text.specs.Documents.{Document}
use Rattle.jsonc_run.specs.Depth.{needs, IsNoDeeper}
use Rattle.jsonc_run.specs.declared.edit.Edit.{Edit}
use Rattle.jsonc_run.specs.promise.Asked.{EditsTo, none_asked, one_asked}
use Rattle.jsonc_run.specs.promise.Depths.{ChainsKeepDepth}
use Rattle.jsonc_run.specs.texts.Edits.{Operation, Makes, Run, none_made, one_made}
use Rattle.jsonc_run.proofs.lemmas.depth.Operations.{keeps_depth}

-- a run of one operation makes it
pub one_run : {d e : Document} {op : Operation} → Run d (op ∷ []) e → Makes d op e
one_run (one_made is options makes (none_made one)) = makes

pub run_keeps_depth : {d e : Document} {op : Operation} (limit : ℕ) → Run d (op ∷ []) e → needs d.value op ≤ limit → IsNoDeeper limit d.value → IsNoDeeper limit e.value
run_keeps_depth {d} {e} {op} limit run small within = omega (arith, keeps_depth d e op (one_run run), small, within)

pub chains_keep_depth : {A : Type 0} (limit : ℕ) {d f : Document} {es : List (Edit A)} → (chain : EditsTo d es f) → ChainsKeepDepth limit chain
chains_keep_depth limit (none_asked is) few within = (within, within)
chains_keep_depth limit (one_asked order op place asks run rest) few within =
    let next = chains_keep_depth limit rest few.1 (run_keeps_depth limit run few.0 within) in
    ((within, next.0), next.1)
