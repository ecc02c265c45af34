use Rattle.std.proofs.Common.{◌≡◌, sym, ℕ, List, rules, subst}
use Rattle.jsonc_text.specs.OptionsOf.{parse_options}
use Rattle.jsonc_cst.specs.Document.{nodes_of, printed_of, tree_of, HasNoDeeperValue, LiesIn}
use Rattle.jsonc_engine.specs.Fault.{IsFaultOn}
use Rattle.jsonc_engine.specs.Output.{IsLeft, output_bytes}
use Rattle.jsonc_engine.proofs.Changes.{parsed_sound}
use Rattle.jsonc_engine.proofs.FaultTexts.{told_of_parse}
use Rattle.jsonc_engine.proofs.engine.done_with.Goals as goal

pub returns-in-Ok-outcome_of-clause-left : goal.returns-in-Ok-outcome_of-clause-left
returns-in-Ok-outcome_of-clause-left g c = λ request is.
    let o = parse_options c.args.options.now in
    let reads : printed_of c.in-Ok.document ≡ c.args.text.now = search rules in
    let sound = parsed_sound o (nodes_of c.in-Ok.document) c.in-Ok.ensures.shaped c.in-Ok.ensures.lines in
    let laid : LiesIn o (printed_of c.in-Ok.document) (tree_of c.in-Ok.document) = subst (λ (b : List ℕ). LiesIn o b (tree_of c.in-Ok.document)) (sym reads) c.in-Ok.ensures.laid in
    let within : HasNoDeeperValue o (printed_of c.in-Ok.document) = subst (HasNoDeeperValue o) (sym reads) c.in-Ok.ensures.within in
    subst (λ (b : List ℕ). IsLeft g.row.A.Denot o request b (output_bytes c.in-Ok-outcome_of.output)) reads (c.in-Ok-outcome_of.ensures.left o request is sound laid within)

pub returns-in-Ok-outcome_of-clause-accepted : goal.returns-in-Ok-outcome_of-clause-accepted
returns-in-Ok-outcome_of-clause-accepted g c =
    let value = c.in-Ok.ensures.value in
    record { utf8 = c.utf8.text; value = value.0; document = value.1; within = c.in-Ok.ensures.within value.0 value.1 }

pub returns-in-Err-outcome_of-clause-refused : goal.returns-in-Err-outcome_of-clause-refused
returns-in-Err-outcome_of-clause-refused g c = λ request is.
    let o = parse_options c.args.options.now in
    let reads : printed_of c.in-Ok.document ≡ c.args.text.now = search rules in
    let sound = parsed_sound o (nodes_of c.in-Ok.document) c.in-Ok.ensures.shaped c.in-Ok.ensures.lines in
    subst (λ (b : List ℕ). IsFaultOn o request b c.in-Err-outcome_of.fault) reads (c.in-Err-outcome_of.ensures.refused o request is sound)

pub returns-in-Err-clause-refused : goal.returns-in-Err-clause-refused
returns-in-Err-clause-refused g c = λ request is. (
  record { fault = c.in-Err.ensures.fault; refused = c.in-Err.ensures.refused; error = c.in-Err.ensures.error },
  told_of_parse (parse_options c.args.options.now) request c.args.work is c.in-Err.error,
)
