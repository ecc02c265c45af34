use Rattle.std.proofs.Common.{◌∙◌, arith, subst, sym}
use Rattle.std.proofs.lemmas.Result.{IfOk-weaker}
use Rattle.jsonc_text.specs.OptionsOf.{parse_options}
use Rattle.jsonc_lint.specs.Linted.{IsDocumentOf, IsFaultOf, IsLinted, read, refused}
use Rattle.jsonc_lint.proofs.Boundaries.{prints_text}
use Rattle.jsonc_lint.proofs.linting.lint.Goals as goal

pub findings_of-requires : goal.findings_of-requires
findings_of-requires g c =
    let tree = c.in-Ok.doc.tree in
    prints_text (parse_options c.args.options.now) tree.nodes tree.tree c.in-Ok.ensures.shaped c.args.text.now c.in-Ok.ensures.printed (omega arith)

pub returns-in-Ok : goal.returns-in-Ok
returns-in-Ok g c =
    let ensured = c.in-Ok.ensures in
    let document : IsDocumentOf (parse_options c.args.options.now) c.args.text.now c.in-Ok.doc = record { printed = ensured.printed; within = ensured.within; shows = ensured.document; lies = ensured.laid } in
    IfOk-weaker c.findings_of.result _ _ (λ v h. read c.in-Ok.doc v.items document h) c.findings_of.ensures

pub returns-in_default : goal.returns-in_default
returns-in_default g c =
    let ensured = c.in-Err.ensures in
    let fault : IsFaultOf (parse_options c.args.options.now) c.args.text.now c.in-Err.fault =
    record { refused = ensured.refused; place = ensured.fault; fault = ensured.error; memory = λ e. c.in_default.not-OutOfMemory (c.kind.ensures ∙ e) } in
    IfOk-weaker c.fault_alone.result _ _ (λ v h. subst (IsLinted (parse_options c.args.options.now) c.args.rules c.args.text.now) (sym h.1) (refused c.in-Err.fault h.0 fault h.2)) c.fault_alone.ensures
