use Rattle.std.proofs.Common.{◌≡◌, ℕ, IfErr, IfOk, List, OnOk, rules, subst}
use Rattle.jsonc_text.specs.OptionsOf.{parse_options}
use Rattle.jsonc_engine.specs.Change.{IsTaskFor}
use Rattle.jsonc_engine.specs.Command.{as_json}
use Rattle.jsonc_engine.specs.Fault.{IsFaultOn}
use Rattle.jsonc_engine.specs.Input.{IsInputOf}
use Rattle.jsonc_engine.specs.Output.{IsLeft, made_bytes}
use Rattle.jsonc_engine.proofs.Changes.{json_so, stays_left, work_of}
use Rattle.jsonc_engine.proofs.engine.made_of.Goals as goal

pub returns-in-Json-clause-left : goal.returns-in-Json-clause-left
returns-in-Json-clause-left g c = λ request is.
    let o = parse_options c.args.options.now in
    let same : c.in-Ok.text.now ≡ c.args.input.now = search rules in
    json_so o (λ r. IfOk c.json_of.result (λ made. IsLeft g.row.A.Denot o r c.args.input.now (made_bytes made))) request (subst (IsTaskFor o request) c.in-Json.is is)
    (subst (λ (b : List ℕ). IfOk c.json_of.result (λ made. IsLeft g.row.A.Denot o as_json b (made_bytes made))) same c.json_of.ensures.left)

pub returns-in-Json-clause-refused : goal.returns-in-Json-clause-refused
returns-in-Json-clause-refused g c = λ request is.
    let o = parse_options c.args.options.now in
    let same : c.in-Ok.text.now ≡ c.args.input.now = search rules in
    json_so o (λ r. IfErr c.json_of.result (IsFaultOn o r c.args.input.now)) request (subst (IsTaskFor o request) c.in-Json.is is)
    (subst (λ (b : List ℕ). IfErr c.json_of.result (IsFaultOn o as_json b)) same c.json_of.ensures.refused)

pub returns-in-Json-clause-accepted : goal.returns-in-Json-clause-accepted
returns-in-Json-clause-accepted g c =
    let same : c.in-Ok.text.now ≡ c.args.input.now = search rules in
    subst (λ (b : List ℕ). OnOk c.json_of.result (IsInputOf (parse_options c.args.options.now) b)) same c.json_of.ensures.accepted

pub returns-in-OnDocument-clause-left : goal.returns-in-OnDocument-clause-left
returns-in-OnDocument-clause-left g c = λ request is.
    let o = parse_options c.args.options.now in
    let same : c.in-Ok.text.now ≡ c.args.input.now = search rules in
    subst (λ (b : List ℕ). IfOk c.done_with.result (λ made. IsLeft g.row.A.Denot o request b (made_bytes made))) same
    (c.done_with.ensures.left request (work_of o request c.in-OnDocument.work (subst (IsTaskFor o request) c.in-OnDocument.is is)))

pub returns-in-OnDocument-clause-refused : goal.returns-in-OnDocument-clause-refused
returns-in-OnDocument-clause-refused g c = λ request is.
    let o = parse_options c.args.options.now in
    let same : c.in-Ok.text.now ≡ c.args.input.now = search rules in
    subst (λ (b : List ℕ). IfErr c.done_with.result (IsFaultOn o request b)) same (c.done_with.ensures.refused request (work_of o request c.in-OnDocument.work (subst (IsTaskFor o request) c.in-OnDocument.is is)))

pub returns-in-OnDocument-clause-accepted : goal.returns-in-OnDocument-clause-accepted
returns-in-OnDocument-clause-accepted g c =
    let same : c.in-Ok.text.now ≡ c.args.input.now = search rules in
    subst (λ (b : List ℕ). OnOk c.done_with.result (IsInputOf (parse_options c.args.options.now) b)) same c.done_with.ensures.accepted

pub returns-in-Stay-clause-left : goal.returns-in-Stay-clause-left
returns-in-Stay-clause-left g c = λ request is.
    let o = parse_options c.args.options.now in
    let same : c.in-Ok.text.now ≡ c.args.input.now = search rules in
    stays_left o request c.args.input.now c.unchanged.result (subst (IsTaskFor o request) c.in-Stay.is is)
    (subst (λ (b : List ℕ). IfOk c.unchanged.result (λ made. made_bytes made ≡ b)) same c.unchanged.ensures.left)

pub returns-in-Stay-clause-refused : goal.returns-in-Stay-clause-refused
returns-in-Stay-clause-refused g c = λ request is.
    let o = parse_options c.args.options.now in
    let same : c.in-Ok.text.now ≡ c.args.input.now = search rules in
    subst (λ (b : List ℕ). IfErr c.unchanged.result (IsFaultOn o request b)) same (c.unchanged.ensures.refused request)

pub returns-in-Stay-clause-accepted : goal.returns-in-Stay-clause-accepted
returns-in-Stay-clause-accepted g c =
    let same : c.in-Ok.text.now ≡ c.args.input.now = search rules in
    subst (λ (b : List ℕ). OnOk c.unchanged.result (IsInputOf (parse_options c.args.options.now) b)) same c.unchanged.ensures.accepted
