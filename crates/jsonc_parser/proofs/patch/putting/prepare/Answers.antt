use Rattle.std.proofs.Common.{◌-◌, List, Option, IfNone, IfSome, arith, drop, inl, inr, length, subst, take, ℕ}
use Rattle.std.specs.declared.vec.Vec.{Vec}
use Rattle.jsonc_edit.specs.Paths.{IsAt}
use Rattle.jsonc_layout.specs.input.Views.{plain}
use Rattle.jsonc_cst.specs.Document.{nodes_of}
use Rattle.jsonc_cst.specs.Nodes.{number_of}
use Rattle.jsonc_parser.specs.paths.Found.{names_of}
use Rattle.jsonc_parser.specs.patch.Putting.{IsNested}
use Rattle.jsonc_parser.specs.patch.PutSteps.{IsUnnested}
use Rattle.jsonc_parser.proofs.lemmas.patch.PutChosen.{names_left, unnested_for_memory}
use Rattle.jsonc_parser.proofs.patch.putting.prepare.Goals as goal

pub returns-in-Ok-Some-clause-at : goal.returns-in-Ok-Some-clause-at
returns-in-Ok-Some-clause-at g c =
    subst (λ (o : Option (Vec ℕ g.row.A.Denot)). IfSome o (λ path. IsAt (nodes_of c.args.doc.now) path.items (number_of c.args.node))) c.in-Ok-Some.field-0-is c.in-Ok-Some.ensures.found

pub returns-in-Ok-Some-clause-nested : goal.returns-in-Ok-Some-clause-nested
returns-in-Ok-Some-clause-nested g c =
    subst (λ (l : List (List ℕ)). IsNested l (plain c.args.value) (plain c.in-Ok.value)) (names_left c.args.tokens.now c.args.from) c.in-Ok.ensures.nested

pub returns-in-Ok-None-clause-fails : goal.returns-in-Ok-None-clause-fails
returns-in-Ok-None-clause-fails g c =
    inr (subst (λ (o : Option (Vec ℕ g.row.A.Denot)). IfNone o ((path : List ℕ) → IsAt (nodes_of c.args.doc.now) path (number_of c.args.node) → ⊥)) c.in-Ok-None.field-0-is c.in-Ok-None.ensures.none)

pub returns-in-Err-clause-fails : goal.returns-in-Err-clause-fails
returns-in-Err-clause-fails g c =
    inl (subst (λ (l : List (List ℕ)). IsUnnested l c.args.from (plain c.args.value) c.in-Err.error) (names_left c.args.tokens.now c.args.from) c.in-Err.ensures.fails)

pub returns-in-Err-path-clause-fails : goal.returns-in-Err-path-clause-fails
returns-in-Err-path-clause-fails g c =
    let nested = subst (λ (l : List (List ℕ)). IsNested l (plain c.args.value) (plain c.in-Ok.value)) (names_left c.args.tokens.now c.args.from) c.in-Ok.ensures.nested in
    inl (unnested_for_memory (drop c.args.from (names_of c.args.tokens.now)) c.args.from (plain c.args.value) c.in-Err-path.error c.in-Err-path.ensures.memory nested.0)
