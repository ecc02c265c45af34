use Rattle.std.proofs.Common.{drop, take, get_or, ◌+◌, ◌∙◌, ap, sym, subst, chars, None, IfSome, arith, Some}
use Rattle.jsonc_layout.specs.input.Views.{chars_of}
use Rattle.jsonc_cst.specs.Document.{HasNode}
use Rattle.jsonc_parser.specs.paths.Found.{names_of, FindsInsideWhatShown}
use Rattle.jsonc_parser.specs.declared.paths.which.Which.TheVariants.{First}
use Rattle.jsonc_parser.proofs.lemmas.paths.Found.{all_along, no_value_found, none_along, one_along, one_more, split_at, value_found, NamesWhatShown}
use Rattle.jsonc_parser.proofs.lemmas.paths.MemoryNeeded.{passes}
use Rattle.jsonc_parser.proofs.paths.find.find_at.Goals as goal

pub returns-in_default-clause-found : goal.returns-in_default-clause-found
returns-in_default-clause-found g c = no_value_found c.args.doc.now c.args.doc.now.tree.tree (sym c.in_default.is ∙ c.value.ensures.value) (names_of c.args.names.now)

pub loop-name-init : goal.loop-name-init
loop-name-init g c = (value_found First c.args.doc.now c.args.doc.now.tree.tree c.in-Some.value (sym c.in-Some.is ∙ c.value.ensures.value), c.in-Some.ensures.in_document)

pub find_inside-requires : goal.find_inside-requires
find_inside-requires g c = c.loop-name.invariant.1

pub loop-name-preserved : goal.loop-name-preserved
loop-name-preserved g c =
    let doc = c.args.doc.now in
    let names = c.args.names.now in
    let k = c.loop-name.name-index in
    let name = chars_of (get_or names k c.name-item.result) in
    let found = subst (FindsInsideWhatShown doc c.loop-name.node (chars c.deref.result.now)) c.in-Ok-Some.field-0-is c.in-Ok-Some.ensures.found in
    let step = one_along doc c.args.doc.now.tree.tree c.loop-name.node c.in-Ok-Some.inner (names_of (take k names)) name c.loop-name.invariant.0
    (subst (λ s. FindsInsideWhatShown doc c.loop-name.node s (Some c.in-Ok-Some.inner)) (ap chars c.deref.ensures ∙ ap chars_of c.name-item.is) found) in
    (subst (λ l. NamesWhatShown First doc l c.in-Ok-Some.inner) (sym (one_more names k c.name-item.result c.loop-name-test.true)) step, subst (λ o. IfSome o (HasNode doc)) c.in-Ok-Some.field-0-is c.in-Ok-Some.ensures.in_document)

pub returns-in-Ok-None-clause-found : goal.returns-in-Ok-None-clause-found
returns-in-Ok-None-clause-found g c =
    let doc = c.args.doc.now in
    let names = c.args.names.now in
    let k = c.loop-name.name-index in
    let found = subst (FindsInsideWhatShown doc c.loop-name.node (chars c.deref.result.now)) c.in-Ok-None.field-0-is c.in-Ok-None.ensures.found in
    none_along doc c.args.doc.now.tree.tree c.loop-name.node (names_of (take k names)) (names_of (drop (k + 1) names)) (names_of names) (chars_of (get_or names k c.name-item.result))
    (split_at names k c.name-item.result c.loop-name-test.true) c.loop-name.invariant.0
    (subst (λ s. FindsInsideWhatShown doc c.loop-name.node s None) (ap chars c.deref.ensures ∙ ap chars_of c.name-item.is) found)

pub returns-clause-found : goal.returns-clause-found
returns-clause-found g c = all_along c.args.doc.now c.args.doc.now.tree.tree c.loop-name.node c.args.names.now c.loop-name.name-index (omega (arith, c.loop-name-test.false)) c.loop-name.invariant.0

pub returns-clause-in_document : goal.returns-clause-in_document
returns-clause-in_document g c = c.loop-name.invariant.1

pub returns-in-Err-clause-oom_only_if : goal.returns-in-Err-clause-oom_only_if
returns-in-Err-clause-oom_only_if g c =
    passes First c.args.doc.now c.args.names.now c.loop-name.name-index c.loop-name.node c.loop-name.invariant.0 c.name-item.result c.loop-name-test.true c.in-Err.ensures.escaped
