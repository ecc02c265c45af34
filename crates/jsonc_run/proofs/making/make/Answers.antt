use Rattle.std.proofs.Common.{◌≡◌, ◌∙◌, false, true, length, refl, sym}
use Rattle.jsonc_tree.proofs.Builder.{Keeps-same}
use Rattle.jsonc_text.specs.declared.edit.EditError.TheVariants.{NestingDepthExceeded}
use Rattle.jsonc_run.specs.Edits.{operation_of, unsorted}
use Rattle.jsonc_run.specs.Refusals.{as_it_was}
use Rattle.jsonc_run.proofs.Refused.{answer_refused, refused_so}
use Rattle.jsonc_run.proofs.NamedPlaces.{answer_unnamed, tells_unnamed}
use Rattle.jsonc_run.proofs.SoundChain.{answer_steps, of_characters}
use Rattle.jsonc_run.proofs.lemmas.depth.Within.{answer_within}
use Rattle.jsonc_run.proofs.making.make.Goals as goal

pub returns-then-is_too_deep-clause-named : goal.returns-then-is_too_deep-clause-named
returns-then-is_too_deep-clause-named g c = λ o sound.
    tells_unnamed c.args.tree.now.nodes o c.args.tree.now.tree sound (operation_of unsorted c.args.edit.now) NestingDepthExceeded (c.is_too_deep.ensures.0 c.if-is_too_deep.true)

pub returns-then-is_too_deep-clause-may_fail : goal.returns-then-is_too_deep-clause-may_fail
returns-then-is_too_deep-clause-may_fail g c = λ o w sound value.
    refused_so o c.args.tree.now.nodes c.args.tree.now.tree sound w value (operation_of unsorted c.args.edit.now) NestingDepthExceeded (c.is_too_deep.ensures.0 c.if-is_too_deep.true)

pub returns-then-is_too_deep-clause-left : goal.returns-then-is_too_deep-clause-left
returns-then-is_too_deep-clause-left g c = as_it_was (Keeps-same (length c.args.tree.now.nodes) c.args.tree.now.nodes) refl

pub returns-clause-may_fail : goal.returns-clause-may_fail
returns-clause-may_fail g c = λ o w sound value.
    answer_refused o c.args.tree.now.nodes c.args.tree.now.tree sound w value (operation_of unsorted c.args.edit.now) c.make_by_kind.result c.make_by_kind.ensures.error

pub returns-clause-named : goal.returns-clause-named
returns-clause-named g c = λ o sound.
    answer_unnamed c.args.tree.now.nodes o c.args.tree.now.tree sound (operation_of unsorted c.args.edit.now) c.make_by_kind.result c.make_by_kind.ensures.error

pub returns-clause-within : goal.returns-clause-within
returns-clause-within g c =
    answer_within c.args.tree.now.nodes c.make_by_kind.new.tree.nodes (operation_of unsorted c.args.edit.now) c.args.tree.now.tree c.make_by_kind.new.tree.tree (of_characters unsorted c.args.edit.now)
    (λ deep. let both : false ≡ true = sym c.if-is_too_deep.false ∙ c.is_too_deep.ensures.1 deep in cc) c.make_by_kind.result c.make_by_kind.ensures.made

pub returns-clause-steps : goal.returns-clause-steps
returns-clause-steps g c = λ o.
    answer_steps o c.args.tree.now.nodes c.make_by_kind.new.tree.nodes (operation_of unsorted c.args.edit.now) c.args.tree.now.tree c.make_by_kind.new.tree.tree c.make_by_kind.result c.make_by_kind.ensures.made
