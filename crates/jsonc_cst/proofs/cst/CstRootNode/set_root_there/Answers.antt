use Rattle.std.proofs.Common.{◌≡◌, ◌∙◌, sym}
use Rattle.jsonc_layout.specs.input.Views.{plain}
use Rattle.jsonc_text.specs.declared.edit.EditError.TheVariants.{NestingDepthExceeded, NoSuchPlace, OutOfMemory}
use Rattle.jsonc_run.specs.Edits.{set_root}
use Rattle.jsonc_cst.proofs.lemmas.typed.There.{deep_told, refused_there, too_deep_there}
use Rattle.jsonc_cst.proofs.cst.CstRootNode.set_root_there.Goals as goal

pub returns-then-not-is_within-clause-set : goal.returns-then-not-is_within-clause-set
returns-then-not-is_within-clause-set g c =
    too_deep_there c.args.self.now 0 (set_root (plain c.args.value.now)) (deep_told c.is_within.result 512 _ c.is_within.ensures c.if-not-is_within.true)

pub returns-then-not-is_within-clause-error : goal.returns-then-not-is_within-clause-error
returns-then-not-is_within-clause-error g c = λ e. let wrong : NestingDepthExceeded ≡ NoSuchPlace = e in cc

pub returns-in-Err-clause-set : goal.returns-in-Err-clause-set
returns-in-Err-clause-set g c = refused_there c.args.self.now 0 (set_root (plain c.args.value.now)) _ c.in-Err.error c.in-Err.ensures.memory c.in-Err.ensures.kept c.in-Err.ensures.document

pub returns-in-Err-clause-error : goal.returns-in-Err-clause-error
returns-in-Err-clause-error g c = λ e. let wrong : OutOfMemory ≡ NoSuchPlace = sym c.in-Err.ensures.memory ∙ e in cc
