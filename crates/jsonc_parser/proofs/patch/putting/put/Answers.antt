use Rattle.std.proofs.Common.{List, refl, subst, ℕ}
use Rattle.jsonc_layout.specs.input.Views.{plain}
use Rattle.jsonc_run.specs.Edits.{operation_of, unsorted}
use Rattle.jsonc_parser.specs.patch.Pointer.{tokens_of}
use Rattle.jsonc_parser.specs.patch.PutCalls.{FailsToPut}
use Rattle.jsonc_parser.specs.patch.PutSteps.{IsChosen}
use Rattle.jsonc_parser.proofs.lemmas.paths.EditOutcome.{whole_no_sort}
use Rattle.jsonc_parser.proofs.lemmas.patch.Edited.{kept_same, left_kept}
use Rattle.jsonc_parser.proofs.lemmas.patch.PutMade.{put_made, put_refused}
use Rattle.jsonc_parser.proofs.patch.putting.put.Goals as goal

pub make-requires : goal.make-requires
make-requires g c = record { unsorted = whole_no_sort c.in-Ok.edit c.in-Ok.ensures.chosen.0 }

pub returns-in-Err-clause-kept : goal.returns-in-Err-clause-kept
returns-in-Err-clause-kept g c = kept_same c.args.doc.now

pub returns-in-Err-clause-fails : goal.returns-in-Err-clause-fails
returns-in-Err-clause-fails g c = subst (λ (l : List (List ℕ)). FailsToPut c.args.doc.now (plain c.args.value) c.args.over l c.in-Err.refused) c.tokens.ensures c.in-Err.ensures.fails

pub returns-in-Ok-make-clause-put : goal.returns-in-Ok-make-clause-put
returns-in-Ok-make-clause-put g c =
    let chosen = subst (λ (l : List (List ℕ)). IsChosen c.args.doc.now (plain c.args.value) c.args.over l c.in-Ok.edit) c.tokens.ensures c.in-Ok.ensures.chosen in
    put_made c.args.doc.now c.make.new.self c.args.doc.now.tree.tree (plain c.args.value) c.args.over (tokens_of c.args.pointer.now) c.in-Ok.edit chosen c.make.new.self.tree.tree (c.in-Ok-make.ensures.made, c.in-Ok-make.ensures.within)

pub returns-in-Ok-make-clause-one : goal.returns-in-Ok-make-clause-one
returns-in-Ok-make-clause-one g c = (operation_of unsorted c.in-Ok.edit, c.in-Ok-make.ensures.made)

pub returns-clause-kept : goal.returns-clause-kept
returns-clause-kept g c = left_kept c.in-Ok.edit c.args.doc.now c.make.new.self (operation_of unsorted c.in-Ok.edit) c.in-Ok.ensures.chosen.0 refl c.in-Err-make.ensures.left

pub returns-clause-fails : goal.returns-clause-fails
returns-clause-fails g c =
    let chosen = subst (λ (l : List (List ℕ)). IsChosen c.args.doc.now (plain c.args.value) c.args.over l c.in-Ok.edit) c.tokens.ensures c.in-Ok.ensures.chosen in
    put_refused c.args.doc.now c.make.new.self c.args.doc.now.tree.tree (plain c.args.value) c.args.over (tokens_of c.args.pointer.now) c.in-Ok.edit chosen c.in-Err-make.error c.in-Err-make.ensures.error
