-- Trailing commas that are set at a path, and what a refused edit leaves.
use Rattle.std.proofs.Common.{◌≡◌, ℕ, List, Result, Ok, Err, OnOk, OnErr, IfErr, refl, sym, subst}
use Rattle.jsonc_tree.specs.Tree.{Node, IsTree}
use Rattle.jsonc_edit.specs.commas.InTurn.{holders, AreSetInPart, AreSetInTurn}
use Rattle.jsonc_text.specs.declared.edit.EditError.{EditError}
use Rattle.jsonc_text.specs.declared.edit.EditError.TheVariants.{OutOfMemory}
use Rattle.jsonc_text.specs.declared.edit.TrailingCommaMode.{TrailingCommaMode}
use Rattle.jsonc_text.specs.declared.edit.TrailingCommaMode.TheVariants.{IfMultiline}
use Rattle.jsonc_run.specs.Edits.{set_commas, EditStep}
use Rattle.jsonc_run.specs.Places.{IsContainerAt}
use Rattle.jsonc_run.specs.Refusals.{IsLeft, FailsWith, set_in_part}
use Rattle.jsonc_run.proofs.CommasNeeded.{wants_some}

-- what is answered where commas are set
module _ (ns : List Node) (path : List ℕ) (mode : TrailingCommaMode) (n : ℕ) (at : IsContainerAt ns path n) where
  pub commas_made : {T E : Type 0} (r : Result T E) (new : List Node) → OnOk r (AreSetInTurn mode ns (holders ns n) new) → OnOk r (EditStep ns (set_commas path mode) new)
  commas_made (Ok x) new set = (n, at, set)
  commas_made (Err e) new set = tt

  pub commas_left : {T E : Type 0} (r : Result T E) (new : List Node) → OnErr r (AreSetInPart mode ns (holders ns n) new) → OnErr r (IsLeft ns (set_commas path mode) new)
  commas_left (Ok x) new part = tt
  commas_left (Err e) new part = set_in_part n at part

  pub commas_told : {T : Type 0} (r : Result T EditError) (new : List Node) → IsTree ns → IfErr r (λ e. e ≡ OutOfMemory) → OnErr r (mode ≡ IfMultiline) → OnErr r (AreSetInPart mode ns (holders ns n) new) → IfErr r (FailsWith ns (set_commas path mode))
  commas_told (Ok x) new tree memory wanted part = tt
  commas_told (Err e) new tree memory wanted part = subst (FailsWith ns (set_commas path mode)) (sym memory) (n, at, (refl, wanted, wants_some mode ns new n tree wanted part))
