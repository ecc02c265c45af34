-- Trailing commas that are set: which nodes stay, and what becomes of the document.
use Rattle.std.proofs.Common.{◌≡◌, ◌⊎◌, inl, inr, ℕ, ◌≤◌, suc, List, [], ◌∷◌, length, arith}
use Rattle.jsonc_text.specs.Options.{Options}
use Rattle.jsonc_tree.specs.Tree.{Node, IsTree}
use Rattle.jsonc_text.specs.declared.edit.TrailingCommaMode.{TrailingCommaMode}
use Rattle.jsonc_edit.specs.commas.InTurn.{AreSetInTurn}
use Rattle.jsonc_edit.proofs.lemmas.commas.Documents.{sets_all, sets_once}
use Rattle.jsonc_edit.proofs.lemmas.commas.InOrder.{KeepsContainers}
use Rattle.jsonc_edit.proofs.lemmas.commas.ContainersKept.{set_keeps}
use Rattle.jsonc_cst.specs.typed.Commas.{CommasSet, AllCommasSet, CommasStay}
use Rattle.jsonc_cst.proofs.lemmas.typed.HandlesKept.{Stays, stay_both, stay_same}

longer : (m n : ℕ) → (n ≡ m) ⊎ (n ≡ suc m) → m ≤ n
longer m n (inl e) = omega (arith, e)
longer m n (inr e) = omega (arith, e)

stay_containers : (old new : List Node) → KeepsContainers old new → Stays old new
stay_containers old new k = record { len = longer (length old) (length new) k.long; content = k.content }

pub stay_in_turn : (mode : TrailingCommaMode) (ns : List ℕ) (old new : List Node) → IsTree old → AreSetInTurn mode old ns new → Stays old new
stay_in_turn mode [] old new tree same = stay_same old new same
stay_in_turn mode (n ∷ ns) old new tree (now, set, after, rest) = stay_both old now new (stay_containers old now (set_keeps mode old now tree n set)) (stay_in_turn mode ns now new after rest)

module _ (mode : TrailingCommaMode) (old new : List Node) (n : ℕ) (tree : IsTree old) where
  pub all_commas_set : (o : Options) → CommasSet old new mode n → AllCommasSet old new mode o n
  all_commas_set o set = λ sound over. sets_all mode o old n (record { tree = tree; over = over; sound = sound }) new set

  pub commas_stay : (o : Options) → CommasSet old new mode n → CommasStay old new mode o n
  commas_stay o set = λ sound over later again. sets_once mode o old new n later (record { tree = tree; over = over; sound = sound }) set again
