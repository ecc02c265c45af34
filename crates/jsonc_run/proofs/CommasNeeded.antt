-- Where a comma is due once others have been set, it was due before.
use Rattle.std.proofs.Common.{◌≡◌, ◌∙◌, refl, sym, subst, arith, ℕ, inl, inr, List, [], ◌∷◌, Option, Some, None}
use Rattle.std.specs.List.{Contains}
use Rattle.std.proofs.lemmas.Bool.{cases_eq}
use Rattle.std.proofs.lemmas.List.Elements.{Contains-append_right}
use Rattle.jsonc_tree.specs.Tree.{Node, IsTree}
use Rattle.jsonc_text.specs.declared.edit.TrailingCommaMode.{TrailingCommaMode}
use Rattle.jsonc_text.specs.declared.edit.TrailingCommaMode.TheVariants.{IfMultiline}
use Rattle.jsonc_edit.specs.commas.Commas.{comma_wanted_behind, CommaIsSet, GainsIt, WantsComma}
use Rattle.jsonc_edit.specs.commas.InTurn.{holders, AreSetInPart, AreSetInTurn}
use Rattle.jsonc_edit.proofs.lemmas.commas.OtherRows.{other_row, wanted_same}
use Rattle.jsonc_run.specs.Refusals.{WantsSomeComma}

module _ (old now : List Node) (c : ℕ) where
  -- what has changed wanted one
  same_wants : (o : Option ℕ) → comma_wanted_behind old c ≡ o → GainsIt old now c o → WantsComma now c → WantsComma old c
  same_wants None e same (n, is) = (n, subst (λ ns. comma_wanted_behind ns c ≡ Some n) same is)
  same_wants (Some m) e gains w = (m, e)

  wanted_once : IsTree old → IsTree now → CommaIsSet IfMultiline old now c → (k : ℕ) → WantsComma now k → WantsComma old k
  wanted_once tree after s k w = elim (cases_eq k c) [
    | inl e ↦ subst (WantsComma old) (sym e) (same_wants (comma_wanted_behind old c) refl s (subst (WantsComma now) e w))
    | inr other ↦ (w.0, sym (wanted_same old now tree after k (other_row IfMultiline old now tree c s k other)) ∙ w.1)
  ]

wanted_before : (done : List ℕ) (old now : List Node) → IsTree old → AreSetInTurn IfMultiline old done now → (k : ℕ) → WantsComma now k → WantsComma old k
wanted_before [] old now tree same k (n, is) = (n, subst (λ ns. comma_wanted_behind ns k ≡ Some n) same is)
wanted_before (c ∷ done) old now tree (next, s, after, rest) k w = wanted_once old next c tree after s k (wanted_before done next now after rest k w)

-- so a comma was due where not all have been set
pub wants_some : (mode : TrailingCommaMode) (old now : List Node) (c : ℕ) → IsTree old → mode ≡ IfMultiline → AreSetInPart mode old (holders old c) now → WantsSomeComma old c
wants_some mode old now c tree is part = (
  part.next,
  subst (λ l. Contains l part.next) (sym part.are) (Contains-append_right part.done (part.next ∷ part.left) part.next (0, omega arith, refl)),
  wanted_before part.done old now tree (subst (λ m. AreSetInTurn m old part.done now) is part.set) part.next part.wants,
)
