-- Mends in numbers, from those of the library.
use Rattle.std.proofs.Common.{ℕ, ◌≡◌, ◌∙◌, sym, ap, subst, List, map}
use Rattle.jsonc_text.specs.Options.{Options}
use Rattle.jsonc_mends.specs.Mends.{IsMended, mended_text}
use Rattle.jsonc_mends.specs.declared.told.Mend.{Mend}
use Rattle.jsonc_mends.specs.declared.mends.Mends.{Mends}
use Rattle.jsonc_c.specs.Mends.{IsMendedBy, numbers_of}
use Rattle.jsonc_c.specs.declared.mends.JsoncMend.{JsoncMend}

module _ (A : Type 0) where
  pub mended_by : (o p : Options) (bytes read new : List ℕ) (parts : List Mend) (list : List JsoncMend) (r : Mends A) → o ≡ p → read ≡ bytes → IsMended o read r
      → new ≡ mended_text r → parts ≡ r.list.items → list ≡ map numbers_of parts → IsMendedBy A p bytes new list
  mended_by o p bytes read new parts list r e f h n q l =
      (r, subst (λ x. IsMended x bytes r) e (subst (λ b. IsMended o b r) f h), sym n, l ∙ ap (map numbers_of) q)

  -- the same of what is handed out
  pub handed_out : (o : Options) (bytes new out : List ℕ) (list mends : List JsoncMend) → out ≡ new → mends ≡ list → IsMendedBy A o bytes new list → IsMendedBy A o bytes out mends
  handed_out o bytes new out list mends e f h = subst (λ b. IsMendedBy A o bytes b mends) (sym e) (subst (λ l. IsMendedBy A o bytes new l) (sym f) h)
