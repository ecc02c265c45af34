-- The last of the entries.
use Rattle.std.proofs.Common.{◌≡◌, ℕ, suc, ◌-◌, List, [], ◌∷◌, length, slice_get, Some, sym, ap, ◌∙◌, arith}
use Rattle.jsonc_sort.specs.Places.{end_after, has_comma_of}
use Rattle.jsonc_sort.specs.Plans.{last_has_comma}
use Rattle.jsonc_sort.specs.declared.places.Places.{Places}

later : (x y p : Places) (ps : List Places) → slice_get (x ∷ y ∷ ps) (length (x ∷ y ∷ ps) - 1) ≡ Some p → slice_get (y ∷ ps) (length (y ∷ ps) - 1) ≡ Some p
later x y p ps e =
    let more : suc (length (y ∷ ps) - 1) ≡ length (x ∷ y ∷ ps) - 1 = omega arith in
    ap (slice_get (x ∷ y ∷ ps)) more ∙ e

pub last_end : (from : ℕ) (ps : List Places) (p : Places) → slice_get ps (length ps - 1) ≡ Some p → p.end ≡ end_after from ps
last_end from [] p e = cc
last_end from (x ∷ []) p e = let same : x ≡ p = cc in ap (λ (q : Places). q.end) (sym same)
last_end from (x ∷ y ∷ ps) p e = last_end x.end (y ∷ ps) p (later x y p ps e)

pub last_comma : (ps : List Places) (p : Places) → slice_get ps (length ps - 1) ≡ Some p → has_comma_of p ≡ last_has_comma ps
last_comma [] p e = cc
last_comma (x ∷ []) p e = let same : x ≡ p = cc in ap has_comma_of (sym same)
last_comma (x ∷ y ∷ ps) p e = last_comma (y ∷ ps) p (later x y p ps e)
