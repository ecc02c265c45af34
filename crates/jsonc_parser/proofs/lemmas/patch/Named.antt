-- The one property of a name among children.
use Rattle.std.proofs.Common.{ℕ, ◌≡◌, sym, subst, refl, true, false, List, [], ◌∷◌, Option, Some, None, is_some}
use Rattle.std.proofs.lemmas.Bool.{false≢true}
use Rattle.jsonc_tree.specs.Tree.{Node}
use Rattle.jsonc_layout.specs.nodes.Names as names
use Rattle.jsonc_layout.specs.nodes.Names.{FirstNamed, IsNamed}
use Rattle.jsonc_parser.specs.patch.Lookups.{IsLookedUp, no_more, past, alone, again}
use Rattle.jsonc_parser.specs.declared.patch.reference.Lookup.{Lookup}
use Rattle.jsonc_parser.specs.declared.patch.reference.Lookup.TheVariants.{Missing, Once, Twice}

-- what is looked up, where one was found before the rest of the children, or none
abbrev pub tells : ℕ → Option ℕ → Lookup
tells n None = Once n
tells n (Some m) = Twice

abbrev pub IsLookedFurther : List Node → List ℕ → Option ℕ → List ℕ → Lookup → Type 0
IsLookedFurther ns name None rest found = IsLookedUp ns name rest found
IsLookedFurther ns name (Some n) rest found = (f : Option ℕ) × FirstNamed ns name rest f × (found ≡ tells n f)

module _ (ns : List Node) (name row : List ℕ) (n : ℕ) (rest : List ℕ) (e : row ≡ n ∷ rest) where
  pub further_past : (IsNamed ns name n → ⊥) → (o : Option ℕ) (found : Lookup) → IsLookedFurther ns name o rest found → IsLookedFurther ns name o row found
  further_past other None found k = subst (λ l. IsLookedUp ns name l found) (sym e) (past other k)
  further_past other (Some m) found k = (k.0, subst (λ l. FirstNamed ns name l k.0) (sym e) (names.later other k.1), k.2)

  pub further_first : IsNamed ns name n → (found : Lookup) → IsLookedFurther ns name (Some n) rest found → IsLookedFurther ns name None row found
  further_first named found (None, f, is) = subst (λ l. IsLookedUp ns name l found) (sym e) (subst (IsLookedUp ns name (n ∷ rest)) (sym is) (alone named f))
  further_first named found (Some m, f, is) = subst (λ l. IsLookedUp ns name l found) (sym e) (subst (IsLookedUp ns name (n ∷ rest)) (sym is) (again named f))

  pub further_again : IsNamed ns name n → (m : ℕ) → IsLookedFurther ns name (Some m) row Twice
  further_again named m = (Some n, subst (λ l. FirstNamed ns name l (Some n)) (sym e) (names.here named), refl)

module _ (ns : List Node) (name row : List ℕ) (n : ℕ) (rest : List ℕ) (e : row ≡ n ∷ rest) (named : IsNamed ns name n) where
  -- it is the second one, or the first
  pub further_second : (o : Option ℕ) → is_some o ≡ true → IsLookedFurther ns name o row Twice
  further_second None there = absurd (false≢true there)
  further_second (Some m) there = further_again ns name row n rest e named m

  pub further_once : (o : Option ℕ) → is_some o ≡ false → (found : Lookup) → IsLookedFurther ns name (Some n) rest found → IsLookedFurther ns name o row found
  further_once None none found k = further_first ns name row n rest e named found k
  further_once (Some m) none found k = absurd (false≢true (sym none))

pub further_none : (ns : List Node) (name row : List ℕ) → row ≡ [] → IsLookedFurther ns name None row Missing
further_none ns name row e = subst (λ l. IsLookedUp ns name l Missing) (sym e) no_more

pub further_one : (ns : List Node) (name row : List ℕ) (n : ℕ) → row ≡ [] → IsLookedFurther ns name (Some n) row (Once n)
further_one ns name row n e = (None, subst (λ l. FirstNamed ns name l None) (sym e) names.none, refl)
