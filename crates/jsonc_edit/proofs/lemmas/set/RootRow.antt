-- New nodes that come into the root's row together: each was made after the one before it.
use Rattle.std.proofs.Common.{◌≡◌, ℕ, zero, suc, ◌<◌, ◌≤◌, List, [], ◌∷◌, ◌++◌, length, slice_index, Option, Some, None, IfSome, inl, refl, ap, arith}
use Rattle.jsonc_tree.specs.Tree.{Node, parent_at, IsTree}
use Rattle.jsonc_tree.specs.Changes.{CanJoin, EachOnce}
use Rattle.jsonc_tree.proofs.Appending.{not_over_alone}
use Rattle.jsonc_edit.specs.Due.{listed}

-- detached, of rising numbers, none below the first of these numbers
pub data Rising (ns : List Node) : ℕ → List ℕ → Type 0 where
  ended : {low : ℕ} → Rising ns low []
  and_more : {low x : ℕ} {xs : List ℕ} → low ≤ x → x < length ns → parent_at ns x ≡ None → Rising ns (suc x) xs → Rising ns low (x ∷ xs)

module _ (ns : List Node) where
  pub risen : (low : ℕ) (xs : List ℕ) → Rising ns low xs → (k : ℕ) → k < length xs → (low ≤ slice_index xs k) × (slice_index xs k < length ns) × (parent_at ns (slice_index xs k) ≡ None)
  risen low _ ended k h = absurd (omega arith)
  risen low _ (and_more {x = x} {xs = xs} least there alone rest) zero h = (least, there, alone)
  risen low _ (and_more {x = x} {xs = xs} least there alone rest) (suc k) h = let r = risen (suc x) xs rest k (omega arith) in (omega (arith, r.0, least), r.1, r.2)

  each_once : (low : ℕ) (xs : List ℕ) → Rising ns low xs → EachOnce xs
  each_once low _ ended a b ha hb e = absurd (omega arith)
  each_once low _ (and_more least there alone rest) zero zero ha hb e = refl
  each_once low _ (and_more {x = x} {xs = xs} least there alone rest) zero (suc b) ha hb e = let r = risen (suc x) xs rest b (omega arith) in absurd (omega (arith, r.0, e))
  each_once low _ (and_more {x = x} {xs = xs} least there alone rest) (suc a) zero ha hb e = let r = risen (suc x) xs rest a (omega arith) in absurd (omega (arith, r.0, e))
  each_once low _ (and_more {x = x} {xs = xs} least there alone rest) (suc a) (suc b) ha hb e = ap suc (each_once (suc x) xs rest a b (omega arith) (omega arith) e)

  -- they may join the root's row
  pub may_join : IsTree ns → (low : ℕ) → 0 < low → (xs : List ℕ) → Rising ns low xs → (i j : ℕ) → CanJoin ns 0 i j xs
  may_join tree low later xs rising i j = record {
    in_tree = λ k h. (risen low xs rising k h).1;
    not_root = λ k h e. omega (arith, (risen low xs rising k h).0, e, later);
    once = each_once low xs rising;
    free = λ k h. inl (risen low xs rising k h).2;
    not_over = λ k h. not_over_alone ns (slice_index xs k) 0 tree.root_alone (λ e. omega (arith, (risen low xs rising k h).0, e, later));
  }

  -- one between two that there may be
  pub around_rises : (low m : ℕ) (b a : Option ℕ) → IfSome b (λ x. (low ≤ x) × (x < m) × (parent_at ns x ≡ None)) → low ≤ m → m < length ns → parent_at ns m ≡ None → IfSome a (λ x. (m < x) × (x < length ns) × (parent_at ns x ≡ None))
      → Rising ns low (listed b ++ m ∷ listed a)
  around_rises low m None None first least there alone last = and_more least there alone ended
  around_rises low m (Some x) None first least there alone last = and_more first.0 (omega (arith, first.1, there)) first.2 (and_more (omega (arith, first.1)) there alone ended)
  around_rises low m None (Some y) first least there alone last = and_more least there alone (and_more (omega (arith, last.0)) last.1 last.2 ended)
  around_rises low m (Some x) (Some y) first least there alone last = and_more first.0 (omega (arith, first.1, there)) first.2 (and_more (omega (arith, first.1)) there alone (and_more (omega (arith, last.0)) last.1 last.2 ended))
