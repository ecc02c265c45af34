-- The container of an entry that leaves stays in the document.
use Rattle.std.proofs.Common.{◌≡◌, ◌≢◌, ◌∙◌, ◌⊎◌, ◌||◌, ◌<◌, ◌≤◌, ◌+◌, ◌-◌, ◌++◌, ℕ, zero, suc, Bool, true, false, not, cond, eqb, List, [], ◌∷◌, Option, Some, None, drop, get_or, length, take, inl, inr, refl, sym, ap, subst, arith}
use Rattle.std.proofs.lemmas.Bool.{cases_Bool, eq-eqb, eqb-true, false≢true, ne_eqb}
use Rattle.std.specs.List.{splice}
use Rattle.std.specs.Prelude.{slice_index, slice_range, IsTrue}
use Rattle.jsonc_tree.specs.Content as content
use Rattle.jsonc_tree.specs.Building.{Keeps}
use Rattle.jsonc_tree.specs.Changes.{Splices, parent_after}
use Rattle.jsonc_tree.specs.Tree.{Node, children_at, content_at, is_in, parent_at, place_at, IsOver, IsTree, above, itself}
use Rattle.jsonc_tree.proofs.Order.{not_over_parent, parent_there}
use Rattle.jsonc_tree.proofs.Over.{either_over, over_up}
use Rattle.jsonc_edit.proofs.FittingNodes.{over_there}
use Rattle.jsonc_edit.specs.Put.{AreSpaced, Extends, IsFreeSpace, StandsBefore, a_space}
use Rattle.jsonc_edit.specs.remove.Removed.{IsClosedUp, IsTakenFrom, LosesChild, TakesElement, comma_in, is_hollow}

-- what is not in a list is in no part of it
out_more : (n m : ℕ) (xs : List ℕ) → is_in n (m ∷ xs) ≡ false → (eqb n m ≡ false) × (is_in n xs ≡ false)
out_more n m xs h = go (eqb n m) refl h
  where
    go : (b : Bool) → eqb n m ≡ b → b || is_in n xs ≡ false → (eqb n m ≡ false) × (is_in n xs ≡ false)
    go true e h = absurd (false≢true (sym h))
    go false e h = (e, h)

in_more : (n m : ℕ) (xs : List ℕ) → eqb n m ≡ false → is_in n xs ≡ false → is_in n (m ∷ xs) ≡ false
in_more n m xs e h = ap (λ b. b || is_in n xs) e ∙ h

out_take : (n k : ℕ) (xs : List ℕ) → is_in n xs ≡ false → is_in n (take k xs) ≡ false
out_take n zero xs h = refl
out_take n (suc k) [] h = refl
out_take n (suc k) (x ∷ xs) h = let p = out_more n x xs h in in_more n x (take k xs) p.0 (out_take n k xs p.1)

out_drop : (n k : ℕ) (xs : List ℕ) → is_in n xs ≡ false → is_in n (drop k xs) ≡ false
out_drop n zero xs h = h
out_drop n (suc k) [] h = refl
out_drop n (suc k) (x ∷ xs) h = out_drop n k xs (out_more n x xs h).1

out_both : (n : ℕ) (xs ys : List ℕ) → is_in n xs ≡ false → is_in n ys ≡ false → is_in n (xs ++ ys) ≡ false
out_both n [] ys h k = k
out_both n (x ∷ xs) ys h k = let p = out_more n x xs h in in_more n x (xs ++ ys) p.0 (out_both n xs ys p.1 k)

out_all : (n : ℕ) (xs : List ℕ) → ((k : ℕ) → k < length xs → slice_index xs k ≢ n) → is_in n xs ≡ false
out_all n [] h = refl
out_all n (x ∷ xs) h = in_more n x xs (ne_eqb n x (λ e. h 0 (omega arith) (sym e))) (out_all n xs (λ k l. h (suc k) (omega (arith, l))))

there_up : (ns : List Node) → IsTree ns → (x k : ℕ) → k < length ns → IsOver ns x k → x < length ns
there_up ns tree x _ h itself = h
there_up ns tree x k h (above {c = d} said rest) = there_up ns tree x d (parent_there ns tree k d said).1 rest

module _ (old : List Node) (tree : IsTree old) (c : ℕ) (over : IsOver old 0 c) where
  -- the nodes over c have the parents that they had, and are none of its children
  record Stays (ns : List Node) : Type 0 where
    parents : (n : ℕ) → IsOver old n c → parent_at ns n ≡ parent_at old n
    apart : (n : ℕ) → IsOver old n c → is_in n (children_at ns c) ≡ false
    content : content_at ns c ≡ content_at old c
    top : content_at ns 0 ≡ content_at old 0

  there : (n : ℕ) → IsOver old n c → n < length old
  there n o = there_up old tree n c (over_there old tree c over) o

  at_first : Stays old
  at_first = record {
    parents = λ n o. refl;
    apart = λ n o. out_all n (children_at old c) (λ k l e. not_over_parent old tree n c (subst (λ m. parent_at old m ≡ Some c) e (tree.named c k l)) o);
    content = refl;
    top = refl;
  }

  still_over : (ns : List Node) → Stays ns → (n : ℕ) → IsOver old n c → IsOver old 0 n → IsOver ns 0 n
  still_over ns s _ o itself = itself
  still_over ns s n o (above {c = p} said rest) = above (s.parents n o ∙ said) (still_over ns s p (over_up old n p c said o) rest)

  extended : (ready : List Node) → Keeps (length old) old ready → Stays ready
  extended ready keeps = record {
    parents = λ n o. keeps.parent n (there n o);
    apart = λ n o. ap (is_in n) (keeps.children c (there c itself)) ∙ at_first.apart n o;
    content = keeps.content c (there c itself);
    top = keeps.content 0 tree.first;
  }

  -- children of c leave
  loses : (ns new : List Node) (i j : ℕ) → Splices ns new c i j [] → Stays ns → Stays new
  loses ns new i j splices s = record {
    parents = λ n o. splices.parents n ∙ kept n (out_take n _ _ (out_drop n i (children_at ns c) (s.apart n o))) ∙ s.parents n o;
    apart = λ n o. ap (is_in n) splices.children ∙ out_both n (take i (children_at ns c)) (drop j (children_at ns c)) (out_take n i (children_at ns c) (s.apart n o)) (out_drop n j (children_at ns c) (s.apart n o));
    content = splices.content c ∙ s.content;
    top = splices.content 0 ∙ s.top;
  }
    where
      kept : (n : ℕ) → is_in n (slice_range (children_at ns c) i j) ≡ false → parent_after ns c i j [] n ≡ parent_at ns n
      kept n h = ap (λ b. cond b None (parent_at ns n)) h

  -- a node over c is not a space that no node has
  root_no_space : content_at old 0 ≡ a_space → ⊥
  root_no_space e = let wrong : content.root ≡ a_space = sym tree.root_first ∙ e in cc

  has_parent : (k : ℕ) → IsOver old (suc k) c → parent_at old (suc k) ≡ None → ⊥
  has_parent k o none =
      elim (either_over old 0 (suc k) c over o) [
        | inl below ↦ from_above below
        | inr higher ↦ from_below higher
      ]
    where
      from_above : IsOver old 0 (suc k) → ⊥
      from_above (above {c = d} said rest) = let wrong : None ≡ Some d = sym none ∙ said in cc

      from_below : IsOver old (suc k) 0 → ⊥
      from_below (above {c = d} said rest) = let wrong : None ≡ Some d = sym tree.root_alone ∙ said in cc

  no_space : (ns : List Node) → Stays ns → (leaf : ℕ) → IsFreeSpace ns leaf → (n : ℕ) → IsOver old n c → n ≢ leaf
  no_space ns s leaf free zero o e = root_no_space (sym s.top ∙ ap (content_at ns) e ∙ free.is)
  no_space ns s leaf free (suc k) o e = has_parent k o (sym (s.parents (suc k) o) ∙ ap (parent_at ns) e ∙ free.alone)

  -- a space comes before a node
  spaced : (ns new : List Node) (m leaf : ℕ) → StandsBefore ns new m leaf → Stays ns → Stays new
  spaced ns new m leaf put s = record {
    parents = λ n o. put.put.parents n ∙ ap (λ b. cond b (Some put.container) (cond (is_in n (slice_range (children_at ns put.container) (place_at ns m) (place_at ns m))) None (parent_at ns n))) (out n o)
        ∙ ap (λ b. cond b None (parent_at ns n)) (none_leave n) ∙ s.parents n o;
    apart = apart;
    content = put.put.content c ∙ s.content;
    top = put.put.content 0 ∙ s.top;
  }
    where
      out : (n : ℕ) → IsOver old n c → is_in n (leaf ∷ []) ≡ false
      out n o = in_more n leaf [] (ne_eqb n leaf (no_space ns s leaf put.was n o)) refl

      none_leave : (n : ℕ) → is_in n (slice_range (children_at ns put.container) (place_at ns m) (place_at ns m)) ≡ false
      none_leave n = let none : place_at ns m - place_at ns m ≡ 0 = omega arith in ap (λ k. is_in n (take k (drop (place_at ns m) (children_at ns put.container)))) none

      apart : (n : ℕ) → IsOver old n c → is_in n (children_at new c) ≡ false
      apart n o =
          elim (cases_Bool (eqb c put.container)) [
            | inl e ↦
                let same : c ≡ put.container = eqb-true c put.container e in
                let kids : children_at new c ≡ splice (children_at ns c) (place_at ns m) (place_at ns m) (leaf ∷ []) = subst (λ k. children_at new k ≡ splice (children_at ns k) (place_at ns m) (place_at ns m) (leaf ∷ [])) (sym same) put.put.children in
                ap (is_in n) kids
                ∙ out_both n (take (place_at ns m) (children_at ns c)) (leaf ∷ drop (place_at ns m) (children_at ns c)) (out_take n (place_at ns m) (children_at ns c) (s.apart n o))
                (in_more n leaf (drop (place_at ns m) (children_at ns c)) (ne_eqb n leaf (no_space ns s leaf put.was n o)) (out_drop n (place_at ns m) (children_at ns c) (s.apart n o)))
            | inr e ↦ ap (is_in n) (put.put.others c (λ same. false≢true (sym e ∙ eq-eqb c put.container same))) ∙ s.apart n o
          ]

  all_spaced : (places : List ℕ) (ns new : List Node) → AreSpaced ns places new → Stays ns → Stays new
  all_spaced [] ns new same s = subst Stays (sym same) s
  all_spaced (m ∷ places) ns new (now, leaf, put, more) s = all_spaced places now new more (spaced ns now m leaf put s)

  lost : (ns new : List Node) (k : Option ℕ) → LosesChild ns new c k → Stays ns → Stays new
  lost ns new None same s = subst Stays (sym same) s
  lost ns new (Some k) splices s = loses ns new _ _ splices s

  closed : (ns new : List Node) → IsClosedUp ns new c → Stays ns → Stays new
  closed ns new up s =
      elim (cases_Bool (is_hollow ns c)) [
        | inl e ↦ loses ns new _ _ (up.0 e) s
        | inr e ↦ subst Stays (sym (up.1 (ap not e))) s
      ]

  taken : (without : List Node) (n : ℕ) → IsTakenFrom old without n c → Stays without
  taken without n t =
      closed t.joined without t.closed (lost t.parted t.joined (comma_in old c n) t.comma (loses t.spaced t.parted _ _ t.stretch (all_spaced _ t.ready t.spaced t.spaces (extended t.ready t.prepared.keeps))))

  -- where an element of c has left, c is in the document still, and of its kind
  pub over_still : (without : List Node) (n : ℕ) → parent_at old n ≡ Some c → TakesElement old without n → IsOver without 0 c
  over_still without n said takes = still_over without (taken without n (takes c said).1) c itself over

  pub kind_still : (without : List Node) (n : ℕ) → parent_at old n ≡ Some c → TakesElement old without n → content_at without c ≡ content_at old c
  kind_still without n said takes = (taken without n (takes c said).1).content
