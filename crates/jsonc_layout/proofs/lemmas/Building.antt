-- Nodes that are made for a row, one after another.
use Rattle.std.proofs.Common.{◌≡◌, ◌<◌, ◌≤◌, ◌-◌, ℕ, suc, inl, inr, List, [], ◌∷◌, ◌++◌, length, map, slice_index, Result, Ok, Err, OnOk, refl, sym, ap, subst, ◌∙◌, arith, append_assoc, append-nil, length-append}
use Rattle.std.proofs.lemmas.Bool.{cases_lt}
use Rattle.std.proofs.lemmas.List.{get_or-append_right, get_or_append_left, map-append}
use Rattle.jsonc_tree.specs.Building.{Keeps}
use Rattle.jsonc_tree.specs.Changes.{Adds, EachOnce}
use Rattle.jsonc_tree.specs.Content.{Content}
use Rattle.jsonc_tree.specs.Tree.{Node, content_at}
use Rattle.jsonc_tree.proofs.Builder.{Keeps-adds, Keeps-fewer, Keeps-same, Keeps-then}
use Rattle.jsonc_layout.specs.Building.{AreFresh, Gains, IsFresh, LeavesMade}

-- no number stands in both
abbrev pub Apart : List ℕ → List ℕ → Type 0
Apart xs ys = (a b : ℕ) → a < length xs → b < length ys → slice_index xs a ≡ slice_index ys b → ⊥

module _ (xs ys : List ℕ) where
  pub left_at : (k : ℕ) → k < length xs → slice_index (xs ++ ys) k ≡ slice_index xs k
  left_at k h = get_or_append_left xs ys 0 k h

  pub right_at : (k : ℕ) → length xs ≤ k → slice_index (xs ++ ys) k ≡ slice_index ys (k - length xs)
  right_at k h = get_or-append_right xs ys (length xs) k 0 refl h

  pub right_in : (k : ℕ) → length xs ≤ k → k < length (xs ++ ys) → k - length xs < length ys
  right_in k h l = omega (arith, h, l, length-append xs ys)

  -- what each of both is, each of them together is
  pub each_append : (P : ℕ → Type 0) → ((k : ℕ) → k < length xs → P (slice_index xs k)) → ((k : ℕ) → k < length ys → P (slice_index ys k)) → (k : ℕ) → k < length (xs ++ ys) → P (slice_index (xs ++ ys) k)
  each_append P left right k h =
      elim (cases_lt k (length xs)) [
        | inl low ↦ subst P (sym (left_at k low)) (left k low)
        | inr high ↦ subst P (sym (right_at k high)) (right (k - length xs) (right_in k high h))
      ]

  pub once_append : EachOnce xs → EachOnce ys → Apart xs ys → EachOnce (xs ++ ys)
  once_append left right apart a b ha hb e =
      elim (cases_lt a (length xs)) [
        | inl la ↦ (elim (cases_lt b (length xs)) [
          | inl lb ↦ left a b la lb (sym (left_at a la) ∙ e ∙ left_at b lb)
          | inr rb ↦ absurd (apart a (b - length xs) la (right_in b rb hb) (sym (left_at a la) ∙ e ∙ right_at b rb))
        ])
        | inr ra ↦ (elim (cases_lt b (length xs)) [
          | inl lb ↦ absurd (apart b (a - length xs) lb (right_in a ra ha) (sym (left_at b lb) ∙ sym e ∙ right_at a ra))
          | inr rb ↦ (let same : a - length xs ≡ b - length xs = right (a - length xs) (b - length xs) (right_in a ra ha) (right_in b rb hb) (sym (right_at a ra) ∙ e ∙ right_at b rb) in omega (arith, ra, rb, same))
        ])
      ]

-- what was kept is kept while more is made
pub still_kept : (old now later : List Node) → Keeps (length old) old now → Keeps (length now) now later → Keeps (length old) old later
still_kept old now later p q = Keeps-then (length old) old now later p (Keeps-fewer (length old) (length now) now later p.len q)

-- what was made stays what it is while more is made
pub contents_kept : (now later : List Node) → Keeps (length now) now later → (xs : List ℕ) → ((k : ℕ) → k < length xs → slice_index xs k < length now) → map (content_at later) xs ≡ map (content_at now) xs
contents_kept now later keeps [] h = refl
contents_kept now later keeps (x ∷ xs) h =
    ap (λ w. w ∷ map (content_at later) xs) (keeps.content x (h 0 (omega arith))) ∙ ap (λ l. content_at now x ∷ l) (contents_kept now later keeps xs (λ k l. h (suc k) (omega (arith, l))))

-- nodes that were made, and more that were made since
module _ (old now later : List Node) (xs ys : List ℕ) (grown : length old ≤ length now) (keeps : Keeps (length now) now later) (first : AreFresh old now xs) (second : AreFresh now later ys) where
  left_fresh : (k : ℕ) → k < length xs → IsFresh old later (slice_index xs k)
  left_fresh k h =
      let f = first.each k h in
      record { later = f.later; in_tree = omega (arith, f.in_tree, keeps.len); alone = keeps.parent (slice_index xs k) f.in_tree ∙ f.alone }

  right_fresh : (k : ℕ) → k < length ys → IsFresh old later (slice_index ys k)
  right_fresh k h =
      let f = second.each k h in
      record { later = omega (arith, grown, f.later); in_tree = f.in_tree; alone = f.alone }

  pub fresh_append : AreFresh old later (xs ++ ys)
  fresh_append = record {
    each = each_append xs ys (IsFresh old later) left_fresh right_fresh;
    once = once_append xs ys first.once second.once (λ a b ha hb e. omega (arith, (first.each a ha).in_tree, (second.each b hb).later, e));
  }

pub each_one : (P : ℕ → Type 0) (n : ℕ) → P n → (k : ℕ) → k < 1 → P (slice_index (n ∷ []) k)
each_one P n one k h = let at : 0 ≡ k = omega (arith, h) in subst (λ j. P (slice_index (n ∷ []) j)) at one

pub one_fresh : (old now : List Node) (n : ℕ) → IsFresh old now n → AreFresh old now (n ∷ [])
one_fresh old now n f = record {
  each = each_one (IsFresh old now) n f;
  once = λ a b ha hb e. omega (arith, ha, hb);
}

-- a row has one leaf more
pub leaf_gained : (now later : List Node) (content : Content) (row next : List ℕ) (leaf : ℕ) → Adds now later content → leaf ≡ length now → next ≡ row ++ leaf ∷ [] → Gains now row later next (content ∷ [])
leaf_gained now later content row next leaf added e f = record {
  leaves = length now ∷ [];
  is = f ∙ ap (λ n. row ++ n ∷ []) e;
  made = record {
    keeps = Keeps-adds now later content added;
    fresh = one_fresh now later (length now) (record { later = omega arith; in_tree = omega (arith, added.len); alone = added.bare.0 });
    are = ap (λ w. w ∷ []) added.last;
  };
}

-- none
pub none_gained : (now : List Node) (row : List ℕ) → Gains now row now row []
none_gained now row = record {
  leaves = [];
  is = sym (append-nil row);
  made = record { keeps = Keeps-same (length now) now; fresh = record { each = λ k h. absurd (omega (arith, h)); once = λ a b ha. absurd (omega (arith, ha)) }; are = refl };
}

-- some, and then others
pub gained_then : (a b d : List Node) (r s t : List ℕ) (first second : List Content) → Gains a r b s first → Gains b s d t second → Gains a r d t (first ++ second)
gained_then a b d r s t first second f g = record {
  leaves = f.leaves ++ g.leaves;
  is = g.is ∙ ap (λ l. l ++ g.leaves) f.is ∙ append_assoc r f.leaves g.leaves;
  made = record {
    keeps = still_kept a b d f.made.keeps g.made.keeps;
    fresh = fresh_append a b d f.leaves g.leaves f.made.keeps.len g.made.keeps f.made.fresh g.made.fresh;
    are = map-append (content_at d) f.leaves g.leaves ∙ ap (λ l. l ++ map (content_at d) g.leaves) (contents_kept b d g.made.keeps f.leaves (λ k h. (f.made.fresh.each k h).in_tree) ∙ f.made.are) ∙ ap (λ l. first ++ l) g.made.are;
  };
}

-- where the last call is Ok, and they are said otherwise
pub gained_as : {E : Type 0} (a b d : List Node) (r s t : List ℕ) (first second whole : List Content) (result : Result (Unit {0}) E) → first ++ second ≡ whole → Gains a r b s first → OnOk result (Gains b s d t second) → OnOk result (Gains a r d t whole)
gained_as a b d r s t first second whole (Ok x) e f g = subst (Gains a r d t) e (gained_then a b d r s t first second f g)
gained_as a b d r s t first second whole (Err x) e f g = tt

-- a row that began empty is these leaves
pub made_from : (old now : List Node) (r s : List ℕ) (contents : List Content) → r ≡ [] → Gains old r now s contents → LeavesMade old now contents s
made_from old now r s contents e g = subst (LeavesMade old now contents) (sym (g.is ∙ ap (λ l. l ++ g.leaves) e)) g.made
