-- The ranges of a document's nodes, as they are noted.
use Rattle.std.specs.List.{flat_map}
use Rattle.std.proofs.Common.{ℕ, zero, suc, ◌+◌, ◌-◌, ◌<◌, ◌^◌, ◌≡◌, ◌∙◌, ◌⊎◌, sym, ap, refl, subst, inl, inr, List, [], ◌∷◌, Option, Some, None, IsTrue, length, min, slice_get, slice_range, slice_set, append_assoc, length-append, ◌++◌, arith}
use Rattle.std.proofs.Math.Nat.{min-eq_left}
use Rattle.std.proofs.lemmas.Bool.{cases_eq, false≢true}
use Rattle.jsonc_text.specs.declared.common.Range.{Range}
use Rattle.jsonc_tree.specs.Content.{Content, text_of}
use Rattle.jsonc_tree.specs.Order.{in_order, printed_at, rest_at, text_at}
use Rattle.jsonc_tree.specs.OrderedTree.{ordered_tree, printed}
use Rattle.jsonc_tree.specs.Tree.{Node, IsOver, IsTree, above, children_at, content_at, is_in, itself}
use Rattle.jsonc_tree.proofs.Order.{in_order_is, parent_there}
use Rattle.jsonc_cst.specs.Ranges.{IsBefore, printed_after}
use Rattle.jsonc_cst.proofs.RangeWalk.{HasCounted, begins, goes_on, is_ahead, no_more, stands_at, still_ahead, whole_size}
use Rattle.jsonc_ranges.specs.Edits.{AreLeafRanges, IsUntouchedAlike}
use Rattle.jsonc_ranges.proofs.Walk.{middle}

-- the node has its range
abbrev pub HasRange : List Node → List Range → ℕ → Type 0
HasRange ns rs n = (r : Range) × (slice_get rs n ≡ Some r) × IsBefore ns n r.start × (r.end ≡ r.start + length (text_at ns n))

-- each node of the document has its range, or is still ahead
pub record Noted (ns : List Node) (rs : List Range) (at : ℕ) (next : Option ℕ) : Type 0 where
  pub counted : length (printed (ordered_tree ns 0)) < 2 ^ 64 → HasCounted ns 0 at next
  pub nodes : length (printed (ordered_tree ns 0)) < 2 ^ 64 → (n : ℕ) → IsOver ns 0 n → IsTrue (is_in n (rest_at ns 0 next)) ⊎ HasRange ns rs n

slice_get_set : (rs : List Range) (n : ℕ) (r : Range) → n < length rs → slice_get (slice_set rs n r) n ≡ Some r
slice_get_set [] n r l = absurd (omega (arith, l))
slice_get_set (x ∷ rs) zero r l = refl
slice_get_set (x ∷ rs) (suc n) r l = slice_get_set rs n r (omega (arith, l))

slice_get_other : (rs : List Range) (n m : ℕ) (r : Range) → (n ≡ m → ⊥) → slice_get (slice_set rs n r) m ≡ slice_get rs m
slice_get_other [] n m r ne = refl
slice_get_other (x ∷ rs) zero zero r ne = absurd (ne refl)
slice_get_other (x ∷ rs) zero (suc m) r ne = refl
slice_get_other (x ∷ rs) (suc n) zero r ne = refl
slice_get_other (x ∷ rs) (suc n) (suc m) r ne = slice_get_other rs n m r (λ e. ne (ap suc e))

module _ (ns : List Node) (tree : IsTree ns) where
  over_there : (n : ℕ) → IsOver ns 0 n → n < length ns
  over_there _ itself = tree.first
  over_there n (above {c = c} said over) = (parent_there ns tree n c said).0

  -- at the first node
  pub noted_first : (rs : List Range) → Noted ns rs 0 (Some 0)
  noted_first rs = record {
    counted = λ few. begins ns tree 0 tree.first;
    nodes = λ few n over. inl (is_ahead ns tree n (over_there n over) over);
  }

  -- one node further
  pub noted_on : (rs new : List Range) (at n end : ℕ) (next after : Option ℕ) (content : Content) (size : ℕ) (r : Range) → Noted ns rs at next → next ≡ Some n → n < length ns → IsOver ns 0 n
      → rest_at ns 0 (Some n) ≡ n ∷ rest_at ns 0 after → content ≡ content_at ns n → size ≡ length (text_of content) → end ≡ min (at + size) (2 ^ 64 - 1)
      → r.start ≡ at → r.end ≡ end → n < length rs → new ≡ slice_set rs n r → Noted ns new end after
  noted_on rs new at n end next after content size r w e there over rest is_content is_size is_end a b within is_new =
      let whole : size ≡ length (text_at ns n) = is_size ∙ ap (λ (c : Content). length (text_of c)) is_content in
      let exact : length (printed (ordered_tree ns 0)) < 2 ^ 64 → end ≡ at + size =
      λ few. is_end ∙ min-eq_left {n = at + size} {m = 2 ^ 64 - 1} (omega (arith, few, no_more ns tree 0 at n next content size (w.counted few) e there is_content is_size, whole_size ns tree 0 tree.first)) in
      record {
        counted = λ few. subst (λ k. HasCounted ns 0 k after) (sym (exact few)) (goes_on ns tree 0 at n next after content size (w.counted few) e rest is_content is_size);
        nodes = λ few m upper. elim (cases_eq n m) [
          | inl same ↦
              let got : slice_get new n ≡ Some r = ap (λ l. slice_get l n) is_new ∙ slice_get_set rs n r within in
              let here : HasRange ns new n = (
                r,
                got,
                subst (IsBefore ns n) (sym a) (stands_at ns tree at n next (w.counted few) e over),
                b ∙ exact few ∙ ap (λ k. k + size) (sym a) ∙ ap (λ k. r.start + k) whole,
              ) in
              inr (subst (HasRange ns new) same here)
          | inr other ↦ elim (w.nodes few m upper) [
            | inl ahead ↦ inl (still_ahead ns tree m n next after ahead e rest other)
            | inr known ↦ inr (known.0, ap (λ l. slice_get l m) is_new ∙ slice_get_other rs n m r other ∙ known.1, known.2, known.3)
          ]
        ];
      }

  -- past the last node
  pub noted_all : (rs : List Range) (at : ℕ) (next : Option ℕ) → Noted ns rs at next → next ≡ None → AreLeafRanges ns rs
  noted_all rs at next w e few n over = elim (w.nodes few n over) [
    | inl ahead ↦ (let none : IsTrue (is_in n (rest_at ns 0 None)) = subst (λ o. IsTrue (is_in n (rest_at ns 0 o))) e ahead in absurd (false≢true none))
    | inr known ↦ known
  ]

  -- what a node prints itself is in the text at its range
  pub untouched_alike : (now : List Node) (rs : List Range) (n : ℕ) → IsUntouchedAlike ns now rs n
  untouched_alike now rs n noted few over same text some =
      let old : List ℕ = printed (ordered_tree ns 0) in
      let known = noted few n over in
      let r : Range = known.0 in
      let x = known.2 in
      let own : List ℕ = text_at ns n in
      let more : List ℕ = flat_map (text_at ns) (flat_map (in_order ns) (children_at ns n)) in
      let begin : printed_at ns n ≡ own ++ more = ap (flat_map (text_at ns)) (in_order_is ns tree n (over_there n over)) in
      let split : old ≡ x.before ++ (own ++ (more ++ printed_after ns n)) =
      x.split ∙ ap (λ l. x.before ++ (l ++ printed_after ns n)) begin ∙ ap (λ l. x.before ++ l) (append_assoc own more (printed_after ns n)) in
      let piece : slice_range old (length x.before) (length x.before + length own) ≡ own = middle old x.before own (more ++ printed_after ns n) split in
      let ends : length x.before + length own ≡ r.end = ap (λ k. k + length own) (sym x.starts) ∙ sym known.3 in
      let here : slice_range old r.start r.end ≡ own = subst (λ k. slice_range old k r.end ≡ own) (sym x.starts) (subst (λ k. slice_range old (length x.before) k ≡ own) ends piece) in
      let size : length own ≡ length (text_at now n) = ap length (sym same) in
      let all : length old ≡ length x.before + (length own + length (more ++ printed_after ns n)) =
      ap length split ∙ length-append x.before (own ++ (more ++ printed_after ns n)) ∙ ap (λ k. length x.before + k) (length-append own (more ++ printed_after ns n)) in (
        r,
        record {
          noted = known.1;
          some = omega (arith, known.3, size, some);
          within = omega (arith, ends, all);
          same = here ∙ sym same;
          text = text;
        },
        x,
      )
