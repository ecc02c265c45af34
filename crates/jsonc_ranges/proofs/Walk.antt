-- Two texts, as far as the leaves of a document have been passed.
use Rattle.std.specs.List.{flat_map}
use Rattle.std.proofs.Common.{ℕ, zero, suc, ◌+◌, ◌-◌, ◌<◌, ◌≤◌, ◌^◌, ◌≡◌, ◌∙◌, ◌⊎◌, sym, ap, refl, subst, inl, inr, List, [], ◌∷◌, ◌++◌, Option, Some, None, length, take, drop, min, slice_get, slice_range, get_or, All, IsUtf8, IsCharBoundary, arith, length-append, length-drop}
use Rattle.std.proofs.Math.Nat.{le-min, min-eq_left}
use Rattle.std.proofs.Math.Seq.{take-length, take_at, drop_at}
use Rattle.std.proofs.lemmas.Bool.{cases_lt}
use Rattle.std.proofs.lemmas.List.{append-nil, get_or_append_left, get_or-append_right, length-take-le, take-append-drop}
use Rattle.std.proofs.lemmas.List.Folds.{drop_split}
use Rattle.std.proofs.lemmas.Option.{slice_get_within}
use Rattle.std.proofs.lemmas.Str.{IsCharBoundary-start, IsCharBoundary-end, IsCharBoundary-from_rest, IsCharBoundary-from_take, IsUtf8-between, IsUtf8-drop}
use Rattle.jsonc_text.specs.declared.common.Range.{Range}
use Rattle.jsonc_text.specs.Text.{Spans}
use Rattle.jsonc_tree.specs.Content.{Content, text_of}
use Rattle.jsonc_tree.specs.Order.{in_order, rest_at, text_at}
use Rattle.jsonc_tree.specs.OrderedTree.{ordered_tree, printed}
use Rattle.jsonc_tree.specs.Tree.{Node, IsTree, content_at}
use Rattle.jsonc_tree.proofs.Order.{following_end}
use Rattle.jsonc_tree.proofs.OrderedTrees.{printed_at-ordered_tree}
use Rattle.jsonc_cst.proofs.RangeWalk.{HasCounted, begins, goes_on}
use Rattle.jsonc_mends.specs.declared.mends.TextChange.{TextChange}
use Rattle.jsonc_changes.specs.Changes.{Changes, none, Puts, Replaces}
use Rattle.jsonc_ranges.specs.declared.changes.Done.{Done}
use Rattle.jsonc_ranges.specs.Edits.{AreEdits, IsKept, IsOutside, IsPassed, IsPassedOver, IsUntouched, Passes, Stays}
use Rattle.jsonc_ranges.proofs.Pieces.{kept_on, put_on, put_all}

abbrev pub SpansIn : List ℕ → TextChange → Type 0
SpansIn old c = Spans old c.range.start c.range.end

abbrev pub Differs : List ℕ → TextChange → Type 0
Differs old c = slice_range old c.range.start c.range.end ≡ c.new_text.now → ⊥

abbrev pub EndsBefore : ℕ → TextChange → Type 0
EndsBefore place c = c.range.end < place

abbrev pub Apart : List TextChange → Type 0
Apart cs = (i : ℕ) (c : TextChange) → suc i < length cs → (get_or cs i c).range.end < (get_or cs (suc i) c).range.start

-- what is known of the changes, up to a place of each text
pub record Made (old new : List ℕ) (done : Done) (cs : List TextChange) : Type 0 where
  pub old_place : IsCharBoundary old done.old
  pub new_place : IsCharBoundary new done.new
  pub made : Changes (take done.old old) cs (take done.new new)
  pub spans : All (SpansIn old) cs
  pub differ : All (Differs old) cs
  pub before : All (EndsBefore done.old) cs
  pub apart : Apart cs

-- what is known where so many nodes have been passed
pub record Passed (rs : List Range) (ns : List Node) (old : List ℕ) (done : Done) (cs : List TextChange) (passed : ℕ) : Type 0 where
  pub stay : (i : ℕ) (r : Range) → i < passed → Stays rs ns old i r → (r.end ≤ done.old) × All (IsOutside r) cs
  pub least : (s : ℕ) → ((k m : ℕ) (q : Range) → k < passed → slice_get (in_order ns 0) k ≡ Some m → IsUntouched rs ns old m q → q.end ≤ s) → done.old ≤ s

-- what is known at a node
pub record Walked (rs : List Range) (ns : List Node) (old new : List ℕ) (done : Done) (at : ℕ) (next : Option ℕ) (cs : List TextChange) : Type 0 where
  pub all : Made old new done cs
  pub reached : done.new ≤ at
  pub passed : ℕ
  pub left : drop passed (in_order ns 0) ≡ rest_at ns 0 next
  pub counted : new ≡ printed (ordered_tree ns 0) → HasCounted ns 0 at next
  pub kept : new ≡ printed (ordered_tree ns 0) → Passed rs ns old done cs passed

nothing : (P : TextChange → Type 0) → All P []
nothing P n d l = absurd (omega (arith, l))

-- nothing is made yet
pub made_first : (old new : List ℕ) (done : Done) (cs : List TextChange) → IsUtf8 old → IsUtf8 new → done ≡ record { old = 0; new = 0 } → cs ≡ [] → Made old new done cs
made_first old new done cs u v d e =
    subst (λ (z : Done). Made old new z cs) (sym d) (subst (Made old new (record { old = 0; new = 0 })) (sym e) (record {
      old_place = IsCharBoundary-start old u;
      new_place = IsCharBoundary-start new v;
      made = none;
      spans = nothing (SpansIn old);
      differ = nothing (Differs old);
      before = nothing (EndsBefore 0);
      apart = λ i c l. absurd (omega (arith, l));
    }))

-- a change after all others lies apart from them
apart_more : (cs : List TextChange) (e : TextChange) (place : ℕ) → All (EndsBefore place) cs → e.range.start ≡ place → Apart cs → Apart (cs ++ e ∷ [])
apart_more cs e place before start apart i c l =
    let size : length (cs ++ e ∷ []) ≡ length cs + 1 = length-append cs (e ∷ []) in
    elim (cases_lt (suc i) (length cs)) [
      | inl h ↦
          let a : get_or (cs ++ e ∷ []) i c ≡ get_or cs i c = get_or_append_left cs (e ∷ []) c i (omega (arith, h)) in
          let b : get_or (cs ++ e ∷ []) (suc i) c ≡ get_or cs (suc i) c = get_or_append_left cs (e ∷ []) c (suc i) h in
          subst (λ (x : TextChange). x.range.end < (get_or (cs ++ e ∷ []) (suc i) c).range.start) (sym a)
          (subst (λ (x : TextChange). (get_or cs i c).range.end < x.range.start) (sym b) (apart i c h))
      | inr h ↦
          let one : suc i ≡ length cs = omega (arith, h, l, size) in
          let zero_left : suc i - length cs ≡ 0 = omega (arith, one) in
          let a : get_or (cs ++ e ∷ []) i c ≡ get_or cs i c = get_or_append_left cs (e ∷ []) c i (omega (arith, one)) in
          let b : get_or (cs ++ e ∷ []) (suc i) c ≡ e =
          get_or-append_right cs (e ∷ []) (length cs) (suc i) c refl h ∙ ap (λ n. get_or (e ∷ []) n c) zero_left in
          let last : (get_or cs i c).range.end < place = before i c (omega (arith, one)) in
          let begins_there : (get_or (cs ++ e ∷ []) (suc i) c).range.start ≡ place = ap (λ (x : TextChange). x.range.start) b ∙ start in
          subst (λ (x : TextChange). x.range.end < (get_or (cs ++ e ∷ []) (suc i) c).range.start) (sym a) (omega (arith, last, begins_there))
    ]

apart_put : (old new : List ℕ) (range written : Range) (cs ds : List TextChange) → Puts old range new written cs ds → All (EndsBefore range.start) cs → Apart cs → Apart ds
apart_put old new range written cs ds (inl k) before apart = subst Apart (sym k.1) apart
apart_put old new range written cs ds (inr k) before apart =
    let r : Replaces old range new written k.0 = k.1 in
    subst Apart (sym k.2) (apart_more cs k.0 range.start before (ap (λ (x : Range). x.start) r.range_is) apart)

differ_one : (old new : List ℕ) (range written : Range) (c : TextChange) → Replaces old range new written c → Differs old c
differ_one old new range written c r h = r.differs (sym (ap (λ (x : Range). slice_range old x.start x.end) r.range_is) ∙ h)

span_one : (old new : List ℕ) (range written : Range) (c : TextChange) → Spans old range.start range.end → Replaces old range new written c → SpansIn old c
span_one old new range written c s r = subst (λ (x : Range). Spans old x.start x.end) (sym r.range_is) s

end_one : (old new : List ℕ) (range written : Range) (c : TextChange) (place : ℕ) → range.end < place → Replaces old range new written c → EndsBefore place c
end_one old new range written c place h r = subst (λ (x : Range). x.end < place) (sym r.range_is) h

later : (cs : List TextChange) (i j : ℕ) → i ≤ j → All (EndsBefore i) cs → All (EndsBefore j) cs
later cs i j h a = λ n d l. let b : (get_or cs n d).range.end < i = a n d l in omega (arith, h, b)

-- a change is added, and then both texts have the same
pub made_kept : (old new : List ℕ) (done : Done) (own r : Range) (cs ds : List TextChange) → Made old new done cs → done.new ≤ own.start → IsKept old done.old new own r
    → Puts old (record { start = done.old; end = r.start }) new (record { start = done.new; end = own.start }) cs ds → Made old new (record { old = r.end; new = own.end }) ds
made_kept old new done own r cs ds m reached k puts =
    let range : Range = record { start = done.old; end = r.start } in
    let written : Range = record { start = done.new; end = own.start } in
    let s : Spans old done.old r.start = record { from = m.old_place; to = k.was.from; order = k.after } in
    let t : Spans new done.new own.start = record { from = m.new_place; to = k.now.from; order = reached } in
    record {
      old_place = k.was.to;
      new_place = k.now.to;
      made = kept_on old new ds r.start r.end own.start own.end k.was.order k.now.order k.same (put_on old new range written cs ds s t puts m.made);
      spans = put_all (SpansIn old) old new range written cs ds puts (λ c x. span_one old new range written c s x) m.spans;
      differ = put_all (Differs old) old new range written cs ds puts (λ c x. differ_one old new range written c x) m.differ;
      before = put_all (EndsBefore r.end) old new range written cs ds puts (λ c x. end_one old new range written c r.end k.some x)
          (later cs done.old r.end (omega (arith, k.after, k.some)) m.before);
      apart = apart_put old new range written cs ds puts m.before m.apart;
    }

-- the head of what is left
pub drop_head : (xs : List ℕ) (p n : ℕ) (ys : List ℕ) → drop p xs ≡ n ∷ ys → (slice_get xs p ≡ Some n) × (drop (suc p) xs ≡ ys)
drop_head [] zero n ys e = let z : [] ≡ n ∷ ys = e in absurd cc
drop_head [] (suc p) n ys e = let z : [] ≡ n ∷ ys = e in absurd cc
drop_head (x ∷ xs) zero n ys e = let z : x ∷ xs ≡ n ∷ ys = e in let a : x ≡ n = cc in let b : xs ≡ ys = cc in (ap Some a, b)
drop_head (x ∷ xs) (suc p) n ys e = drop_head xs p n ys e

-- a piece of a text
pub middle : (whole a b c : List ℕ) → whole ≡ a ++ (b ++ c) → slice_range whole (length a) (length a + length b) ≡ b
middle whole a b c e =
    let left : drop (length a) whole ≡ b ++ c = ap (drop (length a)) e ∙ drop_at a (b ++ c) (length a) refl in
    let size : length a + length b - length a ≡ length b = omega arith in
    ap (λ n. take n (drop (length a) whole)) size ∙ ap (take (length b)) left ∙ take_at b c (length b) refl

-- a text in a text lies on boundaries of characters
pub middle_spans : (whole a b c : List ℕ) → IsUtf8 whole → IsUtf8 b → 0 < length b → whole ≡ a ++ (b ++ c) → Spans whole (length a) (length a + length b)
middle_spans whole a b c u v some e =
    let size : length whole ≡ length a + (length b + length c) = ap length e ∙ length-append a (b ++ c) ∙ ap (λ n. length a + n) (length-append b c) in
    let first : get_or whole (length a) 0 ≡ get_or b 0 0 =
    ap (λ l. get_or l (length a) 0) e ∙ get_or-append_right a (b ++ c) (length a) (length a) 0 refl (omega arith)
    ∙ ap (λ n. get_or (b ++ c) n 0) (let z : length a - length a ≡ 0 = omega arith in z) ∙ get_or_append_left b c 0 0 some in
    let begin : IsCharBoundary b 0 = IsCharBoundary-start b v in
    let start_there : IsCharBoundary whole (length a) = (omega (arith, size), λ l h. (let k = begin.1 some (omega (arith, first, h)) in omega (arith, first, k))) in
    let left : drop (length a) whole ≡ b ++ c = ap (drop (length a)) e ∙ drop_at a (b ++ c) (length a) refl in
    let text : IsUtf8 (drop (length a) whole) = IsUtf8-drop whole (length a) u start_there in
    let front : take (length b) (drop (length a) whole) ≡ b = ap (take (length b)) left ∙ take_at b c (length b) refl in
    let there : IsCharBoundary (drop (length a) whole) (length b) =
    IsCharBoundary-from_take (drop (length a) whole) (length b) text (omega (arith, ap length left, length-append b c)) (subst IsUtf8 (sym front) v) in
    record { from = start_there; to = IsCharBoundary-from_rest whole (length a) (length b) (omega (arith, size)) there; order = omega arith }

same_number : (o : Option ℕ) (n m : ℕ) → o ≡ Some n → o ≡ Some m → m ≡ n
same_number o n m a b = let both : Some n ≡ Some m = sym a ∙ b in let one : m ≡ n = cc in one

same_range : (o : Option Range) (r q : Range) → o ≡ Some r → o ≡ Some q → q ≡ r
same_range o r q a b = let both : Some r ≡ Some q = sym a ∙ b in let one : q ≡ r = cc in one

outside_before : (r : Range) (place : ℕ) (cs : List TextChange) → place ≤ r.start → All (EndsBefore place) cs → All (IsOutside r) cs
outside_before r place cs h a = λ n d l. inr (let b : (get_or cs n d).range.end < place = a n d l in omega (arith, h, b))

outside_one : (old new : List ℕ) (range written : Range) (c : TextChange) (r : Range) → (r.end ≤ range.start) ⊎ (range.end ≤ r.start) → Replaces old range new written c → IsOutside r c
outside_one old new range written c r h x = subst (λ (y : Range). (r.end ≤ y.start) ⊎ (y.end ≤ r.start)) (sym x.range_is) h

-- what the new text has where the walk is
pub record Here (ns : List Node) (new : List ℕ) (at n : ℕ) : Type 0 where
  pub front : List ℕ
  pub back : List ℕ
  pub split : new ≡ front ++ (text_at ns n ++ back)
  pub size : length front ≡ at

module _ (rs : List Range) (ns : List Node) (tree : IsTree ns) (old new : List ℕ) (uold : IsUtf8 old) (unew : IsUtf8 new) where
  -- at the first node
  pub walk_first : (done : Done) (cs : List TextChange) → done ≡ record { old = 0; new = 0 } → cs ≡ [] → Walked rs ns old new done 0 (Some 0) cs
  walk_first done cs d e = record {
    all = made_first old new done cs uold unew d e;
    reached = subst (λ (z : Done). z.new ≤ 0) (sym d) (omega arith);
    passed = 0;
    left = sym (ap (λ l. in_order ns 0 ++ l) (following_end ns tree 0 tree.first) ∙ append-nil (in_order ns 0));
    counted = λ w. begins ns tree 0 tree.first;
    kept = λ w. record {
      stay = λ i r l s. absurd (omega (arith, l));
      least = λ s h. subst (λ (z : Done). z.old ≤ s) (sym d) (omega arith);
    };
  }

  here_at : (at n : ℕ) (next after : Option ℕ) → new ≡ printed (ordered_tree ns 0) → HasCounted ns 0 at next → next ≡ Some n → rest_at ns 0 (Some n) ≡ n ∷ rest_at ns 0 after → Here ns new at n
  here_at at n next after w h e rest = record {
    front = h.done;
    back = flat_map (text_at ns) (rest_at ns 0 after);
    split = w ∙ sym (printed_at-ordered_tree ns tree 0 tree.first) ∙ h.split ∙ ap (λ l. h.done ++ flat_map (text_at ns) l) (ap (rest_at ns 0) e ∙ rest);
    size = h.size;
  }

  here_slice : (at n : ℕ) → Here ns new at n → slice_range new at (at + length (text_at ns n)) ≡ text_at ns n
  here_slice at n h = subst (λ k. slice_range new k (k + length (text_at ns n)) ≡ text_at ns n) h.size (middle new h.front (text_at ns n) h.back h.split)

  here_fits : (at n : ℕ) → Here ns new at n → at + length (text_at ns n) ≤ length new
  here_fits at n h = omega (arith, h.size, ap length h.split, length-append h.front (text_at ns n ++ h.back), length-append (text_at ns n) h.back)

  length_slice : (r : Range) → r.start ≤ r.end → r.end ≤ length old → length (slice_range old r.start r.end) ≡ r.end - r.start
  length_slice r h within = length-take-le (r.end - r.start) (drop r.start old) (omega (arith, length-drop r.start old, h, within))

  -- what is untouched lies on boundaries of characters in the old text
  old_spans : (n : ℕ) (r : Range) → IsUntouched rs ns old n r → Spans old r.start r.end
  old_spans n r u =
      let a : List ℕ = take r.start old in
      let b : List ℕ = slice_range old r.start r.end in
      let order : r.start ≤ r.end = omega (arith, u.some) in
      let front : length a ≡ r.start = length-take-le r.start old (omega (arith, order, u.within)) in
      let size : length b ≡ r.end - r.start = length_slice r order u.within in
      let split : old ≡ a ++ (b ++ drop r.end old) = sym (take-append-drop r.start old) ∙ ap (λ l. a ++ l) (drop_split old r.start r.end order) in
      let spans : Spans old (length a) (length a + length b) =
      middle_spans old a b (drop r.end old) uold (subst IsUtf8 (sym u.same) u.text) (omega (arith, size, u.some)) split in
      let whole : length a + length b ≡ r.end = omega (arith, front, size, order) in
      subst (λ k. Spans old k r.end) front (subst (Spans old (length a)) whole spans)

  -- an untouched leaf may be kept
  may_keep : (at n : ℕ) (done : Done) (own r : Range) → Here ns new at n → own.start ≡ at → own.end ≡ at + length (text_at ns n) → done.old ≤ r.start → IsUntouched rs ns old n r → IsKept old done.old new own r
  may_keep at n done own r h a b after u =
      let some : 0 < length (text_at ns n) = omega (arith, u.some, length_slice r (omega (arith, u.some)) u.within, ap length u.same) in
      let spans : Spans new at (at + length (text_at ns n)) =
      subst (λ k. Spans new k (k + length (text_at ns n))) h.size (middle_spans new h.front (text_at ns n) h.back unew u.text some h.split) in
      record {
        after = after;
        some = u.some;
        was = old_spans n r u;
        now = subst (λ k. Spans new k own.end) (sym a) (subst (Spans new at) (sym b) spans);
        same = u.same ∙ sym (here_slice at n h) ∙ ap (slice_range new at) (sym b) ∙ ap (λ k. slice_range new k own.end) (sym a);
      }

  kept_same : (at n : ℕ) (done : Done) (own r : Range) → Here ns new at n → own.start ≡ at → own.end ≡ at + length (text_at ns n) → IsKept old done.old new own r → slice_range old r.start r.end ≡ text_at ns n
  kept_same at n done own r h a b k = k.same ∙ ap (λ i. slice_range new i own.end) a ∙ ap (slice_range new at) b ∙ here_slice at n h

  -- and a leaf that is kept is untouched
  kept_untouched : (at n : ℕ) (done : Done) (own r : Range) → Here ns new at n → own.start ≡ at → own.end ≡ at + length (text_at ns n) → slice_get rs n ≡ Some r → IsKept old done.old new own r → IsUntouched rs ns old n r
  kept_untouched at n done own r h a b known k = record {
    noted = known;
    some = k.some;
    within = k.was.to.0;
    same = kept_same at n done own r h a b k;
    text = subst IsUtf8 (kept_same at n done own r h a b k) (IsUtf8-between old r.start r.end uold k.was.order k.was.from k.was.to);
  }

  less_or_last : (i p : ℕ) → i < suc p → (i < p) ⊎ (i ≡ p)
  less_or_last i p h = elim (cases_lt i p) [
    | inl l ↦ inl l
    | inr l ↦ inr (omega (arith, h, l))
  ]

  -- a leaf that is not kept is passed
  over_step : (at n p : ℕ) (done now : Done) (own : Range) (known : Option Range) (cs ds : List TextChange) → Here ns new at n → own.start ≡ at → own.end ≡ at + length (text_at ns n)
      → slice_get (in_order ns 0) p ≡ Some n → known ≡ slice_get rs n → Passed rs ns old done cs p → IsPassedOver known old new done own cs ds now → Passed rs ns old now ds (suc p)
  over_step at n p done now own known cs ds h a b here noted was x =
      subst (λ (z : Done). Passed rs ns old z ds (suc p)) (sym x.done) (subst (λ l. Passed rs ns old done l (suc p)) (sym x.changes) (record {
        stay = λ i r l s. elim (less_or_last i p l) [
          | inl less ↦ was.stay i r less s
          | inr last ↦
              let at_p : slice_get (in_order ns 0) p ≡ Some s.node = ap (slice_get (in_order ns 0)) (sym last) ∙ s.place in
              let same : s.node ≡ n = same_number (slice_get (in_order ns 0) p) n s.node here at_p in
              let u : IsUntouched rs ns old n r = subst (λ m. IsUntouched rs ns old m r) same s.untouched in
              let after : done.old ≤ r.start = was.least r.start (λ k m q less there v. s.after k m q (omega (arith, less, last)) there v) in
              absurd (x.none r (noted ∙ u.noted) (may_keep at n done own r h a b after u))
        ];
        least = λ s k. was.least s (λ i m q l there u. k i m q (omega (arith, l)) there u);
      }))

  -- a leaf is kept
  kept_step : (at n p : ℕ) (done now : Done) (own : Range) (known : Option Range) (cs ds : List TextChange) → Here ns new at n → own.start ≡ at → own.end ≡ at + length (text_at ns n)
      → slice_get (in_order ns 0) p ≡ Some n → known ≡ slice_get rs n → All (EndsBefore done.old) cs → Passed rs ns old done cs p → IsPassed known old new done own cs ds now → Passed rs ns old now ds (suc p)
  kept_step at n p done now own known cs ds h a b here noted before was x =
      let range : Range = record { start = done.old; end = x.range.start } in
      let written : Range = record { start = done.new; end = own.start } in
      subst (λ (z : Done). Passed rs ns old z ds (suc p)) (sym x.done) (record {
        stay = λ i r l s. elim (less_or_last i p l) [
          | inl less ↦
              let t = was.stay i r less s in (
                omega (arith, t.0, x.kept.after, x.kept.some),
                put_all (IsOutside r) old new range written cs ds x.puts (λ c y. outside_one old new range written c r (inl t.0) y) t.1,
              )
          | inr last ↦
              let at_p : slice_get (in_order ns 0) p ≡ Some s.node = ap (slice_get (in_order ns 0)) (sym last) ∙ s.place in
              let same : s.node ≡ n = same_number (slice_get (in_order ns 0) p) n s.node here at_p in
              let u : IsUntouched rs ns old n r = subst (λ m. IsUntouched rs ns old m r) same s.untouched in
              let one : r ≡ x.range = same_range known x.range r x.is_known (noted ∙ u.noted) in
              let starts : r.start ≡ x.range.start = ap (λ (y : Range). y.start) one in
              let ends : r.end ≡ x.range.end = ap (λ (y : Range). y.end) one in (
                omega (arith, ends),
                put_all (IsOutside r) old new range written cs ds x.puts (λ c y. outside_one old new range written c r (inr (omega (arith, starts))) y)
                    (outside_before r done.old cs (omega (arith, starts, x.kept.after)) before),
              )
        ];
        least = λ s k. k p n x.range (omega arith) here (kept_untouched at n done own x.range h a b (sym noted ∙ x.is_known) x.kept);
      })

  exact : (at n : ℕ) (own : Range) → length new < 2 ^ 64 → Here ns new at n → own.end ≡ min (at + length (text_at ns n)) (2 ^ 64 - 1) → own.end ≡ at + length (text_at ns n)
  exact at n own few h e = e ∙ min-eq_left {n = at + length (text_at ns n)} {m = 2 ^ 64 - 1} (omega (arith, few, here_fits at n h))

  -- one node further
  pub walk_on : (at n : ℕ) (next after : Option ℕ) (content : Content) (size : ℕ) (done now : Done) (own : Range) (known : Option Range) (cs ds : List TextChange) → length new < 2 ^ 64 → at < 2 ^ 64
      → Walked rs ns old new done at next cs → next ≡ Some n → rest_at ns 0 (Some n) ≡ n ∷ rest_at ns 0 after → content ≡ content_at ns n → size ≡ length (text_of content)
      → own.start ≡ at → own.end ≡ min (at + size) (2 ^ 64 - 1) → known ≡ slice_get rs n → Passes known old new done own cs ds now → Walked rs ns old new now own.end after ds
  walk_on at n next after content size done now own known cs ds few small w e rest is_content is_size a b noted x =
      let whole : size ≡ length (text_at ns n) = is_size ∙ ap (λ (c : Content). length (text_of c)) is_content in
      let b_own : own.end ≡ min (at + length (text_at ns n)) (2 ^ 64 - 1) = b ∙ ap (λ k. min (at + k) (2 ^ 64 - 1)) whole in
      let next_ones = drop_head (in_order ns 0) w.passed n (rest_at ns 0 after) (w.left ∙ ap (rest_at ns 0) e ∙ rest) in
      let ahead : at ≤ own.end = subst (λ k. at ≤ k) (sym b) (le-min {k = at} {a = at + size} {b = 2 ^ 64 - 1} (omega arith) (omega (arith, small))) in
      let counted : new ≡ printed (ordered_tree ns 0) → HasCounted ns 0 own.end after =
      λ p. (let h = here_at at n next after p (w.counted p) e rest in
      subst (λ k. HasCounted ns 0 k after) (ap (λ k. at + k) whole ∙ sym (exact at n own few h b_own)) (goes_on ns tree 0 at n next after content size (w.counted p) e rest is_content is_size)) in
      elim x [
        | inl over ↦ record {
          all = subst (λ (z : Done). Made old new z ds) (sym over.done) (subst (Made old new done) (sym over.changes) w.all);
          reached = subst (λ (z : Done). z.new ≤ own.end) (sym over.done) (omega (arith, w.reached, ahead));
          passed = suc w.passed;
          left = next_ones.1;
          counted = counted;
          kept = λ p. (let h = here_at at n next after p (w.counted p) e rest in
              over_step at n w.passed done now own known cs ds h a (exact at n own few h b_own) next_ones.0 noted (w.kept p) over);
        }
        | inr kept ↦ record {
          all = subst (λ (z : Done). Made old new z ds) (sym kept.done) (made_kept old new done own kept.range cs ds w.all (omega (arith, w.reached, a)) kept.kept kept.puts);
          reached = subst (λ (z : Done). z.new ≤ own.end) (sym kept.done) (omega arith);
          passed = suc w.passed;
          left = next_ones.1;
          counted = counted;
          kept = λ p. (let h = here_at at n next after p (w.counted p) e rest in
              kept_step at n w.passed done now own known cs ds h a (exact at n own few h b_own) next_ones.0 noted w.all.before (w.kept p) kept);
        }
      ]

  -- past the last node
  pub walk_ends : (at : ℕ) (next : Option ℕ) (done : Done) (range written : Range) (cs ds : List TextChange) → Walked rs ns old new done at next cs → next ≡ None
      → range.start ≡ done.old → range.end ≡ length old → written.start ≡ done.new → written.end ≡ length new → Puts old range new written cs ds → AreEdits rs ns old ds new
  walk_ends at next done range written cs ds w e a b c d puts =
      let s : Spans old range.start range.end =
      subst (λ k. Spans old k range.end) (sym a) (subst (Spans old done.old) (sym b) (record { from = w.all.old_place; to = IsCharBoundary-end old; order = w.all.old_place.0 })) in
      let t : Spans new written.start written.end =
      subst (λ k. Spans new k written.end) (sym c) (subst (Spans new done.new) (sym d) (record { from = w.all.new_place; to = IsCharBoundary-end new; order = w.all.new_place.0 })) in
      let made : Changes (take range.start old) cs (take written.start new) =
      subst (λ k. Changes (take k old) cs (take written.start new)) (sym a) (subst (λ k. Changes (take done.old old) cs (take k new)) (sym c) w.all.made) in
      let all : Changes (take range.end old) ds (take written.end new) = put_on old new range written cs ds s t puts made in
      let gone : drop w.passed (in_order ns 0) ≡ [] = w.left ∙ ap (rest_at ns 0) e in
      let many : length (in_order ns 0) ≤ w.passed = omega (arith, length-drop w.passed (in_order ns 0), ap length gone) in
      record {
        changes = subst (λ l. Changes old ds l) (ap (λ k. take k new) d ∙ take-length new) (subst (λ l. Changes l ds (take written.end new)) (ap (λ k. take k old) b ∙ take-length old) all);
        spans = put_all (SpansIn old) old new range written cs ds puts (λ x y. span_one old new range written x s y) w.all.spans;
        apart = apart_put old new range written cs ds puts (subst (λ k. All (EndsBefore k) cs) (sym a) w.all.before) w.all.apart;
        differ = put_all (Differs old) old new range written cs ds puts (λ x y. differ_one old new range written x y) w.all.differ;
        stay = λ p i r k.
            (let there : i < length (in_order ns 0) = slice_get_within (in_order ns 0) i k.node k.place in
            let u = (w.kept p).stay i r (omega (arith, there, many)) k in
            put_all (IsOutside r) old new range written cs ds puts (λ x y. outside_one old new range written x r (inl (omega (arith, u.0, a))) y) u.1);
      }
