-- A node comes into a row, or goes out of one: three writes, and the links are again those of the tree.
use Rattle.std.proofs.Common.{◌≡◌, ◌≢◌, ℕ, zero, suc, ◌+◌, ◌<◌, ◌≤◌, List, [], ◌∷◌, length, Option, None, Some, IfSome, inl, inr, slice_get, refl, sym, ap, ◌∙◌, arith}
use Rattle.std.specs.List.{splice}
use Rattle.std.proofs.lemmas.Bool.{cases_lt, cases_eq}
use Rattle.jsonc_tree.specs.Tree as tree
use Rattle.jsonc_tree.specs.Tree.{children_at, parent_at, content_at, IsTree, place_at}
use Rattle.jsonc_tree.specs.Stored.{LinkedNode, link_at, ahead_at, back_at, IsLinked}
use Rattle.jsonc_tree.specs.Siblings.{before}
use Rattle.jsonc_tree.proofs.Gaps.{came_low, came_here, came_high, length_came, went_low, went_high, length_went, before_same, at_named, at_there, at_once, before_named, before_once}
use Rattle.jsonc_tree.proofs.Written.{Apart, relinked, length-relinked, content_kept, parent_here, parent_kept, next_here, previous_here, ahead_hit, back_hit, ahead_miss, back_miss}
use Rattle.jsonc_tree.proofs.AgreeingLinks.{Agrees}

if_some : {P : ℕ → Type 0} (o : Option ℕ) → ((n : ℕ) → o ≡ Some n → P n) → IfSome o P
if_some None h = tt
if_some (Some n) h = h n refl

-- what stands at a place of a row, or before a gap, is there
pub place_there : (ns : List tree.Node) → IsTree ns → (size c k : ℕ) → size ≡ length ns → IfSome (slice_get (children_at ns c) k) (λ n. n < size)
place_there ns t size c k e = if_some (slice_get (children_at ns c) k) (λ n h. omega (arith, at_there ns t c k n h))

pub before_there : (ns : List tree.Node) → IsTree ns → (size c k : ℕ) → size ≡ length ns → IfSome (before (children_at ns c) k) (λ n. n < size)
before_there ns t size c zero e = tt
before_there ns t size c (suc k) e = place_there ns t size c k e

-- the gaps of two rows are apart
abbrev pub NotBoth : Option ℕ → Option ℕ → Type 0
NotBoth o p = (n : ℕ) → o ≡ Some n → p ≡ Some n → ⊥

apart_from : (d c : ℕ) (o b : Option ℕ) → d ≢ c → NotBoth o b → Apart d o c b
apart_from d c None b ne not = inr (refl, ne)
apart_from d c (Some n) b ne not = inl (λ e. not n refl (sym e))

module _ (ns : List tree.Node) (t : IsTree ns) where
  before_apart : (d c k g : ℕ) → d ≢ c → Apart d (before (children_at ns d) k) c (before (children_at ns c) g)
  before_apart d c k g ne =
      apart_from d c (before (children_at ns d) k) (before (children_at ns c) g) ne (λ n e f.
      let both : Some d ≡ Some c = sym (before_named ns t d k n e) ∙ before_named ns t c g n f in ne (cc))

  place_apart : (d c k g : ℕ) → d ≢ c → Apart d (slice_get (children_at ns d) k) c (slice_get (children_at ns c) g)
  place_apart d c k g ne =
      apart_from d c (slice_get (children_at ns d) k) (slice_get (children_at ns c) g) ne (λ n e f.
      let both : Some d ≡ Some c = sym (at_named ns t d k n e) ∙ at_named ns t c g n f in ne (cc))

module _ (ls : List LinkedNode) (ns new : List tree.Node) (t : IsTree ns) (same : Agrees ls ns) (c g x : ℕ) (at : c < length ns) (there : x < length ns) (len : length new ≡ length ns) (contents : (n : ℕ) → content_at new n ≡ content_at ns n) (others : (n : ℕ) → n ≢ c → children_at new n ≡ children_at ns n) (parents : (n : ℕ) → n ≢ x → parent_at new n ≡ parent_at ns n) where
  module _ (inside : g ≤ length (children_at ns c)) (alone : parent_at ns x ≡ None) (row : children_at new c ≡ splice (children_at ns c) g g (x ∷ [])) (parent : parent_at new x ≡ Some c) where
    abbrev came : List LinkedNode
    came = relinked ls c (before (children_at ns c) g) (slice_get (children_at ns c) g) (Some x) (Some x) x (Some c) (before (children_at ns c) g) (slice_get (children_at ns c) g)

    -- x stood in no row
    not_before : (d k : ℕ) → before (children_at ns d) k ≢ Some x
    not_before d k e = let wrong : Some d ≡ None = sym (before_named ns t d k x e) ∙ alone in cc

    not_at : (d k : ℕ) → slice_get (children_at ns d) k ≢ Some x
    not_at d k e = let wrong : Some d ≡ None = sym (at_named ns t d k x e) ∙ alone in cc

    b_there : IfSome (before (children_at ns c) g) (λ n. n < length ls)
    b_there = before_there ns t (length ls) c g same.len

    a_there : IfSome (slice_get (children_at ns c) g) (λ n. n < length ls)
    a_there = place_there ns t (length ls) c g same.len

    abbrev Missed : ℕ → Option ℕ → Type 0
    Missed d o = ahead_at came d o ≡ ahead_at ls d o

    came_ahead_miss : (d : ℕ) (o : Option ℕ) → o ≢ Some x → Apart d o c (before (children_at ns c) g) → ahead_at came d o ≡ ahead_at ls d o
    came_ahead_miss = ahead_miss ls c (before (children_at ns c) g) (slice_get (children_at ns c) g) (Some x) (Some x) x (Some c) (before (children_at ns c) g) (slice_get (children_at ns c) g) (omega (arith, same.len)) (omega (arith, same.len)) b_there a_there

    came_back_miss : (d : ℕ) (o : Option ℕ) → o ≢ Some x → Apart d o c (slice_get (children_at ns c) g) → back_at came d o ≡ back_at ls d o
    came_back_miss = back_miss ls c (before (children_at ns c) g) (slice_get (children_at ns c) g) (Some x) (Some x) x (Some c) (before (children_at ns c) g) (slice_get (children_at ns c) g) (omega (arith, same.len)) (omega (arith, same.len)) b_there a_there

    came_ahead_hit : ahead_at came c (before (children_at ns c) g) ≡ Some x
    came_ahead_hit = ahead_hit ls c (before (children_at ns c) g) (slice_get (children_at ns c) g) (Some x) (Some x) x (Some c) (before (children_at ns c) g) (slice_get (children_at ns c) g) (omega (arith, same.len)) (omega (arith, same.len)) b_there a_there (not_before c g)

    came_back_hit : back_at came c (slice_get (children_at ns c) g) ≡ Some x
    came_back_hit = back_hit ls c (before (children_at ns c) g) (slice_get (children_at ns c) g) (Some x) (Some x) x (Some c) (before (children_at ns c) g) (slice_get (children_at ns c) g) (omega (arith, same.len)) (omega (arith, same.len)) b_there a_there (not_at c g)

    came_next : (link_at came x).next ≡ slice_get (children_at ns c) g
    came_next = next_here ls c (before (children_at ns c) g) (slice_get (children_at ns c) g) (Some x) (Some x) x (Some c) (before (children_at ns c) g) (slice_get (children_at ns c) g) (omega (arith, same.len)) (omega (arith, same.len)) b_there a_there

    came_previous : (link_at came x).previous ≡ before (children_at ns c) g
    came_previous = previous_here ls c (before (children_at ns c) g) (slice_get (children_at ns c) g) (Some x) (Some x) x (Some c) (before (children_at ns c) g) (slice_get (children_at ns c) g) (omega (arith, same.len)) (omega (arith, same.len)) b_there a_there

    -- the new row, before a gap and at a place
    before_low : (k : ℕ) → k ≤ g → before (splice (children_at ns c) g g (x ∷ [])) k ≡ before (children_at ns c) k
    before_low k h = before_same (splice (children_at ns c) g g (x ∷ [])) (children_at ns c) k (λ m l. came_low x (children_at ns c) g m inside (omega arith))

    came_ahead_far : (m : ℕ) → m ≤ length (children_at ns c) → g ≤ m → m ≢ g → ahead_at came c (slice_get (splice (children_at ns c) g g (x ∷ [])) m) ≡ slice_get (splice (children_at ns c) g g (x ∷ [])) (suc m)
    came_ahead_far zero h l ne = absurd (ne (omega arith))
    came_ahead_far (suc j) h l ne =
        ap (ahead_at came c) (came_high x (children_at ns c) g j inside (omega (arith, ne)))
        ∙ came_ahead_miss c (slice_get (children_at ns c) j) (not_at c j) (inl (λ e. ne (before_once ns t c (suc j) g h inside e)))
        ∙ same.linked.ahead c (suc j) h
        ∙ sym (came_high x (children_at ns c) g (suc j) inside l)

    came_ahead_over : (k : ℕ) → k ≤ length (children_at ns c) + 1 → g < k → ahead_at came c (before (splice (children_at ns c) g g (x ∷ [])) k) ≡ slice_get (splice (children_at ns c) g g (x ∷ [])) k
    came_ahead_over zero h l = absurd (omega arith)
    came_ahead_over (suc m) h l =
        elim (cases_eq m g) [
          | inl is ↦
              ap (λ i. ahead_at came c (slice_get (splice (children_at ns c) g g (x ∷ [])) i)) is
              ∙ ap (ahead_at came c) (came_here x (children_at ns c) g inside)
              ∙ came_next
              ∙ ap (slice_get (children_at ns c)) (sym is)
              ∙ sym (came_high x (children_at ns c) g m inside (omega arith))
          | inr ne ↦ came_ahead_far m (omega arith) (omega arith) ne
        ]

    came_ahead_c : (k : ℕ) → k ≤ length (children_at ns c) + 1 → ahead_at came c (before (splice (children_at ns c) g g (x ∷ [])) k) ≡ slice_get (splice (children_at ns c) g g (x ∷ [])) k
    came_ahead_c k h =
        elim (cases_lt k g) [
          | inl low ↦
              ap (ahead_at came c) (before_low k (omega arith))
              ∙ came_ahead_miss c (before (children_at ns c) k) (not_before c k) (inl (λ e. omega (arith, before_once ns t c k g (omega arith) inside e)))
              ∙ same.linked.ahead c k (omega arith)
              ∙ sym (came_low x (children_at ns c) g k inside low)
          | inr past ↦ elim (cases_eq k g) [
            | inl is ↦
                ap (λ m. ahead_at came c (before (splice (children_at ns c) g g (x ∷ [])) m)) is
                ∙ ap (ahead_at came c) (before_low g (omega arith))
                ∙ came_ahead_hit
                ∙ sym (came_here x (children_at ns c) g inside)
                ∙ ap (slice_get (splice (children_at ns c) g g (x ∷ []))) (sym is)
            | inr over ↦ came_ahead_over k h (omega (arith, over))
          ]
        ]

    came_back_far : (m : ℕ) → m ≤ length (children_at ns c) → g ≤ m → m ≢ g → back_at came c (slice_get (splice (children_at ns c) g g (x ∷ [])) (suc m)) ≡ slice_get (splice (children_at ns c) g g (x ∷ [])) m
    came_back_far zero h l ne = absurd (ne (omega arith))
    came_back_far (suc j) h l ne =
        ap (back_at came c) (came_high x (children_at ns c) g (suc j) inside l)
        ∙ came_back_miss c (slice_get (children_at ns c) (suc j)) (not_at c (suc j)) (inl (λ e. ne (at_once ns t c (suc j) g h inside e)))
        ∙ same.linked.back c (suc j) h
        ∙ sym (came_high x (children_at ns c) g j inside (omega (arith, ne)))

    came_back_over : (k : ℕ) → k ≤ length (children_at ns c) + 1 → g < k → back_at came c (slice_get (splice (children_at ns c) g g (x ∷ [])) k) ≡ before (splice (children_at ns c) g g (x ∷ [])) k
    came_back_over zero h l = absurd (omega arith)
    came_back_over (suc m) h l =
        elim (cases_eq m g) [
          | inl is ↦
              ap (back_at came c) (came_high x (children_at ns c) g m inside (omega arith) ∙ ap (slice_get (children_at ns c)) is)
              ∙ came_back_hit
              ∙ sym (came_here x (children_at ns c) g inside)
              ∙ ap (slice_get (splice (children_at ns c) g g (x ∷ []))) (sym is)
          | inr ne ↦ came_back_far m (omega arith) (omega arith) ne
        ]

    came_back_c : (k : ℕ) → k ≤ length (children_at ns c) + 1 → back_at came c (slice_get (splice (children_at ns c) g g (x ∷ [])) k) ≡ before (splice (children_at ns c) g g (x ∷ [])) k
    came_back_c k h =
        elim (cases_lt k g) [
          | inl low ↦
              ap (back_at came c) (came_low x (children_at ns c) g k inside low)
              ∙ came_back_miss c (slice_get (children_at ns c) k) (not_at c k) (inl (λ e. omega (arith, at_once ns t c k g (omega arith) inside e)))
              ∙ same.linked.back c k (omega arith)
              ∙ sym (before_low k (omega arith))
          | inr past ↦ elim (cases_eq k g) [
            | inl is ↦
                ap (λ m. back_at came c (slice_get (splice (children_at ns c) g g (x ∷ [])) m)) is
                ∙ ap (back_at came c) (came_here x (children_at ns c) g inside)
                ∙ came_previous
                ∙ sym (before_low g (omega arith))
                ∙ ap (before (splice (children_at ns c) g g (x ∷ []))) (sym is)
            | inr over ↦ came_back_over k h (omega (arith, over))
          ]
        ]

    came_alone : (n : ℕ) → parent_at new n ≡ None → ((link_at came n).next ≡ None) × ((link_at came n).previous ≡ None)
    came_alone n said =
        let ne : n ≢ x = λ e. let wrong : Some c ≡ None = sym parent ∙ ap (parent_at new) (sym e) ∙ said in cc in
        let was : parent_at ns n ≡ None = sym (parents n ne) ∙ said in
        let x_ne : Some n ≢ Some x = λ e. ne (cc) in (
          came_ahead_miss c (Some n) x_ne (inl (λ e. let wrong : Some c ≡ None = sym (before_named ns t c g n (sym e)) ∙ was in cc)) ∙ (same.linked.alone n was).0,
          came_back_miss c (Some n) x_ne (inl (λ e. let wrong : Some c ≡ None = sym (at_named ns t c g n (sym e)) ∙ was in cc)) ∙ (same.linked.alone n was).1,
        )

    came_linked : IsLinked came new
    came_linked = record {
      ahead = λ d k h. elim (cases_eq d c) [
        | inl is ↦
            let r : children_at new d ≡ splice (children_at ns c) g g (x ∷ []) = ap (children_at new) is ∙ row in
            rw (r, is) (came_ahead_c k (omega (arith, h, ap length r, length_came x (children_at ns c) g inside)))
        | inr ne ↦
            rw (others d ne) (came_ahead_miss d (before (children_at ns d) k) (not_before d k) (before_apart ns t d c k g ne) ∙ same.linked.ahead d k (omega (arith, h, ap length (others d ne))))
      ];
      back = λ d k h. elim (cases_eq d c) [
        | inl is ↦
            let r : children_at new d ≡ splice (children_at ns c) g g (x ∷ []) = ap (children_at new) is ∙ row in
            rw (r, is) (came_back_c k (omega (arith, h, ap length r, length_came x (children_at ns c) g inside)))
        | inr ne ↦
            rw (others d ne) (came_back_miss d (slice_get (children_at ns d) k) (not_at d k) (place_apart ns t d c k g ne) ∙ same.linked.back d k (omega (arith, h, ap length (others d ne))))
      ];
      alone = came_alone;
    }

    came_parent : (n : ℕ) → (link_at came n).parent ≡ parent_at new n
    came_parent n =
        elim (cases_eq n x) [
          | inl is ↦
              ap (λ m. (link_at came m).parent) is
              ∙ parent_here ls c (before (children_at ns c) g) (slice_get (children_at ns c) g) (Some x) (Some x) x (Some c) (before (children_at ns c) g) (slice_get (children_at ns c) g) (omega (arith, same.len)) (omega (arith, same.len)) b_there a_there
              ∙ sym parent ∙ ap (parent_at new) (sym is)
          | inr ne ↦
              parent_kept ls c (before (children_at ns c) g) (slice_get (children_at ns c) g) (Some x) (Some x) x (Some c) (before (children_at ns c) g) (slice_get (children_at ns c) g) (omega (arith, same.len)) (omega (arith, same.len)) b_there a_there n ne
              ∙ same.parent n ∙ sym (parents n ne)
        ]

    -- where a node came into a row, the links say so
    pub came_agrees : Agrees came new
    came_agrees = record {
      len = length-relinked ls c (before (children_at ns c) g) (slice_get (children_at ns c) g) (Some x) (Some x) x (Some c) (before (children_at ns c) g) (slice_get (children_at ns c) g) (omega (arith, same.len)) (omega (arith, same.len)) b_there a_there ∙ same.len ∙ sym len;
      content = λ n h. content_kept ls c (before (children_at ns c) g) (slice_get (children_at ns c) g) (Some x) (Some x) x (Some c) (before (children_at ns c) g) (slice_get (children_at ns c) g) n ∙ same.content n (omega (arith, len)) ∙ sym (contents n);
      parent = came_parent;
      linked = came_linked;
    }

  -- x stood at g
  module _ (inside : g < length (children_at ns c)) (stood : slice_get (children_at ns c) g ≡ Some x) (row : children_at new c ≡ splice (children_at ns c) g (suc g) []) (parent : parent_at new x ≡ None) where
    abbrev went : List LinkedNode
    went = relinked ls c (before (children_at ns c) g) (slice_get (children_at ns c) (suc g)) (slice_get (children_at ns c) (suc g)) (before (children_at ns c) g) x None None None

    wb_there : IfSome (before (children_at ns c) g) (λ n. n < length ls)
    wb_there = before_there ns t (length ls) c g same.len

    wa_there : IfSome (slice_get (children_at ns c) (suc g)) (λ n. n < length ls)
    wa_there = place_there ns t (length ls) c (suc g) same.len

    -- x stands nowhere else
    else_before : (k : ℕ) → k ≤ length (children_at ns c) → k ≢ suc g → before (children_at ns c) k ≢ Some x
    else_before k h ne e = ne (before_once ns t c k (suc g) h (omega arith) (e ∙ sym stood))

    else_at : (k : ℕ) → k ≤ length (children_at ns c) → k ≢ g → slice_get (children_at ns c) k ≢ Some x
    else_at k h ne e = ne (at_once ns t c k g h (omega arith) (e ∙ sym stood))

    other_before : (d k : ℕ) → d ≢ c → before (children_at ns d) k ≢ Some x
    other_before d k ne e = let both : Some d ≡ Some c = sym (before_named ns t d k x e) ∙ at_named ns t c g x stood in ne (cc)

    other_at : (d k : ℕ) → d ≢ c → slice_get (children_at ns d) k ≢ Some x
    other_at d k ne e = let both : Some d ≡ Some c = sym (at_named ns t d k x e) ∙ at_named ns t c g x stood in ne (cc)

    went_ahead_miss : (d : ℕ) (o : Option ℕ) → o ≢ Some x → Apart d o c (before (children_at ns c) g) → ahead_at went d o ≡ ahead_at ls d o
    went_ahead_miss = ahead_miss ls c (before (children_at ns c) g) (slice_get (children_at ns c) (suc g)) (slice_get (children_at ns c) (suc g)) (before (children_at ns c) g) x None None None (omega (arith, same.len)) (omega (arith, same.len)) wb_there wa_there

    went_back_miss : (d : ℕ) (o : Option ℕ) → o ≢ Some x → Apart d o c (slice_get (children_at ns c) (suc g)) → back_at went d o ≡ back_at ls d o
    went_back_miss = back_miss ls c (before (children_at ns c) g) (slice_get (children_at ns c) (suc g)) (slice_get (children_at ns c) (suc g)) (before (children_at ns c) g) x None None None (omega (arith, same.len)) (omega (arith, same.len)) wb_there wa_there

    went_ahead_hit : ahead_at went c (before (children_at ns c) g) ≡ slice_get (children_at ns c) (suc g)
    went_ahead_hit = ahead_hit ls c (before (children_at ns c) g) (slice_get (children_at ns c) (suc g)) (slice_get (children_at ns c) (suc g)) (before (children_at ns c) g) x None None None (omega (arith, same.len)) (omega (arith, same.len)) wb_there wa_there (else_before g (omega arith) (λ e. omega arith))

    went_back_hit : back_at went c (slice_get (children_at ns c) (suc g)) ≡ before (children_at ns c) g
    went_back_hit = back_hit ls c (before (children_at ns c) g) (slice_get (children_at ns c) (suc g)) (slice_get (children_at ns c) (suc g)) (before (children_at ns c) g) x None None None (omega (arith, same.len)) (omega (arith, same.len)) wb_there wa_there (else_at (suc g) (omega arith) (λ e. omega arith))

    went_before_low : (k : ℕ) → k ≤ g → before (splice (children_at ns c) g (suc g) []) k ≡ before (children_at ns c) k
    went_before_low k h = before_same (splice (children_at ns c) g (suc g) []) (children_at ns c) k (λ m l. went_low (children_at ns c) g m inside (omega arith))

    went_ahead_over : (k : ℕ) → k + 1 ≤ length (children_at ns c) → g < k → ahead_at went c (before (splice (children_at ns c) g (suc g) []) k) ≡ slice_get (splice (children_at ns c) g (suc g) []) k
    went_ahead_over zero h l = absurd (omega arith)
    went_ahead_over (suc m) h l =
        ap (ahead_at went c) (went_high (children_at ns c) g m inside (omega arith))
        ∙ went_ahead_miss c (slice_get (children_at ns c) (suc m)) (else_before (suc (suc m)) (omega arith) (λ e. omega arith)) (inl (λ e. omega (arith, before_once ns t c (suc (suc m)) g (omega arith) (omega arith) e)))
        ∙ same.linked.ahead c (suc (suc m)) (omega arith)
        ∙ sym (went_high (children_at ns c) g (suc m) inside (omega arith))

    went_ahead_c : (k : ℕ) → k + 1 ≤ length (children_at ns c) → ahead_at went c (before (splice (children_at ns c) g (suc g) []) k) ≡ slice_get (splice (children_at ns c) g (suc g) []) k
    went_ahead_c k h =
        elim (cases_lt k g) [
          | inl low ↦
              ap (ahead_at went c) (went_before_low k (omega arith))
              ∙ went_ahead_miss c (before (children_at ns c) k) (else_before k (omega arith) (λ e. omega arith)) (inl (λ e. omega (arith, before_once ns t c k g (omega arith) (omega arith) e)))
              ∙ same.linked.ahead c k (omega arith)
              ∙ sym (went_low (children_at ns c) g k inside low)
          | inr past ↦ elim (cases_eq k g) [
            | inl is ↦
                ap (λ m. ahead_at went c (before (splice (children_at ns c) g (suc g) []) m)) is
                ∙ ap (ahead_at went c) (went_before_low g (omega arith))
                ∙ went_ahead_hit
                ∙ sym (went_high (children_at ns c) g g inside (omega arith))
                ∙ ap (slice_get (splice (children_at ns c) g (suc g) [])) (sym is)
            | inr over ↦ went_ahead_over k h (omega (arith, over))
          ]
        ]

    went_back_over : (k : ℕ) → k + 1 ≤ length (children_at ns c) → g < k → back_at went c (slice_get (splice (children_at ns c) g (suc g) []) k) ≡ before (splice (children_at ns c) g (suc g) []) k
    went_back_over zero h l = absurd (omega arith)
    went_back_over (suc m) h l =
        ap (back_at went c) (went_high (children_at ns c) g (suc m) inside (omega arith))
        ∙ went_back_miss c (slice_get (children_at ns c) (suc (suc m))) (else_at (suc (suc m)) (omega arith) (λ e. omega arith)) (inl (λ e. omega (arith, at_once ns t c (suc (suc m)) (suc g) (omega arith) (omega arith) e)))
        ∙ same.linked.back c (suc (suc m)) (omega arith)
        ∙ sym (went_high (children_at ns c) g m inside (omega arith))

    went_back_c : (k : ℕ) → k + 1 ≤ length (children_at ns c) → back_at went c (slice_get (splice (children_at ns c) g (suc g) []) k) ≡ before (splice (children_at ns c) g (suc g) []) k
    went_back_c k h =
        elim (cases_lt k g) [
          | inl low ↦
              ap (back_at went c) (went_low (children_at ns c) g k inside low)
              ∙ went_back_miss c (slice_get (children_at ns c) k) (else_at k (omega arith) (λ e. omega arith)) (inl (λ e. omega (arith, at_once ns t c k (suc g) (omega arith) (omega arith) e)))
              ∙ same.linked.back c k (omega arith)
              ∙ sym (went_before_low k (omega arith))
          | inr past ↦ elim (cases_eq k g) [
            | inl is ↦
                ap (λ m. back_at went c (slice_get (splice (children_at ns c) g (suc g) []) m)) is
                ∙ ap (back_at went c) (went_high (children_at ns c) g g inside (omega arith))
                ∙ went_back_hit
                ∙ sym (went_before_low g (omega arith))
                ∙ ap (before (splice (children_at ns c) g (suc g) [])) (sym is)
            | inr over ↦ went_back_over k h (omega (arith, over))
          ]
        ]

    went_alone : (n : ℕ) → parent_at new n ≡ None → ((link_at went n).next ≡ None) × ((link_at went n).previous ≡ None)
    went_alone n said =
        elim (cases_eq n x) [
          | inl is ↦ (
            ap (λ m. (link_at went m).next) is ∙ next_here ls c (before (children_at ns c) g) (slice_get (children_at ns c) (suc g)) (slice_get (children_at ns c) (suc g)) (before (children_at ns c) g) x None None None (omega (arith, same.len)) (omega (arith, same.len)) wb_there wa_there,
            ap (λ m. (link_at went m).previous) is ∙ previous_here ls c (before (children_at ns c) g) (slice_get (children_at ns c) (suc g)) (slice_get (children_at ns c) (suc g)) (before (children_at ns c) g) x None None None (omega (arith, same.len)) (omega (arith, same.len)) wb_there wa_there,
          )
          | inr ne ↦
              let was : parent_at ns n ≡ None = sym (parents n ne) ∙ said in
              let x_ne : Some n ≢ Some x = λ e. ne (cc) in (
                went_ahead_miss c (Some n) x_ne (inl (λ e. let wrong : Some c ≡ None = sym (before_named ns t c g n (sym e)) ∙ was in cc)) ∙ (same.linked.alone n was).0,
                went_back_miss c (Some n) x_ne (inl (λ e. let wrong : Some c ≡ None = sym (at_named ns t c (suc g) n (sym e)) ∙ was in cc)) ∙ (same.linked.alone n was).1,
              )
        ]

    went_linked : IsLinked went new
    went_linked = record {
      ahead = λ d k h. elim (cases_eq d c) [
        | inl is ↦
            let r : children_at new d ≡ splice (children_at ns c) g (suc g) [] = ap (children_at new) is ∙ row in
            rw (r, is) (went_ahead_c k (omega (arith, h, ap length r, length_went (children_at ns c) g inside)))
        | inr ne ↦
            rw (others d ne) (went_ahead_miss d (before (children_at ns d) k) (other_before d k ne) (before_apart ns t d c k g ne) ∙ same.linked.ahead d k (omega (arith, h, ap length (others d ne))))
      ];
      back = λ d k h. elim (cases_eq d c) [
        | inl is ↦
            let r : children_at new d ≡ splice (children_at ns c) g (suc g) [] = ap (children_at new) is ∙ row in
            rw (r, is) (went_back_c k (omega (arith, h, ap length r, length_went (children_at ns c) g inside)))
        | inr ne ↦
            rw (others d ne) (went_back_miss d (slice_get (children_at ns d) k) (other_at d k ne) (place_apart ns t d c k (suc g) ne) ∙ same.linked.back d k (omega (arith, h, ap length (others d ne))))
      ];
      alone = went_alone;
    }

    went_parent : (n : ℕ) → (link_at went n).parent ≡ parent_at new n
    went_parent n =
        elim (cases_eq n x) [
          | inl is ↦
              ap (λ m. (link_at went m).parent) is
              ∙ parent_here ls c (before (children_at ns c) g) (slice_get (children_at ns c) (suc g)) (slice_get (children_at ns c) (suc g)) (before (children_at ns c) g) x None None None (omega (arith, same.len)) (omega (arith, same.len)) wb_there wa_there
              ∙ sym parent ∙ ap (parent_at new) (sym is)
          | inr ne ↦
              parent_kept ls c (before (children_at ns c) g) (slice_get (children_at ns c) (suc g)) (slice_get (children_at ns c) (suc g)) (before (children_at ns c) g) x None None None (omega (arith, same.len)) (omega (arith, same.len)) wb_there wa_there n ne
              ∙ same.parent n ∙ sym (parents n ne)
        ]

    -- where a node went out of a row, the links say so
    pub went_agrees : Agrees went new
    went_agrees = record {
      len = length-relinked ls c (before (children_at ns c) g) (slice_get (children_at ns c) (suc g)) (slice_get (children_at ns c) (suc g)) (before (children_at ns c) g) x None None None (omega (arith, same.len)) (omega (arith, same.len)) wb_there wa_there ∙ same.len ∙ sym len;
      content = λ n h. content_kept ls c (before (children_at ns c) g) (slice_get (children_at ns c) (suc g)) (slice_get (children_at ns c) (suc g)) (before (children_at ns c) g) x None None None n ∙ same.content n (omega (arith, len)) ∙ sym (contents n);
      parent = went_parent;
      linked = went_linked;
    }
