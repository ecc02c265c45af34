-- The order of places is an order where that of nodes is.
use Rattle.std.proofs.Common.{◌≡◌, ◌==◌, ◌&&◌, ◌||◌, ℕ, ◌<◌, ◌≤◌, Bool, true, false, inl, inr, List, Option, Some, None, refl, sym, ◌∙◌, nat_lt, subst, arith}
use Rattle.std.specs.Cmp.{IsStrictWeakOrder}
use Rattle.std.specs.Ordering.{is_lt}
use Rattle.std.specs.List.{range_with_len}
use Rattle.std.specs.List.Sorted.{IsStableBy}
use Rattle.std.specs.declared.cmp.Ordering.{Ordering}
use Rattle.jsonc_sound.proofs.Commas.{false_and}
use denote.Ref.{Bor}
use denote.Param.Members.{Shared}
use Rattle.jsonc_sort.specs.ordering.Asking.{ComparesBy, IsAmong, IsCompared}
use Rattle.std.proofs.lemmas.Bool.{false≢true, cases_lt, eq-eqb, lt-ltb, le-ltb, ne_eqb}
use Rattle.jsonc_sort.specs.ordering.Order.{comes_before, node_in, option_before, start_in}

-- by one number first, and then by the answer
abbrev pub then_by : ℕ → ℕ → Bool → Bool
then_by s t b = nat_lt s t || ((s == t) && b)

-- which of two numbers is less, if one is
data Compared (s t : ℕ) : Type 0 where
  less : s < t → Compared s t
  same : s ≡ t → Compared s t
  more : t < s → Compared s t

compared : (s t : ℕ) → Compared s t
compared s t = elim (cases_lt s t) [
  | inl h ↦ less h
  | inr h ↦ elim (cases_lt t s) [
    | inl k ↦ more k
    | inr k ↦ same (omega (arith, h, k))
  ]
]

or_true : (b c : Bool) → b ≡ true → b || c ≡ true
or_true true c e = refl
or_true false c e = absurd (false≢true e)

or_both : (b c d : Bool) → b ≡ false → c ≡ d → b || c ≡ d
or_both false c d e f = f
or_both true c d e f = absurd (false≢true (sym e))

and_is : (b c : Bool) → b ≡ true → b && c ≡ c
and_is true c e = refl
and_is false c e = absurd (false≢true e)

then_less : (s t : ℕ) (b : Bool) → s < t → then_by s t b ≡ true
then_less s t b h = or_true (nat_lt s t) ((s == t) && b) (lt-ltb s t h)

then_more : (s t : ℕ) (b : Bool) → t < s → then_by s t b ≡ false
then_more s t b h =
    let apart : s ≡ t → ⊥ = λ e. omega (arith, h, e) in
    or_both (nat_lt s t) ((s == t) && b) false (le-ltb s t (omega (arith, h))) (false_and (s == t) b (ne_eqb s t apart))

then_same : (s t : ℕ) (b : Bool) → s ≡ t → then_by s t b ≡ b
then_same s t b h = or_both (nat_lt s t) ((s == t) && b) b (le-ltb s t (omega (arith, h))) (and_is (s == t) b (eq-eqb s t h))

one_way_then : (s t : ℕ) (b c : Bool) → (b ≡ true → c ≡ false) → then_by s t b ≡ true → then_by t s c ≡ false
one_way_then s t b c h e =
    elim (compared s t) [
      | less k ↦ then_more t s c k
      | same k ↦ then_same t s c (sym k) ∙ h (sym (then_same s t b k) ∙ e)
      | more k ↦ absurd (false≢true (sym (then_more s t b k) ∙ e))
    ]

-- no first number is less than the second where that answers false
not_less : (s t : ℕ) (b : Bool) → then_by s t b ≡ false → t ≤ s
not_less s t b e =
    elim (cases_lt s t) [
      | inl k ↦ absurd (false≢true (sym e ∙ then_less s t b k))
      | inr k ↦ k
    ]

chain_then : (s t u : ℕ) (b c d : Bool) → (b ≡ false → c ≡ false → d ≡ false) → then_by s t b ≡ false → then_by t u c ≡ false → then_by s u d ≡ false
chain_then s t u b c d h e f =
    let first : t ≤ s = not_less s t b e in
    let second : u ≤ t = not_less t u c f in
    elim (compared s u) [
      | less k ↦ absurd (omega (arith, k, first, second))
      | same k ↦
          let one : s ≡ t = omega (arith, k, first, second) in
          let two : t ≡ u = omega (arith, k, first, second) in
          then_same s u d k ∙ h (sym (then_same s t b one) ∙ e) (sym (then_same t u c two) ∙ f)
      | more k ↦ then_more s u d k
    ]

module _ {N : Type 0} (lt : N → N → Bool) (o : IsStrictWeakOrder lt) where
  option_one_way : (x y : Option N) → option_before lt x y ≡ true → option_before lt y x ≡ false
  option_one_way (Some x) (Some y) e = o.one_way x y e
  option_one_way (Some x) None e = absurd (false≢true e)
  option_one_way None (Some y) e = refl
  option_one_way None None e = refl

  option_chain : (x y z : Option N) → option_before lt x y ≡ false → option_before lt y z ≡ false → option_before lt x z ≡ false
  option_chain (Some x) (Some y) (Some z) e f = o.chain x y z e f
  option_chain (Some x) None (Some z) e f = absurd (false≢true (sym f))
  option_chain None (Some y) (Some z) e f = absurd (false≢true (sym e))
  option_chain None None (Some z) e f = absurd (false≢true (sym f))
  option_chain (Some x) y None e f = refl
  option_chain None y None e f = refl

  pub before_order : (nodes : List (Option N)) (starts : List ℕ) → IsStrictWeakOrder (comes_before lt nodes starts)
  before_order nodes starts = record {
    one_way = λ i j. one_way_then (start_in starts i) (start_in starts j) _ _ (option_one_way (node_in nodes i) (node_in nodes j));
    chain = λ i j k. chain_then (start_in starts i) (start_in starts j) (start_in starts k) _ _ _ (option_chain (node_in nodes i) (node_in nodes j) (node_in nodes k));
  }

-- an answer for two places, by the order of the nodes
pub compared_by : {F D N : Type 0} (g : Shared F (Bor D × (N × (N × Unit {0}))) Ordering) (compare : F) (doc : D) (nodes : List (Option N)) (starts : List ℕ) (i j : ℕ) (r : Ordering)
    (lt : N → N → Bool) → ComparesBy g compare doc (IsAmong nodes) lt → IsCompared g compare doc nodes starts i j r → is_lt r ≡ comes_before lt nodes starts i j
compared_by g compare doc nodes starts i j r lt o c = c.by lt o

-- what is stable over the places as they stood
pub stable_from : (before : ℕ → ℕ → Bool) (count : ℕ) (old new : List ℕ) → old ≡ range_with_len 0 count → IsStableBy before old new → IsStableBy before (range_with_len 0 count) new
stable_from before count old new e stable = subst (λ (xs : List ℕ). IsStableBy before xs new) e stable
