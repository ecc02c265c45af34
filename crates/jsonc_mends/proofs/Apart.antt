-- Changes in order and apart, by their places in two texts.
use Rattle.std.proofs.Common.{ℕ, zero, suc, ◌≡◌, ◌+◌, ◌-◌, ◌<◌, ◌≤◌, ◌∙◌, ◌⊎◌, inl, inr, sym, ap, subst, List, [], ◌∷◌, ◌++◌, length, map, get_or, leb, true, false, Option, Some, None, IfNone, ◌≢◌, arith, le-leb, Bool, chars, IsUtf8, IsCharBoundary, append_assoc, zero-add}
use Rattle.std.specs.Bool.{Decides}
use Rattle.std.specs.List.{All}
use Rattle.std.specs.List.Sorted.{IsNonDecreasingBy, IsPartitionPoint}
use Rattle.std.proofs.lemmas.Bool.{cases_lt, leb-false, leb-true}
use Rattle.std.proofs.lemmas.List.{append-nil, get_or_default}
use Rattle.std.proofs.lemmas.List.Elements.{All-nil, All-cons, All-head, All-tail, All-push, All-same, All-get_or}
use Rattle.std.proofs.lemmas.Str.{encodes-chars, IsCharBoundary-start}
use Rattle.jsonc_text.specs.Text.{rest, byte_length, Spans}
use Rattle.jsonc_text.proofs.Cuts.{byte_length-append, rest_past}
use Rattle.jsonc_mend.specs.declared.changes.Change.{Change}
use Rattle.jsonc_mend.specs.Changes.{Changes, none, kept, changed, change_of}
use Rattle.jsonc_mends.specs.declared.told.Mend.{Mend}
use Rattle.jsonc_mends.specs.declared.places.Side.{Side}
use Rattle.jsonc_mends.specs.declared.places.Side.TheVariants.{Text, Mended}
use Rattle.jsonc_mends.specs.Places.{Apart, Begun, GoesWith, IsWrittenBy, bytes_in, other, before, inside, behind}
use Rattle.jsonc_mends.specs.Told.{change_in}

-- the same of changes alone
abbrev Between : ℕ → ℕ → List Change → ℕ → ℕ → Type 0
Between i j [] n k = (i ≤ n) × (n + j ≡ k + i)
Between i j (c ∷ cs) n k = (i ≤ c.range.start) × (c.range.start + j ≡ c.written.start + i) × (c.range.start ≤ c.range.end) × (c.written.start ≤ c.written.end) × Between c.range.end c.written.end cs n k

-- what is kept behind the last change is as long in both
more_kept : (i j : ℕ) (cs : List Change) (n k a : ℕ) → Between i j cs n k → Between i j cs (n + a) (k + a)
more_kept i j [] n k a h = (omega (arith, h.0), omega (arith, h.1))
more_kept i j (c ∷ cs) n k a h = (h.0, h.1, h.2, h.3, more_kept c.range.end c.written.end cs n k a h.4)

abbrev ends_with : ℕ → ℕ → ℕ → ℕ → Change
ends_with n a k b = record { range = record { start = n; end = n + a }; written = record { start = k; end = k + b } }

more_changed : (i j : ℕ) (cs : List Change) (n k a b : ℕ) → Between i j cs n k → Between i j (cs ++ ends_with n a k b ∷ []) (n + a) (k + b)
more_changed i j [] n k a b h = (h.0, h.1, omega arith, omega arith, (omega arith, omega arith))
more_changed i j (c ∷ cs) n k a b h = (h.0, h.1, h.2, h.3, more_changed c.range.end c.written.end cs n k a b h.4)

between : {t m : List ℕ} {cs : List Change} → Changes t cs m → Between 0 0 cs (byte_length t) (byte_length m)
between none = (omega arith, omega arith)
between {cs = cs} (kept {old = old} {new = new} same h) =
    subst (λ n. Between 0 0 cs n (byte_length (new ++ same))) (sym (byte_length-append old same))
    (subst (λ k. Between 0 0 cs (byte_length old + byte_length same) k) (sym (byte_length-append new same)) (more_kept 0 0 cs (byte_length old) (byte_length new) (byte_length same) (between h)))
between (changed {old = old} {new = new} {cs = cs} was now h) =
    let ds : List Change = cs ++ change_of old was new now ∷ [] in
    subst (λ n. Between 0 0 ds n (byte_length (new ++ now))) (sym (byte_length-append old was))
    (subst (λ k. Between 0 0 ds (byte_length old + byte_length was) k) (sym (byte_length-append new now)) (more_changed 0 0 cs (byte_length old) (byte_length new) (byte_length was) (byte_length now) (between h)))

of_mends : (i j : ℕ) (ms : List Mend) (n k : ℕ) → Between i j (map change_in ms) n k → Apart Text i j ms n k
of_mends i j [] n k h = h
of_mends i j (m ∷ ms) n k h = (h.0, h.1, h.2, h.3, of_mends m.range.end m.written.end ms n k h.4)

turned : (i j : ℕ) (ms : List Mend) (n k : ℕ) → Apart Text i j ms n k → Apart Mended j i ms k n
turned i j [] n k h = (omega (arith, h.0, h.1), sym h.1)
turned i j (m ∷ ms) n k h = (omega (arith, h.0, h.1), sym h.1, h.3, h.2, turned m.range.end m.written.end ms n k h.4)

-- the changes of a text are, in the text and in the changed one
pub apart_in : (t m : List ℕ) (ms : List Mend) → IsUtf8 t → IsUtf8 m → Changes (chars t) (map change_in ms) (chars m) → Apart Text 0 0 ms (length t) (length m)
apart_in t m ms u v h =
    subst (λ n. Apart Text 0 0 ms n (length m)) (ap length (encodes-chars t u))
    (subst (λ k. Apart Text 0 0 ms (byte_length (chars t)) k) (ap length (encodes-chars m v)) (of_mends 0 0 ms (byte_length (chars t)) (byte_length (chars m)) (between h)))

pub apart_back : (t m : List ℕ) (ms : List Mend) → IsUtf8 t → IsUtf8 m → Changes (chars t) (map change_in ms) (chars m) → Apart Mended 0 0 ms (length m) (length t)
apart_back t m ms u v h = turned 0 0 ms (length t) (length m) (apart_in t m ms u v h)

module _ (s : Side) where
  -- no change begins before the place that they begin from
  low : (i j : ℕ) (ms : List Mend) (n k x : ℕ) (d : Mend) → Apart s i j ms n k → x < length ms → i ≤ (bytes_in s (get_or ms x d)).start
  low i j [] n k x d h l = omega (arith, l)
  low i j (m ∷ ms) n k zero d h l = h.0
  low i j (m ∷ ms) n k (suc x) d h l =
      let after = low (bytes_in s m).end (bytes_in (other s) m).end ms n k x d h.4 (omega (arith, l)) in
      omega (arith, h.0, h.2, after)

  pub in_order : (i j : ℕ) (ms : List Mend) (n k : ℕ) → Apart s i j ms n k → IsNonDecreasingBy (λ m. (bytes_in s m).start) ms
  in_order i j [] n k h x y d le lt = omega (arith, lt)
  in_order i j (m ∷ ms) n k h zero zero d le lt = omega arith
  in_order i j (m ∷ ms) n k h zero (suc y) d le lt =
      let after = low (bytes_in s m).end (bytes_in (other s) m).end ms n k y d h.4 (omega (arith, lt)) in
      omega (arith, h.2, after)
  in_order i j (m ∷ ms) n k h (suc x) zero d le lt = omega (arith, le)
  in_order i j (m ∷ ms) n k h (suc x) (suc y) d le lt = in_order (bytes_in s m).end (bytes_in (other s) m).end ms n k h.4 x y d (omega (arith, le)) (omega (arith, lt))

  -- the other text's place is no further than its end
  high : (i j : ℕ) (ms : List Mend) (n k : ℕ) → Apart s i j ms n k → j ≤ k
  high i j [] n k h = omega (arith, h.0, h.1)
  high i j (m ∷ ms) n k h =
      let after = high (bytes_in s m).end (bytes_in (other s) m).end ms n k h.4 in
      omega (arith, h.0, h.1, h.3, after)

  -- nor is one behind a change, and before the next one
  next_one : (i j place : ℕ) (ms : List Mend) (n k : ℕ) (d : Mend) → Apart s i j ms n k → i ≤ place → place ≤ n → (0 < length ms → place < (bytes_in s (get_or ms 0 d)).start) → (place - i) + j ≤ k
  next_one i j place [] n k d h from to next = omega (arith, h.0, h.1, from, to)
  next_one i j place (m ∷ ms) n k d h from to next =
      let after = high (bytes_in s m).end (bytes_in (other s) m).end ms n k h.4 in
      omega (arith, h.1, h.3, after, from, next (omega arith))

  pub not_past : (i j place : ℕ) (ms : List Mend) (n k x : ℕ) (d : Mend) → Apart s i j ms n k → x < length ms → (bytes_in s (get_or ms x d)).end ≤ place → place ≤ n
      → (suc x < length ms → place < (bytes_in s (get_or ms (suc x) d)).start)
      → (place - (bytes_in s (get_or ms x d)).end) + (bytes_in (other s) (get_or ms x d)).end ≤ k
  not_past i j place [] n k x d h l from to next = omega (arith, l)
  not_past i j place (m ∷ ms) n k zero d h l from to next =
      next_one (bytes_in s m).end (bytes_in (other s) m).end place ms n k d h.4 from to (λ z. next (omega (arith, z)))
  not_past i j place (m ∷ ms) n k (suc x) d h l from to next =
      not_past (bytes_in s m).end (bytes_in (other s) m).end place ms n k x d h.4 (omega (arith, l)) from to (λ z. next (omega (arith, z)))

  -- each ends before the next ones begin
  ends_first : (i j : ℕ) (ms : List Mend) (n k x y : ℕ) (d : Mend) → Apart s i j ms n k → x < y → y < length ms → (bytes_in s (get_or ms x d)).end ≤ (bytes_in s (get_or ms y d)).start
  ends_first i j [] n k x y d h lt l = omega (arith, l)
  ends_first i j (m ∷ ms) n k x zero d h lt l = omega (arith, lt)
  ends_first i j (m ∷ ms) n k zero (suc y) d h lt l = low (bytes_in s m).end (bytes_in (other s) m).end ms n k y d h.4 (omega (arith, l))
  ends_first i j (m ∷ ms) n k (suc x) (suc y) d h lt l = ends_first (bytes_in s m).end (bytes_in (other s) m).end ms n k x y d h.4 (omega (arith, lt)) (omega (arith, l))

-- bytes that one change wrote are those of the last change that begins at their start or before it
writer : (ms : List Mend) (n k start end count : ℕ) (m : Mend) → Apart Mended 0 0 ms n k → Begun Mended ms start count → count ≢ 0 → m ≡ get_or ms (count - 1) m → IsWrittenBy ms start end → end ≤ m.written.end
writer ms n k start end count m h b z e w = found (cases_lt w.change count) (cases_lt w.change (count - 1))
  where
    begins : (get_or ms (count - 1) m).written.start ≤ start
    begins = b.begun (count - 1) m (omega (arith, z))

    found : (w.change < count) ⊎ (count ≤ w.change) → (w.change < count - 1) ⊎ (count - 1 ≤ w.change) → end ≤ m.written.end
    found (inr l) q =
        let later : start < (get_or ms w.change m).written.start = b.later w.change m l w.there in
        let from : (get_or ms w.change m).written.start ≤ start = w.from m in
        omega arith
    found (inl l) (inl q) =
        let before : (get_or ms w.change m).written.end ≤ (get_or ms (count - 1) m).written.start = ends_first Mended 0 0 ms n k w.change (count - 1) m h q (omega (arith, z, b.bound)) in
        let to : end ≤ (get_or ms w.change m).written.end = w.to m in
        let some : start < end = w.some in
        omega arith
    found (inl l) (inr q) =
        let same : w.change ≡ count - 1 = omega (arith, l, q) in
        subst (λ x. end ≤ x.written.end) (sym e) (subst (λ x. end ≤ (get_or ms x m).written.end) same (w.to m))

pub decides_written : (ms : List Mend) (n k start end count : ℕ) (m : Mend) → Apart Mended 0 0 ms n k → start < end → Begun Mended ms start count → count ≢ 0 → m ≡ get_or ms (count - 1) m
    → Decides (leb end m.written.end) (IsWrittenBy ms start end)
decides_written ms n k start end count m h lt b z e = (
  λ t. record {
    some = lt;
    change = count - 1;
    there = omega (arith, b.bound, z);
    from = λ d. b.begun (count - 1) d (omega (arith, z));
    to = λ d. subst (λ x. end ≤ x.written.end) (e ∙ get_or_default ms (count - 1) m d (omega (arith, b.bound, z))) (leb-true _ _ t);
  },
  λ w. le-leb end m.written.end (writer ms n k start end count m h b z e w),
)

-- no change wrote them, where none begins at their start or before it
pub none_written : (ms : List Mend) (start end : ℕ) → Begun Mended ms start 0 → IsWrittenBy ms start end → ⊥
none_written [] start end b w = let there : w.change < 0 = w.there in omega arith
none_written (m ∷ ms) start end b w =
    let later : start < (get_or (m ∷ ms) w.change m).written.start = b.later w.change m (omega arith) w.there in
    let from : (get_or (m ∷ ms) w.change m).written.start ≤ start = w.from m in
    omega arith

-- the same of a list that is lent
pub decides_in : (xs ys : List Mend) (n k start end : ℕ) (b : Bool) → ys ≡ xs → Apart Mended 0 0 xs n k → ((n k : ℕ) → Apart Mended 0 0 ys n k → Decides b (IsWrittenBy ys start end)) → Decides b (IsWrittenBy xs start end)
decides_in xs ys n k start end b e h f = subst (λ l. Decides b (IsWrittenBy l start end)) e (f n k (subst (λ l. Apart Mended 0 0 l n k) (sym e) h))

-- the changes that begin at a place or before it, as they are found in a list in order
pub begun_by : (s : Side) (ms : List Mend) (place count : ℕ) → count ≤ length ms → IsPartitionPoint (λ m. leb (bytes_in s m).start place ≡ true) (λ m. leb (bytes_in s m).start place ≡ false) ms count → Begun s ms place count
begun_by s ms place count l point = record {
  bound = l;
  begun = λ k d h. leb-true _ _ (point.0 k d (omega arith) h);
  later = λ k d h m. leb-false _ _ (point.1 k d h m);
}

-- a place before all changes
pub goes_before : (s : Side) (ms : List Mend) (place count : ℕ) → count ≡ 0 → Begun s ms place count → GoesWith s ms place place
goes_before s ms place count e b = before (subst (Begun s ms place) e b)

-- the place that goes with one behind the start of a change
pub goes_behind : (s : Side) (ms : List Mend) (n limit place count q : ℕ) (m : Mend) → Apart s 0 0 ms n limit → place ≤ n → Begun s ms place count → count ≢ 0 → m ≡ get_or ms (count - 1) m
    → (place < (bytes_in s m).end → q ≡ (bytes_in (other s) m).start)
    → ((bytes_in s m).end ≤ place → (place - (bytes_in s m).end) + (bytes_in (other s) m).end ≤ limit → q ≡ (place - (bytes_in s m).end) + (bytes_in (other s) m).end)
    → GoesWith s ms place q
goes_behind s ms n limit place count q m h to b z e into past = found (cases_lt place (bytes_in s m).end)
  where
    one_less : Begun s ms place ((count - 1) + 1)
    one_less = subst (Begun s ms place) (omega (arith, z)) b

    fits : (bytes_in s m).end ≤ place → (place - (bytes_in s m).end) + (bytes_in (other s) m).end ≤ limit
    fits l = subst (λ x. (place - (bytes_in s x).end) + (bytes_in (other s) x).end ≤ limit) (sym e)
        (not_past s 0 0 place ms n limit (count - 1) m h (omega (arith, b.bound, z)) (subst (λ x. (bytes_in s x).end ≤ place) e l) to
        (λ y. b.later (suc (count - 1)) m (omega (arith, z)) y))

    found : (place < (bytes_in s m).end) ⊎ ((bytes_in s m).end ≤ place) → GoesWith s ms place q
    found (inl l) = subst (GoesWith s ms place) (sym (into l)) (inside (count - 1) m one_less e l)
    found (inr l) = subst (GoesWith s ms place) (sym (past l (fits l))) (behind (count - 1) m one_less e l)

-- the same of a list that is lent, and of the length as it was read
pub goes_in : (s : Side) (xs ys : List Mend) (n k limit place q : ℕ) → ys ≡ xs → limit ≡ k → Apart s 0 0 xs n k → place ≤ n
    → ((m : ℕ) → Apart s 0 0 ys m limit → place ≤ m → GoesWith s ys place q) → GoesWith s xs place q
goes_in s xs ys n k limit place q e f h l g =
    subst (λ t. GoesWith s t place q) e (g n (subst (λ t. Apart s 0 0 t n limit) (sym e) (subst (λ i. Apart s 0 0 xs n i) (sym f) h)) l)

-- a change's part of the changed text
written_in : (m : List ℕ) {t w : List ℕ} {cs : List Change} (r : List ℕ) → IsUtf8 m → Changes t cs w → chars m ≡ w ++ r → All (λ c. Spans m c.written.start c.written.end) cs
written_in m r u none e = All-nil (λ c. Spans m c.written.start c.written.end)
written_in m r u (kept {new = new} same h) e = written_in m (same ++ r) u h (e ∙ append_assoc new same r)
written_in m r u (changed {old = old} {new = new} {cs = cs} was now h) e =
    let P : Change → Type 0 = λ c. Spans m c.written.start c.written.end in
    let split : chars m ≡ new ++ (now ++ r) = e ∙ append_assoc new now r in
    let Q : ℕ → Type 0 = λ n. (rest m n ≡ now ++ r) × IsCharBoundary m n in
    let start : Q (byte_length new) = subst Q (zero-add (byte_length new)) (rest_past m new (now ++ r) 0 u (IsCharBoundary-start m u) split) in
    let end = rest_past m now r (byte_length new) u start.1 start.0 in
    let one : Spans m (byte_length new) (byte_length new + byte_length now) = record { from = start.1; to = end.1; order = omega arith } in
    All-push P cs (change_of old was new now) (written_in m (now ++ r) u h split) one

pub writes_part : (m : List ℕ) {t : List ℕ} (ms : List Mend) → IsUtf8 m → Changes t (map change_in ms) (chars m) → All (λ x. Spans m x.written.start x.written.end) ms
writes_part m ms u h = back ms (written_in m [] u h (sym (append-nil (chars m))))
  where
    back : (ms : List Mend) → All (λ c. Spans m c.written.start c.written.end) (map change_in ms) → All (λ x. Spans m x.written.start x.written.end) ms
    back [] a = All-nil (λ x. Spans m x.written.start x.written.end)
    back (x ∷ xs) a =
        let P : Change → Type 0 = λ c. Spans m c.written.start c.written.end in
        All-cons (λ x. Spans m x.written.start x.written.end) x xs (All-head P (change_in x) (map change_in xs) a) (back xs (All-tail P (change_in x) (map change_in xs) a))

-- what the change of a number writes stands in the changed text
pub written_there : (m t : List ℕ) (ms xs : List Mend) (number : ℕ) (x : Mend) (part : List ℕ) → IsUtf8 m → Changes t (map change_in ms) (chars m) → xs ≡ ms → number < length xs → x ≡ get_or xs number x → part ≡ m
    → Spans part x.written.start x.written.end
written_there m t ms xs number x part u h e l g f =
    let P : Mend → Type 0 = λ y. Spans m y.written.start y.written.end in
    let all : All P xs = All-same P xs ms e (writes_part m ms u h) in
    subst (λ b. Spans b x.written.start x.written.end) (sym f) (subst P (sym g) (All-get_or P xs number x l all))

pub in_any : {T P : Type 0} (r : Option T) → P → IfNone r P
in_any None p = p
in_any (Some x) p = tt

pub if_none : {T P Q : Type 0} (r : Option T) → (P → Q) → IfNone r P → IfNone r Q
if_none None f p = f p
if_none (Some x) f p = p
