-- A place between two characters of a mended text goes with one between two characters of the text.
use Rattle.std.proofs.Common.{ℕ, zero, suc, ◌≡◌, ◌+◌, ◌-◌, ◌<◌, ◌≤◌, ◌∙◌, sym, ap, subst, refl, List, [], ◌∷◌, ◌++◌, length, map, take, get_or, arith, chars, IsUtf8, IsCharBoundary, append_assoc, zero-add}
use Rattle.std.specs.Char.{len_utf8}
use Rattle.std.proofs.lemmas.List.{append-nil, length-take-le}
use Rattle.std.proofs.lemmas.Str.{IsCharBoundary-start, IsUtf8-take, encodes-chars, len_utf8_bounds}
use Rattle.jsonc_text.specs.declared.errors.ParseErrorKind.TheVariants.{OutOfMemory}
use Rattle.jsonc_text.specs.Places.{LineColumn}
use Rattle.jsonc_text.specs.Text.{byte_length, rest}
use Rattle.jsonc_text.proofs.Cuts.{byte_length-append, byte_length-one, chars_at, rest_past}
use Rattle.jsonc_mend.specs.declared.changes.Change.{Change}
use Rattle.jsonc_mend.specs.Changes.{Changes, none, kept, changed}
use Rattle.jsonc_mends.specs.declared.told.Mend.{Mend}
use Rattle.jsonc_mends.specs.Places.{GoesBack, before, inside, behind}
use Rattle.jsonc_mends.specs.Told.{change_in}

-- from the place i on, where this text is left, the place is between two characters
record IsCut (i : ℕ) (t : List ℕ) (place : ℕ) : Type 0 where
  front : List ℕ
  back : List ℕ
  split : t ≡ front ++ back
  at : i + byte_length front ≡ place

-- the fewer of the first characters of a text stand before the others
front_of : (a b x y : List ℕ) → a ++ x ≡ b ++ y → byte_length a ≤ byte_length b → (s : List ℕ) × (b ≡ a ++ s) × (x ≡ s ++ y)
front_of [] b x y e l = (b, refl, e)
front_of (c ∷ a) [] x y e l =
    let empty : byte_length [] ≡ 0 = refl in
    let long : byte_length (c ∷ a) ≡ byte_length (c ∷ []) + byte_length a = byte_length-append (c ∷ []) a in
    let one : byte_length (c ∷ []) ≡ len_utf8 c = byte_length-one c in
    let some : 1 ≤ len_utf8 c = (len_utf8_bounds c).0 in
    absurd (omega (arith, l))
front_of (c ∷ a) (d ∷ b) x y e l =
    let first : c ≡ d = cc in
    let later : a ++ x ≡ b ++ y = cc in
    let one : byte_length (c ∷ a) ≡ byte_length (c ∷ []) + byte_length a = byte_length-append (c ∷ []) a in
    let two : byte_length (d ∷ b) ≡ byte_length (d ∷ []) + byte_length b = byte_length-append (d ∷ []) b in
    let same : byte_length (c ∷ []) ≡ byte_length (d ∷ []) = ap (λ n. byte_length (n ∷ [])) first in
    let found = front_of a b x y later (omega (arith, l)) in
    (found.0, ap (λ n. n ∷ b) (sym first) ∙ ap (λ s. c ∷ s) found.1, found.2)

-- from the places i and j on, where these texts are left: a change, and what is before it and behind it
record IsNext (i j : ℕ) (t m : List ℕ) (c : Change) : Type 0 where
  same : List ℕ
  was : List ℕ
  now : List ℕ
  left : List ℕ
  right : List ℕ
  old : t ≡ same ++ (was ++ left)
  new : m ≡ same ++ (now ++ right)
  start : c.range.start ≡ i + byte_length same
  end : c.range.end ≡ c.range.start + byte_length was
  written_start : c.written.start ≡ j + byte_length same
  written_end : c.written.end ≡ c.written.start + byte_length now

abbrev AreNext : ℕ → ℕ → List ℕ → List ℕ → List Change → Type 0
AreNext i j t m [] = t ≡ m
AreNext i j t m (c ∷ cs) = (n : IsNext i j t m c) × AreNext c.range.end c.written.end n.left n.right cs

onto : (t s a b r : List ℕ) → t ≡ a ++ (b ++ r) → t ++ s ≡ a ++ (b ++ (r ++ s))
onto t s a b r e = ap (λ x. x ++ s) e ∙ append_assoc a (b ++ r) s ∙ ap (λ x. a ++ x) (append_assoc b r s)

parts_long : (t a b r : List ℕ) → t ≡ a ++ (b ++ r) → byte_length t ≡ byte_length a + (byte_length b + byte_length r)
parts_long t a b r e = ap byte_length e ∙ byte_length-append a (b ++ r) ∙ ap (λ n. byte_length a + n) (byte_length-append b r)

next_onto : (i j : ℕ) (t m s z : List ℕ) (c : Change) (n : IsNext i j t m c) → IsNext i j (t ++ s) (m ++ z) c
next_onto i j t m s z c n = record {
  same = n.same;
  was = n.was;
  now = n.now;
  left = n.left ++ s;
  right = n.right ++ z;
  old = onto t s n.same n.was n.left n.old;
  new = onto m z n.same n.now n.right n.new;
  start = n.start;
  end = n.end;
  written_start = n.written_start;
  written_end = n.written_end;
}

more_kept : (i j : ℕ) (t m s : List ℕ) (cs : List Change) → AreNext i j t m cs → AreNext i j (t ++ s) (m ++ s) cs
unfolding next_onto
more_kept i j t m s [] h = ap (λ x. x ++ s) h
more_kept i j t m s (c ∷ cs) h = (next_onto i j t m s s c h.0, more_kept c.range.end c.written.end h.0.left h.0.right s cs h.1)

abbrev last_at : ℕ → ℕ → List ℕ → List ℕ → Change
last_at n k was now = record { range = record { start = n; end = n + byte_length was }; written = record { start = k; end = k + byte_length now } }

last_next : (i j n k : ℕ) (t m was now : List ℕ) → n ≡ i + byte_length t → k ≡ j + byte_length m → t ≡ m → IsNext i j (t ++ was) (m ++ now) (last_at n k was now)
last_next i j n k t m was now e f h = record {
  same = t;
  was = was;
  now = now;
  left = [];
  right = [];
  old = ap (λ x. t ++ x) (sym (append-nil was));
  new = ap (λ x. x ++ now) (sym h) ∙ ap (λ x. t ++ x) (sym (append-nil now));
  start = e;
  end = refl;
  written_start = f ∙ ap (λ x. j + byte_length x) (sym h);
  written_end = refl;
}

-- the place behind what is left, counted from behind the change
still : (i n start end : ℕ) (t a b r : List ℕ) → t ≡ a ++ (b ++ r) → n ≡ i + byte_length t → start ≡ i + byte_length a → end ≡ start + byte_length b → n ≡ end + byte_length r
still i n start end t a b r e f g h = let long = parts_long t a b r e in omega (arith, f, g, h, long)

more_changed : (i j n k : ℕ) (t m was now : List ℕ) (cs : List Change) → n ≡ i + byte_length t → k ≡ j + byte_length m → AreNext i j t m cs → AreNext i j (t ++ was) (m ++ now) (cs ++ last_at n k was now ∷ [])
unfolding last_next next_onto
more_changed i j n k t m was now [] e f h = (last_next i j n k t m was now e f h, refl)
more_changed i j n k t m was now (c ∷ cs) e f h =
    let x = h.0 in (
      next_onto i j t m was now c x,
      more_changed c.range.end c.written.end n k x.left x.right was now cs (still i n c.range.start c.range.end t x.same x.was x.left x.old e x.start x.end)
          (still j k c.written.start c.written.end m x.same x.now x.right x.new f x.written_start x.written_end) h.1,
    )

all_next : {t m : List ℕ} {cs : List Change} → Changes t cs m → AreNext 0 0 t m cs
all_next none = refl
all_next {cs = cs} (kept {old = old} {new = new} same h) = more_kept 0 0 old new same cs (all_next h)
all_next (changed {old = old} {new = new} {cs = cs} was now h) =
    more_changed 0 0 (byte_length old) (byte_length new) old new was now cs (sym (zero-add (byte_length old))) (sym (zero-add (byte_length new))) (all_next h)

-- what stands before a place that is before the next change stands in both
cut_before : (i j : ℕ) (t m a r : List ℕ) (ms : List Mend) (d : Mend) → AreNext i j t m (map change_in ms) → m ≡ a ++ r → (0 < length ms → j + byte_length a < (get_or ms 0 d).written.start) → (s : List ℕ) × (t ≡ a ++ s)
cut_before i j t m a r [] d h e next = (r, h ∙ e)
cut_before i j t m a r (x ∷ ms) d h e next =
    let n = h.0 in
    let short : j + byte_length a < x.written.start = next (omega arith) in
    let there : x.written.start ≡ j + byte_length n.same = n.written_start in
    let found = front_of a n.same r (n.now ++ n.right) (sym e ∙ n.new) (omega (arith, short, there)) in
    (found.0 ++ (n.was ++ n.left), n.old ∙ ap (λ y. y ++ (n.was ++ n.left)) found.1 ∙ append_assoc a found.0 (n.was ++ n.left))

-- the same, behind what stands before a change and in its place
onto_back : (t a b c l s : List ℕ) → t ≡ a ++ (b ++ l) → l ≡ c ++ s → t ≡ (a ++ (b ++ c)) ++ s
onto_back t a b c l s e f = e ∙ ap (λ y. a ++ (b ++ y)) f ∙ ap (λ y. a ++ y) (sym (append_assoc b c s)) ∙ sym (append_assoc a (b ++ c) s)

further : (i start end : ℕ) (a b c : List ℕ) → start ≡ i + byte_length a → end ≡ start + byte_length b → i + byte_length (a ++ (b ++ c)) ≡ end + byte_length c
further i start end a b c e f =
    let long : byte_length (a ++ (b ++ c)) ≡ byte_length a + (byte_length b + byte_length c) = parts_long (a ++ (b ++ c)) a b c refl in
    omega (arith, e, f, long)

cut_further : (i start end place : ℕ) (t a b l : List ℕ) → t ≡ a ++ (b ++ l) → start ≡ i + byte_length a → end ≡ start + byte_length b → IsCut end l place → IsCut i t place
cut_further i start end place t a b l e f g c = record { front = a ++ (b ++ c.front); back = c.back; split = onto_back t a b c.front l c.back e c.split; at = further i start end a b c.front f g ∙ c.at }

-- a change begins between two characters
cut_at : (i j : ℕ) (t m : List ℕ) (ms : List Mend) (k : ℕ) (d : Mend) → AreNext i j t m (map change_in ms) → k < length ms → IsCut i t (get_or ms k d).range.start
cut_at i j t m [] k d h l = absurd (omega (arith, l))
cut_at i j t m (x ∷ ms) zero d h l = record { front = h.0.same; back = h.0.was ++ h.0.left; split = h.0.old; at = sym h.0.start }
cut_at i j t m (x ∷ ms) (suc k) d h l =
    let n = h.0 in
    cut_further i x.range.start x.range.end (get_or ms k d).range.start t n.same n.was n.left n.old n.start n.end (cut_at x.range.end x.written.end n.left n.right ms k d h.1 (omega (arith, l)))

-- a change ends no earlier than it is looked for
ends_later : (i j : ℕ) (t m : List ℕ) (ms : List Mend) (k : ℕ) (d : Mend) → AreNext i j t m (map change_in ms) → k < length ms → j ≤ (get_or ms k d).written.end
ends_later i j t m [] k d h l = absurd (omega (arith, l))
ends_later i j t m (x ∷ ms) zero d h l =
    let start : x.written.start ≡ j + byte_length h.0.same = h.0.written_start in
    let end : x.written.end ≡ x.written.start + byte_length h.0.now = h.0.written_end in
    omega (arith, start, end)
ends_later i j t m (x ∷ ms) (suc k) d h l =
    let start : x.written.start ≡ j + byte_length h.0.same = h.0.written_start in
    let end : x.written.end ≡ x.written.start + byte_length h.0.now = h.0.written_end in
    let later : x.written.end ≤ (get_or ms k d).written.end = ends_later x.range.end x.written.end h.0.left h.0.right ms k d h.1 (omega (arith, l)) in
    omega (arith, start, end, later)

-- what stands before a place that is no earlier than the end of a change
record IsPast (end p : ℕ) (r right : List ℕ) : Type 0 where
  more : List ℕ
  rest : right ≡ more ++ r
  at : end + byte_length more ≡ p

past : (j start end p : ℕ) (m a r same now right : List ℕ) → m ≡ a ++ r → m ≡ same ++ (now ++ right) → j + byte_length a ≡ p → start ≡ j + byte_length same → end ≡ start + byte_length now → end ≤ p → IsPast end p r right
past j start end p m a r same now right e f g s n l =
    let short : byte_length (same ++ now) ≡ byte_length same + byte_length now = byte_length-append same now in
    let found = front_of (same ++ now) a right r (append_assoc same now right ∙ sym f ∙ e) (omega (arith, short, g, s, n, l)) in
    let long : byte_length a ≡ byte_length (same ++ now) + byte_length found.0 = ap byte_length found.1 ∙ byte_length-append (same ++ now) found.0 in
    record { more = found.0; rest = found.2; at = omega (arith, short, long, g, s, n) }

-- a place behind a change, and before the next one, is as far behind it in both texts
cut_behind : (i j : ℕ) (t m a r : List ℕ) (ms : List Mend) (k p : ℕ) (d : Mend) → AreNext i j t m (map change_in ms) → k < length ms → m ≡ a ++ r → j + byte_length a ≡ p → (get_or ms k d).written.end ≤ p
    → (suc k < length ms → p < (get_or ms (suc k) d).written.start) → IsCut i t ((p - (get_or ms k d).written.end) + (get_or ms k d).range.end)
cut_behind i j t m a r [] k p d h l e f g next = absurd (omega (arith, l))
cut_behind i j t m a r (x ∷ ms) zero p d h l e f g next =
    let n = h.0 in
    let q = past j x.written.start x.written.end p m a r n.same n.now n.right e n.new f n.written_start n.written_end g in
    let found = cut_before x.range.end x.written.end n.left n.right q.more r ms d h.1 q.rest (λ y. subst (λ z. z < (get_or ms 0 d).written.start) (sym q.at) (next (omega (arith, y)))) in
    let at : x.written.end + byte_length q.more ≡ p = q.at in
    cut_further i x.range.start x.range.end ((p - x.written.end) + x.range.end) t n.same n.was n.left n.old n.start n.end
    (record { front = q.more; back = found.0; split = found.1; at = omega (arith, at) })
cut_behind i j t m a r (x ∷ ms) (suc k) p d h l e f g next =
    let n = h.0 in
    let later : x.written.end ≤ (get_or ms k d).written.end = ends_later x.range.end x.written.end n.left n.right ms k d h.1 (omega (arith, l)) in
    let upto : (get_or ms k d).written.end ≤ p = g in
    let q = past j x.written.start x.written.end p m a r n.same n.now n.right e n.new f n.written_start n.written_end (omega (arith, later, upto)) in
    cut_further i x.range.start x.range.end ((p - (get_or ms k d).written.end) + (get_or ms k d).range.end) t n.same n.was n.left n.old n.start n.end
    (cut_behind x.range.end x.written.end n.left n.right q.more r ms k p d h.1 (omega (arith, l)) q.rest q.at g (λ y. next (omega (arith, y))))

abbrev no_mend : Mend
no_mend = record {
  fault = record { kind = OutOfMemory; range = record { start = 0; end = 0 } };
  at = record { line = 0; column = 0 };
  range = record { start = 0; end = 0 };
  written = record { start = 0; end = 0 };
}

-- the place of the text that goes with one between two characters of the mended text
goes_back : (t m : List ℕ) (ms : List Mend) (p q : ℕ) → Changes t (map change_in ms) m → IsCut 0 m p → GoesBack ms p q → IsCut 0 t q
goes_back t m ms p q h c (before b) =
    let found = cut_before 0 0 t m c.front c.back ms no_mend (all_next h) c.split (λ l. subst (λ x. x < (get_or ms 0 no_mend).written.start) (sym c.at) (b.later 0 no_mend (omega arith) l)) in
    record { front = c.front; back = found.0; split = found.1; at = c.at }
goes_back t m ms p q h c (inside count x b e l) =
    subst (λ y. IsCut 0 t y.range.start) (sym e) (cut_at 0 0 t m ms count x (all_next h) (omega (arith, b.bound)))
goes_back t m ms p q h c (behind count x b e l) =
    subst (λ y. IsCut 0 t ((p - y.written.end) + y.range.end)) (sym e)
    (cut_behind 0 0 t m c.front c.back ms count p x (all_next h) (omega (arith, b.bound)) c.split c.at (subst (λ y. y.written.end ≤ p) e l) (λ y. b.later (suc count) x (omega arith) y))

cut_of : (bytes : List ℕ) (p : ℕ) → IsUtf8 bytes → IsCharBoundary bytes p → IsCut 0 (chars bytes) p
cut_of bytes p u b = record {
  front = chars (take p bytes);
  back = rest bytes p;
  split = chars_at bytes p u b;
  at = zero-add (byte_length (chars (take p bytes))) ∙ ap length (encodes-chars (take p bytes) (IsUtf8-take bytes p u b)) ∙ length-take-le p bytes b.0;
}

boundary_of : (bytes : List ℕ) (p : ℕ) → IsUtf8 bytes → IsCut 0 (chars bytes) p → IsCharBoundary bytes p
boundary_of bytes p u c = subst (IsCharBoundary bytes) c.at (rest_past bytes c.front c.back 0 u (IsCharBoundary-start bytes u) c.split).1

pub boundary_back : (t m : List ℕ) (ms : List Mend) (p q : ℕ) → IsUtf8 t → IsUtf8 m → Changes (chars t) (map change_in ms) (chars m) → IsCharBoundary m p → GoesBack ms p q → IsCharBoundary t q
boundary_back t m ms p q u v h b g = boundary_of t q u (goes_back (chars t) (chars m) ms p q h (cut_of m p v b) g)

-- a place with a line and a column is between two characters
pub boundary_at : (bytes : List ℕ) (p line column : ℕ) → IsUtf8 bytes → LineColumn (chars bytes) p line column → IsCharBoundary bytes p
boundary_at bytes p line column u h = boundary_of bytes p u (record { front = h.before; back = h.after; split = h.split; at = zero-add (byte_length h.before) ∙ h.at })
