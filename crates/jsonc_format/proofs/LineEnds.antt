-- Where lines end in a text, at its places.
use Rattle.std.proofs.Common.{ℕ, zero, suc, ◌≡◌, ◌∙◌, ◌+◌, ◌<◌, ◌≤◌, sym, ap, refl, subst, Bool, true, false, not, ◌&&◌, ◌||◌, ◌==◌, nat_lt, List, [], ◌∷◌, length, IsTrue, IsUtf8, IsCharBoundary, chars, arith, if◌then◌else◌, ◌≢◌, Option, Some, None}
use Rattle.jsonc_text.specs.Text.{rest, next, no, starts, Many, stop, step, is_line_end, byte_length}
use Rattle.jsonc_text.specs.Chars.{Steps}
use Rattle.jsonc_text.specs.string.Between.{LacksAt, is_neither}
use Rattle.jsonc_text.proofs.Cuts.{end_place, within_text, rest_past, byte_length-one}
use Rattle.jsonc_text.proofs.Basics.{test_eq}
use Rattle.std.specs.Char.{len_utf8}
use Rattle.jsonc_text.proofs.CharacterSteps.{rest_end}
use Rattle.jsonc_format.specs.Format.{in_line, lines}
use Rattle.jsonc_format.specs.Styles.{first_end, last_line}
use Rattle.jsonc_format.specs.Gaps.{IsPastLine}

abbrev pub stays : ℕ → Bool
stays = is_neither 0x0A 0x0D

-- no line ends in characters that are no line ends
pub in_line_past : {t u : List ℕ} → Many stays t u → in_line t ≡ in_line u
in_line_past stop = refl
in_line_past (step h m) = rw h (in_line_past m)

no_end : (x y w : Bool) {n : ℕ} → IsTrue (not (x || y)) → (if x || (y && w) then suc n else n) ≡ n
no_end true y w h = cc
no_end false true w h = cc
no_end false false w h = refl

pub lines_past : {t u : List ℕ} → Many stays t u → lines t ≡ lines u
lines_past stop = refl
lines_past (step {c = c} {t = t} h m) = no_end (c == 0x0A) (c == 0x0D) (no (λ d. d == 0x0A) (next t)) h ∙ lines_past m

-- the next character ends a line
stopped : (c : ℕ) (s : List ℕ) → IsTrue (no stays (next (c ∷ s))) → in_line (c ∷ s) ≡ false
stopped c s h = each (is_line_end c) (in_line s) h
  where
    each : (x y : Bool) → IsTrue (not (not x)) → not x && y ≡ false
    each true y h = refl
    each false y h = cc

-- a line ends before the end of the text
pub ends_there : (bytes : List ℕ) (r : ℕ) → IsUtf8 bytes → IsCharBoundary bytes r → Many stays (chars bytes) (rest bytes r) → LacksAt stays bytes r
    → nat_lt r (length bytes) ≡ not (in_line (chars bytes))
ends_there bytes r u b m l = by_rest (rest bytes r) refl
  where
    before : (c : ℕ) (s : List ℕ) → rest bytes r ≡ c ∷ s → nat_lt r (length bytes) ≡ true
    before c s e = let k : r < length bytes = within_text bytes s r c b e in grind (arith, k)

    at_end : rest bytes r ≡ [] → nat_lt r (length bytes) ≡ false
    at_end e = let k : r ≡ length bytes = end_place bytes r u b e in grind (arith, k)

    by_rest : (s : List ℕ) → rest bytes r ≡ s → nat_lt r (length bytes) ≡ not (in_line (chars bytes))
    by_rest [] e = at_end e ∙ ap not (sym (in_line_past m ∙ ap in_line e))
    by_rest (c ∷ s) e = before c s e ∙ ap not (sym (in_line_past m ∙ ap in_line e ∙ stopped c s (rw e at l)))

-- a place where a line ends, or the end of the text
pub past_end : (bytes : List ℕ) (place : ℕ) → IsCharBoundary bytes place → rest bytes place ≡ [] → IsPastLine bytes place place
past_end bytes place b e = record { boundary = b; counted = rw e refl }

pub past_both : (bytes : List ℕ) (place : ℕ) → Steps bytes place 0x0D (place + 1) → Steps bytes (place + 1) 0x0A (place + 1 + 1) → IsPastLine bytes place (place + 2)
past_both bytes place s t =
    let e : place + 1 + 1 ≡ place + 2 = omega arith in
    subst (IsPastLine bytes place) e (record { boundary = t.1; counted = rw (s.0, t.0) refl })

one_end : (c : ℕ) (s : List ℕ) → IsTrue (is_line_end c) → (c ≡ 0x0D → IsTrue (no (λ d. d == 0x0A) (next s))) → lines (c ∷ s) ≡ suc (lines s)
one_end c s h k = each (c == 0x0A) (c == 0x0D) (no (λ d. d == 0x0A) (next s)) h (λ e. k (grind (arith, e)))
  where
    each : (x y w : Bool) {n : ℕ} → IsTrue (x || y) → (y ≡ true → IsTrue w) → (if x || (y && w) then suc n else n) ≡ suc n
    each true y w h k = refl
    each false true w h k = rw (k refl) refl
    each false false w h k = cc

one_byte : (c : ℕ) → IsTrue (is_line_end c) → byte_length (c ∷ []) ≡ 1
one_byte c h = byte_length-one c ∙ each (c == 0x0A) (c == 0x0D) h (λ e. test_eq c 0x0A e) (λ e. test_eq c 0x0D e)
  where
    each : (x y : Bool) → IsTrue (x || y) → (x ≡ true → c ≡ 0x0A) → (y ≡ true → c ≡ 0x0D) → len_utf8 c ≡ 1
    each true y h f g = ap len_utf8 (f refl)
    each false true h f g = ap len_utf8 (g refl)
    each false false h f g = cc

pub is_one : (c : ℕ) → IsTrue (not (not (is_line_end c))) → IsTrue (is_line_end c)
is_one c h = each (is_line_end c) h
  where
    each : (x : Bool) → IsTrue (not (not x)) → IsTrue x
    each true h = refl
    each false h = h

-- what follows the character that ends a line
pub end_step : (bytes s : List ℕ) (place c : ℕ) → IsUtf8 bytes → IsCharBoundary bytes place → rest bytes place ≡ c ∷ s → IsTrue (is_line_end c) → (rest bytes (place + 1) ≡ s) × IsCharBoundary bytes (place + 1)
end_step bytes s place c u b e h =
    let past = rest_past bytes (c ∷ []) s place u b e in
    let one : byte_length (c ∷ []) ≡ 1 = one_byte c h in
    (rw one at past.0, rw one at past.1)

pub past_one : (bytes : List ℕ) (place : ℕ) → IsUtf8 bytes → IsCharBoundary bytes place → place ≢ length bytes → LacksAt stays bytes place
    → (rest bytes place ≡ 0x0D ∷ rest bytes (place + 1) → IsTrue (no (λ d. d == 0x0A) (next (rest bytes (place + 1))))) → IsPastLine bytes place (place + 1)
past_one bytes place u b i l f = by_rest (rest bytes place) refl
  where
    by_rest : (s : List ℕ) → rest bytes place ≡ s → IsPastLine bytes place (place + 1)
    by_rest [] e = absurd (i (end_place bytes place u b e))
    by_rest (c ∷ s) e =
        let h : IsTrue (is_line_end c) = is_one c (rw e at l) in
        let past = end_step bytes s place c u b e h in
        let same : rest bytes (place + 1) ≡ s = past.0 in
        let counted : lines (c ∷ s) ≡ suc (lines s) = one_end c s h (λ q. rw same at (f (e ∙ ap (λ d. d ∷ s) q ∙ ap (λ r. 0x0D ∷ r) (sym same)))) in
        let broken : in_line (c ∷ s) ≡ false = stopped c s (rw e at l) in
        record { boundary = past.1; counted = rw (e, same) (rw broken counted) }

pub past_feed : (bytes : List ℕ) (place : ℕ) → IsUtf8 bytes → IsCharBoundary bytes place → place ≢ length bytes → LacksAt stays bytes place → LacksAt (λ c. c == 0x0D) bytes place
    → IsPastLine bytes place (place + 1)
past_feed bytes place u b i l n = past_one bytes place u b i l (λ e. let z : IsTrue false = rw e at n in cc)

some_lt : (n : ℕ) → nat_lt 0 (suc n) ≡ true
some_lt n = grind arith

one_lt : (n : ℕ) → nat_lt 1 (suc (suc n)) ≡ true
one_lt n = grind arith

count_lines : (s : List ℕ) → nat_lt 0 (lines s) ≡ not (in_line s)
count_lines [] = refl
count_lines (c ∷ s) = each (c == 0x0A) (c == 0x0D) (no (λ d. d == 0x0A) (next s)) (in_line s) (lines s) (count_lines s) (after_return s)
  where
    after_return : (s : List ℕ) → no (λ d. d == 0x0A) (next s) ≡ false → nat_lt 0 (lines s) ≡ true
    after_return [] h = cc
    after_return (d ∷ s) h = by_feed (d == 0x0A) h
      where
        by_feed : (x : Bool) → not x ≡ false → nat_lt 0 (if x || (d == 0x0D && no (λ e. e == 0x0A) (next s)) then suc (lines s) else lines s) ≡ true
        by_feed true h = some_lt (lines s)
        by_feed false h = cc

    each : (x y w z : Bool) (n : ℕ) → nat_lt 0 n ≡ not z → (w ≡ false → nat_lt 0 n ≡ true) → nat_lt 0 (if x || (y && w) then suc n else n) ≡ not (not (x || y) && z)
    each true y w z n h f = some_lt n
    each false true true z n h f = some_lt n
    each false true false z n h f = f refl
    each false false w z n h f = h

-- more than one line ends where one does after the first one
pub ends_again : (bytes : List ℕ) (r next_place : ℕ) → Many stays (chars bytes) (rest bytes r) → LacksAt stays bytes r → IsPastLine bytes r next_place
    → not (in_line (rest bytes next_place)) ≡ nat_lt 1 (lines (chars bytes))
ends_again bytes r n m l p = by_rest (rest bytes r) refl
  where
    suc_lt : (n : ℕ) → nat_lt 1 (suc n) ≡ nat_lt 0 n
    suc_lt zero = refl
    suc_lt (suc n) = one_lt n ∙ sym (some_lt n)

    by_rest : (s : List ℕ) → rest bytes r ≡ s → not (in_line (rest bytes n)) ≡ nat_lt 1 (lines (chars bytes))
    by_rest [] e =
        let none : 0 ≡ lines (rest bytes n) = rw e at p.counted in
        sym (count_lines (rest bytes n)) ∙ ap (nat_lt 0) (sym none) ∙ sym (ap (nat_lt 1) (lines_past m ∙ ap lines e))
    by_rest (c ∷ s) e =
        let broken : in_line (rest bytes r) ≡ false = ap in_line e ∙ stopped c s (rw e at l) in
        let counted : lines (rest bytes r) ≡ suc (lines (rest bytes n)) = rw broken at p.counted in
        sym (count_lines (rest bytes n)) ∙ sym (suc_lt (lines (rest bytes n))) ∙ ap (nat_lt 1) (sym (lines_past m ∙ counted))

first_past : {t u : List ℕ} → Many stays t u → (other : List ℕ) → first_end t other ≡ first_end u other
first_past stop other = refl
first_past (step {c = c} {t = t} h m) other = each (c == 0x0A) (c == 0x0D) (0x0A ∷ []) (if starts (λ d. d == 0x0A) (next t) then 0x0D ∷ 0x0A ∷ [] else 0x0D ∷ []) (first_end t other) h ∙ first_past m other
  where
    each : (x y : Bool) (a b d : List ℕ) → IsTrue (not (x || y)) → (if x then a else (if y then b else d)) ≡ d
    each true y a b d h = cc
    each false true a b d h = cc
    each false false a b d h = refl

pub no_first : (bytes : List ℕ) (r : ℕ) → Many stays (chars bytes) (rest bytes r) → rest bytes r ≡ [] → (other : List ℕ) → first_end (chars bytes) other ≡ other
no_first bytes r m e other = first_past m other ∙ ap (λ s. first_end s other) e

pub first_both : (bytes : List ℕ) (r : ℕ) → Many stays (chars bytes) (rest bytes r) → Steps bytes r 0x0D (r + 1) → Steps bytes (r + 1) 0x0A (r + 1 + 1) → (other : List ℕ)
    → first_end (chars bytes) other ≡ 0x0D ∷ 0x0A ∷ []
first_both bytes r m s t other = first_past m other ∙ ap (λ s. first_end s other) (s.0 ∙ ap (λ u. 0x0D ∷ u) t.0)

no_starts : (p : ℕ → Bool) (n : Option ℕ) → IsTrue (no p n) → starts p n ≡ false
no_starts p None h = refl
no_starts p (Some c) h = each (p c) h
  where
    each : (b : Bool) → IsTrue (not b) → b ≡ false
    each true h = cc
    each false h = refl

pub first_return : (bytes : List ℕ) (r : ℕ) → Many stays (chars bytes) (rest bytes r) → Steps bytes r 0x0D (r + 1) → LacksAt (λ c. c == 0x0A) bytes (r + 1) → (other : List ℕ)
    → first_end (chars bytes) other ≡ 0x0D ∷ []
first_return bytes r m s n other =
    first_past m other ∙ ap (λ s. first_end s other) s.0
    ∙ ap (λ b. if b then 0x0D ∷ 0x0A ∷ [] else 0x0D ∷ []) (no_starts (λ d. d == 0x0A) (next (rest bytes (r + 1))) n)

pub first_feed : (bytes : List ℕ) (r : ℕ) → IsUtf8 bytes → IsCharBoundary bytes r → r ≢ length bytes → Many stays (chars bytes) (rest bytes r) → LacksAt stays bytes r → LacksAt (λ c. c == 0x0D) bytes r
    → (other : List ℕ) → first_end (chars bytes) other ≡ 0x0A ∷ []
first_feed bytes r u b i m l n other = first_past m other ∙ by_rest (rest bytes r) refl
  where
    each : (x y : Bool) (a d : List ℕ) → IsTrue (x || y) → IsTrue (not y) → (if x then 0x0A ∷ [] else (if y then a else d)) ≡ 0x0A ∷ []
    each true y a d h k = refl
    each false true a d h k = cc
    each false false a d h k = cc

    by_rest : (s : List ℕ) → rest bytes r ≡ s → first_end (rest bytes r) other ≡ 0x0A ∷ []
    by_rest [] e = absurd (i (end_place bytes r u b e))
    by_rest (c ∷ s) e = ap (λ s. first_end s other) e ∙ each (c == 0x0A) (c == 0x0D) (if starts (λ d. d == 0x0A) (next s) then 0x0D ∷ 0x0A ∷ [] else 0x0D ∷ []) (first_end s other) (is_one c (rw e at l)) (rw e at n)

none_last : (s : List ℕ) → in_line s ≡ true → last_line s ≡ []
none_last [] h = refl
none_last (c ∷ s) h = each (is_line_end c) (in_line s) h (none_last s)
  where
    each : (x y : Bool) → not x && y ≡ true → (y ≡ true → last_line s ≡ []) → (if x && y then s else last_line s) ≡ []
    each true y h f = cc
    each false y h f = f h

last_past : {t u : List ℕ} → Many stays t u → last_line t ≡ (if in_line u then [] else last_line u)
last_past {t} stop = each (in_line t) refl
  where
    each : (b : Bool) → in_line t ≡ b → last_line t ≡ (if b then [] else last_line t)
    each true e = none_last t e
    each false e = refl
last_past (step {c = c} {t = t} h m) = each (is_line_end c) (in_line t) h ∙ last_past m
  where
    each : (x y : Bool) → IsTrue (not x) → (if x && y then t else last_line t) ≡ last_line t
    each true y h = cc
    each false y h = refl

-- the last line, as far as a place where a line ends or the text does
pub record LastUpTo (bytes line : List ℕ) (place : ℕ) : Type 0 where
  pub boundary : IsCharBoundary bytes place
  pub stops : LacksAt stays bytes place
  pub same : last_line (chars bytes) ≡ (if in_line (rest bytes place) then chars line else last_line (rest bytes place))

pub last_begun : (bytes line : List ℕ) (place : ℕ) → IsCharBoundary bytes place → Many stays (chars bytes) (rest bytes place) → LacksAt stays bytes place → chars line ≡ [] → LastUpTo bytes line place
last_begun bytes line place b m l e = record { boundary = b; stops = l; same = rw e (last_past m) }

pub last_more : (bytes line more : List ℕ) (place new : ℕ) → IsUtf8 bytes → place < length bytes → LastUpTo bytes line place → chars more ≡ rest bytes (place + 1)
    → IsCharBoundary bytes new → Many stays (rest bytes (place + 1)) (rest bytes new) → LacksAt stays bytes new → LastUpTo bytes more new
last_more bytes line more place new u i was e b m l = record { boundary = b; stops = l; same = by_rest (rest bytes place) refl }
  where
    by_rest : (s : List ℕ) → rest bytes place ≡ s → last_line (chars bytes) ≡ (if in_line (rest bytes new) then chars more else last_line (rest bytes new))
    by_rest [] q = let k : place ≡ length bytes = end_place bytes place u was.boundary q in absurd (omega (arith, i, k))
    by_rest (c ∷ s) q =
        let h : IsTrue (is_line_end c) = is_one c (rw q at was.stops) in
        let past = end_step bytes s place c u was.boundary q h in
        let broken : in_line (c ∷ s) ≡ false = stopped c s (rw q at was.stops) in
        let whole : last_line (chars bytes) ≡ last_line (c ∷ s) = rw (q, broken) at was.same in
        let run : Many stays s (rest bytes new) = rw past.0 at m in
        let here : s ≡ chars more = sym past.0 ∙ sym e in
        whole ∙ each (is_line_end c) (in_line s) (in_line (rest bytes new)) s (last_line s) (last_line (rest bytes new)) h (in_line_past run) (last_past run)
        ∙ ap (λ l. if in_line (rest bytes new) then l else last_line (rest bytes new)) here
      where
        each : (x y z : Bool) (l m n : List ℕ) → IsTrue x → y ≡ z → m ≡ (if z then [] else n) → (if x && y then l else m) ≡ (if z then l else n)
        each true true true l m n h e f = refl
        each true false false l m n h e f = f
        each true true false l m n h e f = cc
        each true false true l m n h e f = cc
        each false y z l m n h e f = cc

pub last_whole : (bytes line : List ℕ) (place : ℕ) → length bytes ≤ place → LastUpTo bytes line place → chars line ≡ last_line (chars bytes)
last_whole bytes line place h was = sym (rw (rest_end bytes place h) at was.same)

-- the place after the end of a line
pub after_end : (bytes line : List ℕ) (place : ℕ) → IsUtf8 bytes → place < length bytes → LastUpTo bytes line place → IsCharBoundary bytes (place + 1)
after_end bytes line place u i was = by_rest (rest bytes place) refl
  where
    by_rest : (s : List ℕ) → rest bytes place ≡ s → IsCharBoundary bytes (place + 1)
    by_rest [] q = let k : place ≡ length bytes = end_place bytes place u was.boundary q in absurd (omega (arith, i, k))
    by_rest (c ∷ s) q = (end_step bytes s place c u was.boundary q (is_one c (rw q at was.stops))).1
