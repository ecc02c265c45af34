-- The next place where a line ends.
use Rattle.std.proofs.Common.{ℕ, suc, ◌≡◌, ◌∙◌, ◌+◌, ◌<◌, ◌≤◌, sym, ap, refl, subst, Bool, true, false, not, ◌&&◌, ◌||◌, ◌==◌, nat_lt, List, [], ◌∷◌, ◌++◌, length, IsTrue, IsUtf8, IsCharBoundary, chars, slice_range, arith, append_assoc, if◌then◌else◌}
use Rattle.jsonc_text.specs.Options.{Options}
use Rattle.jsonc_text.specs.Text.{rest, next, no, starts, Many, stop, step, is_line_end, Spans}
use Rattle.jsonc_text.proofs.Cuts.{chars_between, many_split, same_place}
use Rattle.std.proofs.lemmas.Str.{chars-nil}
use Rattle.jsonc_text.proofs.Basics.{front_same, test_eq}
use Rattle.jsonc_format.specs.declared.gaps.Ends.{Ends}
use Rattle.jsonc_format.specs.Format.{Piece, IsPieces, no_more, piece, in_line, lines, opens, closes}
use Rattle.jsonc_format.specs.Gaps.{AreEnds, IsNextEnd}
use Rattle.jsonc_format.specs.Styles.{first_end, last_line, line_end_of, level_of, depth_after}
use Rattle.jsonc_format.specs.Wishes.{IsLineEndOf, IsLevelOf}
use Rattle.jsonc_format.proofs.LineEnds.{stays, in_line_past, lines_past, is_one, end_step}

joined : (s t : List ℕ) → in_line (s ++ t) ≡ in_line s && in_line t
joined [] t = refl
joined (c ∷ s) t = ap (λ b. not (is_line_end c) && b) (joined s t) ∙ and_joined (not (is_line_end c)) (in_line s) (in_line t)
  where
    and_joined : (a b c : Bool) → a && (b && c) ≡ (a && b) && c
    and_joined true b c = refl
    and_joined false b c = refl

both_in_line : (a b : Bool) → a && b ≡ true → (a ≡ true) × (b ≡ true)
both_in_line true b e = (refl, e)
both_in_line false b e = cc

-- what is behind some of the characters that are passed
many_behind : (p : ℕ → Bool) (g h r : List ℕ) → Many p (g ++ h) [] → Many p (h ++ r) r
many_behind p [] [] r m = stop
many_behind p [] (c ∷ h) r (step k m) = step k (many_behind p [] h r m)
many_behind p (c ∷ g) h r (step k m) = many_behind p g h r m

-- the first character of what is left ends a line
ends_first : (c : ℕ) (s : List ℕ) → IsTrue (no stays (next (c ∷ s))) → in_line (c ∷ s) ≡ false
ends_first c s h = each (is_line_end c) (in_line s) h
  where
    each : (x y : Bool) → IsTrue (not (not x)) → not x && y ≡ false
    each true y h = refl
    each false y h = cc

and_false : (b : Bool) → b && false ≡ false
and_false true = refl
and_false false = refl

-- no line ends before it
pub none_between : (bytes : List ℕ) (from to place : ℕ) → IsUtf8 bytes → Spans bytes from to → IsNextEnd bytes from place → to ≤ place
    → (false ≡ not (in_line (chars (slice_range bytes from to)))) × IsNextEnd bytes to place
none_between bytes from to place u s n h =
    let g = chars (slice_range bytes from to) in
    let b = chars (slice_range bytes to place) in
    let front : rest bytes from ≡ g ++ rest bytes to = chars_between bytes from to u s in
    let back : rest bytes to ≡ b ++ rest bytes place = chars_between bytes to place u (record { from = s.to; to = n.boundary; order = h }) in
    let run = many_split stays n.passed in
    let whole : run.0 ≡ g ++ b = front_same {r = rest bytes place} {s = rest bytes place} refl (sym run.1 ∙ front ∙ ap (λ t. g ++ t) back ∙ sym (append_assoc g b (rest bytes place))) in
    let many : Many stays (g ++ b) [] = subst (λ t. Many stays t []) whole run.2 in
    let stayed = both_in_line (in_line g) (in_line b) (sym (joined g b) ∙ in_line_past many) in
    (sym (ap not stayed.0), record { boundary = n.boundary; passed = subst (λ t. Many stays t (rest bytes place)) (sym back) (many_behind stays g b (rest bytes place) many); stops = n.stops })

-- a line ends at it
pub one_between : (bytes : List ℕ) (from to place : ℕ) → IsUtf8 bytes → Spans bytes from to → IsNextEnd bytes from place → place < to → true ≡ not (in_line (chars (slice_range bytes from to)))
one_between bytes from to place u s n h =
    let g = chars (slice_range bytes from to) in
    let b = chars (slice_range bytes place to) in
    let front : rest bytes from ≡ g ++ rest bytes to = chars_between bytes from to u s in
    let back : rest bytes place ≡ b ++ rest bytes to = chars_between bytes place to u (record { from = n.boundary; to = s.to; order = omega (arith, h) }) in
    let run = many_split stays n.passed in
    let whole : g ≡ run.0 ++ b = front_same {r = rest bytes to} {s = rest bytes to} refl (sym front ∙ run.1 ∙ ap (λ t. run.0 ++ t) back ∙ sym (append_assoc run.0 b (rest bytes to))) in
    let last : in_line b ≡ false = by_first b (rest bytes place) back refl in
    sym (ap not (ap in_line whole ∙ joined run.0 b ∙ ap (λ x. in_line run.0 && x) last ∙ and_false (in_line run.0)))
  where
    by_first : (b t : List ℕ) → t ≡ b ++ rest bytes to → rest bytes place ≡ t → in_line b ≡ false
    by_first [] t e f = let same = same_place bytes place to u n.boundary s.to (f ∙ e) in absurd (omega (arith, h, same))
    by_first (c ∷ b) t e f = ends_first c b (subst (λ t. IsTrue (no stays (next t))) (f ∙ e) n.stops)

-- where no line ends
first_none : (s other : List ℕ) → in_line s ≡ true → first_end s other ≡ other
first_none [] other h = refl
first_none (c ∷ s) other h = each (c == 0x0A) (c == 0x0D) (starts (λ d. d == 0x0A) (next s)) (in_line s) h (first_none s other)
  where
    each : (x y w b : Bool) → not (x || y) && b ≡ true → (b ≡ true → first_end s other ≡ other)
        → (if x then 0x0A ∷ [] else (if y then (if w then 0x0D ∷ 0x0A ∷ [] else 0x0D ∷ []) else first_end s other)) ≡ other
    each true y w b h k = cc
    each false true w b h k = cc
    each false false w b h k = k h

last_none : (s : List ℕ) → in_line s ≡ true → last_line s ≡ []
last_none [] h = refl
last_none (c ∷ s) h = each (is_line_end c) (in_line s) h (last_none s)
  where
    each : (x b : Bool) → not x && b ≡ true → (b ≡ true → last_line s ≡ []) → (if x && b then s else last_line s) ≡ []
    each true b h k = cc
    each false b h k = k h

-- nothing is told where no line ends
module _ (o : Options) (tail : List ℕ) where
  parted : (p : Piece) (t u : List ℕ) → t ≡ p.gap ++ (p.text ++ u) → in_line t ≡ true → (in_line p.gap ≡ true) × (in_line u ≡ true)
  parted p t u e h =
      let front = both_in_line (in_line p.gap) (in_line (p.text ++ u)) (sym (joined p.gap (p.text ++ u)) ∙ sym (ap in_line e) ∙ h) in
      let back = both_in_line (in_line p.text) (in_line u) (sym (joined p.text u) ∙ front.1) in
      (front.0, back.1)

  no_end : {t : List ℕ} {ps : List Piece} → IsPieces o tail t ps → in_line t ≡ true → line_end_of ps tail ≡ 0x0A ∷ []
  no_end (no_more m) h = first_none tail (0x0A ∷ []) h
  no_end (piece p {t = t} {u = u} {ps = ps} g x e l) h = let k = parted p t u e h in first_none p.gap (line_end_of ps tail) k.0 ∙ no_end l k.1

  no_level : (n : ℕ) {t : List ℕ} {ps : List Piece} → IsPieces o tail t ps → in_line t ≡ true → level_of n ps ≡ 0x20 ∷ 0x20 ∷ []
  no_level n (no_more m) h = refl
  no_level n (piece p {t = t} {u = u} {ps = ps} g x e l) h =
      let k = parted p t u e h in
      passed (last_none p.gap k.0) ∙ no_level (depth_after (opens p.what) (closes p.what) n) l k.1
    where
      and_false_here : (b : Bool) → b && false ≡ false
      and_false_here true = refl
      and_false_here false = refl

      passed : last_line p.gap ≡ [] → level_of n (p ∷ ps) ≡ level_of (depth_after (opens p.what) (closes p.what) n) ps
      passed e = rw (e, and_false_here) refl

pub line_feed_told : (o : Options) (bytes : List ℕ) → in_line (chars bytes) ≡ true → IsLineEndOf o bytes (0x0A ∷ [])
line_feed_told o bytes h tail ps p = sym (no_end o tail p h)

pub two_spaces_told : (o : Options) (bytes : List ℕ) → in_line (chars bytes) ≡ true → IsLevelOf o bytes (0x20 ∷ 0x20 ∷ [])
two_spaces_told o bytes h tail ps p = sym (no_level o tail 0 p h)

pub not_false : (b : Bool) → false ≡ not b → b ≡ true
not_false true e = refl
not_false false e = cc

-- an empty text
pub empty_in_line : (bytes : List ℕ) (b : Bool) → b ≡ (length bytes == 0) → b ≡ true → false ≡ not (in_line (chars bytes))
empty_in_line [] b e f = sym (ap (λ s. not (in_line s)) chars-nil)
empty_in_line (x ∷ xs) b e f = absurd (let k : length (x ∷ xs) ≡ 0 = test_eq (length (x ∷ xs)) 0 (sym e ∙ f) in omega (arith, k))

-- from the start on
pub first_next : (bytes : List ℕ) (from place : ℕ) → IsCharBoundary bytes place → Many stays (rest bytes from) (rest bytes place) → IsTrue (no stays (next (rest bytes place))) → IsNextEnd bytes from place
first_next bytes from place b m s = record { boundary = b; passed = m; stops = s }

-- where no line ends, more than one does not
lines_none : (s : List ℕ) → in_line s ≡ true → lines s ≡ 0
lines_none [] h = refl
lines_none (c ∷ s) h = each (c == 0x0A) (c == 0x0D) (no (λ d. d == 0x0A) (next s)) (in_line s) h (lines_none s)
  where
    each : (x y w b : Bool) → not (x || y) && b ≡ true → (b ≡ true → lines s ≡ 0) → (if x || (y && w) then suc (lines s) else lines s) ≡ 0
    each true y w b h k = cc
    each false true w b h k = cc
    each false false w b h k = k h

-- the characters from the end of a line on, as far as another place
record EndsAt (bytes b : List ℕ) (to place : ℕ) : Type 0 where
  first : ℕ
  others : List ℕ
  parts : b ≡ first ∷ others
  left : rest bytes (place + 1) ≡ others ++ rest bytes to
  boundary : IsCharBoundary bytes (place + 1)

ends_at : (bytes b : List ℕ) (from to place : ℕ) → IsUtf8 bytes → Spans bytes from to → IsNextEnd bytes from place → place < to → rest bytes place ≡ b ++ rest bytes to → EndsAt bytes b to place
ends_at bytes [] from to place u s n h e = let same = same_place bytes place to u n.boundary s.to e in absurd (omega (arith, h, same))
ends_at bytes (c ∷ d) from to place u s n h e =
    let past = end_step bytes (d ++ rest bytes to) place c u n.boundary e (is_one c (subst (λ t. IsTrue (no stays (next t))) e n.stops)) in
    record { first = c; others = d; parts = refl; left = past.0; boundary = past.1 }

ended : (bytes : List ℕ) (from to place : ℕ) → IsUtf8 bytes → Spans bytes from to → IsNextEnd bytes from place → place < to → EndsAt bytes (chars (slice_range bytes place to)) to place
ended bytes from to place u s n h =
    ends_at bytes (chars (slice_range bytes place to)) from to place u s n h (chars_between bytes place to u (record { from = n.boundary; to = s.to; order = omega (arith, h) }))

pub after_first : (bytes : List ℕ) (from to place : ℕ) → IsUtf8 bytes → Spans bytes from to → IsNextEnd bytes from place → place < to → IsCharBoundary bytes (place + 1)
after_first bytes from to place u s n h = (ended bytes from to place u s n h).boundary

at_most_one : (x : Bool) (n : ℕ) → n ≡ 0 → nat_lt 1 (if x then suc n else n) ≡ false
at_most_one true n e = rw e refl
at_most_one false n e = rw e refl

-- one line ends, where the next one ends no sooner than at the other place
pub one_end_between : (bytes : List ℕ) (from to place after : ℕ) → IsUtf8 bytes → Spans bytes from to → IsNextEnd bytes from place → place < to → IsNextEnd bytes (place + 1) after → to ≤ after
    → AreEnds (record { any = true; several = false }) (chars (slice_range bytes from to)) × IsNextEnd bytes to after
one_end_between bytes from to place after u s n h m k =
    let g = chars (slice_range bytes from to) in
    let b = chars (slice_range bytes place to) in
    let e = ended bytes from to place u s n h in
    let d = chars (slice_range bytes (place + 1) to) in
    let more : Spans bytes (place + 1) to = record { from = e.boundary; to = s.to; order = omega (arith, h) } in
    let none = none_between bytes (place + 1) to after u more m k in
    let front : rest bytes from ≡ g ++ rest bytes to = chars_between bytes from to u s in
    let back : rest bytes place ≡ b ++ rest bytes to = chars_between bytes place to u (record { from = n.boundary; to = s.to; order = omega (arith, h) }) in
    let run = many_split stays n.passed in
    let whole : g ≡ run.0 ++ b = front_same {r = rest bytes to} {s = rest bytes to} refl (sym front ∙ run.1 ∙ ap (λ t. run.0 ++ t) back ∙ sym (append_assoc run.0 b (rest bytes to))) in
    let others : e.others ≡ d = front_same {r = rest bytes to} {s = rest bytes to} refl (sym e.left ∙ chars_between bytes (place + 1) to u more) in
    let empty : lines e.others ≡ 0 = ap lines others ∙ lines_none d (not_false (in_line d) none.0) in
    let counted : lines g ≡ lines (e.first ∷ e.others) = ap lines whole ∙ lines_past (many_behind stays [] run.0 b run.2) ∙ ap lines e.parts in
    (record { any = one_between bytes from to place u s n h; several = sym (ap (nat_lt 1) counted ∙ at_most_one _ (lines e.others) empty) }, none.1)

pub no_ends : (gap : List ℕ) → false ≡ not (in_line gap) → AreEnds (record { any = false; several = false }) gap
no_ends gap h = record { any = h; several = sym (rw (lines_none gap (not_false (in_line gap) h)) refl) }

pub in_line_told : (e : Ends) (gap : List ℕ) → AreEnds e gap → not e.any ≡ in_line gap
in_line_told e gap h = ap not h.any ∙ twice (in_line gap)
  where
    twice : (b : Bool) → not (not b) ≡ b
    twice true = refl
    twice false = refl
