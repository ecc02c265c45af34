-- A walk over a text that finds the places where its lines begin.
use Rattle.std.proofs.Common.{◌≡◌, ◌∙◌, refl, sym, ap, subst, arith, ℕ, ◌+◌, ◌-◌, ◌<◌, ◌≤◌, List, [], ◌∷◌, ◌++◌, length, get_or, chars, slice_index, IsUtf8, Bool, true, false, not, cond, ◌&&◌, ◌||◌, ◌==◌, IsTrue, inl, inr, ◌⊎◌}
use Rattle.std.proofs.lemmas.Bool.{cases_lt}
use Rattle.std.proofs.lemmas.List.{append-nil, append_assoc, get_or_append_left, get_or_default, get_or_push, length_push}
use Rattle.std.proofs.lemmas.List.Sorted.{IsNonDecreasingBy-from_default}
use Rattle.std.specs.List.Sorted.{IsNonDecreasing}
use Rattle.std.proofs.lemmas.Str.{IsCharBoundary-start}
use Rattle.jsonc_text.specs.Chars.{Steps}
use Rattle.jsonc_text.specs.Text.{byte_length, next, no, rest, Many, step, stop}
use Rattle.jsonc_text.specs.Places.{ends_line}
use Rattle.jsonc_text.specs.string.Between.{is_neither}
use Rattle.jsonc_text.proofs.Cuts.{byte_length-append, place_after}
use Rattle.jsonc_parser.specs.Places.{walked_by, LineColumnBy}
use Rattle.jsonc_parser.specs.LineStarts.{AreLineStarts}
use Rattle.jsonc_parser.proofs.Changes.{Later, later}
use Rattle.jsonc_parser.proofs.LineWalk.{lines_rise, place_boundary, text_start, walked_append}

-- the place s is the first of the line k
pub record IsFirst (w : ℕ → ℕ) (t : List ℕ) (s k : ℕ) : Type 0 where
  pub at : LineColumnBy w t s k 1
  pub first : (p line column : ℕ) → LineColumnBy w t p line column → p < s → line < k

-- a walk has passed these characters, and found the places where lines begin so far
pub record HasFound (text rest starts : List ℕ) : Type 0 where
  pub passed : List ℕ
  pub split : text ≡ passed ++ rest
  pub line : (w : ℕ → ℕ) → (walked_by w (1, 1) passed rest).0 ≡ length starts
  pub each : (w : ℕ → ℕ) (i : ℕ) → i < length starts → IsFirst w text (slice_index starts i) (i + 1)

pub found_start : (text starts : List ℕ) → starts ≡ 0 ∷ [] → HasFound text text starts
found_start text starts e = record {
  passed = [];
  split = refl;
  line = λ w. sym (ap length e);
  each = λ w i l.
      (let zero : i ≡ 0 = omega (arith, l, ap length e) in
      let at : slice_index starts i ≡ 0 = ap (slice_index starts) zero ∙ ap (λ s. slice_index s 0) e in
      record {
        at = subst (λ s. LineColumnBy w text s (i + 1) 1) (sym at) (subst (λ k. LineColumnBy w text 0 (k + 1) 1) (sym zero) (text_start w text));
        first = λ p line column x less. absurd (omega (arith, less, at));
      });
}

-- a place that is no further than some characters is in no later line
no_later : (w : ℕ → ℕ) (t passed rest : List ℕ) (n p line column : ℕ) → t ≡ passed ++ rest → (walked_by w (1, 1) passed rest).0 ≡ n → (x : LineColumnBy w t p line column) → (h : List ℕ) → passed ≡ x.before ++ h → x.after ≡ h ++ rest → line ≤ n
no_later w t passed rest n p line column s e x h f g =
    let whole : walked_by w (1, 1) passed rest ≡ walked_by w (walked_by w (1, 1) x.before x.after) h rest =
    ap (λ u. walked_by w (1, 1) u rest) f ∙ walked_append w (1, 1) x.before h rest ∙ ap (λ u. walked_by w (walked_by w (1, 1) x.before u) h rest) (sym g) in
    omega (arith, e, ap (λ q. q.0) whole, ap (λ q. q.0) x.position, lines_rise w (walked_by w (1, 1) x.before x.after) h rest)

-- after a character that ends a line the next one begins
begins_line : (w : ℕ → ℕ) (t passed : List ℕ) (c : ℕ) (r : List ℕ) (n : ℕ) → t ≡ passed ++ c ∷ r → (walked_by w (1, 1) passed (c ∷ r)).0 ≡ n → ends_line c r ≡ true → IsFirst w t (byte_length (passed ++ c ∷ [])) (n + 1)
begins_line w t passed c r n s e ends = record {
  at = record {
    before = passed ++ c ∷ [];
    after = r;
    split = s ∙ sym (append_assoc passed (c ∷ []) r);
    at = refl;
    position =
        sym (walked_append w (1, 1) passed (c ∷ []) r
        ∙ ap (λ b. cond b ((walked_by w (1, 1) passed (c ∷ r)).0 + 1, 1) ((walked_by w (1, 1) passed (c ∷ r)).0, (walked_by w (1, 1) passed (c ∷ r)).1 + w c)) ends
        ∙ ap (λ k. (k + 1, 1)) e);
  };
  first = λ p line column x less. by p line column x less (later x.before x.after passed (c ∷ r) (sym x.split ∙ s));
}
  where
    size : byte_length (passed ++ c ∷ []) ≡ byte_length passed + byte_length (c ∷ [])
    size = byte_length-append passed (c ∷ [])

    behind : (p line column : ℕ) (x : LineColumnBy w t p line column) → p < byte_length (passed ++ c ∷ []) → (h : List ℕ) → x.before ≡ passed ++ h → c ∷ r ≡ h ++ x.after → line < n + 1
    behind p line column x less [] f g =
        let most = no_later w t passed (c ∷ r) n p line column s e x [] (sym (append-nil passed) ∙ sym f ∙ sym (append-nil x.before)) (sym g) in
        omega (arith, most)
    behind p line column x less (y ∷ h) f g =
        let same : c ≡ y = cc in
        let long : byte_length x.before ≡ byte_length passed + (byte_length (y ∷ []) + byte_length h) = ap byte_length f ∙ byte_length-append passed (y ∷ h) ∙ ap (λ k. byte_length passed + k) (byte_length-append (y ∷ []) h) in
        absurd (omega (arith, less, size, long, x.at, ap (λ k. byte_length (k ∷ [])) same))

    by : (p line column : ℕ) (x : LineColumnBy w t p line column) → p < byte_length (passed ++ c ∷ []) → Later x.before x.after passed (c ∷ r) → line < n + 1
    by p line column x less (Later.second_later h f g) = omega (arith, no_later w t passed (c ∷ r) n p line column s e x h f g)
    by p line column x less (Later.first_later h f g) = behind p line column x less h f g

-- one more first place
each_more : (w : ℕ → ℕ) (t starts more : List ℕ) (s : ℕ) → more ≡ starts ++ s ∷ [] → ((i : ℕ) → i < length starts → IsFirst w t (slice_index starts i) (i + 1)) → IsFirst w t s (length starts + 1)
    → (i : ℕ) → i < length more → IsFirst w t (slice_index more i) (i + 1)
each_more w t starts more s e each last i l = elim (cases_lt i (length starts)) [
  | inl low ↦ subst (λ p. IsFirst w t p (i + 1)) (sym (ap (λ m. slice_index m i) e ∙ get_or_append_left starts (s ∷ []) 0 i low)) (each i low)
  | inr high ↦
      let end : i ≡ length starts = omega (arith, l, high, ap length e, length_push starts s) in
      let at : slice_index more i ≡ s = ap (λ m. slice_index m i) e ∙ ap (slice_index (starts ++ s ∷ [])) end ∙ get_or_push starts s 0 (length starts) refl in
      subst (λ p. IsFirst w t p (i + 1)) (sym at) (subst (λ k. IsFirst w t s (k + 1)) (sym end) last)
]

-- a line end is passed
pub found_line : (text : List ℕ) (at after c : ℕ) (starts more : List ℕ) → IsUtf8 text → Steps text at c after → HasFound (chars text) (rest text at) starts → ends_line c (rest text after) ≡ true → more ≡ starts ++ after ∷ []
    → HasFound (chars text) (rest text after) more
found_line text at after c starts more u one x ends e =
    let r = rest text after in
    let whole : chars text ≡ x.passed ++ c ∷ r = x.split ∙ ap (λ t. x.passed ++ t) one.0 in
    let line : (w : ℕ → ℕ) → (walked_by w (1, 1) x.passed (c ∷ r)).0 ≡ length starts = λ w. ap (λ t. (walked_by w (1, 1) x.passed t).0) (sym one.0) ∙ x.line w in
    let split : chars text ≡ (x.passed ++ c ∷ []) ++ r = whole ∙ sym (append_assoc x.passed (c ∷ []) r) in
    let long : after ≡ 0 + byte_length (x.passed ++ c ∷ []) = place_after text (x.passed ++ c ∷ []) 0 after u (IsCharBoundary-start text u) one.1 split in
    let place : byte_length (x.passed ++ c ∷ []) ≡ after = omega (arith, long) in
    let last : (w : ℕ → ℕ) → IsFirst w (chars text) after (length starts + 1) = λ w. subst (λ p. IsFirst w (chars text) p (length starts + 1)) place (begins_line w (chars text) x.passed c r (length starts) whole (line w) ends) in
    record {
      passed = x.passed ++ c ∷ [];
      split = split;
      line = λ w.
          (ap (λ q. q.0) (walked_append w (1, 1) x.passed (c ∷ []) r)
          ∙ ap (λ b. (cond {A = ℕ × ℕ} b ((walked_by w (1, 1) x.passed (c ∷ r)).0 + 1, 1) ((walked_by w (1, 1) x.passed (c ∷ r)).0, (walked_by w (1, 1) x.passed (c ∷ r)).1 + w c)).0) ends
          ∙ ap (λ k. k + 1) (line w)
          ∙ sym (ap length e ∙ length_push starts after));
      each = λ w. each_more w (chars text) starts more after e (x.each w) (last w);
    }

-- another character is passed
found_on : (text : List ℕ) (c : ℕ) (r starts : List ℕ) → HasFound text (c ∷ r) starts → ends_line c r ≡ false → HasFound text r starts
found_on text c r starts x no_end = record {
  passed = x.passed ++ c ∷ [];
  split = x.split ∙ sym (append_assoc x.passed (c ∷ []) r);
  line = λ w.
      (ap (λ q. q.0) (walked_append w (1, 1) x.passed (c ∷ []) r)
      ∙ ap (λ b. (cond {A = ℕ × ℕ} b ((walked_by w (1, 1) x.passed (c ∷ r)).0 + 1, 1) ((walked_by w (1, 1) x.passed (c ∷ r)).0, (walked_by w (1, 1) x.passed (c ∷ r)).1 + w c)).0) no_end
      ∙ x.line w);
  each = x.each;
}

pub found_step : (text : List ℕ) (at after c : ℕ) (starts : List ℕ) → Steps text at c after → HasFound (chars text) (rest text at) starts → ends_line c (rest text after) ≡ false → HasFound (chars text) (rest text after) starts
found_step text at after c starts one x no_end = found_on (chars text) c (rest text after) starts (subst (λ t. HasFound (chars text) t starts) one.0 x) no_end

-- neither an LF nor a CR ends a line
no_line_end : (x y w : Bool) → IsTrue (not (x || y)) → x || (y && w) ≡ false
no_line_end true y w h = cc
no_line_end false true w h = cc
no_line_end false false w h = refl

-- characters that end no line are passed
pub found_run : (text t r starts : List ℕ) → Many (is_neither 0x0A 0x0D) t r → HasFound text t starts → HasFound text r starts
found_run text t r starts stop x = x
found_run text (c ∷ t) r starts (step h m) x = found_run text t r starts m (found_on text c t starts x (no_line_end (c == 0x0A) (c == 0x0D) (no (λ d. d == 0x0A) (next t)) h))

-- all lines are found
pub found_all : (text starts : List ℕ) → HasFound text [] starts → AreLineStarts text starts
found_all text starts x = record {
  begins = λ w i l. (x.each w i l).at;
  first = λ w i l. (x.each w i l).first;
  all = λ w p line column at. no_later w text x.passed [] (length starts) p line column x.split (x.line w) at at.after (sym (append-nil x.passed) ∙ sym x.split ∙ at.split) (sym (append-nil at.after));
}

module _ (text starts : List ℕ) (u : IsUtf8 text) (a : AreLineStarts (chars text) starts) where
  some_line : 1 ≤ length starts
  some_line = a.all (λ c. c) 0 1 1 (text_start (λ c. c) (chars text))

  -- the first line begins with the text
  from_start : slice_index starts 0 ≡ 0
  from_start = elim (cases_lt 0 (slice_index starts 0)) [
    | inl late ↦ absurd (omega (arith, a.first (λ c. c) 0 (omega (arith, some_line)) 0 1 1 (text_start (λ c. c) (chars text)) late))
    | inr none ↦ omega (arith, none)
  ]

  pub rising : IsNonDecreasing starts
  rising = IsNonDecreasingBy-from_default (λ (x : ℕ). x) starts 0 (λ i j h l. elim (cases_lt (slice_index starts j) (slice_index starts i)) [
    | inl less ↦ absurd (omega (arith, h, a.first (λ c. c) i (omega (arith, h, l)) (slice_index starts j) (j + 1) 1 (a.begins (λ c. c) j l) less))
    | inr more ↦ more
  ])

  -- so many lines begin at a place or before it, and the last of them is the one that the place is in
  pub one_before : (place lines : ℕ) → ((k : ℕ) → lines ≤ k → k < length starts → place < slice_index starts k) → 1 ≤ lines
  one_before place lines behind = elim (cases_lt 0 lines) [
    | inl some ↦ omega (arith, some)
    | inr none ↦ absurd (omega (arith, from_start, behind 0 none (omega (arith, some_line))))
  ]

  -- there is no such line
  pub no_line : (w : ℕ → ℕ) (line column : ℕ) → (line ≡ 0) ⊎ (length starts < line) → (p : ℕ) → LineColumnBy w (chars text) p line column → ⊥
  no_line w line column (inl none) p x = omega (arith, none, lines_rise w (1, 1) x.before x.after, ap (λ q. q.0) x.position)
  no_line w line column (inr far) p x = omega (arith, far, a.all w p line column x)

  -- a line begins at its first place, read from the list
  read : (line start : ℕ) → 1 ≤ line → line ≤ length starts → start ≡ get_or starts (line - 1) start → start ≡ slice_index starts (line - 1)
  read line start some few e = e ∙ get_or_default starts (line - 1) start 0 (omega (arith, some, few))

  pub begins_there : (line start : ℕ) → 1 ≤ line → line ≤ length starts → start ≡ get_or starts (line - 1) start → (w : ℕ → ℕ) → LineColumnBy w (chars text) start line 1
  begins_there line start some few e w =
      let back : line - 1 + 1 ≡ line = omega (arith, some) in
      subst (λ s. LineColumnBy w (chars text) s line 1) (sym (read line start some few e)) (subst (λ k. LineColumnBy w (chars text) (slice_index starts (line - 1)) k 1) back (a.begins w (line - 1) (omega (arith, few, some))))

  pub starts_before : (line start place : ℕ) → 1 ≤ line → line ≤ length starts → start ≡ get_or starts (line - 1) start → ((k : ℕ) → k < line → slice_index starts k ≤ place) → start ≤ place
  starts_before line start place some few e to = omega (arith, read line start some few e, to (line - 1) (omega (arith, some)))

  pub none_before : (line start : ℕ) → 1 ≤ line → line ≤ length starts → start ≡ get_or starts (line - 1) start → (w : ℕ → ℕ) (column p : ℕ) → LineColumnBy w (chars text) p line column → start ≤ p
  none_before line start some few e w column p x = elim (cases_lt p start) [
    | inl less ↦ absurd (omega (arith, some, a.first w (line - 1) (omega (arith, few, some)) p line column x (omega (arith, less, read line start some few e))))
    | inr more ↦ more
  ]

  -- a line begins within the text
  pub start_within : (i : ℕ) → i < length starts → slice_index starts i ≤ length text
  start_within i h = (place_boundary (λ k. k) text (slice_index starts i) (i + 1) 1 u (a.begins (λ k. k) i h)).0
