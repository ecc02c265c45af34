-- A gap that is written is written again.
use Rattle.std.proofs.Common.{ℕ, suc, ◌≡◌, ◌∙◌, ap, Bool, true, false, not, ◌&&◌, ◌||◌, ◌==◌, nat_lt, refl, List, [], ◌∷◌, ◌++◌, IsTrue, if◌then◌else◌}
use Rattle.jsonc_text.specs.Text.{next, no, is_line_end}
use Rattle.jsonc_format.specs.Format.{Style, Frame, State, Piece, lines, in_line, shift, indent, new_line, leads, separates}
use Rattle.jsonc_format.specs.Styles.{IsLineEnd, line_feed, carriage_return, both, IsProper, IsWrittenAgain}

joined_in_line : (s t : List ℕ) → IsTrue (in_line s) → IsTrue (in_line t) → IsTrue (in_line (s ++ t))
joined_in_line [] t h k = k
joined_in_line (c ∷ s) t h k = each (is_line_end c) (in_line s) (in_line (s ++ t)) h (λ g. joined_in_line s t g k)
  where
    each : (x y z : Bool) → IsTrue (not x && y) → (IsTrue y → IsTrue z) → IsTrue (not x && z)
    each true y z h f = h
    each false y z h f = f h

shift_in_line : (level : List ℕ) (b : Bool) → IsTrue (in_line level) → IsTrue (in_line (shift level b))
shift_in_line level true h = h
shift_in_line level false h = refl

levels_in_line : (level : List ℕ) (fs : List Frame) → IsTrue (in_line level) → IsTrue (in_line (indent level fs))
levels_in_line level [] h = refl
levels_in_line level (f ∷ fs) h = joined_in_line (shift level f.shifted) (level ++ indent level fs) (shift_in_line level f.shifted h) (joined_in_line level (indent level fs) h (levels_in_line level fs h))

-- no LF begins it
begins_in_line : (s : List ℕ) → IsTrue (in_line s) → no (λ d. d == 0x0A) (next s) ≡ true
begins_in_line [] h = refl
begins_in_line (c ∷ s) h = each (c == 0x0A) (c == 0x0D) (in_line s) h
  where
    each : (x y z : Bool) → IsTrue (not (x || y) && z) → not x ≡ true
    each true y z h = cc
    each false y z h = refl

pub none_in_line : (s : List ℕ) → IsTrue (in_line s) → lines s ≡ 0
none_in_line [] h = refl
none_in_line (c ∷ s) h = each (c == 0x0A) (c == 0x0D) (no (λ d. d == 0x0A) (next s)) (in_line s) h (none_in_line s)
  where
    each : (x y w z : Bool) {n : ℕ} → IsTrue (not (x || y) && z) → (IsTrue z → n ≡ 0) → (if x || (y && w) then suc n else n) ≡ 0
    each true y w z h f = cc
    each false true w z h f = cc
    each false false w z h f = f h

module _ (y : Style) (proper : IsProper y) where
  one_end : {e : List ℕ} (s : List ℕ) → IsLineEnd e → IsTrue (in_line s) → lines (e ++ s) ≡ 1
  one_end s line_feed h = ap suc (none_in_line s h)
  one_end s carriage_return h = rw (begins_in_line s h) (ap suc (none_in_line s h))
  one_end s both h = ap suc (none_in_line s h)

  two_ends : {e : List ℕ} (s : List ℕ) → IsLineEnd e → IsTrue (in_line s) → lines (e ++ (e ++ s)) ≡ 2
  two_ends s line_feed h = ap suc (one_end s line_feed h)
  two_ends s carriage_return h = ap suc (one_end s carriage_return h)
  two_ends s both h = ap suc (one_end s both h)

  abbrev begun : List Frame → Bool → List ℕ
  begun fs sh = shift y.level sh ++ indent y.level fs

  begun_in_line : (fs : List Frame) (sh : Bool) → IsTrue (in_line (begun fs sh))
  begun_in_line fs sh = joined_in_line (shift y.level sh) (indent y.level fs) (shift_in_line y.level sh proper.stays) (levels_in_line y.level fs proper.stays)

  line_count : (fs : List Frame) (sh b : Bool) → nat_lt 1 (lines (new_line y fs sh b)) ≡ b
  line_count fs sh true = ap (nat_lt 1) (two_ends (begun fs sh) proper.ends (begun_in_line fs sh))
  line_count fs sh false = ap (nat_lt 1) (one_end (begun fs sh) proper.ends (begun_in_line fs sh))

  begins_with_end : {e : List ℕ} (s : List ℕ) → IsLineEnd e → in_line (e ++ s) ≡ false
  begins_with_end s line_feed = refl
  begins_with_end s carriage_return = refl
  begins_with_end s both = refl

  pub line_ends : (fs : List Frame) (sh b : Bool) → in_line (new_line y fs sh b) ≡ false
  line_ends fs sh true = begins_with_end (y.line_end ++ begun fs sh) proper.ends
  line_ends fs sh false = begins_with_end (begun fs sh) proper.ends

  absorbs : (b c : Bool) → (b && c) && c ≡ b && c
  absorbs true true = refl
  absorbs true false = refl
  absorbs false c = refl

  line_again : (fs : List Frame) (sh : Bool) (b c : Bool) → new_line y fs sh (nat_lt 1 (lines (new_line y fs sh (b && c))) && c) ≡ new_line y fs sh (b && c)
  line_again fs sh b c = ap (λ d. new_line y fs sh (d && c)) (line_count fs sh (b && c)) ∙ ap (new_line y fs sh) (absorbs b c)

  -- by what it depends on
  abbrev gap_of : List Frame → Bool → (line follow property in_it comment lead blank bare : Bool) → List ℕ
  gap_of fs sh line follow property in_it comment lead blank bare =
      if line then new_line y fs sh (blank && not (follow || property))
      else (if follow then []
      else (if property || (in_it && (comment || not lead)) then 0x20 ∷ []
      else new_line y fs sh (blank && not bare)))

  abbrev gap_again : List Frame → Bool → (line follow property comment lead bare : Bool) → List ℕ → List ℕ
  gap_again fs sh line follow property comment lead bare g = gap_of fs sh line follow property (in_line g) comment lead (nat_lt 1 (lines g)) bare

  broken : (fs : List Frame) (sh : Bool) (comment lead blank bare : Bool) → gap_again fs sh false false false comment lead bare (new_line y fs sh (blank && not bare)) ≡ new_line y fs sh (blank && not bare)
  broken fs sh comment lead blank bare = rw (line_ends fs sh (blank && not bare)) (line_again fs sh blank (not bare))

  stable : (fs : List Frame) (sh : Bool) (line follow property in_it comment lead blank bare : Bool)
      → gap_again fs sh line follow property comment lead bare (gap_of fs sh line follow property in_it comment lead blank bare) ≡ gap_of fs sh line follow property in_it comment lead blank bare
  stable fs sh true follow property in_it comment lead blank bare = line_again fs sh blank (not (follow || property))
  stable fs sh false true property in_it comment lead blank bare = refl
  stable fs sh false false true in_it comment lead blank bare = refl
  stable fs sh false false false true true lead blank bare = refl
  stable fs sh false false false true false false blank bare = refl
  stable fs sh false false false true false true blank bare = broken fs sh false true blank bare
  stable fs sh false false false false comment lead blank bare = broken fs sh comment lead blank bare

  -- whether an entry leads is asked only where no comment stands before, outside of properties
  pub steady : (fs : List Frame) (sh : Bool) (line follow property in_it comment lead other blank bare : Bool) → (line ≡ false → property ≡ false → comment ≡ false → other ≡ lead)
      → gap_again fs sh line follow property comment other bare (gap_of fs sh line follow property in_it comment lead blank bare) ≡ gap_of fs sh line follow property in_it comment lead blank bare
  steady fs sh true follow property in_it comment lead other blank bare h = line_again fs sh blank (not (follow || property))
  steady fs sh false true property in_it comment lead other blank bare h = refl
  steady fs sh false false true in_it comment lead other blank bare h = refl
  steady fs sh false false false true true lead other blank bare h = refl
  steady fs sh false false false false true lead other blank bare h = broken fs sh true other blank bare
  steady fs sh false false false in_it false lead other blank bare h = rw (h refl refl refl) (stable fs sh false false false in_it false lead blank bare)

  pub written_again : (s : State) (p : Piece) (ps qs : List Piece) → IsWrittenAgain y s p ps qs
  written_again s p ps qs e = rw e (stable s.around s.shifted s.line (separates p.what) s.in_property (in_line p.gap) s.comment (leads p.what ps) (nat_lt 1 (lines p.gap)) s.bare)
