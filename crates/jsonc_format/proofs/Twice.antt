-- A text is on the same lines once it is formatted.
use Rattle.std.proofs.Common.{ℕ, zero, suc, ◌≡◌, Bool, true, false, not, ◌&&◌, ◌||◌, ◌==◌, refl, List, [], ◌∷◌, IsTrue, if◌then◌else◌}
use Rattle.jsonc_text.specs.Places.{is_comment}
use Rattle.jsonc_text.proofs.Basics.{and_both}
use Rattle.jsonc_format.specs.Format.{Style, Frame, State, Piece, mark, opens, closes, separates, is_line_comment, in_line, on_one_line, is_flat, new_line, gap_in_line, gap_on_lines, gap_in, without_first, is_object, past}
use Rattle.jsonc_format.specs.Laws.{respaced_after, spread_at, flat_to, fills, closed_on_it}
use Rattle.jsonc_format.specs.Styles.{IsProper}
use Rattle.jsonc_format.proofs.Again.{line_ends}

all_three : (a b c : Bool) → c ≡ false → a && (b && c) ≡ false
all_three true true c e = e
all_three true false c e = refl
all_three false b c e = refl

each_true : (a b c : Bool) → a ≡ true → IsTrue b → c ≡ true → a && (b && c) ≡ true
each_true a true c d e f = rw d f
each_true a false c d e f = cc

fills_full : (n : ℕ) (ps : List Piece) → IsTrue (fills n false ps)
fills_full zero ps = refl
fills_full (suc n) ps = refl

spread_out : (n : ℕ) (fs : List Frame) → IsTrue (spread_at fs (suc n)) → IsTrue (spread_at (without_first fs) n)
spread_out n [] h = h
spread_out n (f ∷ fs) h = h

flat_out : (n : ℕ) (fs : List Frame) → IsTrue (flat_to fs (suc n)) → IsTrue (flat_to (without_first fs) n)
flat_out n [] h = h
flat_out n (f ∷ fs) h = (and_both (not f.spread) (flat_to fs n) h).1

flat_first : (n : ℕ) (f : Frame) (fs : List Frame) → IsTrue (flat_to (f ∷ fs) n) → IsTrue (not f.spread)
flat_first zero f fs h = h
flat_first (suc n) f fs h = (and_both (not f.spread) (flat_to fs n) h).0

module _ (y : Style) where
  -- after a piece, by what that is
  abbrev pub after_of : State → (op cl fo cm li colon brace : Bool) → List Piece → State
  after_of s op cl fo cm li colon brace ps =
      if op then past (record { object = brace; spread = y.expands || not (is_flat ps); shifted = s.shifted } ∷ s.around) true false false
      else (if cl then past (without_first s.around) false false false
      else (if fo then past s.around false colon (colon && s.shifted)
      else (if cm then record s { bare = false; shifted = (li && s.in_property) || s.shifted; comment = true; line = li }
      else past s.around false (is_object s.around && not s.in_property) false)))

  -- a container on several lines is so once more
  abbrev StaysSpread : List Piece → Type 0
  StaysSpread ps = (n : ℕ) (s : State) → IsTrue (spread_at s.around n) → IsTrue (fills n s.bare ps) → on_one_line n (respaced_after y s ps) ≡ false

  spread_step : (n : ℕ) (s : State) (op cl fo cm li colon brace : Bool) (ps : List Piece) → StaysSpread ps → IsTrue (spread_at s.around n)
      → (a b : Bool) → (n ≡ 0 → cl ≡ true → a ≡ false) → a && (b && closed_on_it op cl n (respaced_after y (after_of s op cl fo cm li colon brace ps) ps)) ≡ false
  spread_step n s true cl fo cm li colon brace ps ih h a b g = all_three a b _ (ih (suc n) (past (record { object = brace; spread = y.expands || not (is_flat ps); shifted = s.shifted } ∷ s.around) true false false) h refl)
  spread_step zero s false true fo cm li colon brace ps ih h a b g = rw (g refl refl) refl
  spread_step (suc n) s false true fo cm li colon brace ps ih h a b g = all_three a b _ (ih n (past (without_first s.around) false false false) (spread_out n s.around h) (fills_full n ps))
  spread_step n s false false true cm li colon brace ps ih h a b g = all_three a b _ (ih n (past s.around false colon (colon && s.shifted)) h (fills_full n ps))
  spread_step n s false false false true li colon brace ps ih h a b g = all_three a b _ (ih n (record s { bare = false; shifted = (li && s.in_property) || s.shifted; comment = true; line = li }) h (fills_full n ps))
  spread_step n s false false false false li colon brace ps ih h a b g = all_three a b _ (ih n (past s.around false (is_object s.around && not s.in_property) false) h (fills_full n ps))

  unfilled : (b : Bool) (p : Piece) (ps : List Piece) → IsTrue (fills 0 b (p ∷ ps)) → IsTrue (not (b && closes p.what))
  unfilled true p ps h = h
  unfilled false p ps h = refl

  last_gap : IsProper y → (s : State) (fs : List Frame) (p : Piece) (ps : List Piece) → IsTrue (spread_at fs 0) → IsTrue (fills 0 s.bare (p ∷ ps)) → closes p.what ≡ true → in_line (gap_in y s fs p ps) ≡ false
  last_gap proper s [] p ps h k e = cc
  last_gap proper s (f ∷ fs) p ps h k e = each s.bare (closes p.what) f.spread (gap_in_line f.object s p.what) (gap_on_lines y s p ps) e (unfilled s.bare p ps k) h
    where
      each : (b c d : Bool) (x z : List ℕ) → c ≡ true → IsTrue (not (b && c)) → IsTrue d
          → in_line (if b && c then [] else (if not d then x else (if c then new_line y fs f.shifted false else z))) ≡ false
      each true true d x z e k h = cc
      each true false d x z e k h = cc
      each false false d x z e k h = cc
      each false true true x z e k h = line_ends y proper fs f.shifted false
      each false true false x z e k h = cc

  at_zero : (n : ℕ) (s : State) (p : Piece) (ps : List Piece) → IsProper y → IsTrue (spread_at s.around n) → IsTrue (fills n s.bare (p ∷ ps)) → n ≡ 0 → closes p.what ≡ true → in_line (gap_in y s s.around p ps) ≡ false
  at_zero zero s p ps proper h k e f = last_gap proper s s.around p ps h k f
  at_zero (suc n) s p ps proper h k e f = cc

  pub stays_spread : IsProper y → (ps : List Piece) → StaysSpread ps
  stays_spread proper [] n s h k = refl
  stays_spread proper (p ∷ ps) n s h k =
      spread_step n s (opens p.what) (closes p.what) (separates p.what) (is_comment p.what) (is_line_comment p.what) (mark p.what == 0x3A) (mark p.what == 0x7B) ps
      (stays_spread proper ps) h (in_line (gap_in y s s.around p ps)) (in_line p.text) (at_zero n s p ps proper h k)

  -- one level less to close
  abbrev FewerClose : List Piece → Type 0
  FewerClose ps = (n : ℕ) → IsTrue (on_one_line (suc n) ps) → IsTrue (on_one_line n ps)

  fewer_step : (n : ℕ) (op cl : Bool) (ps : List Piece) → FewerClose ps → IsTrue (closed_on_it op cl (suc n) ps) → IsTrue (closed_on_it op cl n ps)
  fewer_step n true cl ps ih h = ih (suc n) h
  fewer_step zero false true ps ih h = refl
  fewer_step (suc n) false true ps ih h = ih n h
  fewer_step n false false ps ih h = ih n h

  fewer_close : (ps : List Piece) → FewerClose ps
  fewer_close [] n h = h
  fewer_close (p ∷ ps) n h = each (in_line p.gap) (in_line p.text) h (fewer_step n (opens p.what) (closes p.what) ps (fewer_close ps))
    where
      each : (a b : Bool) {c d : Bool} → IsTrue (a && (b && c)) → (IsTrue c → IsTrue d) → IsTrue (a && (b && d))
      each true true h f = f h
      each true false h f = h
      each false b h f = h

  none_to_close : (n : ℕ) (ps : List Piece) → IsTrue (on_one_line n ps) → IsTrue (on_one_line 0 ps)
  none_to_close zero ps h = h
  none_to_close (suc n) ps h = none_to_close n ps (fewer_close ps n h)

  is_flat_there : (ps : List Piece) → IsTrue (on_one_line 0 ps) → is_flat ps ≡ true
  is_flat_there [] h = h
  is_flat_there (p ∷ ps) h = each (closes p.what) (on_one_line 0 (p ∷ ps)) h
    where
      each : (a b : Bool) → IsTrue b → a || b ≡ true
      each true b h = refl
      each false b h = h

  -- a container on one line is so once more
  abbrev StaysFlat : List Piece → Type 0
  StaysFlat ps = (n : ℕ) (s : State) → IsTrue (flat_to s.around n) → IsTrue (on_one_line n ps) → on_one_line n (respaced_after y s ps) ≡ true

  flat_step : (n : ℕ) (s : State) (op cl fo cm li colon brace : Bool) (ps : List Piece) → y.expands ≡ false → StaysFlat ps → IsTrue (flat_to s.around n) → IsTrue (closed_on_it op cl n ps)
      → closed_on_it op cl n (respaced_after y (after_of s op cl fo cm li colon brace ps) ps) ≡ true
  flat_step n s true cl fo cm li colon brace ps e ih h k =
      ih (suc n) (past (record { object = brace; spread = y.expands || not (is_flat ps); shifted = s.shifted } ∷ s.around) true false false)
      (rw e (rw (is_flat_there ps (none_to_close (suc n) ps k)) h)) k
  flat_step zero s false true fo cm li colon brace ps e ih h k = refl
  flat_step (suc n) s false true fo cm li colon brace ps e ih h k = ih n (past (without_first s.around) false false false) (flat_out n s.around h) k
  flat_step n s false false true cm li colon brace ps e ih h k = ih n (past s.around false colon (colon && s.shifted)) h k
  flat_step n s false false false true li colon brace ps e ih h k = ih n (record s { bare = false; shifted = (li && s.in_property) || s.shifted; comment = true; line = li }) h k
  flat_step n s false false false false li colon brace ps e ih h k = ih n (past s.around false (is_object s.around && not s.in_property) false) h k

  flat_gap : (n : ℕ) (s : State) (fs : List Frame) (p : Piece) (ps : List Piece) → IsTrue (flat_to fs n) → in_line (gap_in y s fs p ps) ≡ true
  flat_gap n s [] p ps h = cc
  flat_gap n s (f ∷ fs) p ps h = each (s.bare && closes p.what) f.spread (separates p.what || ((s.bare || closes p.what) && not f.object)) (if closes p.what then new_line y fs f.shifted false else gap_on_lines y s p ps) (flat_first n f fs h)
    where
      each : (a d c : Bool) (z : List ℕ) → IsTrue (not d) → in_line (if a then [] else (if not d then (if c then [] else 0x20 ∷ []) else z)) ≡ true
      each true d c z h = refl
      each false true c z h = cc
      each false false true z h = refl
      each false false false z h = refl

  pub stays_flat : y.expands ≡ false → (ps : List Piece) → StaysFlat ps
  stays_flat e [] n s h k = cc
  stays_flat e (p ∷ ps) n s h k =
      let a = and_both (in_line p.gap) _ k in
      let b = and_both (in_line p.text) _ a.1 in
      each_true _ _ _ (flat_gap n s s.around p ps h) b.0
      (flat_step n s (opens p.what) (closes p.what) (separates p.what) (is_comment p.what) (is_line_comment p.what) (mark p.what == 0x3A) (mark p.what == 0x7B) ps e (stays_flat e ps) h b.1)
