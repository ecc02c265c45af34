-- A formatted text is layout out as it is.
use Rattle.std.proofs.Common.{ℕ, ◌≡◌, ◌∙◌, sym, ap, Bool, true, false, not, ◌&&◌, ◌||◌, ◌==◌, nat_lt, refl, List, [], ◌∷◌, ◌++◌, IsTrue, if◌then◌else◌}
use Rattle.jsonc_text.specs.Places.{is_comment}
use Rattle.jsonc_text.specs.Lexemes.{Scanned, lexeme, line_comment, block_comment}
use Rattle.jsonc_format.specs.Format.{Style, Frame, State, Piece, mark, opens, closes, separates, is_line_comment, lines, in_line, on_one_line, is_flat, leads, new_line, gap_in_line, gap_on_lines, gap_in, past, start, after, written, layout_after, layout}
use Rattle.jsonc_format.specs.Laws.{respaced_after, respaced, is_open}
use Rattle.jsonc_format.specs.Styles.{IsProper}
use Rattle.jsonc_format.proofs.Again.{line_ends, steady}
use Rattle.jsonc_format.proofs.Twice.{after_of, stays_spread, stays_flat}

by_parts : (ex b c x z : Bool) → b ≡ (ex || not (c || z)) → (IsTrue b → IsTrue (not c) → x ≡ false) → (IsTrue (not b) → ex ≡ false → IsTrue z → x ≡ true) → ex || not (c || x) ≡ b
by_parts true b c x z e f g = sym e
by_parts false b true x z e f g = sym e
by_parts false true false x true e f g = cc
by_parts false false false x true e f g = rw (g refl refl refl) refl
by_parts false true false x false e f g = rw (f refl refl) refl
by_parts false false false x false e f g = cc

and_false : (a b : Bool) → a && false ≡ b && false
and_false true true = refl
and_false true false = refl
and_false false true = refl
and_false false false = refl

abbrev made : List ℕ → Scanned → List ℕ → Piece
made g w t = record { gap = g; what = w; text = t }

abbrev st : List Frame → (sh bare property comment line : Bool) → State
st around sh bare property comment line = record { around = around; bare = bare; in_property = property; shifted = sh; comment = comment; line = line }

module _ (y : Style) (proper : IsProper y) where
  flat_again : (b object shifted : Bool) (fs : List Frame) (ps : List Piece) → b ≡ (y.expands || not (is_flat ps))
      → y.expands || not (is_flat (respaced_after y (past (record { object = object; spread = b; shifted = shifted } ∷ fs) true false false) ps)) ≡ b
  flat_again b object shifted fs [] e = sym e
  flat_again b object shifted fs (p ∷ ps) e =
      let s = past (record { object = object; spread = b; shifted = shifted } ∷ fs) true false false in
      by_parts y.expands b (closes p.what) (on_one_line 0 (respaced_after y s (p ∷ ps))) (on_one_line 0 (p ∷ ps)) e
      (λ h k. stays_spread y proper (p ∷ ps) 0 s h k)
      (λ h x k. stays_flat y x (p ∷ ps) 0 s h k)

  state_again : (s : State) (op cl fo cm li colon brace : Bool) (ps : List Piece)
      → after_of y s op cl fo cm li colon brace (respaced_after y (after_of y s op cl fo cm li colon brace ps) ps) ≡ after_of y s op cl fo cm li colon brace ps
  state_again s true cl fo cm li colon brace ps =
      ap (λ b. past (record { object = brace; spread = b; shifted = s.shifted } ∷ s.around) true false false) (flat_again (y.expands || not (is_flat ps)) brace s.shifted s.around ps refl)
  state_again s false true fo cm li colon brace ps = refl
  state_again s false false true cm li colon brace ps = refl
  state_again s false false false true li colon brace ps = refl
  state_again s false false false false li colon brace ps = refl

  after_again : (s : State) (p : Piece) (ps : List Piece) → after y s p.what (respaced_after y (after y s p.what ps) ps) ≡ after y s p.what ps
  after_again s p ps = state_again s (opens p.what) (closes p.what) (separates p.what) (is_comment p.what) (is_line_comment p.what) (mark p.what == 0x3A) (mark p.what == 0x7B) ps

  -- after a block comment a line ends just where one did, before what is no comma, colon or closing bracket
  kept : (sh : Bool) (around : List Frame) (gap : List ℕ) (w : Scanned) (text : List ℕ) (rest : List Piece) → IsTrue (is_open around) → closes w ≡ false → separates w ≡ false
      → in_line (gap_in y (st around sh false false true false) around (made gap w text) rest) ≡ in_line gap
  kept sh [] gap w text rest h c f = each (separates w) (in_line gap) (new_line y [] sh (nat_lt 1 (lines gap) && true)) f (line_ends y proper [] sh (nat_lt 1 (lines gap) && true))
    where
      each : (fo il : Bool) (z : List ℕ) → fo ≡ false → in_line z ≡ false → in_line (if fo then [] else (if il && true then 0x20 ∷ [] else z)) ≡ il
      each true il z f e = cc
      each false true z f e = refl
      each false false z f e = e
  kept sh (g ∷ fs) gap w text rest h c f =
      each g.spread (closes w) (separates w) (in_line gap) (gap_in_line g.object (st (g ∷ fs) sh false false true false) w) (new_line y fs g.shifted false) (new_line y (g ∷ fs) sh (nat_lt 1 (lines gap) && true)) h c f (line_ends y proper (g ∷ fs) sh (nat_lt 1 (lines gap) && true))
    where
      each : (sp cl fo il : Bool) (x u z : List ℕ) → IsTrue sp → cl ≡ false → fo ≡ false → in_line z ≡ false
          → in_line (if not sp then x else (if cl then u else (if fo then [] else (if il && true then 0x20 ∷ [] else z)))) ≡ il
      each true true fo il x u z h c f e = cc
      each true false true il x u z h c f e = cc
      each true false false true x u z h c f e = refl
      each true false false false x u z h c f e = e
      each false cl fo il x u z h c f e = cc

  same_where : (a b c : Bool) → (IsTrue c → a ≡ b) → a && c ≡ b && c
  same_where a b true h = rw (h refl) refl
  same_where a b false h = and_false a b

  neither : (a b : Bool) → IsTrue (not (a || b)) → (a ≡ false) × (b ≡ false)
  neither true b h = cc
  neither false true h = cc
  neither false false h = (refl, refl)

  abbrev LeadsOn : Bool → List Frame → List Piece → Type 0
  LeadsOn sh around ps = (t : List ℕ) → leads (block_comment t) (respaced_after y (st around sh false false true false) ps) ≡ leads (block_comment t) ps

  leads_by : (sh : Bool) (around : List Frame) (gap : List ℕ) (w : Scanned) (text : List ℕ) (rest : List Piece) → IsTrue (is_open around) → LeadsOn sh around rest
      → in_line (gap_in y (st around sh false false true false) around (made gap w text) rest) && leads w (respaced_after y (after y (st around sh false false true false) w rest) rest)
      ≡ in_line gap && leads w rest
  leads_by sh around gap (lexeme k) text rest h ih = same_where _ _ (not (closes (lexeme k) || separates (lexeme k)))
      (λ e. let n = neither (closes (lexeme k)) (separates (lexeme k)) e in kept sh around gap (lexeme k) text rest h n.0 n.1)
  leads_by sh around gap (line_comment t) text rest h ih = and_false _ _
  leads_by sh around gap (block_comment t) text rest h ih = ap (λ b. b && leads (block_comment t) (respaced_after y (st around sh false false true false) rest)) (kept sh around gap (block_comment t) text rest h refl refl)
      ∙ ap (λ b. in_line gap && b) (ih t)

  leads_on : (sh : Bool) (around : List Frame) (ps : List Piece) → IsTrue (is_open around) → LeadsOn sh around ps
  leads_on sh around [] h t = refl
  leads_on sh around (p ∷ ps) h t = leads_by sh around p.gap p.what p.text ps h (leads_on sh around ps h)

  leads_again : (around : List Frame) (sh bare : Bool) (w : Scanned) (ps : List Piece) → IsTrue (is_open around)
      → leads w (respaced_after y (after y (st around sh bare false false false) w ps) ps) ≡ leads w ps
  leads_again around sh bare (lexeme k) ps h = refl
  leads_again around sh bare (line_comment t) ps h = refl
  leads_again around sh bare (block_comment t) ps h = leads_on sh around ps h t

  leads_where : (around : List Frame) (sh bare property comment line : Bool) (w : Scanned) (ps : List Piece) → IsTrue (is_open around) → line ≡ false → property ≡ false → comment ≡ false
      → leads w (respaced_after y (after y (st around sh bare property comment line) w ps) ps) ≡ leads w ps
  leads_where around sh bare true comment line w ps h a b c = cc
  leads_where around sh bare false true line w ps h a b c = cc
  leads_where around sh bare false false true w ps h a b c = cc
  leads_where around sh bare false false false w ps h a b c = leads_again around sh bare w ps h

  lines_again : (around : List Frame) (sh bare property comment line : Bool) (p : Piece) (ps : List Piece) → IsTrue (is_open around)
      → (let s = st around sh bare property comment line in gap_on_lines y s (record p { gap = gap_on_lines y s p ps }) (respaced_after y (after y s p.what ps) ps) ≡ gap_on_lines y s p ps)
  lines_again around sh bare property comment line p ps h =
      steady y proper around sh line (separates p.what) property (in_line p.gap) comment (leads p.what ps) (leads p.what (respaced_after y (after y (st around sh bare property comment line) p.what ps) ps))
      (nat_lt 1 (lines p.gap)) bare (leads_where around sh bare property comment line p.what ps h)

  gap_again : (around : List Frame) (sh bare property comment line : Bool) (p : Piece) (ps : List Piece)
      → (let s = st around sh bare property comment line in gap_in y s around (record p { gap = gap_in y s around p ps }) (respaced_after y (after y s p.what ps) ps) ≡ gap_in y s around p ps)
  gap_again [] sh bare property comment line p ps = lines_again [] sh bare property comment line p ps refl
  gap_again (f ∷ fs) sh bare property comment line p ps =
      let s = st (f ∷ fs) sh bare property comment line in
      each (bare && closes p.what) f.spread (closes p.what) (gap_in_line f.object s p.what) (gap_on_lines y s p ps) (new_line y fs f.shifted false)
      (λ g. gap_on_lines y s (record p { gap = g }) (respaced_after y (after y s p.what ps) ps)) (λ h. lines_again (f ∷ fs) sh bare property comment line p ps h)
    where
      each : (a sp cl : Bool) (x z u : List ℕ) (g : List ℕ → List ℕ) → (IsTrue sp → g z ≡ z)
          → (if a then [] else (if not sp then x else (if cl then u else g (if a then [] else (if not sp then x else (if cl then u else z)))))) ≡ (if a then [] else (if not sp then x else (if cl then u else z)))
      each true sp cl x z u g h = refl
      each false false cl x z u g h = refl
      each false true true x z u g h = refl
      each false true false x z u g h = h refl

  layout_again : (ps : List Piece) (s : State) → layout_after y s (respaced_after y s ps) ≡ layout_after y s ps
  layout_again [] s = refl
  layout_again (p ∷ ps) s =
      let z = after y s p.what ps in
      let qs = respaced_after y z ps in
      ap (λ g. g ++ (written p.what p.text ++ layout_after y (after y s p.what qs) qs)) (gap_again s.around s.shifted s.bare s.in_property s.comment s.line p ps)
      ∙ ap (λ r. gap_in y s s.around p ps ++ (written p.what p.text ++ layout_after y r qs)) (after_again s p ps)
      ∙ ap (λ l. gap_in y s s.around p ps ++ (written p.what p.text ++ l)) (layout_again ps z)

  pub layout_alike : (ps : List Piece) → layout y (respaced y ps) ≡ layout y ps
  layout_alike [] = refl
  layout_alike (p ∷ ps) =
      let s = start in
      let z = after y s p.what ps in
      let qs = respaced_after y z ps in
      ap (λ r. written p.what p.text ++ layout_after y r qs) (after_again s p ps) ∙ ap (λ l. written p.what p.text ++ l) (layout_again ps z)
