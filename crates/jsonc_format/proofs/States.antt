-- What the code knows after a piece is the state of the definition.
use Rattle.std.proofs.Common.{ℕ, ◌≡◌, ◌∙◌, sym, ap, refl, subst, Bool, true, false, not, ◌&&◌, ◌||◌, nat_lt, List, [], ◌∷◌, ◌++◌, if◌then◌else◌, append_assoc, Option, Some, None}
use Rattle.jsonc_text.specs.Lexemes.{Scanned, lexeme, line_comment, block_comment}
use Rattle.jsonc_format.specs.declared.class.Class.{Class}
use Rattle.jsonc_format.specs.declared.class.Class.TheVariants as class
use Rattle.jsonc_format.specs.declared.state.Beside.{Beside}
use Rattle.jsonc_format.specs.declared.state.Frame as code
use Rattle.jsonc_format.specs.declared.gap.Gap.{Gap}
use Rattle.jsonc_format.specs.declared.gap.Gap.TheVariants as gap
use Rattle.jsonc_scan.specs.declared.scanner.Scanner.{Scanner}
use Rattle.jsonc_scan.specs.declared.found.TokenContent.{TokenContent}
use Rattle.jsonc_scan.specs.declared.found.TokenKind.{TokenKind}
use Rattle.jsonc_scan.specs.declared.found.TokenKind.TheVariants as kind
use Rattle.jsonc_scan.specs.Scanner.{scanned_seen}
use Rattle.jsonc_format.specs.Classes.{IsOf, class_by, opens_by, is_brace, closes_by, separates_by, is_colon, comments_by, is_line}
use Rattle.jsonc_format.specs.Format.{Style, Frame, State, Piece, closes, separates, in_line, lines, leads, is_flat, past, is_object, without_first, new_line, gap_in_line, gap_on_lines, gap_in, after, written, layout, layout_after, start}
use Rattle.jsonc_format.specs.Writing.{state_of, beside_after, gap_text, gap_by, gap_on_lines_by, gap_in_line_by, frames_of}
use Rattle.jsonc_format.proofs.Twice.{after_of}
use Rattle.jsonc_format.specs.Tracks.{frames_after, gap_here, layout_by}

-- what a scanner has come to is of the class of its kind
pub class_is : {A : Type 0} (s : Scanner A) (x : TokenContent A) (k : TokenKind) → IsOf (class_by k) (scanned_seen s x k)
class_is s x kind.OpenBrace = record { opening = refl; brace = refl; closing = refl; separator = refl; colon = refl; comment = refl; line = refl }
class_is s x kind.OpenBracket = record { opening = refl; brace = refl; closing = refl; separator = refl; colon = refl; comment = refl; line = refl }
class_is s x kind.CloseBrace = record { opening = refl; brace = refl; closing = refl; separator = refl; colon = refl; comment = refl; line = refl }
class_is s x kind.CloseBracket = record { opening = refl; brace = refl; closing = refl; separator = refl; colon = refl; comment = refl; line = refl }
class_is s x kind.Comma = record { opening = refl; brace = refl; closing = refl; separator = refl; colon = refl; comment = refl; line = refl }
class_is s x kind.Colon = record { opening = refl; brace = refl; closing = refl; separator = refl; colon = refl; comment = refl; line = refl }
class_is s x kind.CommentLine = record { opening = refl; brace = refl; closing = refl; separator = refl; colon = refl; comment = refl; line = refl }
class_is s x kind.CommentBlock = record { opening = refl; brace = refl; closing = refl; separator = refl; colon = refl; comment = refl; line = refl }
class_is s x kind.String = record { opening = refl; brace = refl; closing = refl; separator = refl; colon = refl; comment = refl; line = refl }
class_is s x kind.Plain = record { opening = refl; brace = refl; closing = refl; separator = refl; colon = refl; comment = refl; line = refl }
class_is s x kind.Passed = record { opening = refl; brace = refl; closing = refl; separator = refl; colon = refl; comment = refl; line = refl }
class_is s x kind.Word = record { opening = refl; brace = refl; closing = refl; separator = refl; colon = refl; comment = refl; line = refl }
class_is s x kind.True = record { opening = refl; brace = refl; closing = refl; separator = refl; colon = refl; comment = refl; line = refl }
class_is s x kind.False = record { opening = refl; brace = refl; closing = refl; separator = refl; colon = refl; comment = refl; line = refl }
class_is s x kind.Number = record { opening = refl; brace = refl; closing = refl; separator = refl; colon = refl; comment = refl; line = refl }
class_is s x kind.Null = record { opening = refl; brace = refl; closing = refl; separator = refl; colon = refl; comment = refl; line = refl }

pub class_told : {A : Type 0} (s : Scanner A) (x : TokenContent A) (k : TokenKind) (c : Class) → c ≡ class_by k → IsOf c (scanned_seen s x k)
class_told s x k c e = subst (λ c. IsOf c (scanned_seen s x k)) (sym e) (class_is s x k)

-- the open containers, by what the piece is
abbrev frames_by : Bool → List Frame → Bool → (op cl brace : Bool) → List Piece → List Frame
frames_by expands around shifted op cl brace ps =
    if op then record { object = brace; spread = expands || not (is_flat ps); shifted = shifted } ∷ around else (if cl then without_first around else around)

by_class : (y : Style) (around : List Frame) (b : Beside) (c : Class) (object : Bool) (ps : List Piece) → object ≡ is_object around
    → state_of (frames_by y.expands around b.shifted (opens_by c) (closes_by c) (is_brace c) ps) (beside_after c object b)
    ≡ after_of y (state_of around b) (opens_by c) (closes_by c) (separates_by c) (comments_by c) (is_line c) (is_colon c) (is_brace c) ps
by_class y around b class.OpenArray object ps e = refl
by_class y around b class.OpenObject object ps e = refl
by_class y around b class.Close object ps e = refl
by_class y around b class.Comma object ps e = refl
by_class y around b class.Colon object ps e = refl
by_class y around b class.Literal object ps e = ap (λ k. past around false (k && not b.in_property) false) e
by_class y around b class.BlockComment object ps e = refl
by_class y around b class.LineComment object ps e = refl

same_three : {A : Type 0} (f : Bool → Bool → Bool → A) {a b c x y z : Bool} → a ≡ x → b ≡ y → c ≡ z → f a b c ≡ f x y z
same_three f p q r = cc

same_seven : {A : Type 0} (f : Bool → Bool → Bool → Bool → Bool → Bool → Bool → A) {a b c d e g h i j k l m n o : Bool} → a ≡ i → b ≡ j → c ≡ k → d ≡ l → e ≡ m → g ≡ n → h ≡ o
    → f a b c d e g h ≡ f i j k l m n o
same_seven f p q r s t u v = cc

pub state_after : (y : Style) (around : List Frame) (b : Beside) (c : Class) (object : Bool) (w : Scanned) (ps : List Piece) → IsOf c w → object ≡ is_object around
    → state_of (frames_after y.expands around b.shifted w ps) (beside_after c object b) ≡ after y (state_of around b) w ps
state_after y around b c object w ps h e =
    ap (λ fs. state_of fs (beside_after c object b)) (same_three (λ op cl brace. frames_by y.expands around b.shifted op cl brace ps) h.opening h.closing h.brace)
    ∙ by_class y around b c object ps e
    ∙ sym (same_seven (λ op cl se cm li colon brace. after_of y (state_of around b) op cl se cm li colon brace ps) h.opening h.closing h.separator h.comment h.line h.colon h.brace)

module _ (y : Style) where
  on_lines : (around : List Frame) (b : Beside) (se it bl le : Bool) → gap_text y around (gap_on_lines_by b se it bl le)
      ≡ (if b.line then new_line y around b.shifted (bl && not (se || b.in_property))
      else (if se then []
      else (if b.in_property || (it && (b.comment || not le)) then 0x20 ∷ []
      else new_line y around b.shifted (bl && not b.bare))))
  on_lines around b se it bl le = each b.line se (b.in_property || (it && (b.comment || not le)))
    where
      each : (x s u : Bool) → gap_text y around (if x then gap.Line b.shifted (bl && not (se || b.in_property)) else (if s then gap.Nothing else (if u then gap.Space else gap.Line b.shifted (bl && not b.bare))))
          ≡ (if x then new_line y around b.shifted (bl && not (se || b.in_property)) else (if s then [] else (if u then 0x20 ∷ [] else new_line y around b.shifted (bl && not b.bare))))
      each true s u = refl
      each false true u = refl
      each false false true = refl
      each false false false = refl

  -- an entry that leads is asked for where no comment is before
  steadied : (comment lead other : Bool) → (comment ≡ false → other ≡ lead) → comment || not other ≡ comment || not lead
  steadied true lead other h = refl
  steadied false lead other h = ap not (h refl)

  in_line_same : (around : List Frame) (object bare se cl : Bool) → gap_text y around (gap_in_line_by object bare se cl) ≡ (if se || ((bare || cl) && not object) then [] else 0x20 ∷ [])
  in_line_same around object bare se cl = each (se || ((bare || cl) && not object))
    where
      each : (u : Bool) → gap_text y around (if u then gap.Nothing else gap.Space) ≡ (if u then [] else 0x20 ∷ [])
      each true = refl
      each false = refl

  lines_same : (around : List Frame) (b : Beside) (c : Class) (lead : Bool) (p : Piece) (ps : List Piece) → IsOf c p.what → (b.comment ≡ false → leads p.what ps ≡ lead)
      → gap_text y around (gap_on_lines_by b (separates_by c) (in_line p.gap) (nat_lt 1 (lines p.gap)) lead) ≡ gap_on_lines y (state_of around b) p ps
  lines_same around b c lead p ps h l =
      on_lines around b (separates_by c) (in_line p.gap) (nat_lt 1 (lines p.gap)) lead
      ∙ ap (λ se. if b.line then new_line y around b.shifted (nat_lt 1 (lines p.gap) && not (se || b.in_property)) else (if se then [] else (if b.in_property || (in_line p.gap && (b.comment || not lead)) then 0x20 ∷ [] else new_line y around b.shifted (nat_lt 1 (lines p.gap) && not b.bare)))) (sym h.separator)
      ∙ ap (λ u. if b.line then new_line y around b.shifted (nat_lt 1 (lines p.gap) && not (separates p.what || b.in_property)) else (if separates p.what then [] else (if b.in_property || (in_line p.gap && u) then 0x20 ∷ [] else new_line y around b.shifted (nat_lt 1 (lines p.gap) && not b.bare)))) (sym (steadied b.comment lead (leads p.what ps) l))

  pub gap_same : (inner : Option code.Frame) (outer : List code.Frame) (b : Beside) (c : Class) (lead : Bool) (p : Piece) (ps : List Piece) → (inner ≡ None → outer ≡ [])
      → IsOf c p.what → (b.comment ≡ false → leads p.what ps ≡ lead)
      → (let around = frames_of inner outer in gap_text y around (gap_by inner b (separates_by c) (closes_by c) (in_line p.gap) (nat_lt 1 (lines p.gap)) lead) ≡ gap_in y (state_of around b) around p ps)
  gap_same None outer b c lead p ps n h l = by_none outer (n refl)
    where
      by_none : (outer : List code.Frame) → outer ≡ [] → (let around = frames_of None outer in gap_text y around (gap_by None b (separates_by c) (closes_by c) (in_line p.gap) (nat_lt 1 (lines p.gap)) lead) ≡ gap_in y (state_of around b) around p ps)
      by_none [] e = lines_same [] b c lead p ps h l
      by_none (f ∷ fs) e = cc
  gap_same (Some f) outer b c lead p ps n h l =
      let around = frames_of (Some f) outer in
      each b.bare (closes_by c) f.spread (closes p.what) (gap_in_line_by f.object b.bare (separates_by c) (closes_by c)) (gap_on_lines_by b (separates_by c) (in_line p.gap) (nat_lt 1 (lines p.gap)) lead)
      (gap_in_line f.object (state_of around b) p.what) (gap_on_lines y (state_of around b) p ps) h.closing
      (in_line_same around f.object b.bare (separates_by c) (closes_by c)
      ∙ ap (λ se. if se || ((b.bare || closes_by c) && not f.object) then [] else 0x20 ∷ []) (sym h.separator)
      ∙ ap (λ cl. if separates p.what || ((b.bare || cl) && not f.object) then [] else 0x20 ∷ []) (sym h.closing))
      (lines_same around b c lead p ps h l)
    where
      each : (bare cl sp other : Bool) (g k : Gap) (u v : List ℕ) → other ≡ cl → gap_text y (frames_of (Some f) outer) g ≡ u → gap_text y (frames_of (Some f) outer) k ≡ v
          → gap_text y (frames_of (Some f) outer) (if bare && cl then gap.Nothing else (if not sp then g else (if cl then gap.LastLine f.shifted else k)))
          ≡ (if bare && other then [] else (if not sp then u else (if other then new_line y (without_first (frames_of (Some f) outer)) f.shifted false else v)))
      each true true sp other g k u v e a b = rw e refl
      each true false false other g k u v e a b = rw e a
      each true false true other g k u v e a b = rw e b
      each false cl false other g k u v e a b = a
      each false true true other g k u v e a b = rw e refl
      each false false true other g k u v e a b = rw e b

-- what is written of a gap is the gap before the piece
pub gap_put : (y : Style) (begun : Bool) (inner : Option code.Frame) (outer : List code.Frame) (b : Beside) (c : Class) (lead : Bool) (g : List ℕ) (before : Gap) (p : Piece) (ps : List Piece) → (inner ≡ None → outer ≡ [])
    → begun ≡ true → before ≡ gap_by inner b (separates_by c) (closes_by c) (in_line g) (nat_lt 1 (lines g)) lead → p.gap ≡ g → IsOf c p.what → (b.comment ≡ false → leads p.what ps ≡ lead)
    → gap_text y (frames_of inner outer) before ≡ gap_here begun y (state_of (frames_of inner outer) b) p ps
gap_put y begun inner outer b c lead g before p ps n k e f h l =
    let around = frames_of inner outer in
    ap (gap_text y around) e ∙ ap (λ s. gap_text y around (gap_by inner b (separates_by c) (closes_by c) (in_line s) (nat_lt 1 (lines s)) lead)) (sym f) ∙ gap_same y inner outer b c lead p ps n h l
    ∙ ap (λ x. gap_here x y (state_of around b) p ps) (sym k)

-- a piece that is no comment leads an entry, or does not, by itself
pub leads_alone : (c : Class) (w : Scanned) (ps : List Piece) → IsOf c w → comments_by c ≡ false → leads w ps ≡ not (closes_by c || separates_by c)
leads_alone c (lexeme k) ps h e = ap (λ b. not (b || separates (lexeme k))) h.closing ∙ ap (λ b. not (closes_by c || b)) h.separator
leads_alone c (line_comment s) ps h e = let z : true ≡ false = h.comment ∙ e in cc
leads_alone c (block_comment s) ps h e = let z : true ≡ false = h.comment ∙ e in cc

-- one piece more
pub layout_step : (begun : Bool) (y : Style) (s : State) (p : Piece) (ps : List Piece)
    → layout_by begun y s (p ∷ ps) ≡ (gap_here begun y s p ps ++ written p.what p.text) ++ layout_by true y (after y s p.what ps) ps
layout_step true y s p ps = sym (append_assoc (gap_in y s s.around p ps) (written p.what p.text) (layout_after y (after y s p.what ps) ps))
layout_step false y s p ps = refl

pub layout_begun : (y : Style) (ps : List Piece) → layout_by false y start ps ≡ layout y ps
layout_begun y [] = refl
layout_begun y (p ∷ ps) = refl
