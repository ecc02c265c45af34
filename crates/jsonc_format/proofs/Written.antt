-- The pieces of a formatted text.
use Rattle.std.specs.List.{cons_option}
use Rattle.std.proofs.Common.{ℕ, ◌≡◌, ◌∙◌, sym, ap, Bool, true, false, not, ◌&&◌, ◌||◌, refl, List, [], ◌∷◌, ◌++◌, if◌then◌else◌}
use Rattle.jsonc_text.specs.Options.{Options}
use Rattle.jsonc_text.specs.Text.{Many, stop, step}
use Rattle.jsonc_text.specs.Gaps.{is_blank}
use Rattle.jsonc_text.specs.Marks.{MarksTo, mark_of}
use Rattle.jsonc_format.specs.Format.{Style, Frame, State, Piece, IsPieces, no_more, piece, closes, separates, in_line, leads, shift, indent, new_line, gap_on_lines, gap_in, start, after, layout_after, layout}
use Rattle.jsonc_format.specs.Styles.{IsLineEnd, line_feed, carriage_return, both, IsProper}
use Rattle.jsonc_format.specs.Laws.{respaced_after, respaced, marks_of, Apart, IsItsOwn, KeepsMarks}
use Rattle.jsonc_format.proofs.Idempotent.{layout_alike}
use Rattle.jsonc_format.proofs.PieceMarks.{pieces_marks}

abbrev AreBlanks : List ℕ → Type 0
AreBlanks s = Many is_blank s []

joined : {p : ℕ → Bool} {s t : List ℕ} → Many p s [] → Many p t [] → Many p (s ++ t) []
joined stop k = k
joined (step h g) k = step h (joined g k)

pub end_blank : {e : List ℕ} → IsLineEnd e → AreBlanks e
end_blank line_feed = step refl stop
end_blank carriage_return = step refl stop
end_blank both = step refl (step refl stop)

module _ (y : Style) (proper : IsProper y) where
  chosen : (b : Bool) {s t : List ℕ} → AreBlanks s → AreBlanks t → AreBlanks (if b then s else t)
  chosen true h k = h
  chosen false h k = k

  shift_blank : (b : Bool) → AreBlanks (shift y.level b)
  shift_blank true = proper.blank
  shift_blank false = stop

  indent_blank : (fs : List Frame) → AreBlanks (indent y.level fs)
  indent_blank [] = stop
  indent_blank (f ∷ fs) = joined (shift_blank f.shifted) (joined proper.blank (indent_blank fs))

  line_blank : (fs : List Frame) (sh b : Bool) → AreBlanks (new_line y fs sh b)
  line_blank fs sh true = joined (end_blank proper.ends) (joined (end_blank proper.ends) (joined (shift_blank sh) (indent_blank fs)))
  line_blank fs sh false = joined (end_blank proper.ends) (joined (shift_blank sh) (indent_blank fs))

  space_blank : AreBlanks (0x20 ∷ [])
  space_blank = step refl stop

  on_lines_blank : (s : State) (p : Piece) (ps : List Piece) → AreBlanks (gap_on_lines y s p ps)
  on_lines_blank s p ps = chosen s.line (line_blank s.around s.shifted _) (chosen (separates p.what) stop (chosen (s.in_property || (in_line p.gap && (s.comment || not (leads p.what ps)))) space_blank (line_blank s.around s.shifted _)))

  pub gap_blank : (s : State) (fs : List Frame) (p : Piece) (ps : List Piece) → AreBlanks (gap_in y s fs p ps)
  gap_blank s [] p ps = on_lines_blank s p ps
  gap_blank s (f ∷ fs) p ps = chosen (s.bare && closes p.what) stop (chosen (not f.spread) (chosen (separates p.what || ((s.bare || closes p.what) && not f.object)) stop space_blank)
      (chosen (closes p.what) (line_blank fs f.shifted false) (on_lines_blank s p ps)))

  pieces_after : (o : Options) (s : State) (ps : List Piece) → Apart o y s ps → IsPieces o y.line_end (layout_after y s ps) (respaced_after y s ps)
  pieces_after o s [] h = no_more (end_blank proper.ends)
  pieces_after o s (p ∷ ps) (e, x, h) =
      let z = after y s p.what ps in
      let g = gap_in y s s.around p ps in
      piece (record p { gap = g }) (gap_blank s s.around p ps) x (ap (λ t. g ++ (t ++ layout_after y z ps)) e) (pieces_after o z ps h)

  abbrev pub tail_of : List Piece → List ℕ
  tail_of [] = []
  tail_of (p ∷ ps) = y.line_end

  pub pieces_of_layout : (o : Options) (ps : List Piece) → Apart o y start ps → IsPieces o (tail_of ps) (layout y ps) (respaced y ps)
  pieces_of_layout o [] h = no_more stop
  pieces_of_layout o (p ∷ ps) (e, x, h) =
      let z = after y start p.what ps in
      piece (record p { gap = [] }) stop x (ap (λ t. t ++ layout_after y z ps) e) (pieces_after o z ps h)

  pub its_own : (o : Options) (text formatted : List ℕ) → IsItsOwn o y text formatted
  its_own o text formatted f h = record {
    pieces = respaced y f.pieces;
    tail = tail_of f.pieces;
    parts = rw f.same (pieces_of_layout o f.pieces h);
    same = f.same ∙ sym (layout_alike y proper f.pieces);
  }

  marks_after : (s : State) (ps : List Piece) → marks_of (respaced_after y s ps) ≡ marks_of ps
  marks_after s [] = refl
  marks_after s (p ∷ ps) = ap (cons_option (mark_of p.what p.text)) (marks_after (after y s p.what ps) ps)

  pub marks_respaced : (ps : List Piece) → marks_of (respaced y ps) ≡ marks_of ps
  marks_respaced [] = refl
  marks_respaced (p ∷ ps) = ap (cons_option (mark_of p.what p.text)) (marks_after (after y start p.what ps) ps)

  pub keeps_marks : (o : Options) (text formatted : List ℕ) → KeepsMarks o y text formatted
  keeps_marks o text formatted f h =
      let a : MarksTo o [] (layout y f.pieces) (marks_of (respaced y f.pieces)) = pieces_marks (pieces_of_layout o f.pieces h) in
      let b : MarksTo o [] (layout y f.pieces) (marks_of f.pieces) = rw (marks_respaced f.pieces) at a in
      (pieces_marks f.parts, rw f.same b)
