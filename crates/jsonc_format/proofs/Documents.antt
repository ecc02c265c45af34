-- A document that is formatted stays one.
use Rattle.std.proofs.Common.{ℕ, ◌≡◌, ◌∙◌, sym, ap, subst, refl, Bool, List, [], ◌∷◌, Option}
use Rattle.jsonc_text.specs.Options.{Options}
use Rattle.jsonc_text.specs.Grammar.{IsDocument}
use Rattle.jsonc_text.specs.Plain.{Plain}
use Rattle.jsonc_text.specs.Marks.{MarksTo}
use Rattle.jsonc_format.specs.declared.style.Style as code
use Rattle.jsonc_format.specs.Format.{Style, State, Piece, IsPieces, start, after, layout, IsFormatted}
use Rattle.jsonc_format.specs.Styles.{IsProper, Wish, or_else, line_end_of, level_of, IsFormattedAs}
use Rattle.jsonc_format.specs.Wishes.{wish_of}
use Rattle.jsonc_format.specs.Laws.{content, contents, respaced_after, respaced, marks_of, Apart, KeepsDocument, HasStyle}
use Rattle.jsonc_format.proofs.Apart.{apart}
use Rattle.jsonc_format.proofs.DocumentPieces.{document_pieces}
use Rattle.jsonc_format.proofs.Endings.{end_literals}
use Rattle.jsonc_format.proofs.Idempotent.{layout_alike}
use Rattle.jsonc_format.proofs.PieceMarks.{pieces_marks}
use Rattle.jsonc_format.proofs.Proper.{style_proper}
use Rattle.jsonc_format.proofs.Same.{same_document}
use Rattle.jsonc_format.proofs.Sounds.{trimmed_pieces, sound_pieces}
use Rattle.jsonc_format.proofs.Trims.{pieces_tidy, layout_trimmed, marks_trimmed, contents_trimmed}
use Rattle.jsonc_format.proofs.Unique.{pieces_unique, pieces_and_tails}
use Rattle.jsonc_format.proofs.Written.{pieces_of_layout, tail_of, marks_respaced}

module _ (y : Style) where
  contents_after : (s : State) (ps : List Piece) → contents (respaced_after y s ps) ≡ contents ps
  contents_after s [] = refl
  contents_after s (p ∷ ps) = ap (λ r. content p.what p.text ∷ r) (contents_after (after y s p.what ps) ps)

  contents_respaced : (ps : List Piece) → contents (respaced y ps) ≡ contents ps
  contents_respaced [] = refl
  contents_respaced (p ∷ ps) = ap (λ r. content p.what p.text ∷ r) (contents_after (after y start p.what ps) ps)

-- the pieces of a formatted document
record Stands (o : Options) (y : Style) (text formatted : List ℕ) : Type 0 where
  was_tail : List ℕ
  was : List Piece
  before : IsPieces o was_tail text was
  pieces : List Piece
  now_tail : List ℕ
  now : IsPieces o now_tail formatted pieces
  same : contents pieces ≡ contents was
  marks : marks_of pieces ≡ marks_of was
  again : formatted ≡ layout y pieces

stands : (o : Options) (y : Style) (proper : IsProper y) (text formatted : List ℕ) (v : Option Plain) → IsDocument o text v → IsFormatted o y text formatted → Stands o y text formatted
stands o y proper text formatted v d f =
    let e = document_pieces o text v d in
    let own : f.pieces ≡ e.1 = pieces_unique f.parts e.2 in
    let short = trimmed_pieces e.1 in
    let alone : Apart o y start short = apart o y proper end_literals short start (sound_pieces o e.2 e.3) (λ n h. cc) in
    let laid : formatted ≡ layout y short = f.same ∙ ap (layout y) own ∙ sym (layout_trimmed y e.1 (pieces_tidy o e.2)) in
    record {
      was_tail = e.0;
      was = e.1;
      before = e.2;
      pieces = respaced y short;
      now_tail = tail_of y proper short;
      now = subst (λ t. IsPieces o (tail_of y proper short) t (respaced y short)) (sym laid) (pieces_of_layout y proper o short alone);
      same = contents_respaced y short ∙ contents_trimmed e.1;
      marks = marks_respaced y proper short ∙ marks_trimmed e.1;
      again = laid ∙ sym (layout_alike y proper short);
    }

pub document_kept : (o : Options) (y : Style) (text formatted : List ℕ) (v : Option Plain) → IsProper y → IsDocument o text v → IsFormatted o y text formatted → KeepsDocument o y text formatted v
document_kept o y text formatted v proper d f =
    let s = stands o y proper text formatted v d f in
    record {
      value = same_document o v d (record { tail = s.was_tail; pieces = s.was; parts = s.before; same = refl }) (record { tail = s.now_tail; pieces = s.pieces; parts = s.now; same = s.same });
      marks = (marks_of s.was, pieces_marks s.before, subst (MarksTo o [] formatted) s.marks (pieces_marks s.now));
      blanks = (contents s.was, record { tail = s.was_tail; pieces = s.was; parts = s.before; same = refl }, record { tail = s.now_tail; pieces = s.pieces; parts = s.now; same = s.same });
      again = record { pieces = s.pieces; tail = s.now_tail; parts = s.now; same = s.again };
    }

pub in_a_style : (o : Options) (s : code.Style) (text formatted : List ℕ) → IsFormattedAs o (wish_of s) text formatted → HasStyle o text formatted
in_a_style o s text formatted f = (f.style, style_proper o s f.tail text f.pieces f.style f.parts f.fits, record { pieces = f.pieces; tail = f.tail; parts = f.parts; same = f.same })

abbrev style_of : List ℕ → List ℕ → Bool → Style
style_of e l x = record { line_end = e; level = l; expands = x }

same_style : {a b : List ℕ} {c d : List ℕ} {e f : Bool} → a ≡ b → c ≡ d → e ≡ f → style_of a c e ≡ style_of b d f
same_style p q r = cc

pub one_as_asked : (o : Options) (wish : Wish) (t r s : List ℕ) → IsFormattedAs o wish t r → IsFormattedAs o wish t s → r ≡ s
one_as_asked o wish t r s a b =
    let k = pieces_and_tails a.parts b.parts in
    let style : a.style ≡ b.style =
    same_style (a.fits.ends ∙ ap (λ ps. or_else wish.line_end (line_end_of ps a.tail)) k.0 ∙ ap (λ e. or_else wish.line_end (line_end_of b.pieces e)) k.1 ∙ sym b.fits.ends)
    (a.fits.level ∙ ap (λ ps. or_else wish.level (level_of 0 ps)) k.0 ∙ sym b.fits.level) (a.fits.expands ∙ sym b.fits.expands) in
    a.same ∙ ap (layout a.style) k.0 ∙ ap (λ y. layout y b.pieces) style ∙ sym b.same
