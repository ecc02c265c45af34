-- A text as far as it is written.
use Rattle.std.proofs.Common.{ℕ, ◌≡◌, ◌∙◌, sym, ap, refl, subst, Bool, true, false, List, [], ◌++◌, IsUtf8, chars, append_assoc, None}
use Rattle.jsonc_text.specs.Options.{Options}
use Rattle.jsonc_text.specs.Text.{rest}
use Rattle.jsonc_text.specs.Lexemes.{Scanned}
use Rattle.jsonc_scan.specs.declared.scanner.Scanner.{Scanner}
use Rattle.jsonc_scan.specs.Scanner.{PassesBlanks, IsThere}
use Rattle.jsonc_format.specs.declared.print.Read.{Read}
use Rattle.jsonc_format.specs.declared.track.Track.{Track}
use Rattle.jsonc_format.specs.Flags.{flats}
use Rattle.jsonc_format.specs.Format.{Style, State, Piece, IsPieces, start, after, written, layout}
use Rattle.jsonc_format.specs.Pieces.{IsReadAt, piece_at}
use Rattle.jsonc_format.specs.Printing.{IsPrinted, PutsRead, last_line_end}
use Rattle.jsonc_format.specs.Tracks.{track_state, gap_here, layout_by}
use Rattle.jsonc_format.proofs.States.{layout_step, layout_begun}
use Rattle.jsonc_format.proofs.Steps.{read_front}
use Rattle.jsonc_format.proofs.Reading.{IsAt, none_left}

-- the pieces that are left, before which this is written
pub record Left (o : Options) (y : Style) (bytes tail : List ℕ) (ps : List Piece) (place : ℕ) (out : List ℕ) (begun : Bool) (s : State) (flat : List Bool) : Type 0 where
  pub pieces : List Piece
  pub parts : IsPieces o tail (rest bytes place) pieces
  pub flags : flat ≡ flats pieces
  pub same : layout y ps ≡ out ++ layout_by begun y s pieces

no_more_layout : (begun : Bool) (y : Style) (s : State) → layout_by begun y s [] ≡ last_line_end begun y.line_end
no_more_layout true y s = refl
no_more_layout false y s = refl

module _ {A : Type 0} where
  pub record Going (o : Options) (y : Style) (bytes : List ℕ) (flat : List Bool) (place : ℕ) (out : List ℕ) (t : Track A) : Type 0 where
    pub goes : (tail : List ℕ) (ps : List Piece) → IsPieces o tail (chars bytes) ps → flat ≡ flats ps → Left o y bytes tail ps place out t.begun (track_state t) t.flat.now

  pub going_start : (o : Options) (y : Style) (bytes : List ℕ) (flat : List Bool) (out : List ℕ) (t : Track A) → t.begun ≡ false → track_state t ≡ start → t.flat.now ≡ flat → out ≡ []
      → Going o y bytes flat 0 out t
  going_start o y bytes flat out t b s f e = record {
    goes = λ tail ps h g. record {
      pieces = ps;
      parts = h;
      flags = f ∙ g;
      same = sym (layout_begun y ps) ∙ ap (λ k. layout_by k y start ps) (sym b) ∙ ap (λ z. layout_by t.begun y z ps) (sym s) ∙ ap (λ s. s ++ layout_by t.begun y (track_state t) ps) (sym e);
    };
  }

  pub going_next : (o : Options) (y : Style) (bytes : List ℕ) (flat : List Bool) (place : ℕ) (was now : List ℕ) (old new : Track A) (read : Read) (w : Scanned) → IsUtf8 bytes → Going o y bytes flat place was old
      → place ≡ read.from → IsReadAt o bytes read.from read.start read.end w → PutsRead o bytes y read w old new was now → Going o y bytes flat read.end now new
  going_next o y bytes flat place was now old new read w u g e r p = record {
    goes = λ tail ps h f.
        let l = (subst (λ place. Going o y bytes flat place was old) e g).goes tail ps h f in
        let front = read_front o bytes read.from read.start read.end w u r tail l.pieces l.parts in
        let piece = piece_at bytes read.from read.start read.end w in
        let s = track_state old in
        let puts = p tail front.others front.parts (l.flags ∙ ap flats front.same) in
        let here = gap_here old.begun y s piece front.others ++ written w piece.text in
        let others = layout_by true y (after y s w front.others) front.others in
        record {
          pieces = front.others;
          parts = front.parts;
          flags = puts.passed.flat;
          same = l.same ∙ ap (λ q. was ++ layout_by old.begun y s q) front.same ∙ ap (λ t. was ++ t) (layout_step old.begun y s piece front.others)
              ∙ sym (append_assoc was here others) ∙ ap (λ t. t ++ others) (sym puts.text) ∙ ap (λ k. now ++ layout_by k y (after y s w front.others) front.others) (sym puts.passed.begun) ∙ ap (λ z. now ++ layout_by new.begun y z front.others) (sym puts.passed.state);
        };
  }

  pub going_end : (o : Options) (y : Style) (bytes : List ℕ) (flat : List Bool) (place : ℕ) (out whole : List ℕ) (t : Track A) (old new : Scanner A) → Going o y bytes flat place out t
      → IsAt o bytes old place → PassesBlanks old new → IsThere new None → whole ≡ out ++ last_line_end t.begun y.line_end → IsPrinted o y bytes flat whole
  going_end o y bytes flat place out whole t old new g a b n e tail ps h f =
      let l = g.goes tail ps h f in
      let none = (none_left o bytes tail old new place l.pieces a b n l.parts).0 in
      e ∙ ap (λ t. out ++ t) (sym (no_more_layout t.begun y (track_state t))) ∙ ap (λ q. out ++ layout_by t.begun y (track_state t) q) (sym none) ∙ sym l.same
