-- What a text tells of its style, as far as it is read.
use Rattle.std.proofs.Common.{ℕ, ◌≡◌, ◌∙◌, ◌<◌, ◌≤◌, sym, ap, refl, Bool, true, false, List, [], ◌∷◌, IsUtf8, chars, slice_range, arith, Option, None, Some, if◌then◌else◌}
use Rattle.jsonc_text.specs.Options.{Options}
use Rattle.jsonc_text.specs.Text.{rest}
use Rattle.jsonc_text.specs.Lexemes.{Scanned}
use Rattle.jsonc_scan.specs.declared.scanner.Scanner.{Scanner}
use Rattle.jsonc_scan.specs.Scanner.{start_of, end_of, PassesBlanks, IsThere}
use Rattle.jsonc_format.specs.declared.class.Class.{Class}
use Rattle.jsonc_format.specs.Classes.{IsOf, opens_by, closes_by}
use Rattle.jsonc_format.specs.Format.{Piece, IsPieces, opens, closes}
use Rattle.jsonc_format.specs.Pieces.{IsReadAt}
use Rattle.jsonc_format.specs.Styles.{first_end, line_end_of, last_line, tells_level, depth_after, level_of}
use Rattle.jsonc_format.specs.Wishes.{IsLineEndOf, IsLevelOf}
use Rattle.jsonc_format.proofs.Steps.{read_front}
use Rattle.jsonc_format.proofs.Reading.{IsAt, none_left, read_to, gap_to_end}

-- the pieces that are left tell the same
pub record Telling (o : Options) (bytes tail : List ℕ) (place : ℕ) (tells : List Piece → List ℕ) (told : List ℕ) : Type 0 where
  pub pieces : List Piece
  pub parts : IsPieces o tail (rest bytes place) pieces
  pub same : told ≡ tells pieces

-- no line has ended so far
pub record NoEnd (o : Options) (bytes : List ℕ) (place : ℕ) : Type 0 where
  pub goes : (tail : List ℕ) (ps : List Piece) → IsPieces o tail (chars bytes) ps → Telling o bytes tail place (λ qs. line_end_of qs tail) (line_end_of ps tail)

pub no_end_start : (o : Options) (bytes : List ℕ) → NoEnd o bytes 0
no_end_start o bytes = record { goes = λ tail ps h. record { pieces = ps; parts = h; same = refl } }

pub no_end_next : (o : Options) (bytes gap : List ℕ) (from begin end : ℕ) (w : Scanned) → IsUtf8 bytes → NoEnd o bytes from → IsReadAt o bytes from begin end w → gap ≡ slice_range bytes from begin
    → ((other : List ℕ) → first_end (chars gap) other ≡ other) → NoEnd o bytes end
no_end_next o bytes gap from begin end w u n r e f = record {
  goes = λ tail ps h.
      let t = n.goes tail ps h in
      let front = read_front o bytes from begin end w u r tail t.pieces t.parts in
      record { pieces = front.others; parts = front.parts; same = t.same ∙ ap (λ qs. line_end_of qs tail) front.same ∙ rw e at (f (line_end_of front.others tail)) };
}

pub end_here : (o : Options) (bytes gap : List ℕ) (from begin end : ℕ) (w : Scanned) (s : List ℕ) → IsUtf8 bytes → NoEnd o bytes from → IsReadAt o bytes from begin end w → gap ≡ slice_range bytes from begin
    → ((other : List ℕ) → first_end (chars gap) other ≡ s) → IsLineEndOf o bytes s
end_here o bytes gap from begin end w s u n r e f tail ps h =
    let t = n.goes tail ps h in
    let front = read_front o bytes from begin end w u r tail t.pieces t.parts in
    sym (t.same ∙ ap (λ qs. line_end_of qs tail) front.same ∙ rw e at (f (line_end_of front.others tail)))

module _ {A : Type 0} where
  pub end_last : (o : Options) (bytes gap : List ℕ) (from : ℕ) (old new : Scanner A) (s : List ℕ) → NoEnd o bytes from → IsAt o bytes old from → PassesBlanks old new → IsThere new None → chars gap ≡ rest bytes from
      → first_end (chars gap) (0x0A ∷ []) ≡ s → IsLineEndOf o bytes s
  end_last o bytes gap from old new s n a b q e f tail ps h =
      let t = n.goes tail ps h in
      let none = none_left o bytes tail old new from t.pieces a b q t.parts in
      sym (t.same ∙ ap (λ qs. line_end_of qs tail) none.0 ∙ ap (λ g. first_end g (0x0A ∷ [])) (sym (e ∙ none.1)) ∙ f)

-- no line with an indent has begun so far inside of a container, of which so many are open
pub record NoLevel (o : Options) (bytes : List ℕ) (place depth : ℕ) : Type 0 where
  pub few : depth ≤ place
  pub goes : (tail : List ℕ) (ps : List Piece) → IsPieces o tail (chars bytes) ps → Telling o bytes tail place (level_of depth) (level_of 0 ps)

pub no_level_start : (o : Options) (bytes : List ℕ) → NoLevel o bytes 0 0
no_level_start o bytes = record { few = omega arith; goes = λ tail ps h. record { pieces = ps; parts = h; same = refl } }

few_more : (op cl : Bool) (depth from end : ℕ) → depth ≤ from → from < end → depth_after op cl depth ≤ end
few_more true cl depth from end h k = omega (arith, h, k)
few_more false true depth from end h k = omega (arith, h, k)
few_more false false depth from end h k = omega (arith, h, k)

pub no_level_next : (o : Options) (bytes : List ℕ) (from begin end depth : ℕ) (class : Class) (w : Scanned) → IsUtf8 bytes → NoLevel o bytes from depth → IsReadAt o bytes from begin end w → begin < end
    → IsOf class w → tells_level depth (last_line (chars (slice_range bytes from begin))) ≡ false → NoLevel o bytes end (depth_after (opens_by class) (closes_by class) depth)
no_level_next o bytes from begin end depth class w u n r l c d = record {
  few = few_more (opens_by class) (closes_by class) depth from end n.few (omega (arith, r.gap.order, l));
  goes = λ tail ps h.
      let t = n.goes tail ps h in
      let front = read_front o bytes from begin end w u r tail t.pieces t.parts in
      record {
        pieces = front.others;
        parts = front.parts;
        same = t.same ∙ ap (level_of depth) front.same ∙ passed (last_line (chars (slice_range bytes from begin))) (level_of (depth_after (opens w) (closes w) depth) front.others) d
            ∙ ap (λ op. level_of (depth_after op (closes w) depth) front.others) c.opening ∙ ap (λ cl. level_of (depth_after (opens_by class) cl depth) front.others) c.closing;
      };
}
  where
    passed : (s other : List ℕ) → tells_level depth s ≡ false → (if tells_level depth s then s else other) ≡ other
    passed s other e = rw e refl

pub level_here : (o : Options) (bytes line : List ℕ) (from begin end depth : ℕ) (w : Scanned) → IsUtf8 bytes → NoLevel o bytes from depth → IsReadAt o bytes from begin end w → chars line ≡ last_line (chars (slice_range bytes from begin))
    → tells_level depth (chars line) ≡ true → IsLevelOf o bytes (chars line)
level_here o bytes line from begin end depth w u n r e f tail ps h =
    let t = n.goes tail ps h in
    let front = read_front o bytes from begin end w u r tail t.pieces t.parts in
    let some : tells_level depth (last_line (chars (slice_range bytes from begin))) ≡ true = rw e at f in
    sym (t.same ∙ ap (level_of depth) front.same ∙ rw some (sym e))

module _ {A : Type 0} where
  pub level_last : (o : Options) (bytes : List ℕ) (from depth : ℕ) (old new : Scanner A) → NoLevel o bytes from depth → IsAt o bytes old from → PassesBlanks old new → IsThere new None → IsLevelOf o bytes (0x20 ∷ 0x20 ∷ [])
  level_last o bytes from depth old new n a b q tail ps h =
      let t = n.goes tail ps h in
      let none = none_left o bytes tail old new from t.pieces a b q t.parts in
      sym (t.same ∙ ap (level_of depth) none.0)

-- an end of a line is found before a piece or before the end of the text
module _ {A : Type 0} where
  pub end_found : (o : Options) (bytes gap : List ℕ) (from begin : ℕ) (old new : Scanner A) (f : Option Scanned) (s : List ℕ) → IsUtf8 bytes → NoEnd o bytes from → IsAt o bytes old from → PassesBlanks old new
      → IsThere new f → begin ≡ start_of new → gap ≡ slice_range bytes from begin → ((other : List ℕ) → first_end (chars gap) other ≡ s) → IsLineEndOf o bytes s
  end_found o bytes gap from begin old new (Some w) s u n a b t i e f =
      end_here o bytes gap from begin (end_of new) w s u n (read_to o bytes old new from begin (end_of new) w a b t i refl) e f
  end_found o bytes gap from begin old new None s u n a b t i e f =
      end_last o bytes gap from old new s n a b t (ap chars e ∙ gap_to_end o bytes old new from begin u a b t i) (f (0x0A ∷ []))
