-- Whether an entry leads its line, as far as block comments are passed.
use Rattle.std.proofs.Common.{ℕ, ◌≡◌, ◌∙◌, sym, ap, refl, subst, Bool, true, false, ◌&&◌, List, [], ◌∷◌, IsUtf8, chars, slice_range, None, Some}
use Rattle.jsonc_text.specs.Options.{Options}
use Rattle.jsonc_text.specs.Text.{rest}
use Rattle.jsonc_text.specs.Lexemes.{Scanned, lexeme, line_comment, block_comment}
use Rattle.jsonc_scan.specs.declared.scanner.Scanner.{Scanner}
use Rattle.jsonc_scan.specs.Scanner.{text_of, options_of, start_of, end_of, PassesBlanks, IsThere}
use Rattle.jsonc_text.specs.Places.{is_comment}
use Rattle.jsonc_format.specs.declared.class.Class.{Class}
use Rattle.jsonc_format.specs.declared.class.Class.TheVariants as class
use Rattle.jsonc_format.specs.Classes.{IsOf, comments_by, is_line}
use Rattle.jsonc_format.specs.Format.{Piece, IsPieces, is_line_comment, in_line, leads}
use Rattle.jsonc_format.specs.Pieces.{LeadsOn}
use Rattle.jsonc_format.proofs.Steps.{read_front}
use Rattle.jsonc_format.proofs.Reading.{IsPlaced, placed_read, placed_none}

-- the pieces from a place on, by those from another one on
pub record Reached (o : Options) (bytes tail : List ℕ) (ps : List Piece) (from : ℕ) : Type 0 where
  pub pieces : List Piece
  pub parts : IsPieces o tail (rest bytes from) pieces
  pub same : (s : List ℕ) → leads (block_comment s) ps ≡ leads (block_comment s) pieces

same_block : (s t : List ℕ) (ps : List Piece) → leads (block_comment s) ps ≡ leads (block_comment t) ps
same_block s t [] = refl
same_block s t (p ∷ ps) = refl

block_leads : (w : Scanned) → is_comment w ≡ true → is_line_comment w ≡ false → (s : List ℕ) (ps : List Piece) → leads w ps ≡ leads (block_comment s) ps
block_leads (lexeme k) h n s ps = cc
block_leads (line_comment t) h n s ps = cc
block_leads (block_comment t) h n s ps = same_block t s ps

module _ {A : Type 0} where
  pub record LeadsFrom (o : Options) (bytes : List ℕ) (scanner : Scanner A) (place from : ℕ) : Type 0 where
    pub text : text_of scanner ≡ bytes
    pub options : options_of scanner ≡ o
    pub end : end_of scanner ≡ from
    pub goes : (tail : List ℕ) (ps : List Piece) → IsPieces o tail (rest bytes place) ps → Reached o bytes tail ps from

  leads_placed : (o : Options) (bytes : List ℕ) (s : Scanner A) (place from : ℕ) → LeadsFrom o bytes s place from → IsPlaced o bytes s from
  leads_placed o bytes s place from l = record { text = l.text; options = l.options; end = l.end }

  -- the first piece that was not passed yet
  leads_front : (o : Options) (bytes : List ℕ) (old new : Scanner A) (place from begin : ℕ) (w : Scanned) → IsUtf8 bytes → LeadsFrom o bytes old place from → PassesBlanks old new → IsThere new (Some w)
      → begin ≡ start_of new → (tail : List ℕ) (ps : List Piece) → IsPieces o tail (rest bytes place) ps → (others : List Piece) × IsPieces o tail (rest bytes (end_of new)) others
      × ((s : List ℕ) → leads (block_comment s) ps ≡ in_line (chars (slice_range bytes from begin)) && leads w others)
  leads_front o bytes old new place from begin w u l b t e tail ps h =
      let r = l.goes tail ps h in
      let read = placed_read o bytes old new from w (leads_placed o bytes old place from l) b t in
      let f = read_front o bytes from (start_of new) (end_of new) w u read tail r.pieces r.parts in
      (f.others, f.parts, λ s. r.same s ∙ ap (leads (block_comment s)) f.same ∙ ap (λ n. in_line (chars (slice_range bytes from n)) && leads w f.others) (sym e))

  pub leads_end : (o : Options) (bytes : List ℕ) (old new : Scanner A) (place from : ℕ) → LeadsFrom o bytes old place from → PassesBlanks old new → IsThere new None → LeadsOn o (rest bytes place) false
  leads_end o bytes old new place from l b t s tail ps h =
      let r = l.goes tail ps h in
      let none = placed_none o bytes tail old new from r.pieces (leads_placed o bytes old place from l) b t r.parts in
      r.same s ∙ ap (leads (block_comment s)) none.0

  pub leads_broken : (o : Options) (bytes : List ℕ) (old new : Scanner A) (place from begin : ℕ) (w : Scanned) → IsUtf8 bytes → LeadsFrom o bytes old place from → PassesBlanks old new → IsThere new (Some w)
      → begin ≡ start_of new → in_line (chars (slice_range bytes from begin)) ≡ false → LeadsOn o (rest bytes place) false
  leads_broken o bytes old new place from begin w u l b t e f s tail ps h =
      let k = leads_front o bytes old new place from begin w u l b t e tail ps h in
      k.2 s ∙ ap (λ b. b && leads w k.0) f

  pub leads_there : (o : Options) (bytes : List ℕ) (old new : Scanner A) (place from begin : ℕ) (w : Scanned) (lead : Bool) → IsUtf8 bytes → LeadsFrom o bytes old place from → PassesBlanks old new
      → IsThere new (Some w) → begin ≡ start_of new → in_line (chars (slice_range bytes from begin)) ≡ true → ((qs : List Piece) → leads w qs ≡ lead) → LeadsOn o (rest bytes place) lead
  leads_there o bytes old new place from begin w lead u l b t e f g s tail ps h =
      let k = leads_front o bytes old new place from begin w u l b t e tail ps h in
      k.2 s ∙ ap (λ b. b && leads w k.0) f ∙ g k.0

  pub leads_next : (o : Options) (bytes : List ℕ) (old new : Scanner A) (place from begin end : ℕ) (k : Class) (w : Scanned) → IsUtf8 bytes → LeadsFrom o bytes old place from → PassesBlanks old new
      → IsThere new (Some w) → begin ≡ start_of new → end ≡ end_of new → in_line (chars (slice_range bytes from begin)) ≡ true → IsOf k w → k ≡ class.BlockComment → LeadsFrom o bytes new place end
  leads_next o bytes old new place from begin end k w u l b t e i f c d = record {
    text = b.text ∙ l.text;
    options = b.options ∙ l.options;
    end = sym i;
    goes = λ tail ps h.
        let r = leads_front o bytes old new place from begin w u l b t e tail ps h in
        record {
          pieces = r.0;
          parts = subst (λ n. IsPieces o tail (rest bytes n) r.0) (sym i) r.1;
          same = λ s. r.2 s ∙ ap (λ b. b && leads w r.0) f ∙ block_leads w (c.comment ∙ ap comments_by d) (c.line ∙ ap is_line d) s r.0;
        };
  }
