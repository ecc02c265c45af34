-- Where a scanner is in a text.
use Rattle.std.proofs.Common.{ℕ, ◌≡◌, ◌∙◌, ◌≤◌, ◌<◌, ◌-◌, sym, ap, refl, subst, List, [], ◌++◌, IsUtf8, IsCharBoundary, chars, slice_range, append-nil, length, arith, Some, None, inl, inr}
use Rattle.jsonc_text.specs.Options.{Options}
use Rattle.jsonc_text.specs.Text.{rest, Many, Spans}
use Rattle.jsonc_text.specs.Gaps.{is_blank}
use Rattle.jsonc_text.specs.Lexemes.{Scanned, IsScanned}
use Rattle.jsonc_text.proofs.CharacterSteps.{rest_end}
use Rattle.jsonc_text.proofs.Cuts.{end_place, chars_between}
use Rattle.jsonc_scan.specs.declared.scanner.Scanner.{Scanner}
use Rattle.jsonc_scan.specs.Scanner.{text_of, options_of, start_of, end_of, left, PassesBlanks, IsThere, GoesOn, NothingStands}
use Rattle.jsonc_format.specs.declared.stop.Stop.{Stop}
use Rattle.jsonc_format.specs.Format.{Piece, IsPieces}
use Rattle.jsonc_format.specs.Pieces.{HasNoPieces, IsReadAt, IsPiecesError}
use Rattle.jsonc_format.proofs.Steps.{read_front, none_here, no_front}

pub moved : {A B : Type 0} (P : A → B → Type 0) {a x : A} {b y : B} → a ≡ x → b ≡ y → P a b → P x y
moved P {a} {x} {b} {y} e f h = subst (λ b. P x b) f (subst (λ a. P a b) e h)

pub moved_three : {A B C : Type 0} (P : A → B → C → Type 0) {a x : A} {b y : B} {c z : C} → a ≡ x → b ≡ y → c ≡ z → P a b c → P x y z
moved_three P {a} {x} {b} {y} {c} {z} e f g h = subst (λ c. P x y c) g (subst (λ b. P x b c) f (subst (λ a. P a b c) e h))

module _ {A : Type 0} where
  -- the scanner is at a place
  pub record IsPlaced (o : Options) (bytes : List ℕ) (s : Scanner A) (place : ℕ) : Type 0 where
    pub text : text_of s ≡ bytes
    pub options : options_of s ≡ o
    pub end : end_of s ≡ place

  -- the scanner is at a place, and where there are pieces of the text, there are some from there on
  pub record IsAt (o : Options) (bytes : List ℕ) (s : Scanner A) (place : ℕ) : Type 0 where
    pub text : text_of s ≡ bytes
    pub options : options_of s ≡ o
    pub end : end_of s ≡ place
    pub none : HasNoPieces o (rest bytes place) → HasNoPieces o (chars bytes)

  pub at_start : (o : Options) (bytes : List ℕ) (s : Scanner A) → text_of s ≡ bytes → options_of s ≡ o → end_of s ≡ 0 → IsAt o bytes s 0
  at_start o bytes s t p e = record { text = t; options = p; end = e; none = λ h. h }

  pub placed : (o : Options) (bytes : List ℕ) (s : Scanner A) (place : ℕ) → IsAt o bytes s place → IsPlaced o bytes s place
  placed o bytes s place h = record { text = h.text; options = h.options; end = h.end }

  pub placed_read : (o : Options) (bytes : List ℕ) (old new : Scanner A) (place : ℕ) (w : Scanned) → IsPlaced o bytes old place → PassesBlanks old new → IsThere new (Some w)
      → IsReadAt o bytes place (start_of new) (end_of new) w
  placed_read o bytes old new place w h b t =
      let same : text_of new ≡ bytes = b.text ∙ h.text in
      let options : options_of new ≡ o = b.options ∙ h.options in
      record {
        gap = record {
          from = moved IsCharBoundary h.text h.end old.at_place;
          to = subst (λ t. IsCharBoundary t (start_of new)) same new.starts_at_place;
          order = subst (λ n. n ≤ start_of new) h.end b.order.0;
        };
        text = record {
          from = subst (λ t. IsCharBoundary t (start_of new)) same new.starts_at_place;
          to = subst (λ t. IsCharBoundary t (end_of new)) same new.at_place;
          order = b.order.1;
        };
        blanks = subst (λ t. Many is_blank (rest bytes place) (rest t (start_of new))) same (moved (λ t n. Many is_blank (rest t n) (rest (text_of new) (start_of new))) h.text h.end b.blanks);
        scanned = moved (λ o t. IsScanned o w (rest t (start_of new)) (rest t (end_of new))) options same t.1;
      }

  pub read_here : (o : Options) (bytes : List ℕ) (old new : Scanner A) (place : ℕ) (w : Scanned) → IsAt o bytes old place → PassesBlanks old new → IsThere new (Some w)
      → IsReadAt o bytes place (start_of new) (end_of new) w
  read_here o bytes old new place w h b t = placed_read o bytes old new place w (placed o bytes old place h) b t

  pub at_next : (o : Options) (bytes : List ℕ) (old new : Scanner A) (place : ℕ) (w : Scanned) → IsUtf8 bytes → IsAt o bytes old place → PassesBlanks old new → IsThere new (Some w)
      → IsAt o bytes new (end_of new)
  at_next o bytes old new place w u h b t = record {
    text = b.text ∙ h.text;
    options = b.options ∙ h.options;
    end = refl;
    none = λ n. h.none (λ tail ps p. let f = read_front o bytes place (start_of new) (end_of new) w u (read_here o bytes old new place w h b t) tail ps p in n tail f.others f.parts);
  }

  pub at_place : (o : Options) (bytes : List ℕ) (old new : Scanner A) (place end : ℕ) (w : Scanned) → IsUtf8 bytes → IsAt o bytes old place → PassesBlanks old new → IsThere new (Some w) → end ≡ end_of new
      → IsAt o bytes new end
  at_place o bytes old new place end w u h b t e = subst (IsAt o bytes new) (sym e) (at_next o bytes old new place w u h b t)

  pub read_to : (o : Options) (bytes : List ℕ) (old new : Scanner A) (place begin end : ℕ) (w : Scanned) → IsAt o bytes old place → PassesBlanks old new → IsThere new (Some w) → begin ≡ start_of new → end ≡ end_of new
      → IsReadAt o bytes place begin end w
  read_to o bytes old new place begin end w h b t s e = moved (λ i j. IsReadAt o bytes place i j w) (sym s) (sym e) (read_here o bytes old new place w h b t)

  -- none is left
  pub placed_none : (o : Options) (bytes tail : List ℕ) (old new : Scanner A) (place : ℕ) (ps : List Piece) → IsPlaced o bytes old place → PassesBlanks old new → IsThere new None
      → IsPieces o tail (rest bytes place) ps → (ps ≡ []) × (rest bytes place ≡ tail)
  placed_none o bytes tail old new place ps h b t p =
      let same : text_of new ≡ bytes = b.text ∙ h.text in
      let end : rest (text_of new) (start_of new) ≡ [] = ap (rest (text_of new)) t.0 ∙ rest_end (text_of new) (length (text_of new)) (omega arith) in
      no_front p (subst (λ t. Many is_blank (rest bytes place) t) end (moved (λ t n. Many is_blank (rest t n) (rest (text_of new) (start_of new))) h.text h.end b.blanks))

  pub none_left : (o : Options) (bytes tail : List ℕ) (old new : Scanner A) (place : ℕ) (ps : List Piece) → IsAt o bytes old place → PassesBlanks old new → IsThere new None
      → IsPieces o tail (rest bytes place) ps → (ps ≡ []) × (rest bytes place ≡ tail)
  none_left o bytes tail old new place ps h b t p = placed_none o bytes tail old new place ps (placed o bytes old place h) b t p

  pub no_pieces : (o : Options) (bytes : List ℕ) (s : Scanner A) (place : ℕ) → IsAt o bytes s place → HasNoPieces (options_of s) (left s) → HasNoPieces o (chars bytes)
  no_pieces o bytes s place h n = h.none (moved_three (λ o t k. HasNoPieces o (rest t k)) h.options h.text h.end n)

  -- what is wrong from there on is wrong with the text
  pub error_from : (o : Options) (bytes : List ℕ) (s : Scanner A) (place : ℕ) (e : Stop) → IsAt o bytes s place → IsPiecesError o (rest bytes place) e → IsPiecesError o (chars bytes) e
  error_from o bytes s place e h (inl m) = inl m
  error_from o bytes s place e h (inr n) = inr (h.none n)

  pub smaller : (o : Options) (bytes : List ℕ) (old new : Scanner A) (place : ℕ) (w : Scanned) → IsAt o bytes old place → PassesBlanks old new → IsThere new (Some w)
      → length bytes - end_of new < length bytes - place
  smaller o bytes old new place w h b t =
      let r = read_here o bytes old new place w h b t in
      omega (arith, t.0, r.gap.order, r.text.to.0)

  pub smaller_place : (o : Options) (bytes : List ℕ) (old new : Scanner A) (place end : ℕ) (w : Scanned) → IsAt o bytes old place → PassesBlanks old new → IsThere new (Some w) → end ≡ end_of new
      → length bytes - end < length bytes - place
  smaller_place o bytes old new place end w h b t e = subst (λ n. length bytes - n < length bytes - place) (sym e) (smaller o bytes old new place w h b t)

  pub read_some : (new : Scanner A) (begin end : ℕ) (w : Scanned) → begin ≡ start_of new → end ≡ end_of new → IsThere new (Some w) → begin < end
  read_some new begin end w b e t = omega (arith, b, e, t.0)

  -- the blanks at the end of the text
  pub gap_to_end : (o : Options) (bytes : List ℕ) (old new : Scanner A) (place begin : ℕ) → IsUtf8 bytes → IsAt o bytes old place → PassesBlanks old new → IsThere new None → begin ≡ start_of new
      → chars (slice_range bytes place begin) ≡ rest bytes place
  gap_to_end o bytes old new place begin u h b t e =
      let same : text_of new ≡ bytes = b.text ∙ h.text in
      let gap : Spans bytes place (start_of new) = record {
        from = moved IsCharBoundary h.text h.end old.at_place;
        to = subst (λ t. IsCharBoundary t (start_of new)) same new.starts_at_place;
        order = subst (λ n. n ≤ start_of new) h.end b.order.0;
      } in
      let last : start_of new ≡ length bytes = t.0 ∙ ap length same in
      let none : rest bytes (start_of new) ≡ [] = ap (rest bytes) last ∙ rest_end bytes (length bytes) (omega arith) in
      ap (λ n. chars (slice_range bytes place n)) e ∙ sym (append-nil (chars (slice_range bytes place (start_of new)))) ∙ ap (λ s. chars (slice_range bytes place (start_of new)) ++ s) (sym none) ∙ sym (chars_between bytes place (start_of new) u gap)

  -- a scanner that stopped without a lexeme or comment
  pub stopped_here : (old new : Scanner A) → IsUtf8 (text_of new) → PassesBlanks old new → NothingStands new → GoesOn new → HasNoPieces (options_of old) (left old)
  stopped_here old new u b n g =
      none_here (options_of old) (left old) (rest (text_of new) (start_of new)) b.blanks g.no_blank (λ w r x. n w r (subst (λ o. IsScanned o w (rest (text_of new) (start_of new)) r) (sym b.options) x))
      (λ e. let k : start_of new ≡ length (text_of new) = end_place (text_of new) (start_of new) u new.starts_at_place e in absurd (omega (arith, k, g.inside)))
