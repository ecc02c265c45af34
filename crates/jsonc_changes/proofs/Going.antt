-- The gaps of two texts, as far as they are compared.
use Rattle.std.specs.List.{suffix_len}
use Rattle.std.proofs.Common.{ℕ, ◌+◌, ◌<◌, ◌≤◌, ◌≡◌, ◌∙◌, sym, ap, subst, List, [], ◌∷◌, ◌++◌, length, take, filter, slice_range, chars, Some, All, IsTrue, IsUtf8, IsCharBoundary, append_assoc, arith}
use Rattle.std.proofs.lemmas.List.{append_cancel_left, append_cancel_right}
use Rattle.std.proofs.lemmas.Str.{IsCharBoundary-start, IsCharBoundary-end, chars-nil}
use Rattle.std.proofs.Math.Seq.{take-length}
use Rattle.jsonc_text.specs.declared.common.Range.{Range}
use Rattle.jsonc_text.specs.Text.{Many, Spans, byte_length, next, no, rest}
use Rattle.jsonc_text.specs.Gaps.{is_blank}
use Rattle.jsonc_text.proofs.Cuts.{chars_at, end_place, many_split, place_after, slice_chars, slice_encodes}
use Rattle.jsonc_mends.specs.declared.mends.TextChange.{TextChange}
use Rattle.jsonc_changes.specs.Changes.{AreChanges, Changes, none, DifferInBlanks, HaveInCommon, IsGapChange, Puts, Replaces, is_no_blank}
use Rattle.jsonc_changes.proofs.Pieces.{kept_on, put_on, put_all}
use Rattle.jsonc_changes.proofs.Blanks.{unblanked, others_stay, both_end, ends_in_others}

-- all blanks from one place on end at another
pub record Blanks (bytes : List ℕ) (i j : ℕ) : Type 0 where
  pub boundary : IsCharBoundary bytes j
  pub order : i ≤ j
  pub many : Many is_blank (rest bytes i) (rest bytes j)
  pub all : IsTrue (no is_blank (next (rest bytes j)))

-- what is known between two gaps of texts that differ in blanks
pub record Ready (old new : List ℕ) (from at : ℕ) (cs : List TextChange) : Type 0 where
  pub before : suffix_len is_blank (chars (take from old)) ≡ 0
  pub left : DifferInBlanks (rest old from) (rest new at)
  pub gaps : All (IsGapChange old) cs

abbrev pub SpansIn : List ℕ → TextChange → Type 0
SpansIn old c = Spans old c.range.start c.range.end

-- what is known between two gaps
pub record Going (old new : List ℕ) (from at : ℕ) (cs : List TextChange) : Type 0 where
  pub old_place : IsCharBoundary old from
  pub new_place : IsCharBoundary new at
  pub made : Changes (take from old) cs (take at new)
  pub spans : All (SpansIn old) cs
  pub ready : DifferInBlanks (chars old) (chars new) → Ready old new from at cs

-- two gaps, and the range of each
pub record Gap (old new : List ℕ) (from at end stop : ℕ) (range written : Range) : Type 0 where
  pub was : Blanks old from end
  pub now : Blanks new at stop
  pub old_start : range.start ≡ from
  pub new_start : written.start ≡ at

blank_part : (bytes : List ℕ) (i j : ℕ) → IsUtf8 bytes → IsCharBoundary bytes i → IsCharBoundary bytes j → Many is_blank (rest bytes i) (rest bytes j) → Many is_blank (chars (slice_range bytes i j)) []
blank_part bytes i j u b d m =
    let part = many_split is_blank m in
    subst (λ t. Many is_blank t []) (sym (slice_chars bytes part.0 i j u b d part.1)) part.2

-- a gap that is replaced is a change of a gap
gap_change : (old new : List ℕ) (from at end stop : ℕ) (range written : Range) (c : TextChange) → IsUtf8 new → IsCharBoundary new at
    → Gap old new from at end stop range written → range.end ≡ end → written.end ≡ stop → suffix_len is_blank (chars (take from old)) ≡ 0
    → Replaces old range new written c → IsGapChange old c
gap_change old new from at end stop range written c v b g e f before r =
    let start : c.range.start ≡ from = ap (λ (x : Range). x.start) r.range_is ∙ g.old_start in
    let last : c.range.end ≡ end = ap (λ (x : Range). x.end) r.range_is ∙ e in
    let text : slice_range new at stop ≡ c.new_text.now = ap (λ n. slice_range new n stop) (sym g.new_start) ∙ ap (slice_range new written.start) (sym f) ∙ sym r.text in
    let same : slice_range old c.range.start c.range.end ≡ slice_range old range.start range.end =
    ap (λ (x : Range). slice_range old x.start x.end) r.range_is in
    record {
      before = ap (λ n. suffix_len is_blank (chars (take n old))) start ∙ before;
      blank = subst (λ n. Many is_blank (rest old n) (rest old c.range.end)) (sym start) (subst (λ n. Many is_blank (rest old from) (rest old n)) (sym last) g.was.many);
      after = subst (λ n. IsTrue (no is_blank (next (rest old n)))) (sym last) g.was.all;
      written = subst (λ t. Many is_blank (chars t) []) text (blank_part new at stop v b g.now.boundary g.now.many);
      differs = λ h. r.differs (sym same ∙ h);
    }

span_of : (old new : List ℕ) (range written : Range) (c : TextChange) → Spans old range.start range.end → Replaces old range new written c → SpansIn old c
span_of old new range written c s r = subst (λ (x : Range). Spans old x.start x.end) (sym r.range_is) s

-- the same after both gaps
after_gaps : (old new : List ℕ) (from at end stop : ℕ) → Blanks old from end → Blanks new at stop
    → DifferInBlanks (rest old from) (rest new at) → DifferInBlanks (rest old end) (rest new stop)
after_gaps old new from at end stop b d h = sym (unblanked b.many) ∙ h ∙ unblanked d.many

-- and after what both texts have then
after_common : (old new : List ℕ) (end stop len : ℕ) → HaveInCommon old end new stop len → DifferInBlanks (rest old end) (rest new stop)
    → DifferInBlanks (rest old (end + len)) (rest new (stop + len))
after_common old new end stop len h d =
    append_cancel_left h.piece (filter is_no_blank (rest old (end + len))) (filter is_no_blank (rest new (stop + len)))
    (sym (ap (filter is_no_blank) h.old_piece ∙ others_stay h.piece (rest old (end + len)) h.unblank) ∙ d
    ∙ (ap (filter is_no_blank) h.new_piece ∙ others_stay h.piece (rest new (stop + len)) h.unblank))

some_bytes : (s : List ℕ) → 0 < byte_length s → 0 < length s
some_bytes [] h = h
some_bytes (c ∷ s) h = omega arith

-- no blank ends what is before the next gap
ends_before : (old new : List ℕ) (end stop len : ℕ) → IsUtf8 old → IsCharBoundary old end → 0 < len → HaveInCommon old end new stop len
    → suffix_len is_blank (chars (take (end + len) old)) ≡ 0
ends_before old new end stop len u b l h =
    let long : end + len ≡ end + byte_length h.piece = place_after old h.piece end (end + len) u b h.old_end h.old_piece in
    let front : List ℕ = chars (take end old) in
    let whole : chars (take (end + len) old) ≡ front ++ h.piece =
    append_cancel_right (chars (take (end + len) old)) (front ++ h.piece) (rest old (end + len))
    (sym (chars_at old (end + len) u h.old_end) ∙ chars_at old end u b ∙ ap (λ t. front ++ t) h.old_piece ∙ sym (append_assoc front h.piece (rest old (end + len)))) in
    ap (suffix_len is_blank) whole ∙ ends_in_others front h.piece h.unblank (some_bytes h.piece (omega (arith, long, l)))

span_at : (bytes : List ℕ) (r : Range) (i j : ℕ) → r.start ≡ i → r.end ≡ j → IsCharBoundary bytes i → IsCharBoundary bytes j → i ≤ j → Spans bytes r.start r.end
span_at bytes r i j e f b d h =
    record { from = subst (IsCharBoundary bytes) (sym e) b; to = subst (IsCharBoundary bytes) (sym f) d; order = omega (arith, e, f, h) }

-- the changes so far, with that of a gap
gap_made : (old new : List ℕ) (from at end stop : ℕ) (range written : Range) (cs ds : List TextChange) → Going old new from at cs
    → IsCharBoundary old end → IsCharBoundary new stop → from ≤ end → at ≤ stop → range.start ≡ from → written.start ≡ at → range.end ≡ end → written.end ≡ stop
    → Puts old range new written cs ds → Changes (take end old) ds (take stop new) × All (SpansIn old) ds
gap_made old new from at end stop range written cs ds g b d l m p q e f h =
    let s = span_at old range from end p e g.old_place b l in
    let t = span_at new written at stop q f g.new_place d m in
    let before : Changes (take range.start old) cs (take written.start new) =
    subst (λ n. Changes (take n old) cs (take written.start new)) (sym p) (subst (λ n. Changes (take from old) cs (take n new)) (sym q) g.made) in
    let after = put_on old new range written cs ds s t h before in (
      subst (λ n. Changes (take end old) ds (take n new)) f (subst (λ n. Changes (take n old) ds (take written.end new)) e after),
      put_all (SpansIn old) old new range written cs ds h (λ c r. span_of old new range written c s r) g.spans,
    )

-- past a gap, and what both texts have after it
pub goes_on : (old new : List ℕ) (from at end stop len : ℕ) (range written : Range) (cs ds : List TextChange) → IsUtf8 old → IsUtf8 new
    → Going old new from at cs → Gap old new from at end stop range written → range.end ≡ end → written.end ≡ stop
    → HaveInCommon old end new stop len → 0 < len → Puts old range new written cs ds → Going old new (end + len) (stop + len) ds
goes_on old new from at end stop len range written cs ds u v g gap e f h l puts =
    let made = gap_made old new from at end stop range written cs ds g gap.was.boundary gap.now.boundary gap.was.order gap.now.order gap.old_start gap.new_start e f puts in
    let same : slice_range old end (end + len) ≡ slice_range new stop (stop + len) =
    slice_encodes old h.piece end (end + len) u gap.was.boundary h.old_end h.old_piece
    ∙ sym (slice_encodes new h.piece stop (stop + len) v gap.now.boundary h.new_end h.new_piece) in
    record {
      old_place = h.old_end;
      new_place = h.new_end;
      made = kept_on old new ds end (end + len) stop (stop + len) (omega arith) (omega arith) same made.0;
      spans = made.1;
      ready = λ d. let k = g.ready d in record {
        before = ends_before old new end stop len u gap.was.boundary l h;
        left = after_common old new end stop len h (after_gaps old new from at end stop gap.was gap.now k.left);
        gaps = put_all (IsGapChange old) old new range written cs ds puts (λ c r. gap_change old new from at end stop range written c v g.new_place gap e f k.before r) k.gaps;
      };
    }

-- up to the ends of both texts
pub ends : (old new : List ℕ) (from at end stop len : ℕ) (range written : Range) (cs ds : List TextChange) → IsUtf8 old → IsUtf8 new
    → Going old new from at cs → Gap old new from at end stop range written → range.end ≡ length old → written.end ≡ length new
    → HaveInCommon old end new stop len → len ≡ 0 → Puts old range new written cs ds → AreChanges old ds new
ends old new from at end stop len range written cs ds u v g gap e f h z puts =
    let made = gap_made old new from at (length old) (length new) range written cs ds g (IsCharBoundary-end old) (IsCharBoundary-end new)
    g.old_place.0 g.new_place.0 gap.old_start gap.new_start e f puts in
    let i : end + len ≡ end = omega (arith, z) in
    let j : stop + len ≡ stop = omega (arith, z) in
    let stops : (c : ℕ) → next (rest old end) ≡ Some c → next (rest new stop) ≡ Some c → IsTrue (is_blank c) =
    subst (λ n. (c : ℕ) → next (rest old n) ≡ Some c → next (rest new stop) ≡ Some c → IsTrue (is_blank c)) i
    (subst (λ n. (c : ℕ) → next (rest old (end + len)) ≡ Some c → next (rest new n) ≡ Some c → IsTrue (is_blank c)) j h.stops) in
    record {
      changes = subst (λ t. Changes old ds t) (take-length new) (subst (λ t. Changes t ds (take (length new) new)) (take-length old) made.0);
      spans = made.1;
      gaps = λ d. let k = g.ready d in
          let left = after_gaps old new from at end stop gap.was gap.now k.left in
          let none = both_end (rest old end) (rest new stop) left gap.was.all gap.now.all stops in
          let here : end ≡ length old = end_place old end u gap.was.boundary none.0 in
          let there : stop ≡ length new = end_place new stop v gap.now.boundary none.1 in
          put_all (IsGapChange old) old new range written cs ds puts
          (λ c r. gap_change old new from at end stop range written c v g.new_place gap (e ∙ sym here) (f ∙ sym there) k.before r) k.gaps;
    }

-- before the first gap
pub starts : (old new : List ℕ) (cs : List TextChange) → IsUtf8 old → IsUtf8 new → cs ≡ [] → Going old new 0 0 cs
starts old new cs u v e =
    let nothing : (P : TextChange → Type 0) → All P cs = λ P. subst (All P) (sym e) (λ n d l. absurd (omega (arith, l))) in
    record {
      old_place = IsCharBoundary-start old u;
      new_place = IsCharBoundary-start new v;
      made = subst (λ l. Changes [] l []) (sym e) none;
      spans = nothing (SpansIn old);
      ready = λ d. record { before = ap (suffix_len is_blank) chars-nil; left = d; gaps = nothing (IsGapChange old) };
    }
