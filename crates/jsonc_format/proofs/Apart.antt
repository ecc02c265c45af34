-- Pieces of a document end before what is written after them.
use Rattle.std.proofs.Common.{ℕ, zero, suc, ◌≡◌, ◌∙◌, sym, refl, Bool, true, false, not, ◌&&◌, ◌||◌, ◌==◌, nat_lt, List, [], ◌∷◌, ◌++◌, IsTrue, arith, if◌then◌else◌, ◌⊎◌, inl, inr}
use Rattle.jsonc_text.specs.Options.{Options}
use Rattle.jsonc_text.specs.Text.{next, no, starts, is_line_end}
use Rattle.jsonc_text.specs.Gaps.{is_blank, is_in_line}
use Rattle.jsonc_text.specs.Places.{is_comment}
use Rattle.jsonc_text.specs.Lexemes.{LexemeKind, Scanned, lexeme, line_comment, block_comment, IsScanned, CanEndBefore}
use Rattle.jsonc_text.specs.Words.{Keyword, EndsWord}
use Rattle.jsonc_text.proofs.LexemesAlone.{scanned_before}
use Rattle.jsonc_format.specs.Format.{Style, Frame, State, Piece, mark, opens, closes, separates, leads, lines, in_line, on_one_line, is_flat, shift, indent, new_line, gap_in_line, gap_on_lines, gap_in, without_first, after, written, layout_after, left_open, is_last}
use Rattle.jsonc_format.specs.Styles.{IsLineEnd, line_feed, carriage_return, both, IsProper}
use Rattle.jsonc_format.specs.Laws.{Apart, closes_first}
use Rattle.jsonc_format.proofs.DocumentPieces.{names_next}

-- a space, the end of a line, a comma, a colon or a closing bracket
abbrev pub parts : ℕ → Bool
parts c = c == 0x20 || c == 0x0A || c == 0x0D || c == 0x2C || c == 0x3A || c == 0x5D || c == 0x7D

-- the text begins with one of these
abbrev pub Parts : List ℕ → Type 0
Parts r = IsTrue (starts parts (next r))

-- the next piece, if there is one, is on another line
abbrev pub breaks_next : List Piece → Bool
breaks_next [] = true
breaks_next (p ∷ ps) = not (in_line p.gap)

-- what is asked of the pieces after a lexeme or comment
abbrev pub may_follow : Scanned → List Piece → Bool
may_follow (lexeme (LexemeKind.word s)) ps = names_next ps
may_follow (line_comment s) ps = breaks_next ps
may_follow w ps = true

-- pieces that a text has in their order, each by itself
pub data Sound (o : Options) : List Piece → Type 0 where
  none : Sound o []
  some : (p : Piece) (u : List ℕ) {ps : List Piece} → IsScanned o p.what p.text [] → CanEndBefore p.what p.text u → written p.what p.text ≡ p.text → IsTrue (may_follow p.what ps) → Sound o ps → Sound o (p ∷ ps)

-- the container around n others is on one line
abbrev pub flat_at : List Frame → ℕ → Bool
flat_at [] n = false
flat_at (f ∷ fs) zero = not f.spread
flat_at (f ∷ fs) (suc n) = flat_at fs n

-- each open container that is on one line ends on it
abbrev pub Held : List Frame → Bool → List Piece → Type 0
Held around bare ps = (n : ℕ) → IsTrue (flat_at around n) → IsTrue (on_one_line n ps) ⊎ (IsTrue bare × IsTrue (closes_first ps) × (n ≡ 0))

and_last : (a b c : Bool) → IsTrue (a && (b && c)) → IsTrue c
and_last true true c h = h
and_last true false c h = cc
and_last false b c h = cc

-- of the last bracket of one container more
held_out : (n : ℕ) (op cl : Bool) (p : Piece) (ps : List Piece) → opens p.what ≡ op → closes p.what ≡ cl → IsTrue (on_one_line n (p ∷ ps)) → IsTrue (is_last op cl n || on_one_line (left_open op cl n) ps)
held_out n op cl p ps e f h = rw (e, f) at (and_last (in_line p.gap) (in_line p.text) _ h)

module _ (y : Style) where
  next_held : (s : State) (p : Piece) (ps : List Piece) (op cl se cm : Bool) → opens p.what ≡ op → closes p.what ≡ cl → separates p.what ≡ se → is_comment p.what ≡ cm → IsTrue (not (op && cl))
      → Held s.around s.bare (p ∷ ps) → Held (after y s p.what ps).around (after y s p.what ps).bare ps
  next_held s p ps true true se cm e f g i d h n k = cc
  next_held s p ps true false se cm e f g i d h zero k = by_expands y.expands (is_flat ps) refl (rw e at k)
    where
      flat_now : (ps : List Piece) → IsTrue (is_flat ps) → IsTrue (on_one_line 0 ps) ⊎ (IsTrue true × IsTrue (closes_first ps) × (◌≡◌ {A = ℕ} 0 0))
      flat_now [] h = cc
      flat_now (q ∷ qs) h = each (closes q.what) refl h
        where
          each : (b : Bool) → closes q.what ≡ b → IsTrue (b || on_one_line 0 (q ∷ qs)) → IsTrue (on_one_line 0 (q ∷ qs)) ⊎ (IsTrue true × IsTrue (closes q.what) × (◌≡◌ {A = ℕ} 0 0))
          each true e h = inr (refl, e, refl)
          each false e h = inl h

      by_expands : (x b : Bool) → is_flat ps ≡ b → IsTrue (not (x || not b)) → IsTrue (on_one_line 0 ps) ⊎ (IsTrue (after y s p.what ps).bare × IsTrue (closes_first ps) × (◌≡◌ {A = ℕ} 0 0))
      by_expands true b q k = cc
      by_expands false false q k = cc
      by_expands false true q k = rw e (flat_now ps q)
  next_held s p ps true false se cm e f g i d h (suc n) k = inl (by_held (h n (rw e at k)))
    where
      by_held : IsTrue (on_one_line n (p ∷ ps)) ⊎ (IsTrue s.bare × IsTrue (closes p.what) × (n ≡ 0)) → IsTrue (on_one_line (suc n) ps)
      by_held (inl x) = held_out n true false p ps e f x
      by_held (inr (a, b, c)) = let z : true ≡ false = sym b ∙ f in cc
  next_held s p ps false true se cm e f g i d h n k = inl (by_frames s.around (rw (e, f) at k) h)
    where
      by_frames : (fs : List Frame) → IsTrue (flat_at (without_first fs) n) → Held fs s.bare (p ∷ ps) → IsTrue (on_one_line n ps)
      by_frames [] k h = cc
      by_frames (a ∷ fs) k h = by_held (h (suc n) k)
        where
          by_held : IsTrue (on_one_line (suc n) (p ∷ ps)) ⊎ (IsTrue s.bare × IsTrue (closes p.what) × (suc n ≡ 0)) → IsTrue (on_one_line n ps)
          by_held (inl x) = held_out (suc n) false true p ps e f x
          by_held (inr (a, b, c)) = cc
  next_held s p ps false false se cm e f g i d h n k = inl (by_held (h n (stays se cm g i k)))
    where
      stays : (se cm : Bool) → separates p.what ≡ se → is_comment p.what ≡ cm → IsTrue (flat_at (after y s p.what ps).around n) → IsTrue (flat_at s.around n)
      stays true cm g i k = rw (e, f, g) at k
      stays false true g i k = rw (e, f, g, i) at k
      stays false false g i k = rw (e, f, g, i) at k

      by_held : IsTrue (on_one_line n (p ∷ ps)) ⊎ (IsTrue s.bare × IsTrue (closes p.what) × (n ≡ 0)) → IsTrue (on_one_line n ps)
      by_held (inl x) = held_out n false false p ps e f x
      by_held (inr (a, b, c)) = let z : true ≡ false = sym b ∙ f in cc

module _ (y : Style) (proper : IsProper y) where
  end_parts : {e : List ℕ} (s : List ℕ) → IsLineEnd e → IsTrue (starts is_line_end (next (e ++ s)))
  end_parts s line_feed = refl
  end_parts s carriage_return = refl
  end_parts s both = refl

  breaks_first : {e : List ℕ} (t s : List ℕ) → IsLineEnd e → IsTrue (starts is_line_end (next ((e ++ t) ++ s)))
  breaks_first t s line_feed = refl
  breaks_first t s carriage_return = refl
  breaks_first t s both = refl

  line_breaks : (fs : List Frame) (sh b : Bool) (s : List ℕ) → IsTrue (starts is_line_end (next (new_line y fs sh b ++ s)))
  line_breaks fs sh true s = breaks_first (y.line_end ++ (shift y.level sh ++ indent y.level fs)) s proper.ends
  line_breaks fs sh false s = breaks_first (shift y.level sh ++ indent y.level fs) s proper.ends

  -- after a line comment
  breaks_after : (s : State) (fs : List Frame) (q : Piece) (qs : List Piece) (t : List ℕ) → s.line ≡ true → s.bare ≡ false → (IsTrue (flat_at fs 0) → ⊥) → IsTrue (starts is_line_end (next (gap_in y s fs q qs ++ t)))
  breaks_after s [] q qs t l b n = rw l (line_breaks s.around s.shifted _ t)
  breaks_after s (f ∷ fs) q qs t l b n =
      each s.bare s.line f.spread (closes q.what) (nat_lt 1 (lines q.gap) && not (separates q.what || s.in_property)) (gap_in_line f.object s q.what)
      (if separates q.what then [] else (if s.in_property || (in_line q.gap && (s.comment || not (leads q.what qs))) then 0x20 ∷ [] else new_line y s.around s.shifted (nat_lt 1 (lines q.gap) && not s.bare))) l b n
    where
      each : (ba li sp cl bl : Bool) (u v : List ℕ) → li ≡ true → ba ≡ false → (IsTrue (not sp) → ⊥)
          → IsTrue (starts is_line_end (next ((if ba && cl then [] else (if not sp then u else (if cl then new_line y fs f.shifted false else (if li then new_line y s.around s.shifted bl else v)))) ++ t)))
      each ba li false cl bl u v e g n = absurd (n refl)
      each true li true cl bl u v e g n = cc
      each false false true cl bl u v e g n = cc
      each false true true true bl u v e g n = line_breaks fs f.shifted false t
      each false true true false bl u v e g n = line_breaks s.around s.shifted bl t

  -- after a lexeme that opens nothing: a gap that is written begins with a space or the end of a line, and is empty only before a comma, a colon or a closing bracket
  module _ (P : ℕ → Bool) (space : IsTrue (P 0x20)) (ends : (c : ℕ) → IsTrue (is_line_end c) → IsTrue (P c)) where
    breaks_too : (t : List ℕ) → IsTrue (starts is_line_end (next t)) → IsTrue (starts P (next t))
    breaks_too [] h = cc
    breaks_too (c ∷ t) h = ends c h

    on_lines_next : (s : State) (q : Piece) (qs : List Piece) (t : List ℕ) → s.line ≡ false → (IsTrue (separates q.what || closes q.what) → IsTrue (starts P (next t)))
        → IsTrue (starts P (next (gap_on_lines y s q qs ++ t)))
    on_lines_next s q qs t l f = rw l (each (separates q.what) (s.in_property || (in_line q.gap && (s.comment || not (leads q.what qs)))) f)
      where
        each : (se sp : Bool) → (IsTrue (se || closes q.what) → IsTrue (starts P (next t)))
            → IsTrue (starts P (next ((if se then [] else (if sp then 0x20 ∷ [] else new_line y s.around s.shifted (nat_lt 1 (lines q.gap) && not s.bare))) ++ t)))
        each true sp f = f refl
        each false true f = space
        each false false f = breaks_too _ (line_breaks s.around s.shifted _ t)

    gap_next : (s : State) (fs : List Frame) (q : Piece) (qs : List Piece) (t : List ℕ) → s.line ≡ false → s.bare ≡ false → (IsTrue (separates q.what || closes q.what) → IsTrue (starts P (next t)))
        → IsTrue (starts P (next (gap_in y s fs q qs ++ t)))
    gap_next s [] q qs t l b f = on_lines_next s q qs t l f
    gap_next s (a ∷ fs) q qs t l b f = each s.bare a.spread (closes q.what) (separates q.what) a.object (gap_on_lines y s q qs) b f (on_lines_next s q qs t l f)
      where
        each : (ba sp cl se ob : Bool) (w : List ℕ) → ba ≡ false → (IsTrue (se || cl) → IsTrue (starts P (next t))) → IsTrue (starts P (next (w ++ t)))
            → IsTrue (starts P (next ((if ba && cl then [] else (if not sp then (if se || ((ba || cl) && not ob) then [] else 0x20 ∷ []) else (if cl then new_line y fs a.shifted false else w))) ++ t)))
        each true sp cl se ob w e f g = cc
        each false false cl true ob w e f g = f refl
        each false false true false false w e f g = f refl
        each false false true false true w e f g = space
        each false false false false ob w e f g = space
        each false true true se ob w e f g = breaks_too (new_line y fs a.shifted false ++ t) (line_breaks fs a.shifted false t)
        each false true false se ob w e f g = g

  end_too : (P : ℕ → Bool) → ((c : ℕ) → IsTrue (is_line_end c) → IsTrue (P c)) → IsTrue (starts P (next y.line_end))
  end_too P ends = each proper.ends
    where
      each : {e : List ℕ} → IsLineEnd e → IsTrue (starts P (next e))
      each line_feed = ends 0x0A refl
      each carriage_return = ends 0x0D refl
      each both = ends 0x0D refl

abbrev pub names : ℕ → Bool
names c = c == 0x20 || c == 0x0A || c == 0x0D || c == 0x3A

ends_part : (c : ℕ) → IsTrue (is_line_end c) → IsTrue (parts c)
ends_part c h = each (c == 0x20) (c == 0x0A) (c == 0x0D) (c == 0x2C) (c == 0x3A) (c == 0x5D) (c == 0x7D) h
  where
    each : (x y z a b d e : Bool) → IsTrue (y || z) → IsTrue (x || y || z || a || b || d || e)
    each true y z a b d e h = refl
    each false true z a b d e h = refl
    each false false true a b d e h = refl
    each false false false a b d e h = cc

ends_name : (c : ℕ) → IsTrue (is_line_end c) → IsTrue (names c)
ends_name c h = each (c == 0x20) (c == 0x0A) (c == 0x0D) (c == 0x3A) h
  where
    each : (x y z w : Bool) → IsTrue (y || z) → IsTrue (x || y || z || w)
    each true y z w h = refl
    each false true z w h = refl
    each false false true w h = refl
    each false false false w h = cc

word_ends : (t : List ℕ) → IsTrue (starts names (next t)) → EndsWord (next t)
word_ends [] h = cc
word_ends (c ∷ t) h = each (c == 0x20) (c == 0x0A) (c == 0x0D) (c == 0x3A) (c == 0x09) (c == 0x0C) (nat_lt 0x7F c && is_blank c) h
  where
    past_tab : (a b z d : Bool) → IsTrue (a || true || b || z || d)
    past_tab true b z d = refl
    past_tab false b z d = refl

    past_both : (a b d : Bool) → IsTrue (a || false || b || true || d)
    past_both true b d = refl
    past_both false true d = refl
    past_both false false d = refl

    each : (x y z w a b d : Bool) → IsTrue (x || y || z || w) → IsTrue (w || x || a || y || b || z || d)
    each x y z true a b d h = refl
    each true y z false a b d h = refl
    each false true z false a b d h = past_tab a b z d
    each false false true false a b d h = past_both a b d
    each false false false false a b d h = cc

line_ends_there : (t : List ℕ) → IsTrue (starts is_line_end (next t)) → IsTrue (no is_in_line (next t))
line_ends_there [] h = cc
line_ends_there (c ∷ t) h = each (is_line_end c) h
  where
    each : (b : Bool) → IsTrue b → IsTrue (not (not b))
    each true h = refl
    each false h = cc

-- a comma, a colon or a closing bracket is its own text
mark_starts : (o : Options) (w : Scanned) (s t : List ℕ) → IsScanned o w s [] → IsTrue (separates w || closes w) → IsTrue (starts parts (next (written w s ++ t)))
mark_starts o (lexeme (LexemeKind.string v)) s t x h = cc
mark_starts o (lexeme (LexemeKind.number n)) s t x h = cc
mark_starts o (lexeme (LexemeKind.word n)) s t x h = cc
mark_starts o (lexeme (LexemeKind.keyword k)) s t x h = cc
mark_starts o (line_comment c) s t x h = cc
mark_starts o (block_comment c) s t x h = cc
mark_starts o (lexeme (LexemeKind.punctuation c)) s t (a, e) h = rw e (each (c == 0x20) (c == 0x0A) (c == 0x0D) (c == 0x2C) (c == 0x3A) (c == 0x5D) (c == 0x7D) h)
  where
    each : (a b d e f g i : Bool) → IsTrue ((e || f) || (g || i)) → IsTrue (a || b || d || e || f || g || i)
    each true b d e f g i h = refl
    each false true d e f g i h = refl
    each false false true e f g i h = refl
    each false false false true f g i h = refl
    each false false false false true g i h = refl
    each false false false false false g i h = h

-- so is a colon
name_starts : (o : Options) (w : Scanned) (s t : List ℕ) → IsScanned o w s [] → IsTrue (is_comment w || mark w == 0x3A) → IsTrue (separates w || closes w) → IsTrue (starts names (next (written w s ++ t)))
name_starts o (lexeme (LexemeKind.string v)) s t x k h = cc
name_starts o (lexeme (LexemeKind.number n)) s t x k h = cc
name_starts o (lexeme (LexemeKind.word n)) s t x k h = cc
name_starts o (lexeme (LexemeKind.keyword w)) s t x k h = cc
name_starts o (line_comment c) s t x k h = cc
name_starts o (block_comment c) s t x k h = cc
name_starts o (lexeme (LexemeKind.punctuation c)) s t (a, e) k h = rw e (each (c == 0x20) (c == 0x0A) (c == 0x0D) (c == 0x3A) k)
  where
    each : (a b d e : Bool) → IsTrue e → IsTrue (a || b || d || e)
    each true b d e h = refl
    each false true d e h = refl
    each false false true e h = refl
    each false false false e h = h

-- numbers and keywords end before what parts literals
abbrev pub EndLiterals : Type 0
EndLiterals = (s u r : List ℕ) → Parts r → ((n : List ℕ) → CanEndBefore (lexeme (LexemeKind.number n)) s u → CanEndBefore (lexeme (LexemeKind.number n)) s r)
    × ((k : Keyword) → CanEndBefore (lexeme (LexemeKind.keyword k)) s u → CanEndBefore (lexeme (LexemeKind.keyword k)) s r)

first_scanned : {o : Options} {q : Piece} {qs : List Piece} → Sound o (q ∷ qs) → IsScanned o q.what q.text []
first_scanned (some q u x e w m r) = x

module _ (o : Options) (y : Style) (proper : IsProper y) (end : EndLiterals) where
  literal_parts : (s : State) (ps : List Piece) → Sound o ps → s.line ≡ false → s.bare ≡ false → Parts (layout_after y s ps)
  literal_parts s [] r l b = end_too y proper parts ends_part
  literal_parts s (q ∷ qs) r l b = gap_next y proper parts refl ends_part s s.around q qs (written q.what q.text ++ layout_after y (after y s q.what qs) qs) l b (λ h. mark_starts o q.what q.text (layout_after y (after y s q.what qs) qs) (first_scanned r) h)

  word_parts : (s : State) (ps : List Piece) → Sound o ps → s.line ≡ false → s.bare ≡ false → IsTrue (names_next ps) → IsTrue (starts names (next (layout_after y s ps)))
  word_parts s [] r l b n = cc
  word_parts s (q ∷ qs) r l b n = gap_next y proper names refl ends_name s s.around q qs (written q.what q.text ++ layout_after y (after y s q.what qs) qs) l b (λ h. name_starts o q.what q.text (layout_after y (after y s q.what qs) qs) (first_scanned r) n h)

  line_parts : (s : State) (ps : List Piece) → s.line ≡ true → s.bare ≡ false → (IsTrue (flat_at s.around 0) → ⊥) → IsTrue (no is_in_line (next (layout_after y s ps)))
  line_parts s [] l b n = line_ends_there y.line_end (end_too y proper is_line_end (λ c h. h))
  line_parts s (q ∷ qs) l b n = line_ends_there (gap_in y s s.around q qs ++ (written q.what q.text ++ layout_after y (after y s q.what qs) qs)) (breaks_after y proper s s.around q qs (written q.what q.text ++ layout_after y (after y s q.what qs) qs) l b n)

  not_flat : (around : List Frame) (bare : Bool) (c : List ℕ) (gap text : List ℕ) (ps : List Piece) → IsTrue (breaks_next ps) → Held around bare (record { gap = gap; what = line_comment c; text = text } ∷ ps)
      → (q : Piece) (qs : List Piece) → ps ≡ q ∷ qs → IsTrue (flat_at around 0) → ⊥
  not_flat around bare c gap text ps m h q qs e k = by_held (h 0 k)
    where
      never : (a b : Bool) → IsTrue (not a) → IsTrue (a && b) → ⊥
      never true b h k = cc
      never false b h k = cc

      by_held : IsTrue (on_one_line 0 (record { gap = gap; what = line_comment c; text = text } ∷ ps)) ⊎ (IsTrue bare × IsTrue false × (◌≡◌ {A = ℕ} 0 0)) → ⊥
      by_held (inl x) =
          let on : IsTrue (on_one_line 0 ps) = and_last (in_line gap) (in_line text) _ x in
          never (in_line q.gap) _ (rw e at m) (rw e at on)
      by_held (inr (a, b, d)) = cc

  ends_before : (s : State) (p : Piece) (u : List ℕ) (ps : List Piece) → IsScanned o p.what p.text [] → CanEndBefore p.what p.text u → IsTrue (may_follow p.what ps) → Sound o ps → Held s.around s.bare (p ∷ ps)
      → CanEndBefore p.what p.text (layout_after y (after y s p.what ps) ps)
  ends_before s p u ps x e m r h = by_kind p.gap p.what p.text e m h
    where
      by_kind : (gap : List ℕ) (w : Scanned) (text : List ℕ) → CanEndBefore w text u → IsTrue (may_follow w ps) → Held s.around s.bare (record { gap = gap; what = w; text = text } ∷ ps)
          → CanEndBefore w text (layout_after y (after y s w ps) ps)
      by_kind gap (lexeme (LexemeKind.string v)) text e m h = tt
      by_kind gap (lexeme (LexemeKind.number n)) text e m h = (end text u (layout_after y (after y s (lexeme (LexemeKind.number n)) ps) ps) (literal_parts (after y s (lexeme (LexemeKind.number n)) ps) ps r refl refl)).0 n e
      by_kind gap (lexeme (LexemeKind.word n)) text e m h = word_ends (layout_after y (after y s (lexeme (LexemeKind.word n)) ps) ps) (word_parts (after y s (lexeme (LexemeKind.word n)) ps) ps r refl refl m)
      by_kind gap (lexeme (LexemeKind.keyword k)) text e m h = (end text u (layout_after y (after y s (lexeme (LexemeKind.keyword k)) ps) ps) (literal_parts (after y s (lexeme (LexemeKind.keyword k)) ps) ps r refl refl)).1 k e
      by_kind gap (lexeme (LexemeKind.punctuation c)) text e m h = tt
      by_kind gap (block_comment c) text e m h = tt
      by_kind gap (line_comment c) text e m h = by_next ps refl
        where
          by_next : (qs : List Piece) → ps ≡ qs → IsTrue (no is_in_line (next (layout_after y (after y s (line_comment c) ps) ps)))
          by_next [] q = rw q (line_ends_there y.line_end (end_too y proper is_line_end (λ c h. h)))
          by_next (q ∷ qs) e = line_parts (after y s (line_comment c) ps) ps refl refl (not_flat s.around s.bare c gap text ps m h q qs e)

  pub apart : (ps : List Piece) (s : State) → Sound o ps → Held s.around s.bare ps → Apart o y s ps
  apart [] s none h = tt
  apart (p ∷ ps) s (some _ u x e w m r) h =
      (w, scanned_before o p.what p.text _ x (ends_before s p u ps x e m r h), apart ps (after y s p.what ps) r (next_held y s p ps (opens p.what) (closes p.what) (separates p.what) (is_comment p.what) refl refl refl refl (one_bracket p.what) h))
    where
      one_bracket : (w : Scanned) → IsTrue (not (opens w && closes w))
      one_bracket (lexeme (LexemeKind.string v)) = refl
      one_bracket (lexeme (LexemeKind.number n)) = refl
      one_bracket (lexeme (LexemeKind.word n)) = refl
      one_bracket (lexeme (LexemeKind.keyword k)) = refl
      one_bracket (line_comment c) = refl
      one_bracket (block_comment c) = refl
      one_bracket (lexeme (LexemeKind.punctuation c)) = grind arith
