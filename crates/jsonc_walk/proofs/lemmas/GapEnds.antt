-- The ends of gaps with comments: they ascend, so no two gaps share one.
use Rattle.std.proofs.Common.{ℕ, ◌+◌, ◌≡◌, ◌≤◌, ◌<◌, ◌∙◌, sym, ap, refl, arith, Bool, true, false, cond, ◌==◌, List, [], ◌∷◌, ◌++◌, Option, Some, None}
use Rattle.std.proofs.lemmas.Bool.{ne_eqb, eq-eqb}
use Rattle.std.proofs.lemmas.List.Elements.{All-nil, All-cons, All-head, All-tail, All-weaker}
use Rattle.std.proofs.lemmas.Str.{len_utf8_bounds}
use Rattle.std.specs.List.{All}
use Rattle.jsonc_text.specs.Lexemes.{Scanned, IsScanned}
use Rattle.jsonc_text.specs.Options.{Options}
use Rattle.jsonc_text.specs.Places.{Placed, placed_at, AreTokens, no_more, blank, one, CommentGap, gaps_of, noted, is_comment}
use Rattle.jsonc_text.specs.Text.{byte_length}
use Rattle.jsonc_text.proofs.LexemesAlone.{some_text}
use Rattle.jsonc_text.proofs.Basics.{text_same}
use Rattle.jsonc_text.proofs.Cuts.{byte_length-append, byte_length-one}
use Rattle.jsonc_walk.specs.Comments.{MapOf, comments_at, IsNoEnd, AreUnderEnds, put_one, put, ShowsGaps}

-- each gap begins after the end of the one before it, the first at this place or later
abbrev pub Ascend : ℕ → List CommentGap → Type 0
Ascend low [] = Unit {0}
Ascend low (g ∷ gs) = (low ≤ g.start) × (g.start ≤ g.end) × Ascend (g.end + 1) gs

lower : (i j : ℕ) (gs : List CommentGap) → i ≤ j → Ascend j gs → Ascend i gs
lower i j [] h a = tt
lower i j (g ∷ gs) h a = (omega (arith, h, a.0), a.1, a.2)

some_bytes : (o : Options) (w : Scanned) (s t r : List ℕ) → IsScanned o w t r → t ≡ s ++ r → 1 ≤ byte_length s
some_bytes o w s t r x e =
    let k = some_text o w t r x in
    let same : s ≡ k.0 ∷ k.1 = text_same e k.2 refl in
    omega (arith, ap byte_length same, byte_length-append (k.0 ∷ []) k.1, byte_length-one k.0, (len_utf8_bounds k.0).0)

noted_ascends : (start end next : ℕ) (held : List Placed) (gs : List CommentGap) → start ≤ end → end < next → Ascend next gs → Ascend start (noted start end held gs)
noted_ascends start end next [] gs h k a = lower start next gs (omega arith) a
noted_ascends start end next (x ∷ xs) gs h k a = (omega arith, h, lower (end + 1) next gs (omega arith) a)

-- the gaps of a text ascend
pub gaps_ascend : {o : Options} {at : ℕ} {t : List ℕ} {ts : List Placed} → AreTokens o at t ts → (start : ℕ) (held : List Placed) (len : ℕ) → start ≤ at → len ≡ at + byte_length t → Ascend start (gaps_of len start held ts)
gaps_ascend no_more start [] len h e = tt
gaps_ascend {at = at} no_more start (x ∷ xs) len h e = (omega arith, omega (arith, e, h), tt)
gaps_ascend {at = at} (blank {c = c} {t = t} b more) start held len h e = gaps_ascend more start held len (omega arith) (omega (arith, e, byte_length-append (c ∷ []) t))
gaps_ascend {o} {at = at} {t = t} (one w s {r = r} {ts = ts} x split more) start held len h e =
    each (is_comment w) refl (λ more_held. gaps_ascend more start more_held len (omega arith) whole) (gaps_ascend more (at + byte_length s) [] len (omega arith) whole)
  where
    some : 1 ≤ byte_length s
    some = some_bytes o w s t r x split

    whole : len ≡ (at + byte_length s) + byte_length r
    whole = omega (arith, e, ap byte_length split, byte_length-append s r)

    each : (b : Bool) → is_comment w ≡ b → ((more_held : List Placed) → Ascend start (gaps_of len start more_held ts)) → Ascend (at + byte_length s) (gaps_of len (at + byte_length s) [] ts) → Ascend start (gaps_of len start held (placed_at w at s ∷ ts))
    each true f here after = rw f (here (held ++ placed_at w at s ∷ []))
    each false f here after = rw f (noted_ascends start at (at + byte_length s) held _ h (omega (arith, some)) after)

-- other places than the ends of a gap keep what they have
other : (g : CommentGap) (place : ℕ) (before : Option (List Placed)) → IsNoEnd place g → put_one g.start g.end g.comments place before ≡ before
other g place before h = rw (ne_eqb g.end place (λ e. h.1 (sym e)), ne_eqb g.start place (λ e. h.0 (sym e))) refl

here_start : (g : CommentGap) (before : Option (List Placed)) → put_one g.start g.end g.comments g.start before ≡ Some g.comments
here_start g before = each (g.end == g.start) (eq-eqb g.start g.start refl)
  where
    each : (b : Bool) → (g.start == g.start) ≡ true → cond b (Some g.comments) (cond (g.start == g.start) (Some g.comments) before) ≡ Some g.comments
    each true e = refl
    each false e = rw e refl

here_end : (g : CommentGap) (before : Option (List Placed)) → put_one g.start g.end g.comments g.end before ≡ Some g.comments
here_end g before = rw (eq-eqb g.end g.end refl) refl

-- and so do places before all gaps
put_below : (gs : List CommentGap) (low place : ℕ) (before : Option (List Placed)) → Ascend low gs → place < low → put gs place before ≡ before
put_below [] low place before a h = refl
put_below (g ∷ gs) low place before a h =
    put_below gs (g.end + 1) place (put_one g.start g.end g.comments place before) a.2 (omega (arith, a.0, a.1))
    ∙ other g place before (λ e. omega (arith, e, a.0), λ e. omega (arith, e, a.0, a.1))

starts_put : (gs : List CommentGap) (low : ℕ) (before : ℕ → Option (List Placed)) → Ascend low gs → All (λ g. put gs g.start (before g.start) ≡ Some g.comments) gs
starts_put [] low before a = All-nil _
starts_put (g ∷ gs) low before a = All-cons (λ x. put gs x.start (put_one g.start g.end g.comments x.start (before x.start)) ≡ Some x.comments) g gs (
    put_below gs (g.end + 1) g.start (put_one g.start g.end g.comments g.start (before g.start)) a.2 (omega (arith, a.1)) ∙ here_start g (before g.start)
    ) (starts_put gs (g.end + 1) (λ place. put_one g.start g.end g.comments place (before place)) a.2)

ends_put : (gs : List CommentGap) (low : ℕ) (before : ℕ → Option (List Placed)) → Ascend low gs → All (λ g. put gs g.end (before g.end) ≡ Some g.comments) gs
ends_put [] low before a = All-nil _
ends_put (g ∷ gs) low before a = All-cons (λ x. put gs x.end (put_one g.start g.end g.comments x.end (before x.end)) ≡ Some x.comments) g gs (
    put_below gs (g.end + 1) g.end (put_one g.start g.end g.comments g.end (before g.end)) a.2 (omega arith) ∙ here_end g (before g.end)
    ) (ends_put gs (g.end + 1) (λ place. put_one g.start g.end g.comments place (before place)) a.2)

nothing_put : (gs : List CommentGap) (place : ℕ) → All (IsNoEnd place) gs → put gs place None ≡ None
nothing_put [] place h = refl
nothing_put (g ∷ gs) place h = ap (put gs place) (other g place None (All-head (IsNoEnd place) g gs h)) ∙ nothing_put gs place (All-tail (IsNoEnd place) g gs h)

-- a map that shows such gaps has the comments of each under both of its ends
module _ {S Z : Type 0} (m : MapOf S Z) where
  shown_at : (f : CommentGap → ℕ) (gs : List CommentGap) → ShowsGaps gs m → All (λ g. put gs (f g) None ≡ Some g.comments) gs → All (λ g. comments_at m (f g) ≡ Some g.comments) gs
  shown_at f gs shown = All-weaker (λ g. put gs (f g) None ≡ Some g.comments) (λ g. comments_at m (f g) ≡ Some g.comments) (λ g h. shown (f g) ∙ h) gs

  pub under_ends : (gs : List CommentGap) → Ascend 0 gs → ShowsGaps gs m → AreUnderEnds gs m
  under_ends gs a shown = record {
    starts = shown_at (λ g. g.start) gs shown (starts_put gs 0 (λ place. None) a);
    ends = shown_at (λ g. g.end) gs shown (ends_put gs 0 (λ place. None) a);
    no_others = λ place h. shown place ∙ nothing_put gs place h;
  }

-- a text without comments has no such gaps
pub no_gaps : (len start : ℕ) (ts : List Placed) → All (λ p. is_comment p.what ≡ false) ts → gaps_of len start [] ts ≡ []
no_gaps len start [] h = refl
no_gaps len start (x ∷ xs) h = rw (All-head (λ p. is_comment p.what ≡ false) x xs h) (no_gaps len x.end xs (All-tail (λ p. is_comment p.what ≡ false) x xs h))
