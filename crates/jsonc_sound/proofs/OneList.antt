-- A text has at most one list of marks, and one where it has lexemes and comments.
use Rattle.std.proofs.Common.{ℕ, ◌≡◌, ◌∙◌, sym, ap, subst, refl, true, List, [], ◌∷◌}
use Rattle.std.specs.List.{cons_option}
use Rattle.jsonc_text.specs.Options.{Options}
use Rattle.jsonc_text.specs.Gaps.{is_blank}
use Rattle.jsonc_text.specs.Lexemes.{Scanned}
use Rattle.jsonc_text.specs.Places as places
use Rattle.jsonc_text.specs.Places.{Placed, AreTokens}
use Rattle.jsonc_text.proofs.Basics.{clash, text_same}
use Rattle.jsonc_text.proofs.UniqueLexemes.{scanned_unique}
use Rattle.jsonc_text.proofs.UniqueTokens.{scanned_no_blank}
use Rattle.jsonc_sound.specs.Marks.{Mark, mark_of, AreMarks, no_more, blank, one}

same_marks : {w v : Scanned} {s u : List ℕ} {ms ns : List Mark} → w ≡ v → s ≡ u → ms ≡ ns → cons_option (mark_of w s) ms ≡ cons_option (mark_of v u) ns
same_marks {w} {v} {s} {u} {ms} {ns} p q e = ap (λ x. cons_option (mark_of x s) ms) p ∙ ap (λ x. cons_option (mark_of v x) ms) q ∙ ap (cons_option (mark_of v u)) e

pub marks_unique : {o : Options} {t : List ℕ} {ms ns : List Mark} → AreMarks o t ms → AreMarks o t ns → ms ≡ ns
marks_unique no_more no_more = refl
marks_unique {o} no_more (one w s {r = r} x e g) = absurd (clash true (scanned_no_blank o w [] r x) refl)
marks_unique {o} (one w s {r = r} x e g) no_more = absurd (clash true (scanned_no_blank o w [] r x) refl)
marks_unique (blank h g) (blank k l) = marks_unique g l
marks_unique {o} (blank {c = c} {t = t} h g) (one w s {r = r} x e l) = absurd (clash (is_blank c) (scanned_no_blank o w (c ∷ t) r x) h)
marks_unique {o} (one w s {r = r} x e l) (blank {c = c} {t = t} h g) = absurd (clash (is_blank c) (scanned_no_blank o w (c ∷ t) r x) h)
marks_unique {o} (one w s {t = t} {r = r} x e g) (one v u {r = k} {ms = ns} y f l) =
    let p = scanned_unique o w v t r k x y in
    let q : s ≡ u = text_same e f p.1 in
    same_marks p.0 q (marks_unique g (subst (λ z. AreMarks o z ns) (sym p.1) l))

pub tokens_marked : {o : Options} {at : ℕ} {t : List ℕ} {ts : List Placed} → AreTokens o at t ts → (ms : List Mark) × AreMarks o t ms
tokens_marked places.no_more = ([], no_more)
tokens_marked (places.blank h g) = let k = tokens_marked g in (k.0, blank h k.1)
tokens_marked (places.one w s x e g) = let k = tokens_marked g in (cons_option (mark_of w s) k.0, one w s x e k.1)
