-- Gaps that are passed, and what is written for them.
use Rattle.std.proofs.Common.{ℕ, ◌+◌, ◌≡◌, ◌∙◌, ap, refl, sym, subst, ◌==◌, List, [], ◌∷◌, ◌++◌, append_assoc, map, Option, Some, None, IfNone, IfSome, IsTrue, IsCharBoundary}
use Rattle.std.proofs.lemmas.List.{map-append}
use Rattle.std.specs.Char.{len_utf8}
use Rattle.jsonc_text.specs.Chars.{Steps}
use Rattle.jsonc_text.specs.Gaps.{Gap, IsComment, comment, is_blank}
use Rattle.jsonc_text.specs.Options.{all_on}
use Rattle.jsonc_text.specs.Text.{Many, next, no, rest, step, stop}
use Rattle.jsonc_text.proofs.Basics.{no_starts}
use Rattle.jsonc_text.proofs.Gaps.{blanks_gap, gap_append}
use Rattle.jsonc_text.proofs.UniqueGaps.{comment_begins}
use Rattle.jsonc_engine.specs.Rewritten.{ComesNext, Rewritten, written_blank}

-- from one place to another stands a gap, and no blank behind it
pub record Passed (text : List ℕ) (place end : ℕ) : Type 0 where
  pub boundary : IsCharBoundary text end
  pub gap : Gap all_on (rest text place) (rest text end)
  pub no_blank : IsTrue (no is_blank (next (rest text end)))

pub blanks_passed : (text : List ℕ) (place end : ℕ) → IsCharBoundary text end → Many is_blank (rest text place) (rest text end) → IsTrue (no is_blank (next (rest text end))) → Passed text place end
blanks_passed text place end b m n = record { boundary = b; gap = blanks_gap m; no_blank = n }

pub more_passed : (text : List ℕ) (place end behind now : ℕ) → Passed text place end → IsComment (rest text end) (rest text behind) → IsCharBoundary text now → Many is_blank (rest text behind) (rest text now)
    → IsTrue (no is_blank (next (rest text now))) → Passed text place now
more_passed text place end behind now p c b m n = record { boundary = b; gap = gap_append p.gap (comment refl c (blanks_gap m)); no_blank = n }

first_is : (r : Option ℕ) (t : List ℕ) → IfNone r (t ≡ []) → IfSome r (λ c. (u : List ℕ) × (t ≡ c ∷ u)) → r ≡ next t
first_is None t h k = sym (ap next h)
first_is (Some c) t h k = sym (ap next k.1)

steps_first : (text : List ℕ) (place : ℕ) (r : Option ℕ) → IfSome r (λ c. Steps text place c (place + len_utf8 c)) → IfSome r (λ c. (u : List ℕ) × (rest text place ≡ c ∷ u))
steps_first text place None h = tt
steps_first text place (Some c) h = (rest text (place + len_utf8 c), h.0)

pub comes_next : (text : List ℕ) (place end : ℕ) (r : Option ℕ) → Passed text place end → ((x : List ℕ) → IsComment (rest text end) x → ⊥) → IfNone r (rest text end ≡ [])
    → IfSome r (λ c. Steps text end c (end + len_utf8 c)) → ComesNext (rest text place) r
comes_next text place end r p f h k = record {
  behind = rest text end;
  gap = p.gap;
  no_blank = p.no_blank;
  no_comment = f;
  is = first_is r (rest text end) h (steps_first text end r k);
}

pub no_comment_here : (text : List ℕ) (place : ℕ) → IsTrue (no (λ c. c == 0x2F) (next (rest text place))) → (r : List ℕ) → IsComment (rest text place) r → ⊥
no_comment_here text place h r c = no_starts (λ c. c == 0x2F) (next (rest text place)) h (comment_begins c)

-- blanks, one after another
pub blank_more : (old mid new blanks : List ℕ) (c b : ℕ) → mid ≡ old ++ map written_blank blanks → b ≡ written_blank c → new ≡ mid ++ b ∷ [] → new ≡ old ++ map written_blank (blanks ++ c ∷ [])
blank_more old mid new blanks c b e f h =
    h ∙ ap (λ m. m ++ b ∷ []) e ∙ append_assoc old (map written_blank blanks) (b ∷ [])
    ∙ ap (λ b. old ++ (map written_blank blanks ++ b ∷ [])) f ∙ ap (λ l. old ++ l) (sym (map-append written_blank blanks (c ∷ [])))

-- what is written for blanks, and then for a token
pub record Blanks (t r : List ℕ) : Type 0 where
  pub text : List ℕ
  pub is : t ≡ text ++ r
  pub written : Rewritten r t (map written_blank text)

pub blanks_of : {t r : List ℕ} → Many is_blank t r → Blanks t r
blanks_of stop = record { text = []; is = refl; written = Rewritten.no_more }
blanks_of (step {c = c} h m) = let k = blanks_of m in record { text = c ∷ k.text; is = ap (λ t. c ∷ t) k.is; written = Rewritten.blank h k.written }

pub rewritten_append : {u t r v w : List ℕ} → Rewritten u t v → Rewritten r u w → Rewritten r t (v ++ w)
rewritten_append Rewritten.no_more k = k
rewritten_append (Rewritten.blank h m) k = Rewritten.blank h (rewritten_append m k)
rewritten_append (Rewritten.comment a m) k = Rewritten.comment a (rewritten_append m k)
rewritten_append {t} {r = r} {w = y} (Rewritten.one z s x n {w = w} a e b f m) k =
    subst (λ l. Rewritten r t l) (sym (append_assoc x w y)) (Rewritten.one z s x n a e b f (rewritten_append m k))
