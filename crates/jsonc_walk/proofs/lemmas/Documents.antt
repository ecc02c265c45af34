-- Reading goes through a document to its end, so no fault is told of one.
use Rattle.std.proofs.Common.{ℕ, ◌+◌, ◌≤◌, ◌≡◌, Bool, true, false, List, [], Some, None, arith, inl, inr}
use Rattle.jsonc_text.specs.Gaps.{Gap}
use Rattle.jsonc_text.specs.Options.{Options}
use Rattle.jsonc_text.specs.Plain.{Plain}
use Rattle.jsonc_walk.specs.Reached.{Opened, Due, document, end, Place, at, of_text, Step, ComesTo, here, on, Reached, count, size}
use Rattle.jsonc_walk.specs.Faults.{Fault, Stops, no_lexeme, wrong_lexeme, wrong_ending, wrong_end, HasFault}
use Rattle.jsonc_walk.specs.Laws.{FaultMeansNoDocument}
use Rattle.jsonc_walk.proofs.lemmas.EndsOfGaps.{gap_end, lexeme_ends, end_ends, comment_ends, tells_ends}
use Rattle.jsonc_walk.proofs.lemmas.Order.{order}
use Rattle.jsonc_walk.proofs.lemmas.ReadsValues.{value_reads}
use Rattle.jsonc_walk.proofs.lemmas.Unique.{stops_no_step, canonical, Canon, canon, lexeme_no_end, comment_no_end, tells_no_end}

-- where nothing but the end comes and may come, reading neither goes on nor stops
data IsLast : Due → Type 0 where
  of_document : IsLast document
  of_end : IsLast end

last_wrong : (whole : Bool) (q : List Opened) {d : Due} {f : Fault} → IsLast d → wrong_end whole q d ≡ Some f → ⊥
last_wrong whole q of_document e = cc
last_wrong whole q of_end e = cc

last_stops : {o : Options} {whole : Bool} {q : List Opened} {d : Due} {t : List ℕ} {f : Fault} → IsLast d → Gap o t [] → Stops o whole (at q d t) f → ⊥
last_stops i e (no_lexeme g x) = tells_no_end (gap_end e g end_ends (tells_ends x)) x
last_stops i e (Stops.comment r off g x) = comment_no_end (gap_end e g end_ends (comment_ends off x)) x
last_stops {o} i e (wrong_lexeme l r g x w) = lexeme_no_end o l r (gap_end e g end_ends (lexeme_ends l r x)) x
last_stops {whole = whole} {q = q} i e (wrong_ending g w) = last_wrong whole q i w

last_step : {o : Options} {whole : Bool} {q : List Opened} {d : Due} {t : List ℕ} {p : Place} → Gap o t [] → Step o whole (at q d t) p → ⊥
last_step e x = go e (canonical x)
  where
    go : {o : Options} {whole : Bool} {q : List Opened} {d : Due} {t : List ℕ} {p : Place} → Gap o t [] → Canon o whole (at q d t) p → ⊥
    go {o} e (canon l r g x w f) = lexeme_no_end o l r (gap_end e g end_ends (lexeme_ends l r x)) x

no_fault : {o : Options} {whole : Bool} {s t : List ℕ} {d : Due} {f : Fault} → IsLast d → Gap o t [] → Reached o whole s (at [] d t) → HasFault o whole s f → ⊥
no_fault {o} {whole} {t = t} {d = d} {f = f} i e h (p, k, x) = elim (order h k) [ inl a ↦ before a x | inr a ↦ past a x ]
  where
    before : {p : Place} → ComesTo o whole (at [] d t) p → Stops o whole p f → ⊥
    before here x = last_stops i e x
    before (on y a) x = last_step e y

    past : {p : Place} → ComesTo o whole p (at [] d t) → Stops o whole p f → ⊥
    past here x = last_stops i e x
    past (on y a) x = stops_no_step x y

pub no_document : {o : Options} {whole : Bool} {s : List ℕ} → FaultMeansNoDocument o whole s
no_document f None told g n = no_fault of_document g here told
no_document {o} {whole} f (Some v) told (u, r, g, x, e) n =
    no_fault of_end e (value_reads o whole of_text g x (no_more whole v n)) told
  where
    no_more : (whole : Bool) (v : Plain) → size whole v ≤ 512 → size whole v + count whole [] ≤ 512
    no_more true v h = omega (arith, h)
    no_more false v h = omega (arith, h)
