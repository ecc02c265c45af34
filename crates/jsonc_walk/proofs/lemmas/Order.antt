-- Of two places that reading comes to, one lies before the other.
use Rattle.std.proofs.Common.{ℕ, ◌<◌, ◌≤◌, ◌≡◌, sym, ap, subst, refl, Bool, List, ◌∷◌, ◌++◌, length, length-append, arith, inl, inr, ◌⊎◌}
use Rattle.jsonc_text.specs.Gaps.{Gap, none, blank, comment, line, block}
use Rattle.jsonc_text.specs.Lexemes.{LexemeKind, Lexeme, lexeme}
use Rattle.jsonc_text.specs.Options.{Options}
use Rattle.jsonc_text.proofs.LexemesAlone.{some_text}
use Rattle.jsonc_text.proofs.BlockComments.{block_inside}
use Rattle.jsonc_text.proofs.Cuts.{many_split}
use Rattle.jsonc_walk.specs.Reached.{Opened, Due, Place, at, Step, ComesTo, here, on}
use Rattle.jsonc_walk.specs.Faults.{Fault, Stops}
use Rattle.jsonc_walk.specs.Laws.{HasOneWay, HasOneFault}
use Rattle.jsonc_walk.proofs.lemmas.ReadLexemes.{left, one_lexeme}
use Rattle.jsonc_walk.proofs.lemmas.Unique.{step_unique, stops_no_step, stops_unique}

pub order : {o : Options} {whole : Bool} {p n r : Place} → ComesTo o whole p n → ComesTo o whole p r → ComesTo o whole n r ⊎ ComesTo o whole r n
order here g = inl g
order (on x f) here = inr (on x f)
order {o} {whole} {n = n} {r = r} (on x f) (on y g) = order f (subst (λ m. ComesTo o whole m r) (step_unique y x) g)

-- each step is over some characters
text_length : {t : List ℕ} (s r : List ℕ) → t ≡ s ++ r → length r ≤ length t
text_length {t} s r e = omega (arith, ap length e, length-append s r)

gap_length : {o : Options} {t u : List ℕ} → Gap o t u → length u ≤ length t
gap_length none = omega arith
gap_length (blank h g) = omega (arith, gap_length g)
gap_length (comment {u = u} h (inl (line m e)) g) = let s = many_split _ m in omega (arith, gap_length g, text_length s.0 u s.1)
gap_length (comment {u = u} h (inr (block m)) g) = let s = block_inside (block m) in omega (arith, gap_length g, text_length (0x2F ∷ 0x2A ∷ s.0) (0x2A ∷ 0x2F ∷ u) s.1)

lexeme_length : (o : Options) (l : LexemeKind) (u r : List ℕ) → Lexeme o l u r → length r < length u
lexeme_length o l u r x = let s = some_text o (lexeme l) u r x in omega (arith, ap length s.2, length-append s.1 r)

step_length : {o : Options} {whole : Bool} {p n : Place} → Step o whole p n → length (left n) < length (left p)
step_length {o} {n = n} x = let s = one_lexeme x in omega (arith, gap_length s.2, lexeme_length o s.1 s.0 (left n) s.3)

further_length : {o : Options} {whole : Bool} {p n : Place} → ComesTo o whole p n → length (left n) ≤ length (left p)
further_length here = omega arith
further_length (on x f) = omega (arith, step_length x, further_length f)

same_left : {o : Options} {whole : Bool} {p n : Place} → ComesTo o whole p n → left p ≡ left n → p ≡ n
same_left here e = refl
same_left (on x f) e = let l = ap length e in absurd (omega (arith, l, step_length x, further_length f))

parts : {q p : List Opened} {d e : Due} {t u : List ℕ} → at q d t ≡ at p e u → (q ≡ p) × (d ≡ e)
parts f = (cc, cc)

pub one_way : {o : Options} {whole : Bool} {s : List ℕ} → HasOneWay o whole s
one_way q p d e t h k = elim (order h k) [ inl f ↦ parts (same_left f refl) | inr f ↦ parts (sym (same_left f refl)) ]

last : {o : Options} {whole : Bool} {p n : Place} {f g : Fault} → ComesTo o whole p n → Stops o whole p f → Stops o whole n g → f ≡ g
last here a b = stops_unique a b
last (on x f) a b = absurd (stops_no_step a x)

pub one_fault : {o : Options} {whole : Bool} {s : List ℕ} → HasOneFault o whole s
one_fault f g (p, h, a) (n, k, b) = elim (order h k) [ inl x ↦ last x a b | inr x ↦ sym (last x b a) ]
