-- Reading comes to the ends of lexemes.
use Rattle.std.proofs.Common.{ℕ, ◌≡◌, refl, Bool, List, [], ◌∷◌, inl, inr}
use Rattle.jsonc_text.specs.Options.{Options}
use Rattle.jsonc_text.specs.Gaps.{Gap}
use Rattle.jsonc_text.specs.Lexemes.{LexemeKind, Lexeme, punctuation, string}
use Rattle.jsonc_text.specs.Grammar.{IsName}
use Rattle.jsonc_walk.specs.declared.container.Container.{Container}
use Rattle.jsonc_walk.specs.declared.container.Container.TheVariants.{Array, Object}
use Rattle.jsonc_walk.specs.Containers.{opening, closing}
use Rattle.jsonc_walk.specs.Reached.{Opened, Place, at, Step, takes_literal, opens, closes, takes_comma, takes_name, takes_colon, ComesTo, here, on, Reached, after_value}
use Rattle.jsonc_walk.specs.Laws.{Lexemes, none, more}

-- the text from a place on
abbrev pub left : Place → List ℕ
left (at q d t) = t

pub after_left : (q : List Opened) (r : List ℕ) → left (after_value q r) ≡ r
after_left [] r = refl
after_left (Opened.container k a ∷ q) r = refl
after_left (Opened.property a ∷ q) r = refl

-- a gap and a lexeme
abbrev pub OneLexeme : (o : Options) → List ℕ → List ℕ → Type 0
OneLexeme o t r = (u : List ℕ) × (l : LexemeKind) × Gap o t u × Lexeme o l u r

pub opening_mark : (o : Options) (k : Container) (r : List ℕ) → Lexeme o (punctuation (opening k)) (opening k ∷ r) r
opening_mark o Array r = (refl, refl)
opening_mark o Object r = (refl, refl)

pub closing_mark : (o : Options) (k : Container) (r : List ℕ) → Lexeme o (punctuation (closing k)) (closing k ∷ r) r
closing_mark o Array r = (refl, refl)
closing_mark o Object r = (refl, refl)

pub name_lexeme : (o : Options) {t n r : List ℕ} → IsName o t n r → (l : LexemeKind) × Lexeme o l t r
name_lexeme o {n = n} (inl l) = (string n, l)
name_lexeme o (inr l) = (l.2, l.4)

pub one_lexeme : {o : Options} {whole : Bool} {p r : Place} → Step o whole p r → OneLexeme o (left p) (left r)
one_lexeme (takes_literal {q = q} {u = u} l r m n g x v) = (u, l, g, rw (after_left q r) x)
one_lexeme {o} (opens {r = r} k m n g) = (opening k ∷ r, punctuation (opening k), g, opening_mark o k r)
one_lexeme {o} (closes {q = q} {r = r} k m g) = (closing k ∷ r, punctuation (closing k), g, rw (after_left q r) (closing_mark o k r))
one_lexeme {o} (takes_comma {r = r} k g) = (0x2C ∷ r, punctuation 0x2C, g, (refl, refl))
one_lexeme {o} (takes_name {u = u} m g n) = let l = name_lexeme o n in (u, l.0, g, l.1)
one_lexeme {o} (takes_colon {r = r} g) = (0x3A ∷ r, punctuation 0x3A, g, (refl, refl))

lexemes_on : {o : Options} {whole : Bool} {s : List ℕ} {p n : Place} → Lexemes o s (left p) → ComesTo o whole p n → Lexemes o s (left n)
lexemes_on h here = h
lexemes_on h (on x f) = let one = one_lexeme x in lexemes_on (more one.1 h one.2 one.3) f

pub ends_lexemes : {o : Options} {whole : Bool} {s : List ℕ} {p : Place} → Reached o whole s p → Lexemes o s (left p)
ends_lexemes f = lexemes_on none f
