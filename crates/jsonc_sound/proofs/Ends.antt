-- A leaf before a text: what it is alone, and where it may end.
use Rattle.std.proofs.Common.{ℕ, ◌≡◌, ◌∙◌, sym, ap, subst, refl, Bool, true, false, List, [], ◌∷◌, ◌++◌, Option, None, length, arith, rules, chars, codes, length-append}
use Rattle.std.proofs.lemmas.Str.{chars-IsAscii}
use Rattle.jsonc_text.specs.Options.{Options, all_on}
use Rattle.jsonc_text.specs.Text.{next}
use Rattle.jsonc_text.specs.Numbers.{MayFollow}
use Rattle.jsonc_text.specs.Words.{EndsWord, EndsThere}
use Rattle.jsonc_text.specs.Lexemes as lexemes
use Rattle.jsonc_text.specs.Lexemes.{LexemeKind, Lexeme, lexeme, CanEndBefore}
use Rattle.jsonc_text.proofs.LexemesAlone.{scanned_alone, scanned_before, some_text}
use Rattle.jsonc_tree.specs.Content.{Content}
use Rattle.jsonc_sound.specs.Shape.{IsLiteralBefore, IsNameBefore}
use Rattle.jsonc_sound.proofs.NumberEnds.{alike_next, may_follow_swapped}
use Rattle.jsonc_sound.specs.Adjacent.{one_or_none, EndsBefore, first_char}

-- a text begins as its first character alone does
pub begins_alike : (r : List ℕ) → next (one_or_none (next r)) ≡ next r
begins_alike [] = refl
begins_alike (c ∷ r) = refl

-- where the same character follows, each lexeme ends
ends_next : (k : LexemeKind) (s r z : List ℕ) → next r ≡ next z → CanEndBefore (lexeme k) s r → CanEndBefore (lexeme k) s z
ends_next (lexemes.string v) s r z e h = tt
ends_next (lexemes.number n) s r z e h = may_follow_swapped r z (alike_next r z e) s h
ends_next (lexemes.word n) s r z e h = subst EndsWord e h
ends_next (lexemes.keyword k) s r z e h = subst EndsThere e h
ends_next (lexemes.punctuation c) s r z e h = tt

-- and each ends at the end
at_end : (k : LexemeKind) (s r : List ℕ) → CanEndBefore (lexeme k) s r → CanEndBefore (lexeme k) s []
at_end (lexemes.string v) s r h = tt
at_end (lexemes.number n) s r h = may_follow_swapped r [] (λ p a m. refl) s h
at_end (lexemes.word n) s r h = refl
at_end (lexemes.keyword k) s r h = refl
at_end (lexemes.punctuation c) s r h = tt

lexeme_alone : (o : Options) (k : LexemeKind) (s r : List ℕ) → Lexeme o k (s ++ r) r → Lexeme o k (s ++ []) []
lexeme_alone o k s r h = let a = scanned_alone o (lexeme k) s r h in scanned_before o (lexeme k) s [] a.0 (at_end k s r a.1)

lexeme_ends : (o : Options) (k : LexemeKind) (s r : List ℕ) → Lexeme o k (s ++ r) r → CanEndBefore (lexeme k) s (one_or_none (next r))
lexeme_ends o k s r h = ends_next k s r (one_or_none (next r)) (sym (begins_alike r)) (scanned_alone o (lexeme k) s r h).1

lexeme_there : (o : Options) (k : LexemeKind) (s r : List ℕ) → Lexeme o k (s ++ []) [] → CanEndBefore (lexeme k) s (one_or_none (next r)) → Lexeme o k (s ++ r) r
lexeme_there o k s r h e = scanned_before o (lexeme k) s r (scanned_alone o (lexeme k) s [] h).0 (ends_next k s (one_or_none (next r)) r (begins_alike r) e)

-- a literal before a text
pub literal_alone : (o : Options) (content : Content) (r : List ℕ) → IsLiteralBefore o content r → IsLiteralBefore o content []
literal_alone o (Content.string s) r (v, (u, h)) = (v, (u, lexeme_alone o (lexemes.string v) (chars s) r h))
literal_alone o (Content.number s) r (u, h) = (u, lexeme_alone o (lexemes.number (chars s)) (chars s) r h)
literal_alone o (Content.boolean b) r h = refl
literal_alone o Content.null r h = refl
literal_alone o content r h = absurd h

pub literal_ends : (o : Options) (content : Content) (r : List ℕ) → IsLiteralBefore o content r → EndsBefore o content (next r)
literal_ends o (Content.string s) r h = tt
literal_ends o (Content.number s) r (u, h) = lexeme_ends o (lexemes.number (chars s)) (chars s) r h
literal_ends o (Content.boolean b) r h = h
literal_ends o Content.null r h = h
literal_ends o content r h = absurd h

pub literal_there : (o : Options) (content : Content) (r : List ℕ) → IsLiteralBefore o content [] → EndsBefore o content (next r) → IsLiteralBefore o content r
literal_there o (Content.string s) r (v, (u, h)) e = (v, (u, lexeme_there o (lexemes.string v) (chars s) r h tt))
literal_there o (Content.number s) r (u, h) e = (u, lexeme_there o (lexemes.number (chars s)) (chars s) r h e)
literal_there o (Content.boolean b) r h e = e
literal_there o Content.null r h e = e
literal_there o content r h e = absurd h

-- a name before a text
pub name_alone : (o : Options) (content : Content) (r : List ℕ) → IsNameBefore o content r → IsNameBefore o content []
name_alone o (Content.string s) r h = literal_alone o (Content.string s) r h
name_alone o (Content.word s) r (u, h) = (u, (h.0, refl, h.2, h.3, lexeme_alone o h.2 (chars s) r h.4))
name_alone o content r h = absurd h

pub name_ends : (o : Options) (content : Content) (r : List ℕ) → IsNameBefore o content r → EndsBefore o content (next r)
name_ends o (Content.string s) r h = tt
name_ends o (Content.word s) r (u, h) = (h.2, h.3, (scanned_alone o (lexeme h.2) (chars s) r h.4).0, lexeme_ends o h.2 (chars s) r h.4)
name_ends o content r h = absurd h

pub name_there : (o : Options) (content : Content) (r : List ℕ) → IsNameBefore o content [] → EndsBefore o content (next r) → IsNameBefore o content r
name_there o (Content.string s) r h e = literal_there o (Content.string s) r h e
name_there o (Content.word s) r (u, h) e = (u, (h.0, refl, e.0, e.1, scanned_before o (lexeme e.0) (chars s) r e.2 (ends_next e.0 (chars s) (one_or_none (next r)) r (begins_alike r) e.3)))
name_there o content r h e = absurd h

-- a leaf that prints nothing ends before nothing, or before all
no_text : (c : ℕ) (s t : List ℕ) → t ≡ (c ∷ s) ++ t → ⊥
no_text c s t e = omega (arith, ap length e, length-append (c ∷ s) t)

nothing_first : (s : List ℕ) → next s ≡ None → s ≡ []
nothing_first [] e = refl
nothing_first (c ∷ s) e = cc

something_first : (c : ℕ) (s : List ℕ) (t : List ℕ) → t ≡ (c ∷ s) ++ [] → next t ≡ None → ⊥
something_first c s t e f = let g : next ((c ∷ s) ++ []) ≡ None = ap next (sym e) ∙ f in cc

boolean_first : (b : Bool) → first_char (Content.boolean b) ≡ None → ⊥
boolean_first true e = let f : next (codes "true") ≡ None = ap next (sym (chars-IsAscii (codes "true") (search rules))) ∙ e in cc
boolean_first false e = let f : next (codes "false") ≡ None = ap next (sym (chars-IsAscii (codes "false") (search rules))) ∙ e in cc

null_first : first_char Content.null ≡ None → ⊥
null_first e = let f : next (codes "null") ≡ None = ap next (sym (chars-IsAscii (codes "null") (search rules))) ∙ e in cc

no_number : (s t : List ℕ) → next s ≡ None → MayFollow s t → ⊥
no_number s t e h =
    let k = some_text all_on (lexeme (lexemes.number [])) t t (refl, subst (λ x. MayFollow x t) (nothing_first s e) h) in
    no_text k.0 k.1 t k.2

pub unprinted_ends : (o : Options) (content : Content) (n m : Option ℕ) → first_char content ≡ None → EndsBefore o content n → EndsBefore o content m
unprinted_ends o (Content.number s) n m e h = absurd (no_number (chars s) (one_or_none n) e h)
unprinted_ends o (Content.boolean b) n m e h = absurd (boolean_first b e)
unprinted_ends o Content.null n m e h = absurd (null_first e)
unprinted_ends o (Content.word s) n m e h = let k = some_text o (lexeme h.0) (chars s) [] h.2 in absurd (something_first k.0 k.1 (chars s) k.2 e)
unprinted_ends o content n m e h = tt
