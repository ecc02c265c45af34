-- Which leaves print something.
use Rattle.std.proofs.Common.{ℕ, zero, suc, ◌≡◌, ◌∙◌, ◌+◌, ◌/◌, sym, ap, refl, Bool, true, false, not, ◌==◌, cond, List, [], ◌∷◌, length, Some, None, nat_lt, rules, arith, IsUtf8}
use Rattle.std.proofs.lemmas.Bool.{lt-ltb, le-ltb, ltb-true, ne_eqb, not_from_false}
use Rattle.std.proofs.lemmas.Str.{chars-nil, chars-IsAscii, encodes-chars}
use Rattle.std.specs.Str.{chars, chars_after, continuation_len, lead_bits}
use lib.Utf8.{encode, encodes, next as following}
use lib.Dec.{ltb}
use Rattle.jsonc_text.specs.Text.{next, starts}
use Rattle.jsonc_tree.specs.declared.node.CstNewlineKind.TheVariants.{LineFeed, CarriageReturnLineFeed, CarriageReturn}
use Rattle.jsonc_tree.specs.Content.{Content, kept_text, text_of, newline_text}
use Rattle.jsonc_edit.specs.Due.{prints}

-- a character stands at the front
abbrev Begins : List ℕ → Type 0
Begins t = starts (λ c. true) (next t) ≡ true

-- which is so where a first byte has as many behind it as it says
one_more : (n c : ℕ) (bs : List ℕ) → length bs ≡ n → Begins (chars_after n c bs)
one_more zero c [] h = refl
one_more zero c (b ∷ bs) h = refl
one_more (suc n) c [] h = absurd (omega (arith, h))
one_more (suc n) c (b ∷ bs) h = one_more n _ bs (omega (arith, h))

led_by : (b : ℕ) (bs : List ℕ) → length bs ≡ continuation_len b → Begins (chars (b ∷ bs))
unfolding chars
led_by b bs h = one_more (continuation_len b) (lead_bits b) bs h

followed : (b : ℕ) → (x y z : Bool) → nat_lt b 128 ≡ x → nat_lt b 224 ≡ y → nat_lt b 240 ≡ z → continuation_len b ≡ cond x 0 (cond y 1 (cond z 2 3))
followed b x y z e f g = ap (λ x. cond x 0 (cond (nat_lt b 224) 1 (cond (nat_lt b 240) 2 3))) e ∙ ap (λ y. cond x 0 (cond y 1 (cond (nat_lt b 240) 2 3))) f ∙ ap (λ z. cond x 0 (cond y 1 (cond z 2 3))) g

-- a token's character is one
token_begins : (c : ℕ) → Begins (chars (encode c))
unfolding encode
token_begins c = by (ltb c 128) refl (ltb c 2048) refl (ltb c 65536) refl
  where
    by : (x : Bool) → ltb c 128 ≡ x → (y : Bool) → ltb c 2048 ≡ y → (z : Bool) → ltb c 65536 ≡ z
        → Begins (chars (cond x (c ∷ []) (cond y ((192 + c / 64) ∷ following c ∷ []) (cond z ((224 + c / 4096) ∷ following (c / 64) ∷ following c ∷ []) ((240 + c / 262144) ∷ following (c / 4096) ∷ following (c / 64) ∷ following c ∷ [])))))
    by true e y f z g = led_by c [] (sym (ap (λ x. cond x 0 (cond (nat_lt c 224) 1 (cond (nat_lt c 240) 2 3))) e))
    by false e true f z g =
        let k = ltb-true c 2048 f in
        led_by (192 + c / 64) (following c ∷ []) (sym (followed (192 + c / 64) false true true (le-ltb _ 128 (omega arith)) (lt-ltb _ 224 (omega (arith, k))) (lt-ltb _ 240 (omega (arith, k)))))
    by false e false f true g =
        let k = ltb-true c 65536 g in
        led_by (224 + c / 4096) (following (c / 64) ∷ following c ∷ []) (sym (followed (224 + c / 4096) false false true (le-ltb _ 128 (omega arith)) (le-ltb _ 224 (omega arith)) (lt-ltb _ 240 (omega (arith, k)))))
    by false e false f false g =
        led_by (240 + c / 262144) (following (c / 4096) ∷ following (c / 64) ∷ following c ∷ []) (sym (followed (240 + c / 262144) false false false (le-ltb _ 128 (omega arith)) (le-ltb _ 224 (omega arith)) (le-ltb _ 240 (omega arith))))

newline_begins : (k : _) → Begins (chars (newline_text k))
newline_begins LineFeed = ap (λ t. starts (λ c. true) (next t)) (chars-IsAscii (newline_text LineFeed) (search rules))
newline_begins CarriageReturnLineFeed = ap (λ t. starts (λ c. true) (next t)) (chars-IsAscii (newline_text CarriageReturnLineFeed) (search rules))
newline_begins CarriageReturn = ap (λ t. starts (λ c. true) (next t)) (chars-IsAscii (newline_text CarriageReturn) (search rules))

-- what keeps no text is a container or prints something
pub unkept_prints : (content : Content) → kept_text content ≡ None → prints content ≡ true
unkept_prints Content.root e = refl
unkept_prints Content.object e = refl
unkept_prints Content.array e = refl
unkept_prints Content.property e = refl
unkept_prints (Content.boolean true) e = ap (λ t. starts (λ c. true) (next t)) (chars-IsAscii (text_of (Content.boolean true)) (search rules))
unkept_prints (Content.boolean false) e = ap (λ t. starts (λ c. true) (next t)) (chars-IsAscii (text_of (Content.boolean false)) (search rules))
unkept_prints Content.null e = ap (λ t. starts (λ c. true) (next t)) (chars-IsAscii (text_of Content.null) (search rules))
unkept_prints (Content.token c) e = token_begins c
unkept_prints (Content.newline k) e = newline_begins k
unkept_prints content e = cc

-- any other prints something where its text does
pub kept_prints : (content : Content) (s : List ℕ) → kept_text content ≡ Some s → prints content ≡ starts (λ c. true) (next (chars s))
kept_prints (Content.string t) s e = let same : t ≡ s = cc in ap (λ l. starts (λ c. true) (next (chars l))) same
kept_prints (Content.word t) s e = let same : t ≡ s = cc in ap (λ l. starts (λ c. true) (next (chars l))) same
kept_prints (Content.number t) s e = let same : t ≡ s = cc in ap (λ l. starts (λ c. true) (next (chars l))) same
kept_prints (Content.whitespace t) s e = let same : t ≡ s = cc in ap (λ l. starts (λ c. true) (next (chars l))) same
kept_prints (Content.comment t) s e = let same : t ≡ s = cc in ap (λ l. starts (λ c. true) (next (chars l))) same
kept_prints content s e = cc

-- a text has a character exactly where it has a byte
pub begins_text : (bs : List ℕ) (empty : Bool) → IsUtf8 bs → empty ≡ (length bs == 0) → not empty ≡ starts (λ c. true) (next (chars bs))
begins_text [] empty u e = ap not e ∙ sym (ap (λ t. starts (λ c. true) (next t)) chars-nil)
begins_text (b ∷ bs) empty u e = ap not e ∙ not_from_false (length (b ∷ bs) == 0) (ne_eqb (length (b ∷ bs)) 0 (λ none. omega (arith, none))) ∙ sym (by (chars (b ∷ bs)) (encodes-chars (b ∷ bs) u))
  where
    by : (cs : List ℕ) → encodes cs ≡ b ∷ bs → Begins cs
    by [] k = absurd (omega (arith, ap length k))
    by (c ∷ cs) k = refl
