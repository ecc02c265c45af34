-- The texts of tokens, and tokens that are the same.
use Rattle.std.proofs.Common.{ℕ, ◌≡◌, ◌∙◌, sym, ap, refl, List, [], ◌∷◌, Bool, true, false, codes, IsUtf8, ◌==◌, cond, nat_eq, arith, encode_utf8_all}
use Rattle.std.specs.Bool.{Decides}
use Rattle.std.specs.Str.{chars}
use Rattle.std.specs.Cmp.Lexicographic.{pointwise}
use Rattle.std.proofs.lemmas.Bool.{and_parts}
use Rattle.std.proofs.lemmas.Str.{encodes-chars}
use Rattle.std.proofs.lemmas.Slice.Eq.{bytes_eq-Decides}
use Rattle.jsonc_text.specs.Lexemes.{Scanned, lexeme, line_comment, block_comment, punctuation, string, word, number, keyword}
use Rattle.jsonc_text.specs.Words.{Keyword, boolean, null}
use Rattle.jsonc_text.specs.Tokens.{scanned_text, scanned_class, same_scanned}

pub open_brace : chars (codes "{") ≡ codes "{"
unfolding chars
open_brace = refl

pub close_brace : chars (codes "}") ≡ codes "}"
unfolding chars
close_brace = refl

pub open_bracket : chars (codes "[") ≡ codes "["
unfolding chars
open_bracket = refl

pub close_bracket : chars (codes "]") ≡ codes "]"
unfolding chars
close_bracket = refl

pub comma : chars (codes ",") ≡ codes ","
unfolding chars
comma = refl

pub colon : chars (codes ":") ≡ codes ":"
unfolding chars
colon = refl

pub true_text : chars (codes "true") ≡ codes "true"
unfolding chars
true_text = refl

pub false_text : chars (codes "false") ≡ codes "false"
unfolding chars
false_text = refl

pub null_text : chars (codes "null") ≡ codes "null"
unfolding chars
null_text = refl

-- the characters of the texts that are the same for every token of a kind
pub ruleset fixed_texts = (open_brace, close_brace, open_bracket, close_bracket, comma, colon, true_text, false_text, null_text)

-- the lexeme or comment of a kind with this text
keyword_of : List ℕ → Keyword
keyword_of [] = null
keyword_of (c ∷ s) = cond (c == 0x74) (boolean true) (cond (c == 0x66) (boolean false) null)

first_of_text : List ℕ → ℕ
first_of_text [] = 0
first_of_text (c ∷ s) = c

scanned_by : ℕ → List ℕ → Scanned
scanned_by n s =
    cond (n == 0) (lexeme (string s))
    (cond (n == 1) (lexeme (number s))
    (cond (n == 2) (lexeme (word s))
    (cond (n == 3) (lexeme (keyword (keyword_of s)))
    (cond (n == 4) (lexeme (punctuation (first_of_text s)))
    (cond (n == 5) (line_comment s) (block_comment s))))))

scanned_again : (w : Scanned) → w ≡ scanned_by (scanned_class w) (scanned_text w)
unfolding scanned_by keyword_of first_of_text
scanned_again (lexeme (string v)) = refl
scanned_again (lexeme (number s)) = refl
scanned_again (lexeme (word s)) = refl
scanned_again (lexeme (keyword (boolean true))) = refl
scanned_again (lexeme (keyword (boolean false))) = refl
scanned_again (lexeme (keyword null)) = refl
scanned_again (lexeme (punctuation c)) = refl
scanned_again (line_comment s) = refl
scanned_again (block_comment s) = refl

-- a kind and a text determine the lexeme or comment
pub same_from_parts : (v w : Scanned) → scanned_class v ≡ scanned_class w → scanned_text v ≡ scanned_text w → v ≡ w
same_from_parts v w e f = scanned_again v ∙ ap (λ n. scanned_by n (scanned_text v)) e ∙ ap (scanned_by (scanned_class w)) f ∙ sym (scanned_again w)

class_test : (m n : ℕ) → (m == n) ≡ true → m ≡ n
class_test m n h = grind arith

same_class : (m : ℕ) → (m == m) ≡ true
same_class m = grind arith

pub same_scanned-Decides : (v w : Scanned) → Decides (same_scanned v w) (v ≡ w)
same_scanned-Decides v w = (one, other)
  where
    one : same_scanned v w ≡ true → v ≡ w
    one h =
        let parts = and_parts (scanned_class v == scanned_class w) (pointwise nat_eq (scanned_text v) (scanned_text w)) h in
        same_from_parts v w (class_test (scanned_class v) (scanned_class w) parts.0) ((bytes_eq-Decides (scanned_text v) (scanned_text w)).0 parts.1)

    self : (v : Scanned) → same_scanned v v ≡ true
    self v = rw (same_class (scanned_class v)) ((bytes_eq-Decides (scanned_text v) (scanned_text v)).1 refl)

    other : v ≡ w → same_scanned v w ≡ true
    other e = rw (sym e) (self v)

-- two texts have the same bytes where they have the same characters
pub same_bytes : (a b : List ℕ) → IsUtf8 a → IsUtf8 b → pointwise nat_eq a b ≡ pointwise nat_eq (chars a) (chars b)
same_bytes a b u v = agree (pointwise nat_eq a b) (pointwise nat_eq (chars a) (chars b)) (bytes_eq-Decides a b) (bytes_eq-Decides (chars a) (chars b))
  where
    agree : (x y : Bool) → Decides x (a ≡ b) → Decides y (chars a ≡ chars b) → x ≡ y
    agree true y d e = sym (e.1 (ap chars (d.0 refl)))
    agree false true d e = d.1 (sym (encodes-chars a u) ∙ ap encode_utf8_all (e.0 refl) ∙ encodes-chars b v)
    agree false false d e = refl

-- what a comparison of the kinds and of the texts says
pub same_tokens : (v w : Scanned) (a b : List ℕ) (m n : ℕ) (r : Bool) → IsUtf8 a → IsUtf8 b → chars a ≡ scanned_text v → chars b ≡ scanned_text w → m ≡ scanned_class v → n ≡ scanned_class w → m ≡ n → r ≡ pointwise nat_eq a b
    → r ≡ same_scanned v w
same_tokens v w a b m n r ua ub ta tb cv cw e f =
    let here : (scanned_class v == scanned_class w) ≡ true = rw (sym cv ∙ e ∙ cw) (same_class (scanned_class w)) in
    let texts : r ≡ pointwise nat_eq (scanned_text v) (scanned_text w) = rw (sym ta, sym tb) (f ∙ same_bytes a b ua ub) in
    rw here texts

pub decides_from : (v w : Scanned) (r : Bool) → r ≡ same_scanned v w → Decides r (v ≡ w)
decides_from v w r e = rw e (same_scanned-Decides v w)
