-- Numbers before `true` and before `false`.
use Rattle.std.proofs.Common.{ℕ, ◌≡◌, ◌∙◌, ◌⊎◌, inl, inr, sym, ap, subst, refl, Bool, true, false, ◌||◌, ◌&&◌, ◌==◌, List, [], ◌∷◌, ◌++◌, Option, Some, None, IsTrue, chars, codes, rules}
use Rattle.std.proofs.lemmas.Str.{chars-IsAscii}
use Rattle.jsonc_text.specs.Options.{Options, all_on}
use Rattle.jsonc_text.specs.Text.{next, no, Many, stop, step, AllOf, all_of, is_digit, is_hex_digit}
use Rattle.jsonc_text.specs.Words.{EndsThere, EndsWord, goes_on}
use Rattle.jsonc_text.specs.Numbers.{Sign, Whole, Fraction, Exponent, Unsigned, Number, MayFollow, EndsName, is_x, is_e, is_point, is_sign}
use Rattle.jsonc_text.specs.Lexemes as lexemes
use Rattle.jsonc_text.specs.Lexemes.{LexemeKind, lexeme, CanEndBefore}
use Rattle.jsonc_text.proofs.Basics.{front_same, or_left, or_right}
use Rattle.jsonc_tree.specs.Content.{Content}
use Rattle.jsonc_tree.specs.OrderedTree.{OrderedTree, leaves}
use Rattle.jsonc_sound.specs.ChangeLaws.{DiffersIn}
use Rattle.jsonc_sound.specs.Sound.{Sound}
use Rattle.jsonc_sound.specs.TreeChanges.{leaves_of, DocumentChanged}
use Rattle.jsonc_sound.specs.Shape.{DocumentShaped}
use Rattle.jsonc_sound.proofs.Lines.{document_lines}
use Rattle.jsonc_sound.specs.Adjacent.{first_char, or_else, follower, LeavesEnd, last_printed, MayEndBefore}
use Rattle.jsonc_sound.specs.Alone as alone
use Rattle.jsonc_sound.specs.Booleans.{begins_hex, is_hexadecimal, is_hex_leaf, boolean_leaf}
use Rattle.jsonc_sound.proofs.NodesAlone.{document_leaves}
use Rattle.jsonc_sound.proofs.Changed.{shaped_at_seams}
use Rattle.jsonc_sound.proofs.Leaves.{parted_leaves}
use Rattle.jsonc_sound.proofs.Spaces.{last_of}

-- the tests by which parts of numbers end, but for hex digits
data Part : (ℕ → Bool) → Type 0 where
  an_x : Part is_x
  a_point : Part is_point
  an_e : Part is_e
  a_digit : Part is_digit
  a_name : Part goes_on
  a_whole : Part (λ c. goes_on c || c == 0x2D || c == 0x5F)

record Swapped (R : List ℕ → List ℕ → Type 0) (t x r z : List ℕ) : Type 0 where
  text : List ℕ
  split : t ≡ text ++ r
  here : R (text ++ z) (x ++ z)

-- a hexadecimal number, which ends before r
record IsHex (u r : List ℕ) : Type 0 where
  text : List ℕ
  split : u ≡ text ++ r
  begins : IsTrue (begins_hex text)
  ends : IsTrue (no is_hex_digit (next r))

module _ (r z : List ℕ) (alike : (p : ℕ → Bool) → Part p → IsTrue (no p (next r)) → IsTrue (no p (next z))) where
  no_swapped : (p : ℕ → Bool) → Part p → (x : List ℕ) {u : List ℕ} → u ≡ x ++ r → IsTrue (no p (next u)) → IsTrue (no p (next (x ++ z)))
  no_swapped p a [] e n = alike p a (rw e at n)
  no_swapped p a (c ∷ x) e n = rw e at n

  one_more : {R S : List ℕ → List ℕ → Type 0} {t x : List ℕ} (c : ℕ) → ((a : List ℕ) → R a (x ++ z) → S (c ∷ a) (x ++ z)) → Swapped R t x r z → Swapped S (c ∷ t) x r z
  one_more c f k = record { text = c ∷ k.text; split = ap (λ y. c ∷ y) k.split; here = f (k.text ++ z) k.here }

  many_swapped : {p : ℕ → Bool} {t u : List ℕ} (x : List ℕ) → Many p t u → u ≡ x ++ r → Swapped (Many p) t x r z
  many_swapped x stop e = record { text = x; split = e; here = stop }
  many_swapped x (step {c = c} h g) e = one_more c (λ a k. step h k) (many_swapped x g e)

  all_swapped : {p : ℕ → Bool} {t u : List ℕ} → Part p → (x : List ℕ) → AllOf p t u → u ≡ x ++ r → Swapped (AllOf p) t x r z
  all_swapped {p} a x (all_of {c = c} h g n) e = one_more c (λ b k. all_of h k (no_swapped p a x e n)) (many_swapped x g e)

  whole_swapped : {t u : List ℕ} (x : List ℕ) → Whole t u → u ≡ x ++ r → Swapped Whole t x r z
  whole_swapped x (Whole.zero n) e = record { text = 0x30 ∷ x; split = ap (λ y. 0x30 ∷ y) e; here = Whole.zero (no_swapped is_x an_x x e n) }
  whole_swapped x (Whole.digits {c = c} h g n) e = one_more c (λ a k. Whole.digits h k (no_swapped is_digit a_digit x e n)) (many_swapped x g e)

  fraction_swapped : {o : Options} {t u : List ℕ} (x : List ℕ) → Fraction o t u → u ≡ x ++ r → Swapped (Fraction o) t x r z
  fraction_swapped x (Fraction.none n) e = record { text = x; split = e; here = Fraction.none (no_swapped is_point a_point x e n) }
  fraction_swapped x (Fraction.point g) e = one_more 0x2E (λ a k. Fraction.point k) (all_swapped a_digit x g e)
  fraction_swapped x (Fraction.bare_point p n) e = record { text = 0x2E ∷ x; split = ap (λ y. 0x2E ∷ y) e; here = Fraction.bare_point p (no_swapped is_digit a_digit x e n) }

  exponent_swapped : {t u : List ℕ} (x : List ℕ) → Exponent t u → u ≡ x ++ r → Swapped Exponent t x r z
  exponent_swapped x (Exponent.none n) e = record { text = x; split = e; here = Exponent.none (no_swapped is_e an_e x e n) }
  exponent_swapped x (Exponent.digits {e = c} h g) e = one_more c (λ a k. Exponent.digits h k) (all_swapped a_digit x g e)
  exponent_swapped x (Exponent.signed {e = c} {s = s} h k g) e =
      one_more {R = λ a b. Exponent (c ∷ a) b} c (λ a y. y) (one_more s (λ a y. Exponent.signed h k y) (all_swapped a_digit x g e))

  name_swapped : (b : Bool) (x : List ℕ) {u : List ℕ} → EndsName b (next u) → u ≡ x ++ r → EndsName b (next (x ++ z))
  name_swapped true x n e = no_swapped goes_on a_name x e n
  name_swapped false x n e = no_swapped _ a_whole x e n

  -- what hex digits leave
  hex_text : {t u : List ℕ} → Many is_hex_digit t u → u ≡ r → (x : List ℕ) × (t ≡ x ++ r)
  hex_text stop e = ([], e)
  hex_text (step {c = c} h g) e = let k = hex_text g e in (c ∷ k.0, ap (λ y. c ∷ y) k.1)

  unsigned_swapped : {o : Options} {b : Bool} {t u : List ℕ} → Unsigned o b t u → u ≡ r → Swapped (Unsigned o b) t [] r z ⊎ IsHex t r
  unsigned_swapped (Unsigned.hex {x = c} p q (all_of {c = d} h g n)) e =
      let k = hex_text g e in
      inr (record { text = 0x30 ∷ c ∷ d ∷ k.0; split = ap (λ y. 0x30 ∷ c ∷ d ∷ y) k.1; begins = q; ends = subst (λ y. IsTrue (no is_hex_digit (next y))) e n })
  unsigned_swapped (Unsigned.decimal w f n) e =
      let k = exponent_swapped [] n e in
      let l = fraction_swapped k.text f k.split in
      let m = whole_swapped l.text w l.split in
      inl (record { text = m.text; split = m.split; here = Unsigned.decimal m.here l.here k.here })
  unsigned_swapped (Unsigned.bare_point p g n) e =
      let k = exponent_swapped [] n e in
      let l = all_swapped a_digit k.text g k.split in
      inl (record { text = 0x2E ∷ l.text; split = ap (λ y. 0x2E ∷ y) l.split; here = Unsigned.bare_point p l.here k.here })
  unsigned_swapped {b = b} (Unsigned.infinity p n) e = inl (record { text = codes "Infinity"; split = ap (λ y. codes "Infinity" ++ y) e; here = Unsigned.infinity p (name_swapped b [] n e) })
  unsigned_swapped {b = b} (Unsigned.nan p n) e = inl (record { text = codes "NaN"; split = ap (λ y. codes "NaN" ++ y) e; here = Unsigned.nan p (name_swapped b [] n e) })

  -- with its sign
  hex_here : (s : List ℕ) → IsTrue (begins_hex s) → IsTrue (is_hexadecimal s)
  hex_here [] h = cc
  hex_here (c ∷ s) h = or_left (begins_hex (c ∷ s)) (is_sign c && begins_hex s) h

  signed_hex : (c : ℕ) (s : List ℕ) → IsTrue (is_sign c) → IsTrue (begins_hex s) → IsTrue (is_hexadecimal (c ∷ s))
  signed_hex c s h k = or_right (begins_hex (c ∷ s)) (is_sign c && begins_hex s) (both (is_sign c) (begins_hex s) h k)
    where
      both : (a b : Bool) → IsTrue a → IsTrue b → IsTrue (a && b)
      both true b x y = y
      both false b x y = cc

  number_swapped : (s : List ℕ) {b : Bool} {t u : List ℕ} → t ≡ s ++ r → Sign all_on b t u → Unsigned all_on b u r → MayFollow s z ⊎ (IsTrue (is_hexadecimal s) × IsTrue (no is_hex_digit (next r)))
  number_swapped s e Sign.none n =
      elim (unsigned_swapped n refl) [
        | inl k ↦ (let same : k.text ≡ s = front_same refl (sym k.split ∙ e) in inl (subst (λ y. Number all_on (y ++ z) z) same (false, k.text ++ z, Sign.none, k.here)))
        | inr k ↦ (let same : k.text ≡ s = front_same refl (sym k.split ∙ e) in inr (hex_here s (subst (λ y. IsTrue (begins_hex y)) same k.begins), k.ends))
      ]
  number_swapped s e Sign.minus n =
      elim (unsigned_swapped n refl) [
        | inl k ↦ (let same : 0x2D ∷ k.text ≡ s = front_same refl (sym (ap (λ y. 0x2D ∷ y) k.split) ∙ e) in inl (subst (λ y. Number all_on (y ++ z) z) same (true, k.text ++ z, Sign.minus, k.here)))
        | inr k ↦ (let same : 0x2D ∷ k.text ≡ s = front_same refl (sym (ap (λ y. 0x2D ∷ y) k.split) ∙ e) in inr (subst (λ y. IsTrue (is_hexadecimal y)) same (signed_hex 0x2D k.text refl k.begins), k.ends))
      ]
  number_swapped s e (Sign.plus p) n =
      elim (unsigned_swapped n refl) [
        | inl k ↦ (let same : 0x2B ∷ k.text ≡ s = front_same refl (sym (ap (λ y. 0x2B ∷ y) k.split) ∙ e) in inl (subst (λ y. Number all_on (y ++ z) z) same (true, k.text ++ z, Sign.plus p, k.here)))
        | inr k ↦ (let same : 0x2B ∷ k.text ≡ s = front_same refl (sym (ap (λ y. 0x2B ∷ y) k.split) ∙ e) in inr (subst (λ y. IsTrue (is_hexadecimal y)) same (signed_hex 0x2B k.text refl k.begins), k.ends))
      ]

  may_follow : (s : List ℕ) → MayFollow s r → MayFollow s z ⊎ (IsTrue (is_hexadecimal s) × IsTrue (no is_hex_digit (next r)))
  may_follow s (b, u, g, n) = number_swapped s refl g n

-- `t` and `f`
to_f : (p : ℕ → Bool) → Part p → IsTrue (no p (Some 0x74)) → IsTrue (no p (Some 0x66))
to_f _ an_x h = refl
to_f _ a_point h = refl
to_f _ an_e h = refl
to_f _ a_digit h = refl
to_f _ a_name h = cc
to_f _ a_whole h = cc

to_t : (p : ℕ → Bool) → Part p → IsTrue (no p (Some 0x66)) → IsTrue (no p (Some 0x74))
to_t _ an_x h = refl
to_t _ a_point h = refl
to_t _ an_e h = refl
to_t _ a_digit h = refl
to_t _ a_name h = cc
to_t _ a_whole h = cc

before_false : (s : List ℕ) → is_hexadecimal s ≡ false → MayFollow s (0x74 ∷ []) → MayFollow s (0x66 ∷ [])
before_false s e h = elim (may_follow (0x74 ∷ []) (0x66 ∷ []) to_f s h) [ inl k ↦ k | inr k ↦ (let wrong : false ≡ true = sym e ∙ k.0 in cc) ]

before_true : (s : List ℕ) → MayFollow s (0x66 ∷ []) → MayFollow s (0x74 ∷ [])
before_true s h = elim (may_follow (0x66 ∷ []) (0x74 ∷ []) to_t s h) [ inl k ↦ k | inr k ↦ (let wrong = k.1 in cc) ]

-- the first character of each
abbrev first_of_boolean : Bool → ℕ
first_of_boolean true = 0x74
first_of_boolean false = 0x66

boolean_first : (b : Bool) → first_char (Content.boolean b) ≡ Some (first_of_boolean b)
boolean_first true = ap next (chars-IsAscii (codes "true") (search rules))
boolean_first false = ap next (chars-IsAscii (codes "false") (search rules))

number_before : (s : List ℕ) (was now : Bool) → (now ≡ false → is_hexadecimal s ≡ false) → MayFollow s (first_of_boolean was ∷ []) → MayFollow s (first_of_boolean now ∷ [])
number_before s true true f h = h
number_before s true false f h = before_false s (f refl) h
number_before s false true f h = before_true s h
number_before s false false f h = h

no_keyword : (b : Bool) → EndsThere (Some (first_of_boolean b)) → ⊥
no_keyword true h = cc
no_keyword false h = cc

no_word : (b : Bool) → EndsWord (Some (first_of_boolean b)) → ⊥
no_word true h = cc
no_word false h = cc

kind_before : (k : LexemeKind) (s : List ℕ) (was now : Bool) → (now ≡ false → is_hexadecimal s ≡ false) → CanEndBefore (lexeme k) s (first_of_boolean was ∷ []) → CanEndBefore (lexeme k) s (first_of_boolean now ∷ [])
kind_before (lexemes.string v) s was now f h = tt
kind_before (lexemes.number v) s was now f h = number_before s was now f h
kind_before (lexemes.word v) s was now f h = absurd (no_word was h)
kind_before (lexemes.keyword k) s was now f h = absurd (no_keyword was h)
kind_before (lexemes.punctuation c) s was now f h = tt

leaf_before : (o : Options) (x : Option Content) (was now : Bool) → (now ≡ false → is_hex_leaf x ≡ false) → MayEndBefore o x (Some (first_of_boolean was)) → MayEndBefore o x (Some (first_of_boolean now))
leaf_before o None was now f h = tt
leaf_before o (Some (Content.number s)) was now f h = number_before (chars s) was now f h
leaf_before o (Some (Content.boolean b)) was now f h = absurd (no_keyword was h)
leaf_before o (Some Content.null) was now f h = absurd (no_keyword was h)
leaf_before o (Some (Content.word s)) was now f h = (h.0, h.1, h.2, kind_before h.0 (chars s) was now f h.3)
leaf_before o (Some content) was now f h = tt

pub shaped_with_boolean : (o : Options) (t : OrderedTree) → DocumentShaped o t → (was now : Bool) (path : List ℕ) (u : OrderedTree) → DocumentChanged (boolean_leaf was) (boolean_leaf now) path t u
    → (d : DiffersIn (leaves_of (boolean_leaf was)) (leaves_of (boolean_leaf now)) (leaves t) (leaves u)) → (now ≡ false → is_hex_leaf (last_printed d.front) ≡ false) → DocumentShaped o u
shaped_with_boolean o t s was now path u c d f =
    let all = parted_leaves o d.front (Content.boolean was ∷ d.back) None (subst (λ x. LeavesEnd o x None) d.before (document_leaves o s)) in
    let before = subst (MayEndBefore o (last_printed d.front)) (ap (λ x. or_else x (follower d.back None)) (boolean_first was)) (last_of o d.front (follower (Content.boolean was ∷ d.back) None) all.0) in
    let first = subst (MayEndBefore o (last_printed d.front)) (sym (ap (λ x. or_else x (follower d.back None)) (boolean_first now))) (leaf_before o (last_printed d.front) was now f before) in
    shaped_at_seams o t s (boolean_leaf was) (boolean_leaf now) path u c (alone.literal refl) d first (all.1.0, tt)

pub sound_with_boolean : (o : Options) (t : OrderedTree) → Sound o t → (was now : Bool) (path : List ℕ) (u : OrderedTree) → DocumentChanged (boolean_leaf was) (boolean_leaf now) path t u
    → (d : DiffersIn (leaves_of (boolean_leaf was)) (leaves_of (boolean_leaf now)) (leaves t) (leaves u)) → (now ≡ false → is_hex_leaf (last_printed d.front) ≡ false) → Sound o u
sound_with_boolean o t s was now path u c d f = record { shaped = shaped_with_boolean o t s.shaped was now path u c d f; lines = document_lines tt c s.lines }
