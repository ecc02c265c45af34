-- Worked rows: texts that are no documents.
use Rattle.std.proofs.Common.{ℕ, ◌≡◌, true, false, not, refl, List, [], ◌∷◌, ◌++◌, Option, Some, None, IsTrue, codes, inl, inr}
use Rattle.jsonc_text.specs.Options.{Options}
use Rattle.jsonc_text.specs.Text.{next, starts, Many, stop, step}
use Rattle.jsonc_text.specs.Gaps.{Gap}
use Rattle.jsonc_text.specs.Letters.{is_wide_letter}
use Rattle.jsonc_text.specs.Words.{WordLit, EndsWord, is_in_word}
use Rattle.jsonc_text.specs.Numbers.{Sign, Whole, Fraction, Exponent, Unsigned}
use Rattle.jsonc_text.specs.Lexemes.{LexemeKind, Lexeme}
use Rattle.jsonc_text.specs.Plain.{Plain, Items, Members}
use Rattle.jsonc_text.specs.Grammar.{IsDocument, IsValue, AreElements, AreProperties, IsProperty, IsName, may_name, Separates, Closes}
use Rattle.jsonc_text.proofs.Basics.{clash, apart, tails}
use Rattle.jsonc_text.proofs.UniqueGaps.{begins_gap, many_unique, gap_unique}
use Rattle.jsonc_text.proofs.UniqueWords.{word_run, ends_word}
use Rattle.jsonc_text.proofs.UniqueValues.{not_gap, gap_after, no_item_at, no_literal, value_begins, elements_begin, properties_begin, value_unique}
use Rattle.jsonc_text.proofs.Begins.{begins_item, string_begins, number_begins, keyword_begins}

no_tail : {c : ℕ} {t : List ℕ} → c ∷ t ≡ [] → ⊥
no_tail e = cc

-- a text that begins with a value's first character is a document only as a value
begins_value : (o : Options) (c : ℕ) (t : List ℕ) → IsTrue (not (begins_gap c)) → ((w : Plain) (s : List ℕ) → IsValue o (c ∷ t) w s → ⊥) → (v : Option Plain) → IsDocument o (c ∷ t) v → ⊥
begins_value o c t h f None g = no_tail (gap_unique Gap.none g h refl)
begins_value o c t h f (Some v) (u, r, g, x, k) = let p : c ∷ t ≡ u = gap_unique Gap.none g h (not_gap u (value_begins o x)) in f v r (rw (← p) at x)

-- `[1,,2]`
one : (o : Options) → Lexeme o (LexemeKind.number (codes "1")) (codes "1,,2]") (codes ",,2]")
one o = (refl, (false, codes "1,,2]", Sign.none, Unsigned.decimal (Whole.digits refl stop refl) (Fraction.none refl) (Exponent.none refl)))

one_value : (o : Options) → IsValue o (codes "1,,2]") (Plain.number (codes "1")) (codes ",,2]")
one_value o = IsValue.literal (LexemeKind.number (codes "1")) (one o) refl

commas_close : {o : Options} {t r : List ℕ} → codes ",,2]" ≡ t → Closes o 0x5D t r → ⊥
commas_close p (Closes.plain g) = apart refl (gap_after p Gap.none g refl refl)
commas_close p (Closes.trailing_comma a g h) = apart refl (gap_after (tails (gap_after p Gap.none g refl refl)) Gap.none h refl refl)

commas_separate : {o : Options} {t r : List ℕ} → codes ",,2]" ≡ t → Separates o t r → IsTrue (starts begins_item (next r)) → ⊥
commas_separate {r = r} p (Separates.comma g h) a = no_item_at refl (gap_after (tails (gap_after p Gap.none g refl refl)) Gap.none h refl (not_gap r a)) a
commas_separate {r = r} p (Separates.no_comma m g) a = no_item_at refl (gap_after p Gap.none g refl (not_gap r a)) a

commas_elements : {o : Options} {vs : Items} {r : List ℕ} → AreElements o (codes "1,,2]") vs r → ⊥
commas_elements {o} (AreElements.last_element v c) = commas_close (value_unique o (one_value o) v).1 c
commas_elements {o} (AreElements.element v s e) = commas_separate (value_unique o (one_value o) v).1 s (elements_begin o e)

commas_value : {o : Options} {v : Plain} {r : List ℕ} → IsValue o (codes "[1,,2]") v r → ⊥
commas_value {o} {r = r} (IsValue.literal k l e) = no_literal o 0x5B k (codes "1,,2]") r refl l e
commas_value (IsValue.empty_array g) = apart refl (gap_unique Gap.none g refl refl)
commas_value {o} (IsValue.array {u = u} g e) =
    let p : codes "1,,2]" ≡ u = gap_unique Gap.none g refl (not_gap u (elements_begin o e)) in commas_elements (rw (← p) at e)

pub commas_document : (o : Options) (v : Option Plain) → IsDocument o (codes "[1,,2]") v → ⊥
commas_document o v d = begins_value o 0x5B (codes "1,,2]") refl (λ w s x. commas_value x) v d

-- `{a/*c*/:1}`
follower_word : {o : Options} {s : List ℕ} (r : List ℕ) → codes "a/*c*/:1}" ≡ s ++ r → WordLit o s (next r) → ⊥
unfolding is_wide_letter
follower_word r e w =
    let run : Many is_in_word (codes "a/*c*/:1}") (codes "/*c*/:1}") = step refl stop in
    let p : r ≡ codes "/*c*/:1}" = many_unique (word_run e w) run (ends_word (next r) w.ends) refl in
    let f : EndsWord (next (codes "/*c*/:1}")) = rw p at w.ends in
    clash true f refl

follower_loose : (o : Options) (k : LexemeKind) (r : List ℕ) → Lexeme o k (codes "a/*c*/:1}") r → IsTrue (may_name k) → ⊥
follower_loose o (LexemeKind.word s) r (e, w) m = follower_word r e w
follower_loose o (LexemeKind.number s) r (e, n) m = clash true (number_begins n) refl
follower_loose o (LexemeKind.keyword k) r x m = clash true (keyword_begins k r x) refl
follower_loose o (LexemeKind.string s) r x m = clash true m refl
follower_loose o (LexemeKind.punctuation c) r x m = clash true m refl

follower_name : {o : Options} {name r : List ℕ} → IsName o (codes "a/*c*/:1}") name r → ⊥
follower_name {o} (inl x) = clash true (string_begins {o = o} x) refl
follower_name {o} {r = r} (inr l) = follower_loose o l.2 r l.4 l.3

follower_properties : {o : Options} {ms : Members} {r : List ℕ} → AreProperties o (codes "a/*c*/:1}") ms r → ⊥
follower_properties (AreProperties.last_property (IsProperty.named n g h v) c) = follower_name n
follower_properties (AreProperties.property (IsProperty.named n g h v) s e) = follower_name n

follower_value : {o : Options} {v : Plain} {r : List ℕ} → IsValue o (codes "{a/*c*/:1}") v r → ⊥
follower_value {o} {r = r} (IsValue.literal k l e) = no_literal o 0x7B k (codes "a/*c*/:1}") r refl l e
follower_value (IsValue.empty_object g) = apart refl (gap_unique Gap.none g refl refl)
follower_value {o} (IsValue.object {u = u} g e) =
    let p : codes "a/*c*/:1}" ≡ u = gap_unique Gap.none g refl (not_gap u (properties_begin o e)) in follower_properties (rw (← p) at e)

pub follower_document : (o : Options) (v : Option Plain) → IsDocument o (codes "{a/*c*/:1}") v → ⊥
follower_document o v d = begins_value o 0x7B (codes "a/*c*/:1}") refl (λ w s x. follower_value x) v d
