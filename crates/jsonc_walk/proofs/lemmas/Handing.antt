-- Literals and names, by the places where they stand.
use Rattle.std.proofs.Common.{ℕ, ◌+◌, ◌-◌, ◌≡◌, ◌∙◌, ◌++◌, ◌∷◌, [], List, Result, IfOk, Some, None, sym, ap, subst, refl, arith, chars, slice_range, IsCharBoundary, IsUtf8, IsTrue, ◌==◌, ◌&&◌, ◌⊎◌, inl, inr, option_map}
use Rattle.std.proofs.lemmas.Str.{IsUtf8-from_is_utf8}
use Rattle.std.specs.Char.{len_utf8}
use Rattle.std.specs.Cow.{cow_str_bytes, IsBorrowedStr, IsOwnedStr}
use Rattle.std.specs.declared.borrow.CowStr.{CowStr}
use Rattle.std.specs.declared.borrow.CowStr.TheVariants as cow
use denote.Ref.{Bor}
use Rattle.jsonc_text.specs.declared.common.Range.{Range}
use Rattle.jsonc_text.specs.string.Escapes.{IsLentUnescaped}
use Rattle.jsonc_text.specs.Lexemes.{Lexeme, LexemeKind, lexeme}
use Rattle.jsonc_text.specs.Options.{Options}
use Rattle.jsonc_text.specs.Plain.{number, string}
use Rattle.jsonc_text.specs.Strings.{IsQuote}
use Rattle.jsonc_text.specs.Text.{Spans, rest, byte_length}
use Rattle.jsonc_text.specs.Words.{keyword_text}
use Rattle.jsonc_text.proofs.Basics.{or_cases, and_both, test_eq}
use Rattle.jsonc_text.proofs.Cuts.{slice_chars, rest_past, step_place, byte_length-append, byte_length-one}
use Rattle.jsonc_scan.specs.declared.found.TokenKind.{TokenKind}
use Rattle.jsonc_scan.specs.declared.found.TokenKind.TheVariants as kind
use Rattle.jsonc_walk.specs.declared.name.ObjectPropName.{ObjectPropName}
use Rattle.jsonc_walk.specs.declared.name.ObjectPropName.TheVariants.{String}
use Rattle.jsonc_walk.specs.declared.name.WordLit.{WordLit}
use Rattle.jsonc_walk.specs.Located.{Located, LocatedName, leaf_at, In}
use Rattle.jsonc_walk.specs.declared.context.Context.{Context}
use Rattle.jsonc_walk.specs.Context.{text_in, options_in, token_range, IsNameHere, IsToken, last}
use Rattle.jsonc_walk.specs.Handed.{Source, source_of, chars_between, HasLexeme, HasPlainString, HasEscapedString, HasNumber, HasLooseName, LeafMade, NameMade, value_in}
use Rattle.jsonc_walk.specs.Scanned.{loose_text, leaf_value}
use Rattle.jsonc_walk.specs.Written.{IsLentHere, IsWritten}
use Rattle.jsonc_walk.proofs.lemmas.Gaps.{stands}
use Rattle.jsonc_walk.proofs.lemmas.Names.{string_name_here}
use Rattle.jsonc_walk.proofs.lemmas.Spelling.{string_written}

some_same : (a b : List ℕ) → Some a ≡ Some b → a ≡ b
some_same a b e = cc

none_same : (a : List ℕ) → None ≡ Some a → ⊥
none_same a e = cc

-- what may be a name without quotes begins with its text
begins : (o : Options) (k : LexemeKind) (s t r : List ℕ) → loose_text (lexeme k) ≡ Some s → Lexeme o k t r → t ≡ s ++ r
begins o (LexemeKind.word w) s t r e h = subst (λ x. t ≡ x ++ r) (some_same w s e) h.0
begins o (LexemeKind.number w) s t r e h = subst (λ x. t ≡ x ++ r) (some_same w s e) h.0
begins o (LexemeKind.keyword k) s t r e h = subst (λ x. t ≡ x ++ r) (some_same (keyword_text k) s e) h.0
begins o (LexemeKind.string v) s t r e h = absurd (none_same s e)
begins o (LexemeKind.punctuation c) s t r e h = absurd (none_same s e)

same_slice : (o : Options) (b : List ℕ) (k : LexemeKind) (s : List ℕ) (r : Range) → IsUtf8 b → loose_text (lexeme k) ≡ Some s → In b (Lexeme o k) r → s ≡ chars (slice_range b r.start r.end)
same_slice o b k s r u e h = sym (slice_chars b s r.start r.end u h.spans.from h.spans.to (begins o k s (rest b r.start) (rest b r.end) e h.stands))

quote_length : (o : Options) (q : ℕ) → IsQuote o q → len_utf8 q ≡ 1
quote_length o q h = go (or_cases (q == 0x22) (q == 0x27 && o.single_quoted_strings) h)
  where
    go : IsTrue (q == 0x22) ⊎ IsTrue (q == 0x27 && o.single_quoted_strings) → len_utf8 q ≡ 1
    go (inl x) = ap len_utf8 (test_eq q 0x22 x)
    go (inr x) = ap len_utf8 (test_eq q 0x27 (and_both (q == 0x27) o.single_quoted_strings x).0)

-- between the quotes of a string stands a part of the text
inside : (o : Options) (b v : List ℕ) (r : Range) → IsUtf8 b → In b (Lexeme o (LexemeKind.string v)) r → Spans b (r.start + 1) (r.end - 1)
inside o b v r u h =
    let q = h.stands.0 in
    let s = h.stands.1 in
    let whole : rest b r.start ≡ (q ∷ s) ++ q ∷ rest b r.end = h.stands.3 in
    let one = quote_length o q h.stands.2 in
    let first = rest_past b (q ∷ []) (s ++ q ∷ rest b r.end) r.start u h.spans.from whole in
    let last = rest_past b (q ∷ s) (q ∷ rest b r.end) r.start u h.spans.from whole in
    let end = step_place b (r.start + byte_length (q ∷ s)) q r.end u last.1 (last.0, h.spans.to) in
    let from : r.start + byte_length (q ∷ []) ≡ r.start + 1 = omega (arith, byte_length-one q, one) in
    let to : r.start + byte_length (q ∷ s) ≡ r.end - 1 = omega (arith, end, one) in
    record {
      from = subst (IsCharBoundary b) from first.1;
      to = subst (IsCharBoundary b) to last.1;
      order = omega (arith, sym from, sym to, byte_length-append (q ∷ []) s, byte_length-one q, one);
    }

-- which strings are lent
module _ {A : Type 0} (v : CowStr A) where
  pub is_lent : (t : Bor (List ℕ)) → v ≡ cow.Borrowed t → IsBorrowedStr v
  is_lent t e = subst IsBorrowedStr (sym e) tt

  pub not_owned : (t : Bor (List ℕ)) → v ≡ cow.Borrowed t → IsOwnedStr v → ⊥
  not_owned t e = subst (λ x. IsOwnedStr x → ⊥) (sym e) (λ h. h)

-- a string that is written in a text, by its place
module _ {A : Type 0} (s : Source) (r : Range) (v : CowStr A) (h : IsWritten s.options s.bytes (String (record { range = r; value = v }))) where
  pub string_inside : IsUtf8 s.bytes → Spans s.bytes (r.start + 1) (r.end - 1)
  string_inside u = inside s.options s.bytes (chars (cow_str_bytes v)) r u h.0

  pub string_means : IsBorrowedStr v → chars_between s (r.start + 1) (r.end - 1) ≡ chars (cow_str_bytes v)
  string_means lent = ap chars (sym (h.1.slice lent))

  pub string_plain : IsBorrowedStr v → (IsOwnedStr v → ⊥) → HasPlainString s r
  string_plain lent apart = record {
    stands = subst (λ x. HasLexeme s (LexemeKind.string x) r) (sym (string_means lent)) h.0;
    plain = λ held. apart (h.1.copied.1 held);
  }

-- and a name without quotes
module _ (s : Source) (w : WordLit) (utf8 : IsUtf8 s.bytes) (h : (k : LexemeKind) × HasLexeme s k w.range × (loose_text (lexeme k) ≡ Some (chars w.value.now))) where
  pub word_means : chars_between s w.range.start w.range.end ≡ chars w.value.now
  word_means = sym (same_slice s.options s.bytes h.0 (chars w.value.now) w.range utf8 h.2 h.1)

  pub word_loose : HasLooseName s w.range
  word_loose = record { kind = h.0; stands = h.1; text = h.2 ∙ ap Some (sym word_means) }

module _ {A : Type 0} where
  pub utf8_there : (c : Context A) (s : Source) → s ≡ source_of c → IsUtf8 s.bytes
  utf8_there c s e = subst (λ x. IsUtf8 x.bytes) (sym e) (IsUtf8-from_is_utf8 (text_in c) c.utf8)

  -- what the last token is, by its place in the text of a receiver
  pub string_here : (c : Context A) (s : Source) (k : TokenKind) (v : CowStr A) (r : Range) → k ≡ kind.String → v ≡ c.content.string → s ≡ source_of c → IsToken c (last c k) → IsLentHere c (Some k) → r ≡ token_range c
      → IsWritten s.options s.bytes (String (record { range = r; value = v }))
  string_here c s k v r is same e at lent place =
      let there : IsToken c (lexeme (LexemeKind.string (chars (cow_str_bytes c.content.string)))) = subst (IsToken c) (ap (last c) is) at in
      let lent_there : IsLentUnescaped (text_in c) (token_range c).start (token_range c).end c.content.string = subst (λ k. IsLentHere c (Some k)) is lent in
      subst (λ x. IsWritten x.options x.bytes (String (record { range = r; value = v }))) (sym e) (string_written c v r (subst (λ s. IsToken c (lexeme (LexemeKind.string (chars (cow_str_bytes s))))) (sym same) there) place (subst (λ s. IsLentUnescaped (text_in c) (token_range c).start (token_range c).end s) (sym same) lent_there))

  pub name_here : (c : Context A) (s : Source) (n : ObjectPropName A) → s ≡ source_of c → IsWritten (options_in c) (text_in c) n → IsWritten s.options s.bytes n
  name_here c s n e h = subst (λ x. IsWritten x.options x.bytes n) (sym e) h

  number_stands : (c : Context A) (k : TokenKind) → k ≡ kind.Number → IsToken c (last c k) → In (text_in c) (Lexeme (options_in c) (LexemeKind.number (chars c.content.text.now))) (token_range c)
  number_stands c k is at =
      let found = subst (IsToken c) (ap (last c) is) at in
      stands (text_in c) (options_in c) c.scanner (lexeme (LexemeKind.number (chars c.content.text.now))) refl refl found

  number_text : (c : Context A) (k : TokenKind) → k ≡ kind.Number → IsToken c (last c k) → chars c.content.text.now ≡ chars (slice_range (text_in c) (token_range c).start (token_range c).end)
  number_text c k is at = same_slice (options_in c) (text_in c) (LexemeKind.number (chars c.content.text.now)) (chars c.content.text.now) (token_range c) (IsUtf8-from_is_utf8 (text_in c) c.utf8) refl (number_stands c k is at)

  pub number_means : (c : Context A) (s : Source) (k : TokenKind) (r : Range) → k ≡ kind.Number → s ≡ source_of c → IsToken c (last c k) → r ≡ token_range c → chars c.content.text.now ≡ chars_between s r.start r.end
  number_means c s k r is e at place = number_text c k is at ∙ ap (λ q. chars (slice_range (text_in c) q.start q.end)) (sym place) ∙ ap (λ x. chars (slice_range x.bytes r.start r.end)) (sym e)

  pub number_here : (c : Context A) (s : Source) (k : TokenKind) (r : Range) → k ≡ kind.Number → s ≡ source_of c → IsToken c (last c k) → r ≡ token_range c → HasNumber s r
  number_here c s k r is e at place =
      let there = subst (λ q. In (text_in c) (Lexeme (options_in c) (LexemeKind.number (chars c.content.text.now))) q) (sym place) (number_stands c k is at) in
      let in_source = subst (λ x. HasLexeme x (LexemeKind.number (chars c.content.text.now)) r) (sym e) there in
      subst (λ t. HasLexeme s (LexemeKind.number t) r) (number_means c s k r is e at place) in_source

  pub number_made : (c : Context A) (s : Source) (k : TokenKind) (r : Range) (is_made : Located → Type 0) → k ≡ kind.Number → s ≡ source_of c → IsToken c (last c k) → r ≡ token_range c
      → is_made (leaf_at r (number (chars_between s r.start r.end))) → LeafMade r (last c k) is_made
  number_made c s k r is_made is e at place made = record {
    leaf = leaf_at r (number (chars_between s r.start r.end));
    is = ap (λ t. Some (leaf_at r (number t))) (sym (number_means c s k r is e at place)) ∙ sym (ap (λ k. option_map (leaf_at r) (leaf_value (last c k))) is);
    made = made;
  }

  -- a string without a backslash that was passed
  plain_stands : (c : Context A) (k : TokenKind) → k ≡ kind.Plain → IsToken c (last c k) → IsLentHere c (Some k) → HasPlainString (source_of c) (token_range c)
  plain_stands c k is at lent =
      let r = token_range c in
      let found = subst (IsToken c) (ap (last c) is) at in record {
        stands = stands (text_in c) (options_in c) c.scanner (lexeme (LexemeKind.string (chars_between (source_of c) (r.start + 1) (r.end - 1)))) refl refl found;
        plain = subst (λ k. IsLentHere c (Some k)) is lent;
      }

  pub plain_here : (c : Context A) (s : Source) (k : TokenKind) (r : Range) → k ≡ kind.Plain → s ≡ source_of c → IsToken c (last c k) → IsLentHere c (Some k) → r ≡ token_range c → HasPlainString s r
  plain_here c s k r is e at lent place = subst (λ x. HasPlainString x r) (sym e) (subst (HasPlainString (source_of c)) (sym place) (plain_stands c k is at lent))

  pub plain_inside : (c : Context A) (s : Source) (k : TokenKind) (r : Range) → k ≡ kind.Plain → s ≡ source_of c → IsToken c (last c k) → IsLentHere c (Some k) → r ≡ token_range c → Spans s.bytes (r.start + 1) (r.end - 1)
  plain_inside c s k r is e at lent place = inside s.options s.bytes (chars_between s (r.start + 1) (r.end - 1)) r (utf8_there c s e) (plain_here c s k r is e at lent place).stands

  pub plain_means : (c : Context A) (s : Source) (k : TokenKind) (r : Range) → k ≡ kind.Plain → s ≡ source_of c → r ≡ token_range c → last c k ≡ lexeme (LexemeKind.string (chars_between s (r.start + 1) (r.end - 1)))
  plain_means c s k r is e place =
      ap (last c) is ∙ ap (λ q. lexeme (LexemeKind.string (chars_between (source_of c) (q.start + 1) (q.end - 1)))) (sym place) ∙ ap (λ x. lexeme (LexemeKind.string (chars_between x (r.start + 1) (r.end - 1)))) (sym e)

  pub plain_made : (c : Context A) (s : Source) (k : TokenKind) (r : Range) (is_made : Located → Type 0) → k ≡ kind.Plain → s ≡ source_of c → r ≡ token_range c
      → is_made (leaf_at r (string (chars_between s (r.start + 1) (r.end - 1)))) → LeafMade r (last c k) is_made
  plain_made c s k r is_made is e place made = record {
    leaf = leaf_at r (string (chars_between s (r.start + 1) (r.end - 1)));
    is = ap (λ w. option_map (leaf_at r) (leaf_value w)) (sym (plain_means c s k r is e place));
    made = made;
  }

  pub plain_named : (c : Context A) (s : Source) (k : TokenKind) (r : Range) (is_made : LocatedName → Type 0) → k ≡ kind.Plain → s ≡ source_of c → IsToken c (last c k) → r ≡ token_range c
      → is_made (record { range = r; name = chars_between s (r.start + 1) (r.end - 1) }) → NameMade c is_made
  plain_named c s k r is_made is e at place made =
      let between : Source → Range → List ℕ = λ x q. chars_between x (q.start + 1) (q.end - 1) in
      let n : LocatedName = record { range = token_range c; name = between (source_of c) (token_range c) } in record {
        name = n;
        stands = string_name_here c (last c k) at (between (source_of c) (token_range c)) (ap (last c) is);
        range = refl;
        made = subst is_made (ap (λ q. record { range = q; name = between s q }) place ∙ ap (λ x. record { range = token_range c; name = between x (token_range c) }) e) made;
      }

  -- a string with a backslash that was passed
  passed_stands : (c : Context A) (k : TokenKind) → k ≡ kind.Passed → IsToken c (last c k) → IsLentHere c (Some k) → HasEscapedString (source_of c) (token_range c) (value_in (source_of c) (token_range c))
  passed_stands c k is at lent =
      let found = subst (IsToken c) (ap (last c) is) at in record {
        stands = stands (text_in c) (options_in c) c.scanner (lexeme (LexemeKind.string (value_in (source_of c) (token_range c)))) refl refl found;
        escaped = subst (λ k. IsLentHere c (Some k)) is lent;
      }

  pub passed_here : (c : Context A) (s : Source) (k : TokenKind) (r : Range) → k ≡ kind.Passed → s ≡ source_of c → IsToken c (last c k) → IsLentHere c (Some k) → r ≡ token_range c → HasEscapedString s r (value_in s r)
  passed_here c s k r is e at lent place = subst (λ x. HasEscapedString x r (value_in x r)) (sym e) (subst (λ q. HasEscapedString (source_of c) q (value_in (source_of c) q)) (sym place) (passed_stands c k is at lent))

  passed_means : (c : Context A) (s : Source) (k : TokenKind) (r : Range) → k ≡ kind.Passed → s ≡ source_of c → r ≡ token_range c → last c k ≡ lexeme (LexemeKind.string (value_in s r))
  passed_means c s k r is e place = ap (last c) is ∙ ap (λ q. lexeme (LexemeKind.string (value_in (source_of c) q))) (sym place) ∙ ap (λ x. lexeme (LexemeKind.string (value_in x r))) (sym e)

  pub passed_made : (c : Context A) (s : Source) (k : TokenKind) (r : Range) (is_made : Located → Type 0) → k ≡ kind.Passed → s ≡ source_of c → r ≡ token_range c
      → is_made (leaf_at r (string (value_in s r))) → LeafMade r (last c k) is_made
  passed_made c s k r is_made is e place made = record {
    leaf = leaf_at r (string (value_in s r));
    is = ap (λ w. option_map (leaf_at r) (leaf_value w)) (sym (passed_means c s k r is e place));
    made = made;
  }

  pub passed_name_here : (c : Context A) (k : TokenKind) → k ≡ kind.Passed → IsToken c (last c k) → IsNameHere c (record { range = token_range c; name = value_in (source_of c) (token_range c) })
  passed_name_here c k is at = string_name_here c (last c k) at (value_in (source_of c) (token_range c)) (ap (last c) is)

  pub passed_named : (c : Context A) (s : Source) (k : TokenKind) (r : Range) (is_made : LocatedName → Type 0) → k ≡ kind.Passed → s ≡ source_of c → IsToken c (last c k) → r ≡ token_range c
      → is_made (record { range = r; name = value_in s r }) → NameMade c is_made
  passed_named c s k r is_made is e at place made =
      let n : LocatedName = record { range = token_range c; name = value_in (source_of c) (token_range c) } in record {
        name = n;
        stands = passed_name_here c k is at;
        range = refl;
        made = subst is_made (ap (λ q. record { range = q; name = value_in s q }) place ∙ ap (λ x. record { range = token_range c; name = value_in x (token_range c) }) e) made;
      }

-- what was given one name was given any that is the same
pub named_alike : {I E : Type 0} (names : I → LocatedName → Type 0) (n m : LocatedName) → n ≡ m → (found : Result I E) → IfOk found (λ p. names p n) → IfOk found (λ p. names p m)
named_alike names n m e found h = subst (λ x. IfOk found (λ p. names p x)) e h
