-- The texts of pointers: each is that of one list of tokens, and has no `~` of its own.
use Rattle.std.proofs.Common.{ℕ, suc, ◌≡◌, ◌≢◌, ◌∙◌, ◌++◌, ◌+◌, ◌<◌, ◌≤◌, ◌&&◌, sym, ap, subst, refl, Bool, true, false, cond, not, ◌==◌, List, [], ◌∷◌, length, flat_map, take, drop, get_or, IsTrue, inl, inr, arith, chars, string_bytes, encode_utf8, encode_utf8_all}
use Rattle.std.proofs.lemmas.Bool.{cases_Bool, eq-eqb, eqb-true, false≢true}
use Rattle.std.proofs.lemmas.Grind.{flat_map-append}
use Rattle.std.proofs.lemmas.List.{append-nil, append_assoc, drop_more, length-append, map-append, take-append-drop, take_more}
use Rattle.std.proofs.lemmas.Str.{chars-append, chars-encodes, chars-nil, encodes-append, encodes-chars, length-encode, chars_past_char}
use Rattle.std.proofs.lemmas.Str.Ascii.{encode_ascii}
use Rattle.std.specs.List.{All}
use Rattle.std.specs.Str.{IsUtf8, all_scalars}
use Rattle.std.specs.Char.{IsScalar, len_utf8}
use Rattle.std.specs.declared.string.String.{String}
use Rattle.jsonc_text.specs.Text.{byte_length, next, no}
use Rattle.jsonc_text.proofs.Basics.{heads, test_eq}
use Rattle.jsonc_parser.specs.paths.Found.{names_of}
use Rattle.jsonc_parser.specs.patch.Laws.{IsReadBack}
use Rattle.jsonc_parser.specs.patch.Pointer.{escaped, is_escape, pointer_text, token_text, HasLooseTilde, IsPointerFault, LacksSlash}
use Rattle.jsonc_parser.specs.patch.Reading.{text_so_far, IsFaultOfChar}
use Rattle.jsonc_parser.specs.declared.patch.pointer.PointerError.{PointerError}
use Rattle.jsonc_parser.specs.declared.patch.pointer.PointerError.TheVariants.{InvalidEscape, NoLeadingSlash, OutOfMemory}

-- the characters before the first loose `~`; a `~` is before the text, or not
abbrev front : Bool → List ℕ → List ℕ
front tilde [] = []
front true (c ∷ r) = cond (is_escape c) (0x7E ∷ c ∷ front false r) []
front false (c ∷ r) = cond (c == 0x7E) (front true r) (c ∷ front false r)

front_char : (c : ℕ) (r : List ℕ) → front false (escaped c ++ r) ≡ escaped c ++ front false r
front_char c r =
    elim (cases_Bool (c == 0x7E)) [
      | inl p ↦ rw p refl
      | inr p ↦ elim (cases_Bool (c == 0x2F)) [
        | inl q ↦ rw (p, q) refl
        | inr q ↦ rw (p, q) (rw p refl)
      ]
    ]

front_token : (cs r : List ℕ) → front false (flat_map escaped cs ++ r) ≡ flat_map escaped cs ++ front false r
front_token [] r = refl
front_token (c ∷ cs) r =
    ap (front false) (append_assoc (escaped c) (flat_map escaped cs) r)
    ∙ front_char c (flat_map escaped cs ++ r)
    ∙ ap (λ l. escaped c ++ l) (front_token cs r)
    ∙ sym (append_assoc (escaped c) (flat_map escaped cs) (front false r))

front_pointer : (ts : List (List ℕ)) (r : List ℕ) → front false (pointer_text ts ++ r) ≡ pointer_text ts ++ front false r
front_pointer [] r = refl
front_pointer (t ∷ ts) r =
    ap (front false) (append_assoc (token_text t) (pointer_text ts) r)
    ∙ ap (λ l. 0x2F ∷ l) (front_token t (pointer_text ts ++ r))
    ∙ ap (λ l. token_text t ++ l) (front_pointer ts r)
    ∙ sym (append_assoc (token_text t) (pointer_text ts) (front false r))

front_whole : (ts : List (List ℕ)) → front false (pointer_text ts) ≡ pointer_text ts
front_whole ts = ap (front false) (sym (append-nil (pointer_text ts))) ∙ front_pointer ts [] ∙ append-nil (pointer_text ts)

not_true : (b : Bool) → IsTrue (not b) → b ≡ false
not_true true h = cc
not_true false h = refl

front_loose : (behind : List ℕ) → IsTrue (no is_escape (next behind)) → front true behind ≡ []
front_loose [] h = refl
front_loose (c ∷ r) h = rw (not_true (is_escape c) h) refl

front_fault : (text : List ℕ) (place : ℕ) (h : HasLooseTilde text place) → front false text ≡ pointer_text h.tokens
front_fault text place h =
    ap (front false) h.is
    ∙ front_pointer h.tokens (0x7E ∷ h.rest)
    ∙ ap (λ l. pointer_text h.tokens ++ l) (front_loose h.rest h.loose)
    ∙ append-nil (pointer_text h.tokens)

-- the rest of the token that is read, and those after it; a `~` is before the text, or not
abbrev parts : Bool → List ℕ → List ℕ × List (List ℕ)
parts tilde [] = ([], [])
parts true (c ∷ r) = let p = parts false r in (cond (c == 0x30) 0x7E 0x2F ∷ p.0, p.1)
parts false (c ∷ r) = let p = parts false r in cond (c == 0x7E) (parts true r) (cond (c == 0x2F) ([], p.0 ∷ p.1) (c ∷ p.0, p.1))

abbrev FrontIs : ℕ → List ℕ → Type 0
FrontIs c r = parts false (escaped c ++ r) ≡ (c ∷ (parts false r).0, (parts false r).1)

parts_char : (c : ℕ) (r : List ℕ) → FrontIs c r
parts_char c r =
    elim (cases_Bool (c == 0x7E)) [
      | inl p ↦ subst (λ k. FrontIs k r) (sym (test_eq c 0x7E p)) refl
      | inr p ↦ elim (cases_Bool (c == 0x2F)) [
        | inl q ↦ subst (λ k. FrontIs k r) (sym (test_eq c 0x2F q)) refl
        | inr q ↦ rw (p, q) (rw (p, q) refl)
      ]
    ]

parts_token : (cs r : List ℕ) → parts false (flat_map escaped cs ++ r) ≡ (cs ++ (parts false r).0, (parts false r).1)
parts_token [] r = refl
parts_token (c ∷ cs) r =
    ap (parts false) (append_assoc (escaped c) (flat_map escaped cs) r)
    ∙ parts_char c (flat_map escaped cs ++ r)
    ∙ ap (λ (p : List ℕ × List (List ℕ)). (c ∷ p.0, p.1)) (parts_token cs r)

parts_pointer : (ts : List (List ℕ)) → parts false (pointer_text ts) ≡ ([], ts)
parts_pointer [] = refl
parts_pointer (t ∷ ts) =
    ap (λ (p : List ℕ × List (List ℕ)). ([], p.0 ∷ p.1)) (parts_token t (pointer_text ts))
    ∙ ap (λ (p : List ℕ × List (List ℕ)). ([], (t ++ p.0) ∷ p.1)) (parts_pointer ts)
    ∙ ap (λ l. ([], l ∷ ts)) (append-nil t)

pub pointer_once : (s t : List (List ℕ)) → pointer_text s ≡ pointer_text t → s ≡ t
pointer_once s t e = ap (λ (p : List ℕ × List (List ℕ)). p.1) (sym (parts_pointer s) ∙ ap (parts false) e ∙ parts_pointer t)

pub no_slash : (t : List (List ℕ)) → LacksSlash (pointer_text t) → ⊥
no_slash [] l = let wrong : [] ≡ l.first ∷ l.rest = l.is in cc
no_slash (x ∷ xs) l = l.another (sym (heads l.is))

begins : (tokens : List (List ℕ)) (r : List ℕ) → tokens ≢ [] → (rest : List ℕ) × (pointer_text tokens ++ r ≡ 0x2F ∷ rest)
begins [] r some = absurd (some refl)
begins (t ∷ ts) r some = (flat_map escaped t ++ pointer_text ts ++ r, refl)

pub no_tilde : (t : List (List ℕ)) (place : ℕ) → HasLooseTilde (pointer_text t) place → ⊥
no_tilde t place h =
    let same : pointer_text t ≡ pointer_text h.tokens = sym (front_whole t) ∙ front_fault (pointer_text t) place h in
    let longer = ap length (sym same ∙ h.is) ∙ length-append (pointer_text h.tokens) (0x7E ∷ h.rest) in
    omega (arith, longer)

pub not_both : (text : List ℕ) (place : ℕ) → LacksSlash text → HasLooseTilde text place → ⊥
not_both text place l h =
    let b = begins h.tokens (0x7E ∷ h.rest) h.in_token in
    l.another (heads (sym l.is ∙ h.is ∙ b.1))

pub one_tilde : (text : List ℕ) (k l : ℕ) → HasLooseTilde text k → HasLooseTilde text l → k ≡ l
one_tilde text k l g h = g.at ∙ ap byte_length (sym (front_fault text k g) ∙ front_fault text l h) ∙ sym h.at

-- what is written for characters is characters
both : (a b : Bool) → a ≡ true → b ≡ true → (a && b) ≡ true
both a b p q = rw (p, q) refl

both_of : (a b : Bool) → (a && b) ≡ true → (a ≡ true) × (b ≡ true)
both_of true b h = (refl, h)
both_of false b h = cc

joined : (xs ys : List ℕ) → all_scalars xs ≡ true → all_scalars ys ≡ true → all_scalars (xs ++ ys) ≡ true
joined [] ys p q = q
joined (x ∷ xs) ys p q = let h = both_of _ _ p in both _ _ h.0 (joined xs ys h.1 q)

char_scalars : (c : ℕ) → all_scalars (c ∷ []) ≡ true → all_scalars (escaped c) ≡ true
char_scalars c h =
    elim (cases_Bool (c == 0x7E)) [
      | inl p ↦ rw p refl
      | inr p ↦ elim (cases_Bool (c == 0x2F)) [
        | inl q ↦ rw (p, q) refl
        | inr q ↦ rw (p, q) h
      ]
    ]

token_scalars : (cs : List ℕ) → all_scalars cs ≡ true → all_scalars (flat_map escaped cs) ≡ true
token_scalars [] h = refl
token_scalars (c ∷ cs) h = let k = both_of _ _ h in joined (escaped c) (flat_map escaped cs) (char_scalars c (both _ _ k.0 refl)) (token_scalars cs k.1)

pointer_scalars : (ts : List (List ℕ)) → All (λ t. IsTrue (all_scalars t)) ts → all_scalars (pointer_text ts) ≡ true
pointer_scalars [] h = refl
pointer_scalars (t ∷ ts) h =
    joined (token_text t) (pointer_text ts) (token_scalars t (h 0 [] (omega arith)))
    (pointer_scalars ts (λ k d l. h (suc k) d (omega (arith, l))))

pub read_back : (tokens others : List (List ℕ)) → IsReadBack tokens others
read_back tokens others texts e = pointer_once others tokens (e ∙ chars-encodes (pointer_text tokens) (pointer_scalars tokens texts))

-- what tokens that ended, and the one that is read, are the text of
so_far_ended : (tokens : List (List ℕ)) (token : List ℕ) → pointer_text (tokens ++ token ∷ []) ≡ pointer_text tokens ++ token_text token
so_far_ended tokens token = flat_map-append token_text tokens (token ∷ []) ∙ ap (λ l. pointer_text tokens ++ l) (append-nil (token_text token))

token_more : (token : List ℕ) (c : ℕ) → token_text (token ++ c ∷ []) ≡ token_text token ++ escaped c
token_more token c = ap (λ l. 0x2F ∷ l) (flat_map-append escaped token (c ∷ []) ∙ ap (λ l. flat_map escaped token ++ l) (append-nil (escaped c)))

module _ {A : Type 0} where
  names_more : (names more : List (String A)) (s : String A) → more ≡ names ++ s ∷ [] → names_of more ≡ names_of names ++ chars (string_bytes s) ∷ []
  names_more names more s e = ap names_of e ∙ map-append (λ (t : String A). chars (string_bytes t)) names (s ∷ [])

  -- a token has ended, and another begins
  pub end_read : (tokens more : List (String A)) (token next_one : String A) (tilde : Bool) (c : ℕ) → more ≡ tokens ++ token ∷ [] → string_bytes next_one ≡ [] → tilde ≡ false → c ≡ 0x2F
      → text_so_far (names_of more) (chars (string_bytes next_one)) false ≡ text_so_far (names_of tokens) (chars (string_bytes token)) tilde ++ c ∷ []
  end_read tokens more token next_one tilde c e empty t is =
      let before = names_of tokens ++ chars (string_bytes token) ∷ [] in
      append-nil (pointer_text (names_of more ++ chars (string_bytes next_one) ∷ []))
      ∙ ap (λ l. pointer_text (names_of more ++ l ∷ [])) (ap chars empty ∙ chars-nil)
      ∙ ap (λ l. pointer_text (l ++ [] ∷ [])) (names_more tokens more token e)
      ∙ so_far_ended before []
      ∙ ap (λ l. l ++ 0x2F ∷ []) (sym (append-nil (pointer_text before)))
      ∙ ap (λ k. (pointer_text before ++ []) ++ k ∷ []) (sym is)
      ∙ ap (λ b. text_so_far (names_of tokens) (chars (string_bytes token)) b ++ c ∷ []) (sym t)

  -- nothing was read but the first `/`
  pub nothing_read : (tokens : List (String A)) (token : String A) → tokens ≡ [] → string_bytes token ≡ [] → text_so_far (names_of tokens) (chars (string_bytes token)) false ≡ 0x2F ∷ []
  nothing_read tokens token e empty =
      ap (λ l. text_so_far l (chars (string_bytes token)) false) (ap names_of e)
      ∙ ap (λ l. text_so_far [] l false) (ap chars empty ∙ chars-nil)

  -- all was read
  pub all_read : (tokens more : List (String A)) (token : String A) (tilde : Bool) (text yielded : List ℕ) → more ≡ tokens ++ token ∷ [] → tilde ≡ false → yielded ≡ text
      → text_so_far (names_of tokens) (chars (string_bytes token)) tilde ≡ 0x2F ∷ yielded → pointer_text (names_of more) ≡ 0x2F ∷ text
  all_read tokens more token tilde text yielded e t all so_far =
      ap pointer_text (names_more tokens more token e)
      ∙ sym (append-nil (pointer_text (names_of tokens ++ chars (string_bytes token) ∷ [])))
      ∙ ap (λ b. text_so_far (names_of tokens) (chars (string_bytes token)) b) (sym t)
      ∙ so_far
      ∙ ap (λ l. 0x2F ∷ l) all

  -- tokens were written, one after another
  pub names_written : (names : List (String A)) (k : ℕ) (d : String A) → k < length names
      → encode_utf8_all (pointer_text (names_of (take k names))) ++ encode_utf8_all (token_text (chars (string_bytes (get_or names k d)))) ≡ encode_utf8_all (pointer_text (names_of (take (k + 1) names)))
  names_written names k d h =
      let token = chars (string_bytes (get_or names k d)) in
      sym (encodes-append (pointer_text (names_of (take k names))) (token_text token))
      ∙ ap encode_utf8_all (sym (so_far_ended (names_of (take k names)) token) ∙ ap pointer_text (sym (names_more (take k names) (take (k + 1) names) (get_or names k d) (take_more names k d h))))

pub token_written : (token : List ℕ) (c : ℕ) → encode_utf8_all (token_text token) ++ encode_utf8_all (escaped c) ≡ encode_utf8_all (token_text (token ++ c ∷ []))
token_written token c = sym (encodes-append (token_text token) (escaped c)) ∙ ap encode_utf8_all (sym (token_more token c))

-- a character after a text
pub char_behind : (bytes more : List ℕ) (c : ℕ) → IsUtf8 bytes → IsScalar c → more ≡ bytes ++ encode_utf8 c → chars more ≡ chars bytes ++ c ∷ []
char_behind bytes more c utf8 scalar e =
    ap chars (e ∙ ap (λ l. bytes ++ l) (sym (append-nil (encode_utf8 c))))
    ∙ chars-append bytes (encode_utf8_all (c ∷ [])) utf8
    ∙ ap (λ l. chars bytes ++ l) (chars-encodes (c ∷ []) (both _ _ scalar refl))

-- the lengths of texts
char_length : (c : ℕ) → byte_length (c ∷ []) ≡ len_utf8 c
char_length c = ap length (append-nil (encode_utf8 c)) ∙ length-encode c

joined_length : (s t : List ℕ) → byte_length (s ++ t) ≡ byte_length s + byte_length t
joined_length s t = ap length (encodes-append s t) ∙ length-append (encode_utf8_all s) (encode_utf8_all t)

pub length_more : (cs : List ℕ) (c : ℕ) → byte_length (cs ++ c ∷ []) ≡ byte_length cs + len_utf8 c
length_more cs c = joined_length cs (c ∷ []) ∙ ap (λ n. byte_length cs + n) (char_length c)

-- characters that were read are at the front of the text, and after them the next
pub record ReadSoFar (all yielded : List ℕ) (c : ℕ) : Type 0 where
  pub rest : List ℕ
  pub is : all ≡ yielded ++ c ∷ rest

pub read_so_far : (all yielded : List ℕ) (c : ℕ) → yielded ≡ take (length yielded) all → length yielded < length all → c ≡ get_or all (length yielded) c → ReadSoFar all yielded c
read_so_far all yielded c e h g = record {
  rest = drop (length yielded + 1) all;
  is =
      sym (take-append-drop (length yielded) all)
      ∙ ap (λ l. l ++ drop (length yielded) all) (sym e)
      ∙ ap (λ l. yielded ++ l) (drop_more all (length yielded) c h ∙ ap (λ k. k ∷ drop (length yielded + 1) all) (sym g));
}

pub within : (text yielded : List ℕ) (c : ℕ) → IsUtf8 text → ReadSoFar (chars text) yielded c → byte_length yielded + len_utf8 c ≤ length text
within text yielded c utf8 r =
    let whole : byte_length (chars text) ≡ length text = ap length (encodes-chars text utf8) in
    let split : byte_length (chars text) ≡ byte_length yielded + byte_length (c ∷ r.rest) = ap byte_length r.is ∙ joined_length yielded (c ∷ r.rest) in
    let behind : byte_length (c ∷ r.rest) ≡ byte_length (c ∷ []) + byte_length r.rest = joined_length (c ∷ []) r.rest in
    omega (arith, whole, split, behind, char_length c)

-- a `~` is before the place, and neither `0` nor `1` after it
pub loose_tilde : (tokens : List (List ℕ)) (token yielded text behind : List ℕ) (tilde : Bool) (place : ℕ) → text_so_far tokens token tilde ≡ 0x2F ∷ yielded → tilde ≡ true → place ≡ byte_length yielded
    → text ≡ yielded ++ behind → IsTrue (no is_escape (next behind)) → HasLooseTilde (0x2F ∷ text) place
loose_tilde tokens token yielded text behind tilde place so_far t at is loose =
    let before = pointer_text (tokens ++ token ∷ []) in
    let read : before ++ 0x7E ∷ [] ≡ 0x2F ∷ yielded = ap (λ b. text_so_far tokens token b) (sym t) ∙ so_far in
    let counted = sym (joined_length before (0x7E ∷ [])) ∙ ap byte_length read ∙ joined_length (0x2F ∷ []) yielded in
    record {
      tokens = tokens ++ token ∷ [];
      rest = behind;
      is = ap (λ l. 0x2F ∷ l) is ∙ ap (λ l. l ++ behind) (sym read) ∙ append_assoc before (0x7E ∷ []) behind;
      in_token = not_empty tokens token;
      at = omega (arith, at, counted, char_length 0x7E, char_length 0x2F);
      loose = loose;
    }
  where
    not_empty : (ts : List (List ℕ)) (t : List ℕ) → ts ++ t ∷ [] ≢ []
    not_empty [] t e = cc
    not_empty (s ∷ ts) t e = cc

-- why a character was refused
pub char_fault : (tokens : List (List ℕ)) (token yielded text : List ℕ) (tilde : Bool) (place c : ℕ) (e : PointerError) → text_so_far tokens token tilde ≡ 0x2F ∷ yielded → place ≡ byte_length yielded → ReadSoFar text yielded c
    → IsFaultOfChar tilde place c e → IsPointerFault (0x2F ∷ text) e
char_fault tokens token yielded text tilde place c NoLeadingSlash so_far at r fault = absurd fault
char_fault tokens token yielded text tilde place c (InvalidEscape k) so_far at r fault = loose_tilde tokens token yielded text (c ∷ r.rest) tilde k so_far fault.0 (fault.2 ∙ at) r.is fault.1
char_fault tokens token yielded text tilde place c OutOfMemory so_far at r fault = (text, refl)

slash_first : (cs : List ℕ) → encode_utf8_all (0x2F ∷ cs) ≡ 0x2F ∷ encode_utf8_all cs
slash_first cs = ap (λ l. l ++ encode_utf8_all cs) (encode_ascii 0x2F (omega arith))

-- the text does not begin with a `/`
pub lacks_slash : (bytes : List ℕ) → IsUtf8 bytes → ((rest : List ℕ) → bytes ≡ 0x2F ∷ rest → ⊥) → length bytes == 0 ≡ false → LacksSlash (chars bytes)
lacks_slash bytes utf8 none some = go (chars bytes) (encodes-chars bytes utf8)
  where
    go : (cs : List ℕ) → encode_utf8_all cs ≡ bytes → LacksSlash cs
    go [] e = absurd (let empty : length bytes ≡ 0 = ap length (sym e) in false≢true (sym some ∙ eq-eqb (length bytes) 0 empty))
    go (c ∷ cs) e = record { first = c; rest = cs; is = refl; another = λ slash. none (encode_utf8_all cs) (sym e ∙ ap (λ k. encode_utf8_all (k ∷ cs)) slash ∙ slash_first cs) }

pub slash_first_chars : (bytes rest : List ℕ) → IsUtf8 bytes → bytes ≡ 0x2F ∷ rest → chars bytes ≡ 0x2F ∷ chars rest
slash_first_chars bytes rest utf8 e = chars_past_char bytes rest 0x2F utf8 (e ∙ ap (λ l. l ++ rest) (sym (encode_ascii 0x2F (omega arith))))

pub empty_parsed : {A : Type 0} (items : List (String A)) (bytes : List ℕ) → items ≡ [] → true ≡ (length bytes == 0) → pointer_text (names_of items) ≡ chars bytes
empty_parsed items bytes none empty = ap (λ l. pointer_text (names_of l)) none ∙ sym (ap chars (no_bytes bytes (eqb-true (length bytes) 0 (sym empty))) ∙ chars-nil)
  where
    no_bytes : (bs : List ℕ) → length bs ≡ 0 → bs ≡ []
    no_bytes [] e = refl
    no_bytes (b ∷ bs) e = absurd (omega (arith, e))
