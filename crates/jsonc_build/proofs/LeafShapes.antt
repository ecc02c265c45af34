-- The leaves of values and names, where they stand.
use Rattle.std.proofs.Common.{ℕ, ◌≡◌, ◌∙◌, sym, ap, subst, refl, true, false, inl, inr, List, [], ◌∷◌, ◌++◌, Some, None, IsTrue, Bool, IsUtf8, chars}
use Rattle.std.proofs.lemmas.Str.{IsUtf8-between}
use Rattle.std.proofs.lemmas.List.{append_assoc}
use Rattle.jsonc_text.specs.declared.common.Range.{Range}
use Rattle.jsonc_text.specs.Options.{Options}
use Rattle.jsonc_text.specs.Text.{rest, next, end_or, Spans}
use Rattle.jsonc_text.specs.Words as words
use Rattle.jsonc_text.specs.Words.{EndsThere, goes_on}
use Rattle.jsonc_text.specs.Lexemes as lexemes
use Rattle.jsonc_text.specs.Lexemes.{LexemeKind, Lexeme}
use Rattle.jsonc_text.specs.Plain.{Plain}
use Rattle.jsonc_text.specs.Grammar.{literal_value, IsName, IsLooseName}
use Rattle.jsonc_text.proofs.Basics.{front_same, text_same, no_front}
use Rattle.jsonc_text.proofs.Cuts.{chars_between, slice_chars}
use Rattle.jsonc_text.proofs.NumberFrames.{number_cut}
use Rattle.jsonc_tree.specs.Content.{Content}
use Rattle.jsonc_walk.specs.Located.{In, IsLeaf}
use Rattle.jsonc_build.specs.Laid as laid
use Rattle.jsonc_build.specs.Laid.{bytes_in, NameLaid}
use Rattle.jsonc_sound.specs.Shape.{IsLexemeBefore, IsLiteralBefore, IsNameBefore}
use Rattle.jsonc_build.proofs.Meanings.{quote_first}
use Rattle.jsonc_build.proofs.Names.{loose_first}

-- the kind of a lexeme by its value
string_kind : (k : LexemeKind) (v : List ℕ) → literal_value k ≡ Some (Plain.string v) → k ≡ lexemes.string v
string_kind (lexemes.string w) v e = let same : w ≡ v = cc in ap lexemes.string same
string_kind (lexemes.number w) v e = absurd (let wrong : Some (Plain.number w) ≡ Some (Plain.string v) = e in cc)
string_kind (lexemes.word w) v e = absurd (let wrong : None ≡ Some (Plain.string v) = e in cc)
string_kind (lexemes.keyword (words.boolean b)) v e = absurd (let wrong : Some (Plain.boolean b) ≡ Some (Plain.string v) = e in cc)
string_kind (lexemes.keyword words.null) v e = absurd (let wrong : Some Plain.null ≡ Some (Plain.string v) = e in cc)
string_kind (lexemes.punctuation c) v e = absurd (let wrong : None ≡ Some (Plain.string v) = e in cc)

number_kind : (k : LexemeKind) (v : List ℕ) → literal_value k ≡ Some (Plain.number v) → k ≡ lexemes.number v
number_kind (lexemes.string w) v e = absurd (let wrong : Some (Plain.string w) ≡ Some (Plain.number v) = e in cc)
number_kind (lexemes.number w) v e = let same : w ≡ v = cc in ap lexemes.number same
number_kind (lexemes.word w) v e = absurd (let wrong : None ≡ Some (Plain.number v) = e in cc)
number_kind (lexemes.keyword (words.boolean b)) v e = absurd (let wrong : Some (Plain.boolean b) ≡ Some (Plain.number v) = e in cc)
number_kind (lexemes.keyword words.null) v e = absurd (let wrong : Some Plain.null ≡ Some (Plain.number v) = e in cc)
number_kind (lexemes.punctuation c) v e = absurd (let wrong : None ≡ Some (Plain.number v) = e in cc)

-- a keyword's value
abbrev IsKeywordValue : Plain → Type 0
IsKeywordValue (Plain.boolean b) = Unit {0}
IsKeywordValue Plain.null = Unit {0}
IsKeywordValue _ = ⊥

keyword_ends : (o : Options) (t r : List ℕ) (v : Plain) → IsKeywordValue v → (k : LexemeKind) → Lexeme o k t r → literal_value k ≡ Some v → EndsThere (next r)
keyword_ends o t r v x (lexemes.keyword k) h e = h.1
keyword_ends o t r v x (lexemes.string w) h e = absurd (let same : v ≡ Plain.string w = cc in subst IsKeywordValue same x)
keyword_ends o t r v x (lexemes.number w) h e = absurd (let same : v ≡ Plain.number w = cc in subst IsKeywordValue same x)
keyword_ends o t r v x (lexemes.word w) h e = absurd (let wrong : None ≡ Some v = e in cc)
keyword_ends o t r v x (lexemes.punctuation c) h e = absurd (let wrong : None ≡ Some v = e in cc)

end_front : (p : ℕ → Bool) (x u : List ℕ) {r : List ℕ} → r ≡ x ++ u → IsTrue (end_or p (next r)) → IsTrue (end_or p (next x))
end_front p [] u e h = refl
end_front p (c ∷ x) u e h = rw e at h

-- a lexeme stands before less, too
lexeme_before : (o : Options) (k : LexemeKind) (s x u : List ℕ) {t r : List ℕ} → Lexeme o k t r → t ≡ s ++ r → r ≡ x ++ u → Lexeme o k (s ++ x) x
lexeme_before o (lexemes.word w) s x u h e f =
    (ap (λ v. v ++ x) (text_same e h.0 refl), record { begins = h.1.begins; goes_on = h.1.goes_on; ends = end_front _ x u f h.1.ends; no_keyword = h.1.no_keyword; no_number = h.1.no_number })
lexeme_before o (lexemes.number n) s x u h e f =
    let cut = number_cut x u h.1 f in
    let same : cut.text ≡ s ++ x = front_same refl (sym cut.split ∙ e ∙ ap (λ v. s ++ v) f ∙ sym (append_assoc s x u)) in
    (ap (λ v. v ++ x) (text_same e h.0 refl), rw same at cut.here)
lexeme_before o (lexemes.keyword k) s x u h e f = (ap (λ v. v ++ x) (text_same e h.0 refl), no_front goes_on x u f h.1)
lexeme_before o (lexemes.string v) s x u {r = r} (q, i, quote, g, d) e f =
    let same : s ≡ (q ∷ i) ++ q ∷ [] = text_same e (g ∙ sym (append_assoc (q ∷ i) (q ∷ []) r)) refl in
    (q, i, quote, ap (λ v. v ++ x) same ∙ append_assoc (q ∷ i) (q ∷ []) x, d)
lexeme_before o (lexemes.punctuation c) s x u {r = r} h e f = (h.0, ap (λ v. v ++ x) (text_same {u = c ∷ []} e h.1 refl))

module _ (o : Options) (bytes : List ℕ) (utf8 : IsUtf8 bytes) where
  bytes_utf8 : {r : Range} → Spans bytes r.start r.end → IsUtf8 (bytes_in bytes r)
  bytes_utf8 {r} s = IsUtf8-between bytes r.start r.end utf8 s.order s.from s.to

  -- a lexeme in a range, before what follows it up to a place
  lexeme_in : {r : Range} (k : LexemeKind) (x u : List ℕ) → Spans bytes r.start r.end → Lexeme o k (rest bytes r.start) (rest bytes r.end) → rest bytes r.end ≡ x ++ u → IsLexemeBefore o k (bytes_in bytes r) x
  lexeme_in {r} k x u s h f = (bytes_utf8 s, lexeme_before o k (chars (bytes_in bytes r)) x u h (chars_between bytes r.start r.end utf8 s) f)

  pub string_shaped : {r : Range} {v s : List ℕ} (x u : List ℕ) → s ≡ bytes_in bytes r → In bytes (IsLeaf o (Plain.string v)) r → rest bytes r.end ≡ x ++ u → IsLiteralBefore o (Content.string s) x
  string_shaped {r} {v} x u e h f =
      let here : Lexeme o (lexemes.string v) (rest bytes r.start) (rest bytes r.end) = subst (λ k. Lexeme o k (rest bytes r.start) (rest bytes r.end)) (string_kind h.stands.0 v h.stands.2) h.stands.1 in
      subst (λ b. IsLiteralBefore o (Content.string b) x) (sym e) (v, lexeme_in (lexemes.string v) x u h.spans here f)

  pub number_shaped : {r : Range} {v s : List ℕ} (x u : List ℕ) → s ≡ bytes_in bytes r → In bytes (IsLeaf o (Plain.number v)) r → rest bytes r.end ≡ x ++ u → IsLiteralBefore o (Content.number s) x
  number_shaped {r} {v} x u e h f =
      let here : Lexeme o (lexemes.number v) (rest bytes r.start) (rest bytes r.end) = subst (λ k. Lexeme o k (rest bytes r.start) (rest bytes r.end)) (number_kind h.stands.0 v h.stands.2) h.stands.1 in
      let known : v ≡ chars (bytes_in bytes r) = sym (slice_chars bytes v r.start r.end utf8 h.spans.from h.spans.to here.0) in
      subst (λ b. IsLiteralBefore o (Content.number b) x) (sym e) (subst (λ w. IsLexemeBefore o (lexemes.number w) (bytes_in bytes r) x) known (lexeme_in (lexemes.number v) x u h.spans here f))

  pub keyword_shaped : {r : Range} (v : Plain) (x u : List ℕ) → IsKeywordValue v → In bytes (IsLeaf o v) r → rest bytes r.end ≡ x ++ u → EndsThere (next x)
  keyword_shaped {r} v x u kind h f = no_front goes_on x u f (keyword_ends o (rest bytes r.start) (rest bytes r.end) v kind h.stands.0 h.stands.1 h.stands.2)

  pub name_shaped : (r : Range) (name x u : List ℕ) {content : Content} → Spans bytes r.start r.end → NameLaid bytes r content → IsName o (rest bytes r.start) name (rest bytes r.end) → rest bytes r.end ≡ x ++ u → IsNameBefore o content x
  name_shaped r name x u s (laid.quoted_name e q) (inl h) f = subst (λ b. IsLiteralBefore o (Content.string b) x) (sym e) (name, lexeme_in (lexemes.string name) x u s h f)
  name_shaped r name x u s (laid.quoted_name e q) (inr h) f = absurd (let wrong : true ≡ false = sym q ∙ loose_first o h.2 (rest bytes r.start) (rest bytes r.end) h.3 h.4 in cc)
  name_shaped r name x u s (laid.word_name e q) (inl h) f = absurd (let wrong : true ≡ false = sym (quote_first o bytes utf8 r.start name (rest bytes r.end) h) ∙ q in cc)
  name_shaped r name x u s (laid.word_name e q) (inr h) f =
      let known : name ≡ chars (bytes_in bytes r) = sym (slice_chars bytes name r.start r.end utf8 s.from s.to h.1) in
      let loose : IsLooseName o (name ++ x) name x = (h.0, refl, h.2, h.3, lexeme_before o h.2 name x u h.4 h.1 f) in
      subst (λ b. IsNameBefore o (Content.word b) x) (sym e) (bytes_utf8 s, subst (λ v. IsLooseName o (v ++ x) v x) known loose)
