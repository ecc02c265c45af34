-- Mends as they are told one after another, and what they make together.
use Rattle.std.proofs.Common.{ℕ, ◌≡◌, ◌≢◌, ◌+◌, ◌<◌, ◌==◌, ◌∙◌, ◌↔◌, inl, inr, sym, ap, refl, subst, Bool, true, false, List, [], ◌∷◌, ◌++◌, length, map, take, get_or, chars, IsUtf8, arith, None, Option, Some, string_bytes, zero-add, add-one, length-append}
use Rattle.std.specs.List.{All}
use Rattle.std.proofs.lemmas.List.{map-append}
use Rattle.std.proofs.lemmas.List.Elements.{All-nil, All-cons, All-append}
use Rattle.std.proofs.lemmas.Bool.{false≢true}
use Rattle.std.proofs.lemmas.Str.{encodes-chars, chars-nil}
use Rattle.std.proofs.Math.Seq.{take-suc}
use Rattle.jsonc_text.specs.declared.common.Range.{Range}
use Rattle.jsonc_text.specs.declared.errors.ParseError.{ParseError}
use Rattle.jsonc_text.specs.declared.errors.ParseErrorKind.{ParseErrorKind}
use Rattle.jsonc_text.specs.declared.errors.ParseErrorKind.TheVariants.{OutOfMemory}
use Rattle.jsonc_text.specs.Faults.{IsFault, kind_of, range_of, line_of, column_of}
use Rattle.jsonc_text.specs.Gaps.{none as no_gap}
use Rattle.jsonc_text.specs.Options.{Options}
use Rattle.jsonc_text.specs.Text.{byte_length}
use Rattle.jsonc_walk.specs.Faults.{ParseFault}
use Rattle.jsonc_walk.proofs.lemmas.Documents.{no_document}
use Rattle.jsonc_check.specs.Checker.{HasValueWithin}
use Rattle.jsonc_mend.specs.declared.changes.Change.{Change}
use Rattle.jsonc_mend.specs.Changes.{Changes, none, kept, changed}
use Rattle.jsonc_mends.specs.declared.told.Mend.{Mend}
use Rattle.jsonc_mends.specs.declared.told.Told.{Told}
use Rattle.jsonc_mends.specs.declared.mends.Mends.{Mends}
use Rattle.jsonc_mends.specs.Told.{IsTold, HasFirst, IsFirst, BeginWith, told_in, change_in, mend_of}
use Rattle.jsonc_mends.specs.Mends.{Begins, IsMended}

-- what an error tells, by its parts
abbrev pub told_by : ParseErrorKind → Range → ℕ → ℕ → Told
told_by k r l c = record { fault = record { kind = k; range = r }; at = record { line = l; column = c } }

pub error_told : (bytes : List ℕ) (e : ParseError) (k : ParseErrorKind) (r : Range) (l c : ℕ) → k ≡ kind_of e → r ≡ range_of e → l ≡ line_of e → c ≡ column_of e
    → IsFault bytes e → kind_of e ≢ OutOfMemory → IsTold bytes (told_by k r l c)
error_told bytes e k r l c p q s t f n = rw (p, q, s, t) (record { range = f.range; position = f.place; kind = n })

pub error_first : (o : Options) (bytes : List ℕ) (e : ParseError) (k : ParseErrorKind) (r : Range) (l c : ℕ) → k ≡ kind_of e → r ≡ range_of e
    → kind_of e ≢ OutOfMemory → ParseFault o bytes true e → HasFirst o bytes (told_by k r l c)
error_first o bytes e k r l c p q n (inl m) = absurd (n m)
error_first o bytes e k r l c p q n (inr h) = rw (p, q) h

-- the mends so far: this is the fault of the first, if there is one
pub started : Told → List Mend → Type 0
started t [] = Unit {0}
started t (m ∷ ms) = told_in m ≡ t

-- so many changes have their mends
pub record SoFar (bytes : List ℕ) (first : Told) (ms : List Mend) (cs : List Change) (count : ℕ) : Type 0 where
  pub begins : started first ms
  pub faults : All (λ m. IsTold bytes (told_in m)) ms
  pub changes : map change_in ms ≡ take count cs
  pub many : length ms ≡ count

pub none_so_far : (bytes : List ℕ) (first : Told) (ms : List Mend) (cs : List Change) → ms ≡ [] → SoFar bytes first ms cs 0
unfolding started
none_so_far bytes first ms cs e = let S : List Mend → Type 0 = λ l. SoFar bytes first l cs 0 in
    subst S (sym e) (record { begins = tt; faults = All-nil (λ m. IsTold bytes (told_in m)); changes = refl; many = refl })

start_push : (t : Told) (ms : List Mend) (m : Mend) → (length ms ≡ 0 → told_in m ≡ t) → started t ms → started t (ms ++ m ∷ [])
unfolding started
start_push t [] m e s = e refl
start_push t (x ∷ xs) m e s = s

-- one more
pub one_more : (bytes : List ℕ) (first told : Told) (ms ns : List Mend) (cs : List Change) (m : Mend) (c : Change) (count : ℕ) → count < length cs → c ≡ get_or cs count c
    → (length ms ≡ 0 → told ≡ first) → IsTold bytes told → m ≡ mend_of told c → ns ≡ ms ++ m ∷ [] → SoFar bytes first ms cs count → SoFar bytes first ns cs (count + 1)
one_more bytes first told ms ns cs m c count l g f t d e h =
    let P : Mend → Type 0 = λ m. IsTold bytes (told_in m) in
    let S : List Mend → Type 0 = λ l. SoFar bytes first l cs (count + 1) in
    subst S (sym (e ∙ ap (λ x. ms ++ x ∷ []) d)) (record {
      begins = start_push first ms (mend_of told c) f h.begins;
      faults = All-append P ms (mend_of told c ∷ []) h.faults (All-cons P (mend_of told c) [] t (All-nil P));
      changes = map-append change_in ms (mend_of told c ∷ []) ∙ ap (λ l. l ++ c ∷ []) h.changes ∙ sym (ap (λ n. take n cs) (add-one count) ∙ take-suc cs count c l ∙ ap (λ x. take count cs ++ x ∷ []) (sym g));
      many = omega (arith, length-append ms (mend_of told c ∷ []), h.many);
    })

-- the first mend of the list has the first fault
pub told_first : (r : Option Told) (t first : Told) (n m : ℕ) → r ≡ Some t → (n ≡ 0 → r ≡ Some first) → n ≡ m → m ≡ 0 → t ≡ first
told_first r t first n m e h l z = let same : Some t ≡ Some first = sym e ∙ h (l ∙ z) in cc

pub not_none : (n m : ℕ) (b : Bool) → b ≡ (n == 0) → b ≡ false → n ≡ m → m ≢ 0
not_none n m b e f l z = false≢true (sym f ∙ e ∙ ap (λ x. x == 0) (l ∙ z))

is_first : (t : Told) (ms : List Mend) → length ms ≢ 0 → started t ms → IsFirst t ms
unfolding started
is_first t [] n s = n refl
is_first t (m ∷ ms) n s = s

-- all of them
pub all_told : (bytes : List ℕ) (first : Told) (ms : List Mend) (cs : List Change) (count : ℕ) → length ms ≢ 0 → take count cs ≡ cs → SoFar bytes first ms cs count → BeginWith bytes first ms cs
all_told bytes first ms cs count n e h = record { begins = is_first first ms n h.begins; faults = h.faults; changes = h.changes ∙ e }

-- the first mend has the first fault of the text
begins_of : (o : Options) (bytes : List ℕ) (first : Told) (ms : List Mend) → IsFirst first ms → HasFirst o bytes first → Begins o bytes ms
begins_of o bytes first [] e h = absurd e
begins_of o bytes first (m ∷ ms) e h = subst (HasFirst o bytes) (sym e) h

no_mend : (o : Options) (bytes : List ℕ) (ms : List Mend) → Begins o bytes ms → HasValueWithin true o (chars bytes) → ms ≡ []
no_mend o bytes [] b d = refl
no_mend o bytes (m ∷ ms) b d = absurd (no_document _ d.0 b d.1 d.2)

-- the change that removes so many bytes, which are all
abbrev pub all_of : ℕ → Change
all_of n = record { range = record { start = 0; end = n }; written = record { start = 0; end = 0 } }

abbrev range_to : ℕ → ℕ → Range
range_to a b = record { start = a; end = b }

abbrev change_to : Range → Range → Change
change_to r w = record { range = r; written = w }

same_range : (r : Range) (a b : ℕ) → r.start ≡ a → r.end ≡ b → r ≡ range_to a b
same_range r a b p q = ap (λ x. range_to x r.end) p ∙ ap (range_to a) q

-- it is the one change of the list
pub one_removed : (first : Told) (old new : List Mend) (r w : Range) (n : ℕ) → old ≡ [] → new ≡ old ++ mend_of first (change_to r w) ∷ []
    → r.start ≡ 0 → r.end ≡ n → w.start ≡ 0 → w.end ≡ 0 → new ≡ mend_of first (all_of n) ∷ []
one_removed first old new r w n e f a b c d =
    f ∙ ap (λ l. l ++ mend_of first (change_to r w) ∷ []) e ∙ ap (λ x. mend_of first (change_to x w) ∷ []) (same_range r 0 n a b)
    ∙ ap (λ y. mend_of first (change_to (range_to 0 n) y) ∷ []) (same_range w 0 0 c d)

all_removed : (bytes : List ℕ) → IsUtf8 bytes → Changes (chars bytes) (all_of (length bytes) ∷ []) (chars [])
all_removed bytes u =
    let made : Changes (chars bytes) (all_of (0 + byte_length (chars bytes)) ∷ []) [] = changed (chars bytes) [] none in
    let long : 0 + byte_length (chars bytes) ≡ length bytes = zero-add (byte_length (chars bytes)) ∙ ap length (encodes-chars bytes u) in
    subst (λ t. Changes (chars bytes) (all_of (length bytes) ∷ []) t) (sym chars-nil) (subst (λ n. Changes (chars bytes) (all_of n ∷ []) []) long made)

empty_document : (o : Options) → HasValueWithin true o (chars [])
empty_document o = let empty : HasValueWithin true o [] = (None, no_gap, tt) in subst (HasValueWithin true o) (sym chars-nil) empty

module _ {A : Type 0} where
  pub proposed_mended : (o : Options) (bytes : List ℕ) (first : Told) (cs : List Change) (r : Mends A) → r.length ≡ length bytes → HasFirst o bytes first → BeginWith bytes first r.list.items cs
      → Changes (chars bytes) cs (chars (string_bytes r.text)) → HasValueWithin true o (chars (string_bytes r.text)) → IsMended o bytes r
  proposed_mended o bytes first cs r l h b c d = record {
    long = l;
    faults = b.faults;
    first = begins_of o bytes first r.list.items b.begins h;
    changes = subst (λ l. Changes (chars bytes) l (chars (string_bytes r.text))) (sym b.changes) c;
    document = d;
  }

  pub none_mended : (o : Options) (bytes : List ℕ) (r : Mends A) → r.length ≡ length bytes → string_bytes r.text ≡ bytes → r.list.items ≡ [] → HasValueWithin true o (chars bytes) → IsMended o bytes r
  none_mended o bytes r l e f h = record {
    long = l;
    faults = subst (All (λ m. IsTold bytes (told_in m))) (sym f) (All-nil (λ m. IsTold bytes (told_in m)));
    first = subst (Begins o bytes) (sym f) h;
    changes = subst (λ l. Changes (chars bytes) (map change_in l) (chars (string_bytes r.text))) (sym f)
        (subst (λ t. Changes (chars bytes) [] (chars t)) (sym e) (kept (chars bytes) none));
    document = subst (λ t. HasValueWithin true o (chars t)) (sym e) h;
  }

  -- the text without its characters
  pub removed_mended : (o : Options) (bytes : List ℕ) (first : Told) (r : Mends A) → r.length ≡ length bytes → IsUtf8 bytes → IsTold bytes first → HasFirst o bytes first → string_bytes r.text ≡ []
      → r.list.items ≡ mend_of first (all_of (length bytes)) ∷ [] → IsMended o bytes r
  removed_mended o bytes first r l u t h e f =
      let P : Mend → Type 0 = λ m. IsTold bytes (told_in m) in
      record {
        long = l;
        faults = subst (All P) (sym f) (All-cons P (mend_of first (all_of (length bytes))) [] t (All-nil P));
        first = subst (Begins o bytes) (sym f) h;
        changes = subst (λ l. Changes (chars bytes) (map change_in l) (chars (string_bytes r.text))) (sym f)
            (subst (λ t. Changes (chars bytes) (all_of (length bytes) ∷ []) (chars t)) (sym e) (all_removed bytes u));
        document = subst (λ t. HasValueWithin true o (chars t)) (sym e) (empty_document o);
      }

  -- no mend is told of a document alone
  pub none_of_document : (o : Options) (bytes : List ℕ) (r : Mends A) → IsMended o bytes r → (r.list.items ≡ []) ↔ HasValueWithin true o (chars bytes)
  none_of_document o bytes r h = ((λ e. subst (Begins o bytes) e h.first), λ d. no_mend o bytes r.list.items h.first d)
