-- A text and its changed text, as far as they are written.
use Rattle.std.proofs.Common.{Result, Ok, Err, OnOk, is_ok, cond, ℕ, ◌+◌, ◌-◌, ◌≡◌, ◌∙◌, sym, ap, List, [], ◌∷◌, ◌++◌, length, take, drop, arith, IsUtf8, chars, IsCharBoundary, slice_range, subst, append_assoc}
use Rattle.std.proofs.lemmas.Str.{encodes-chars, chars-append, IsUtf8-take, IsUtf8-between, chars-nil}
use Rattle.std.proofs.lemmas.List.{append_cancel_right, length-take, length-append, length-drop}
use Rattle.jsonc_text.specs.declared.common.Range.{Range}
use Rattle.jsonc_text.specs.Text.{rest, byte_length, Spans}
use Rattle.jsonc_text.proofs.Cuts.{chars_at, chars_between}
use Rattle.jsonc_mend.specs.declared.changes.Change.{Change}
use Rattle.jsonc_mend.specs.Changes.{Changes, none, kept, changed}

-- the characters before the place j are those before i, and those between the two
taken : (bytes : List ℕ) (i j : ℕ) → IsUtf8 bytes → Spans bytes i j → chars (take j bytes) ≡ chars (take i bytes) ++ chars (slice_range bytes i j)
taken bytes i j u s = append_cancel_right (chars (take j bytes)) (chars (take i bytes) ++ chars (slice_range bytes i j)) (rest bytes j)
    (sym (chars_at bytes j u s.to) ∙ chars_at bytes i u s.from ∙ ap (λ t. chars (take i bytes) ++ t) (chars_between bytes i j u s)
    ∙ sym (append_assoc (chars (take i bytes)) (chars (slice_range bytes i j)) (rest bytes j)))

length_of : (bytes : List ℕ) → IsUtf8 bytes → byte_length (chars bytes) ≡ length bytes
length_of bytes u = ap length (encodes-chars bytes u)

place_of : (bytes : List ℕ) (i : ℕ) → IsUtf8 bytes → IsCharBoundary bytes i → byte_length (chars (take i bytes)) ≡ i
place_of bytes i u b = length_of (take i bytes) (IsUtf8-take bytes i u b) ∙ omega (arith, length-take i bytes, b.0)

along : {a b c d : List ℕ} {cs : List Change} → a ≡ b → c ≡ d → Changes a cs c → Changes b cs d
along {a = a} {b = b} {c = c} {d = d} {cs = cs} e f h = subst (λ t. Changes t cs d) e (subst (λ t. Changes a cs t) f h)

-- what is between two places is copied
pub copied : (text out : List ℕ) (cs : List Change) (from to : ℕ) → IsUtf8 text → IsUtf8 out → Spans text from to
    → Changes (chars (take from text)) cs (chars out) → Changes (chars (take to text)) cs (chars (out ++ slice_range text from to))
copied text out cs from to u v s h =
    along (sym (taken text from to u s)) (sym (chars-append out (slice_range text from to) v)) (kept (chars (slice_range text from to)) h)

same_range : (a b c d : ℕ) → a ≡ c → b ≡ d → (let x : Range = record { start = a; end = b } in x) ≡ record { start = c; end = d }
same_range a b c d p q = cc

same_change : (a b c d e f g h : ℕ) → a ≡ e → b ≡ f → c ≡ g → d ≡ h
    → (let x : Change = record { range = record { start = a; end = b }; written = record { start = c; end = d } } in x)
    ≡ record { range = record { start = e; end = f }; written = record { start = g; end = h } }
same_change a b c d e f g h p q r s = cc

-- what is between two places is replaced
pub replaced : (text out new : List ℕ) (cs : List Change) (start end : ℕ) → IsUtf8 text → IsUtf8 out → IsUtf8 new → Spans text start end
    → Changes (chars (take start text)) cs (chars out)
    → Changes (chars (take end text)) (cs ++ record { range = record { start = start; end = end }; written = record { start = length out; end = length (out ++ new) } } ∷ []) (chars (out ++ new))
replaced text out new cs start end u v w b h =
    let old : byte_length (chars (take start text)) ≡ start = place_of text start u b.from in
    let was : byte_length (chars (slice_range text start end)) ≡ end - start =
    length_of (slice_range text start end) (IsUtf8-between text start end u b.order b.from b.to) ∙ omega (arith, length-take (end - start) (drop start text), length-drop start text, b.to.0, b.order) in
    let outs : byte_length (chars out) ≡ length out = length_of out v in
    let news : byte_length (chars new) ≡ length new = length_of new w in
    let same = same_change (byte_length (chars (take start text))) (byte_length (chars (take start text)) + byte_length (chars (slice_range text start end)))
    (byte_length (chars out)) (byte_length (chars out) + byte_length (chars new)) start end (length out) (length (out ++ new))
    old (omega (arith, old, was, b.order)) outs (omega (arith, outs, news, length-append out new)) in
    let made = changed (chars (slice_range text start end)) (chars new) h in
    subst (λ c. Changes (chars (take end text)) (cs ++ c ∷ []) (chars (out ++ new))) same
    (along (sym (taken text start end u b)) (sym (chars-append out new v)) made)

-- what holds of the one text holds where the call gives it
pub when_ok : {T E : Type 0} (r : Result T E) (x y z : List ℕ) (P : List ℕ → Type 0) → z ≡ cond (is_ok r) x y → P x → OnOk r (P z)
when_ok (Ok a) x y z P e p = subst P (sym e) p
when_ok (Err a) x y z P e p = tt

-- the same by what the calls give
pub replaced_as : (text out new made : List ℕ) (cs ds : List Change) (range : Range) (a b : ℕ) → IsUtf8 text → IsUtf8 out → IsUtf8 new → Spans text range.start range.end
    → made ≡ out ++ new → a ≡ length out → b ≡ length made → ds ≡ cs ++ record { range = range; written = record { start = a; end = b } } ∷ []
    → Changes (chars (take range.start text)) cs (chars out) → Changes (chars (take range.end text)) ds (chars made)
replaced_as text out new made cs ds range a b u v w s e p q d h =
    let one = replaced text out new cs range.start range.end u v w s h in
    let written : (let x : Range = record { start = length out; end = length (out ++ new) } in x) ≡ record { start = a; end = b } = same_range (length out) (length (out ++ new)) a b (sym p) (sym (q ∙ ap length e)) in
    let same : cs ++ record { range = range; written = record { start = length out; end = length (out ++ new) } } ∷ [] ≡ ds =
    ap (λ r. cs ++ record { range = range; written = r } ∷ []) written ∙ sym d in
    subst (λ m. Changes (chars (take range.end text)) ds (chars m)) (sym e) (subst (λ l. Changes (chars (take range.end text)) l (chars (out ++ new))) same one)

-- at the start nothing is written
pub unwritten : (cs : List Change) (out : List ℕ) → cs ≡ [] → out ≡ [] → Changes (chars []) cs (chars out)
unwritten cs out e f =
    let start : Changes (chars []) [] (chars []) = along (sym chars-nil) (sym chars-nil) none in
    subst (λ t. Changes (chars []) cs (chars t)) (sym f) (subst (λ l. Changes (chars []) l (chars [])) (sym e) start)
