use Rattle.std.proofs.Common.{◌≡◌, ◌∙◌, ◌-◌, ℕ, List, take, drop, length, refl, sym, subst, arith}
use Rattle.std.proofs.lemmas.List.{take_rest}
use Rattle.jsonc_scan.proofs.Words.{text_here, alone_before_byte}
use Rattle.jsonc_scan.proofs.word.plain_keyword_end.Goals as goal

-- bytes that begin with a word, by where they were taken from
same_word : (text word bytes part others : List ℕ) (start : ℕ) → bytes ≡ text → part ≡ drop start bytes → others ≡ word → take (length others) part ≡ others → take (length word) (drop start text) ≡ word
same_word text word bytes part others start b p o e =
    subst (λ w. take (length w) (drop start text) ≡ w) o (subst (λ t. take (length others) (drop start t) ≡ others) b (subst (λ t. take (length others) t ≡ others) p e))

pub returns : goal.returns
returns c =
    let bytes = c.as_bytes-bytes.result.now in
    let here = text_here c.args.text.now c.args.word.now c.args.start c.utf8.text c.requires.ascii c.requires.boundary
    (same_word c.args.text.now c.args.word.now bytes (take (length bytes - c.args.start) (drop c.args.start bytes)) c.as_bytes.result.now c.args.start c.as_bytes-bytes.ensures.value (take_rest bytes c.args.start) c.as_bytes.ensures.value (c.if-not-begin_with.ensures refl)) in
    alone_before_byte _ _ _ _ c.as_bytes-bytes.ensures.value c.utf8.text here c.requires.nonempty (omega (arith, c.if-bytes-start.false)) (omega (arith, c.if-byte-ge128.false)) (sym c.goes_on.ensures ∙ c.if-goes_on.false)
