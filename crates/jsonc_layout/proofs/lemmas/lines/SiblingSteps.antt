-- A walk over siblings, a step.
use Rattle.std.proofs.Common.{◌≡◌, ℕ, Bool, true, false, cond, List, [], ◌∷◌, ◌++◌, Some, None, ◌||◌, ◌&&◌, refl, ap, ◌∙◌}
use Rattle.std.specs.List.{flat_map, take_while}
use Rattle.std.proofs.lemmas.List.Sums.{take_while-cons}
use Rattle.jsonc_tree.specs.Content.{Content, text_of}
use Rattle.jsonc_tree.specs.Order.{text_at}
use Rattle.jsonc_tree.specs.Tree.{Node, content_at}
use Rattle.jsonc_layout.specs.nodes.Kinds.{is_newline, is_newline_at, is_trivia, is_trivia_at, is_whitespace, is_whitespace_at}
use Rattle.jsonc_layout.specs.lines.Kinds.{blank_at, blank_of}
use Rattle.jsonc_layout.specs.lines.Lines.{blanks, comes_to_newline, has_blank_line}

abbrev with_trivia : Bool → List Node → List ℕ → Bool
with_trivia ended ns trivia = (ended && comes_to_newline ns trivia) || has_blank_line ns trivia

-- what is left of the row has a blank line, or a line's end that makes one with the last one passed
abbrev pub blank_from : Bool → List Node → List ℕ → Bool
blank_from ended ns rest = with_trivia ended ns (take_while (is_trivia_at ns) rest)

step_of : (ended : Bool) (c : Content) (comes has : Bool) → is_trivia c ≡ true → (ended && (is_newline c || (is_whitespace c && comes))) || ((is_newline c && comes) || has) ≡ (ended && is_newline c) || (((is_newline c || (ended && is_whitespace c)) && comes) || has)
step_of true (Content.whitespace s) comes has e = refl
step_of false (Content.whitespace s) comes has e = refl
step_of true (Content.newline k) comes has e = refl
step_of false (Content.newline k) comes has e = refl
step_of true (Content.comment s) comes has e = refl
step_of false (Content.comment s) comes has e = refl
step_of ended _ comes has e = cc

blank_none : (ended : Bool) (ns : List Node) → with_trivia ended ns [] ≡ false
blank_none true ns = refl
blank_none false ns = refl

-- a step over a sibling of a row
module _ (ns : List Node) (row : List ℕ) (m : ℕ) (rest : List ℕ) (is : row ≡ m ∷ rest) where
  pub blank_over : (ended : Bool) → is_trivia_at ns m ≡ false → blank_from ended ns row ≡ false
  blank_over ended e =
      ap (blank_from ended ns) is
      ∙ ap (with_trivia ended ns) (take_while-cons (is_trivia_at ns) m rest ∙ ap (λ b. cond b (m ∷ take_while (is_trivia_at ns) rest) []) e)
      ∙ blank_none ended ns

  pub blank_step : (ended : Bool) → is_trivia_at ns m ≡ true → blank_from ended ns row ≡ (ended && is_newline_at ns m) || blank_from (is_newline_at ns m || (ended && is_whitespace_at ns m)) ns rest
  blank_step ended e =
      let trivia = take_while (is_trivia_at ns) rest in
      ap (blank_from ended ns) is
      ∙ ap (with_trivia ended ns) (take_while-cons (is_trivia_at ns) m rest ∙ ap (λ b. cond b (m ∷ trivia) []) e)
      ∙ step_of ended (content_at ns m) (comes_to_newline ns trivia) (has_blank_line ns trivia) e

  blanks_step : blanks ns row ≡ flat_map (text_at ns) (cond (is_whitespace_at ns m) (m ∷ take_while (is_whitespace_at ns) rest) [])
  blanks_step = ap (blanks ns) is ∙ ap (flat_map (text_at ns)) (take_while-cons (is_whitespace_at ns) m rest)

  pub blanks_more : (text : List ℕ) → blank_at ns m ≡ Some text → blanks ns row ≡ text ++ blanks ns rest
  blanks_more text e =
      let white = blank_is (content_at ns m) text e in
      blanks_step
      ∙ ap (λ b. flat_map (text_at ns) (cond b (m ∷ take_while (is_whitespace_at ns) rest) [])) white.0
      ∙ ap (λ s. s ++ blanks ns rest) white.1
    where
      blank_is : (c : Content) (text : List ℕ) → blank_of c ≡ Some text → (is_whitespace c ≡ true) × (text_of c ≡ text)
      blank_is (Content.whitespace s) text e = (refl, cc)
      blank_is _ text e = cc

  pub blanks_over : blank_at ns m ≡ None → blanks ns row ≡ []
  blanks_over e =
      blanks_step ∙ ap (λ b. flat_map (text_at ns) (cond b (m ∷ take_while (is_whitespace_at ns) rest) [])) (no_blank (content_at ns m) e)
    where
      no_blank : (c : Content) → blank_of c ≡ None → is_whitespace c ≡ false
      no_blank (Content.whitespace s) e = cc
      no_blank _ e = refl

pub blank_end : (ns : List Node) (row : List ℕ) (ended : Bool) → row ≡ [] → blank_from ended ns row ≡ false
blank_end ns row ended is = ap (blank_from ended ns) is ∙ blank_none ended ns

pub blanks_end : (ns : List Node) (row : List ℕ) → row ≡ [] → blanks ns row ≡ []
blanks_end ns row is = ap (blanks ns) is
