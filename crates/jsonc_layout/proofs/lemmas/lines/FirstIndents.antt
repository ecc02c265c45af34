-- The first indent of a row: no child has one before the first that follows its line's first blank.
use Rattle.std.proofs.Common.{◌≡◌, ◌∙◌, refl, sym, ap, arith, ℕ, Bool, true, false, cond, not, ◌&&◌, List, [], ◌∷◌, ◌++◌, length, reverse, take, slice_get, Option, Some, None, is_some, option_and_then, append_assoc}
use Rattle.std.specs.List.{list_all, take_while}
use Rattle.std.proofs.lemmas.List.{reverse-append, reverse-reverse, take-append-le, take_all, length-append}
use Rattle.std.proofs.lemmas.List.Folds.{list_all-append}
use Rattle.std.proofs.lemmas.List.Sums.{take_while-cons}
use Rattle.jsonc_tree.specs.Content.{Content}
use Rattle.jsonc_tree.specs.Order.{with_parent}
use Rattle.jsonc_tree.specs.Siblings.{first, siblings_before}
use Rattle.jsonc_tree.specs.Tree.{Node, IsTree, children_at, content_at, place_at}
use Rattle.jsonc_tree.proofs.Gaps.{at_named, at_placed}
use Rattle.jsonc_layout.specs.nodes.Kinds.{is_newline_at, is_trivia_at, is_whitespace, is_whitespace_at}
use Rattle.jsonc_layout.specs.nodes.Siblings.{is_no_newline_at}
use Rattle.jsonc_layout.specs.lines.Indents.{follows_first_blank}
use Rattle.jsonc_layout.specs.lines.Kinds.{blank_at, blank_of}
use Rattle.jsonc_layout.specs.lines.Lines.{blanks, indent_at}

-- the indent that a line's siblings before a node make, and that of a node with these siblings before it, nearest first
abbrev has_indent : List Node → List ℕ → Bool
has_indent ns line = list_all (is_trivia_at ns) line && is_some (option_and_then (blank_at ns) (first line))

abbrev pub indent_of : List Node → List ℕ → Option (List ℕ)
indent_of ns line = cond (has_indent ns line) (Some (blanks ns line)) None

abbrev line_of : List Node → List ℕ → List ℕ
line_of ns before = reverse (take_while (is_no_newline_at ns) before)

abbrev pub indent_after : List Node → List ℕ → Option (List ℕ)
indent_after ns before = indent_of ns (line_of ns before)

none_if : (b : Bool) (text : List ℕ) → cond b (Some text) None ≡ None → b ≡ false
none_if false text e = refl
none_if true text e = cc

if_none : (b : Bool) (text : List ℕ) → b ≡ false → cond b (Some text) None ≡ None
if_none b text e = ap (λ c. cond c (Some text) None) e

no_blank : (c : Content) → is_whitespace c ≡ false → blank_of c ≡ None
no_blank (Content.whitespace s) e = cc
no_blank _ e = refl

one_more : (a t b : Bool) → (a && b) ≡ false → ((a && (t && true)) && b) ≡ false
one_more false t b e = refl
one_more true false b e = refl
one_more true true b e = e

nothing_there : (t : Bool) → ((t && true) && false) ≡ false
nothing_there true = refl
nothing_there false = refl

module _ (ns : List Node) where
  -- one sibling more on the line: no indent, if there was none and it is no blank that begins the line
  none_on : (m : ℕ) (line : List ℕ) → has_indent ns line ≡ false → (line ≡ [] → blank_at ns m ≡ None) → has_indent ns (line ++ (m ∷ [])) ≡ false
  none_on m [] none blank = ap (λ o. (is_trivia_at ns m && true) && is_some o) (blank refl) ∙ nothing_there (is_trivia_at ns m)
  none_on m (x ∷ xs) none blank =
      ap (λ b. b && is_some (blank_at ns x)) (list_all-append (is_trivia_at ns) (x ∷ xs) (m ∷ []))
      ∙ one_more (list_all (is_trivia_at ns) (x ∷ xs)) (is_trivia_at ns m) (is_some (blank_at ns x)) none

  is_start : (r : ℕ) (rest : List ℕ) (b : Bool) → is_newline_at ns r ≡ b → line_of ns (r ∷ rest) ≡ [] → b ≡ true
  is_start r rest true is e = refl
  is_start r rest false is e =
      let whole : line_of ns (r ∷ rest) ≡ reverse (take_while (is_no_newline_at ns) rest) ++ (r ∷ []) =
      ap (λ (xs : List ℕ). reverse xs) (take_while-cons (is_no_newline_at ns) r rest ∙ ap (λ b. cond (not b) (r ∷ take_while (is_no_newline_at ns) rest) []) is)
      ∙ reverse-append (r ∷ []) (take_while (is_no_newline_at ns) rest) in
      let long : length (reverse (take_while (is_no_newline_at ns) rest) ++ (r ∷ [])) ≡ 0 = ap (λ (xs : List ℕ). length xs) (sym whole ∙ e) in
      absurd (omega (arith, long, length-append (reverse (take_while (is_no_newline_at ns) rest)) (r ∷ [])))

  no_white : (m : ℕ) (rest : List ℕ) → follows_first_blank ns (m ∷ rest) ≡ false → line_of ns rest ≡ [] → is_whitespace_at ns m ≡ false
  no_white m [] e starts = e
  no_white m (r ∷ rest) e starts = and_true (is_whitespace_at ns m) (is_newline_at ns r) e (is_start r rest (is_newline_at ns r) refl starts)
    where
      and_true : (a b : Bool) → (a && b) ≡ false → b ≡ true → a ≡ false
      and_true false b e t = refl
      and_true true b e t = sym t ∙ e

  step_by : (m : ℕ) (rest : List ℕ) (b : Bool) → is_newline_at ns m ≡ b → has_indent ns (line_of ns rest) ≡ false → follows_first_blank ns (m ∷ rest) ≡ false → has_indent ns (line_of ns (m ∷ rest)) ≡ false
  step_by m rest true is none e =
      ap (λ (xs : List ℕ). has_indent ns (reverse xs)) (take_while-cons (is_no_newline_at ns) m rest ∙ ap (λ b. cond (not b) (m ∷ take_while (is_no_newline_at ns) rest) []) is)
  step_by m rest false is none e =
      ap (λ (xs : List ℕ). has_indent ns (reverse xs)) (take_while-cons (is_no_newline_at ns) m rest ∙ ap (λ b. cond (not b) (m ∷ take_while (is_no_newline_at ns) rest) []) is)
      ∙ ap (has_indent ns) (reverse-append (m ∷ []) (take_while (is_no_newline_at ns) rest))
      ∙ none_on m (line_of ns rest) none (λ starts. no_blank (content_at ns m) (no_white m rest e starts))

  -- the sibling before has no indent, if there is one
  abbrev pub NoneBefore : List ℕ → Type 0
  NoneBefore before = (m : ℕ) (rest : List ℕ) → before ≡ m ∷ rest → indent_after ns rest ≡ None

  none_step : (before : List ℕ) → NoneBefore before → follows_first_blank ns before ≡ false → indent_after ns before ≡ None
  none_step [] none e = refl
  none_step (m ∷ rest) none e =
      if_none (has_indent ns (line_of ns (m ∷ rest))) (blanks ns (line_of ns (m ∷ rest)))
      (step_by m rest (is_newline_at ns m) refl (none_if (has_indent ns (line_of ns rest)) (blanks ns (line_of ns rest)) (none m rest refl)) e)

  -- a child with these before it in its row
  pub before_is : IsTree ns → (c n : ℕ) (before rest : List ℕ) → children_at ns c ≡ reverse before ++ (n ∷ rest) → siblings_before ns n ≡ before
  before_is t c n before rest row =
      let k : ℕ = length (reverse before) in
      let here : slice_get (children_at ns c) k ≡ Some n = ap (λ (xs : List ℕ). slice_get xs k) row ∙ get_there (reverse before) in
      ap (λ o. reverse (take (place_at ns n) (with_parent o (children_at ns)))) (at_named ns t c k n here)
      ∙ ap (λ j. reverse (take j (children_at ns c))) (at_placed ns t c k n here)
      ∙ ap (λ (xs : List ℕ). reverse (take k xs)) row
      ∙ ap (λ (xs : List ℕ). reverse xs) (take-append-le k (reverse before) (n ∷ rest) (omega arith) ∙ take_all k (reverse before) (omega arith))
      ∙ reverse-reverse before
    where
      get_there : (xs : List ℕ) → slice_get (xs ++ (n ∷ rest)) (length xs) ≡ Some n
      get_there [] = refl
      get_there (x ∷ xs) = get_there xs

  -- it has no indent, if it does not follow its line's first blank
  pub none_here : (n : ℕ) (before : List ℕ) → siblings_before ns n ≡ before → NoneBefore before → follows_first_blank ns (siblings_before ns n) ≡ false → indent_at ns n ≡ None
  none_here n before is none e = ap (indent_after ns) is ∙ none_step before none (ap (follows_first_blank ns) (sym is) ∙ e)

  -- and then the next one has none before it
  pub none_passed : (n : ℕ) (before : List ℕ) → siblings_before ns n ≡ before → indent_at ns n ≡ None → NoneBefore (n ∷ before)
  none_passed n before is none m rest e =
      let tails : before ≡ rest = ap tail_of e in
      ap (indent_after ns) (sym (is ∙ tails)) ∙ none
    where
      tail_of : List ℕ → List ℕ
      tail_of [] = []
      tail_of (x ∷ xs) = xs

  pub row_passed : (row before : List ℕ) (n : ℕ) (rest : List ℕ) → row ≡ reverse before ++ (n ∷ rest) → row ≡ reverse (n ∷ before) ++ rest
  row_passed row before n rest is = is ∙ sym (ap (λ (xs : List ℕ). xs ++ rest) (reverse-append (n ∷ []) before) ∙ append_assoc (reverse before) (n ∷ []) rest)
