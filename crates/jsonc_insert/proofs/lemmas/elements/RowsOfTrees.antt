-- Rows of trees that the nodes of a container stand for.
use Rattle.std.proofs.Common.{◌≡◌, ◌∙◌, ℕ, suc, Bool, true, false, ◌||◌, cond, List, [], ◌∷◌, ◌++◌, All, map, drop, length, refl, sym, ap, append-nil}
use Rattle.std.specs.List.{take_while}
use Rattle.std.proofs.lemmas.List.Sums.{take_while-cons}
use Rattle.std.proofs.lemmas.List.Elements.{All-head, All-tail}
use Rattle.jsonc_tree.specs.Content.{Content, is_container, newline}
use Rattle.jsonc_tree.specs.OrderedTree.{OrderedTree, none, more}
use Rattle.jsonc_tree.specs.Tree.{Node, content_at, IsTree}
use Rattle.jsonc_tree.specs.declared.node.CstNewlineKind.{CstNewlineKind}
use Rattle.jsonc_layout.specs.nodes.Kinds.{is_inline_trivia, is_inline_trivia_at, is_element, is_newline, is_trivia, is_trivia_at, is_whitespace, is_comma_at, is_comma, is_blank_at}
use Rattle.jsonc_sound.specs.Shape.{token_then}
use Rattle.jsonc_sound.specs.Leaving as leaving
use Rattle.jsonc_sound.specs.Leaving.{AreInlineTrivia, element_count}
use Rattle.jsonc_sound.specs.MarkChanges.{AreBlanks}
use Rattle.jsonc_sound.specs.TriviaChanges.{leaves_then}
use Rattle.jsonc_edit.specs.Changes.{row_below}
use Rattle.jsonc_insert.specs.Planned.{begins_with_comma, comma_comes, elements}
use Rattle.jsonc_edit.proofs.LeafKinds.{comma_is}
use Rattle.jsonc_edit.proofs.Standing.{bare_below, standing, token_first}
use Rattle.jsonc_insert.proofs.lemmas.elements.Stretches.{comma_past}

-- what a list's nodes are, by one test
abbrev pub AllAre : (ℕ → Bool) → List ℕ → Type 0
AllAre p xs = All (λ n. p n ≡ true) xs

blank_leaf : (content : Content) → (is_whitespace content || is_newline content) ≡ true → is_container content ≡ false
blank_leaf (Content.whitespace s) h = refl
blank_leaf (Content.newline k) h = refl
blank_leaf content h = cc

beside_leaf : (content : Content) → is_inline_trivia content ≡ true → is_container content ≡ false
beside_leaf (Content.whitespace s) h = refl
beside_leaf (Content.comment s) h = refl
beside_leaf content h = cc

pub blank_line : (content : Content) → (is_whitespace content || is_newline content) ≡ true → is_whitespace content ≡ false → is_newline content ≡ true
blank_line (Content.newline k) h g = refl
blank_line content h g = cc

module _ (ns : List Node) where
  pub blanks_are : (xs : List ℕ) → AllAre (is_blank_at ns) xs → AreBlanks (map (content_at ns) xs)
  blanks_are [] all = tt
  blanks_are (n ∷ xs) all = (All-head (λ m. is_blank_at ns m ≡ true) n xs all, blanks_are xs (All-tail (λ m. is_blank_at ns m ≡ true) n xs all))

  pub beside_are : (xs : List ℕ) → AllAre (is_inline_trivia_at ns) xs → AreInlineTrivia (map (content_at ns) xs)
  beside_are [] all = tt
  beside_are (n ∷ xs) all = (All-head (λ m. is_inline_trivia_at ns m ≡ true) n xs all, beside_are xs (All-tail (λ m. is_inline_trivia_at ns m ≡ true) n xs all))

  -- how many elements there are, and whether the end of a line is among them
  pub standing_count : (xs : List ℕ) → element_count (standing ns xs) ≡ length (elements ns xs)
  standing_count [] = refl
  standing_count (n ∷ xs) = by (is_element (content_at ns n)) (standing_count xs)
    where
      by : (b : Bool) → element_count (standing ns xs) ≡ length (elements ns xs) → cond b (suc (element_count (standing ns xs))) (element_count (standing ns xs)) ≡ length (cond b (n ∷ elements ns xs) (elements ns xs))
      by true e = ap suc e
      by false e = e

  -- whether a comma comes past trivia
  pub standing_comma : (xs : List ℕ) → leaving.comma_comes (standing ns xs) ≡ comma_comes ns xs
  standing_comma [] = refl
  standing_comma (n ∷ xs) = by (is_trivia (content_at ns n)) refl (standing_comma xs)
    where
      by : (b : Bool) → is_trivia (content_at ns n) ≡ b → leaving.comma_comes (standing ns xs) ≡ comma_comes ns xs → leaving.comma_comes (standing ns (n ∷ xs)) ≡ comma_comes ns (n ∷ xs)
      by true e rest =
          comma_past (content_at ns n) (row_below ns n) (standing ns xs) e ∙ rest
          ∙ sym (ap (λ l. begins_with_comma ns (drop (length l) (n ∷ xs))) (take_while-cons (is_trivia_at ns) n xs ∙ ap (λ v. cond v (n ∷ take_while (is_trivia_at ns) xs) []) e))
      by false e rest =
          ap (λ v. cond v (leaving.comma_comes (standing ns xs)) (is_comma (content_at ns n))) e
          ∙ sym (ap (λ l. begins_with_comma ns (drop (length l) (n ∷ xs))) (take_while-cons (is_trivia_at ns) n xs ∙ ap (λ v. cond v (n ∷ take_while (is_trivia_at ns) xs) []) e))

  module _ (tree : IsTree ns) where
    leaf_below : (n : ℕ) → is_container (content_at ns n) ≡ false → row_below ns n ≡ none
    leaf_below n h = bare_below ns n (tree.leaf n h)

    leaves_row : (p : Content → Bool) → ((w : Content) → p w ≡ true → is_container w ≡ false) → (xs ys : List ℕ) → All (λ n. p (content_at ns n) ≡ true) xs → standing ns (xs ++ ys) ≡ leaves_then (map (content_at ns) xs) (standing ns ys)
    leaves_row p h [] ys all = refl
    leaves_row p h (n ∷ xs) ys all =
        ap (λ b. more (content_at ns n) b (standing ns (xs ++ ys))) (leaf_below n (h (content_at ns n) (All-head (λ m. p (content_at ns m) ≡ true) n xs all)))
        ∙ ap (more (content_at ns n) none) (leaves_row p h xs ys (All-tail (λ m. p (content_at ns m) ≡ true) n xs all))

    -- blanks, and whitespace and comments, before a row or alone
    pub blanks_row : (xs ys : List ℕ) → AllAre (is_blank_at ns) xs → standing ns (xs ++ ys) ≡ leaves_then (map (content_at ns) xs) (standing ns ys)
    blanks_row xs ys all = leaves_row (λ w. is_whitespace w || is_newline w) blank_leaf xs ys all

    pub blanks_alone : (xs : List ℕ) → AllAre (is_blank_at ns) xs → standing ns xs ≡ leaves_then (map (content_at ns) xs) none
    blanks_alone xs all = ap (standing ns) (sym (append-nil xs)) ∙ blanks_row xs [] all

    pub beside_row : (xs ys : List ℕ) → AllAre (is_inline_trivia_at ns) xs → standing ns (xs ++ ys) ≡ leaves_then (map (content_at ns) xs) (standing ns ys)
    beside_row xs ys all = leaves_row is_inline_trivia beside_leaf xs ys all

    pub beside_alone : (xs : List ℕ) → AllAre (is_inline_trivia_at ns) xs → standing ns xs ≡ leaves_then (map (content_at ns) xs) none
    beside_alone xs all = ap (standing ns) (sym (append-nil xs)) ∙ beside_row xs [] all

    -- the end of a line, and a token
    pub line_first : (n : ℕ) (row : OrderedTree) (k : CstNewlineKind) → content_at ns n ≡ newline k → more (content_at ns n) (row_below ns n) row ≡ more (newline k) none row
    line_first n row k e = ap (λ w. more w (row_below ns n) row) e ∙ ap (λ b. more (newline k) b row) (leaf_below n (ap is_container e))

    pub comma_first : (n : ℕ) (row : OrderedTree) → is_comma_at ns n ≡ true → more (content_at ns n) (row_below ns n) row ≡ token_then 0x2C row
    comma_first n row h = token_first ns tree n 0x2C row (comma_is (content_at ns n) h)
