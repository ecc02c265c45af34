-- Whether nothing but trivia stands before a node on its line, from the node back.
use Rattle.std.proofs.Common.{◌≡◌, ℕ, Bool, true, false, cond, List, [], ◌∷◌, ◌&&◌, reverse, not, refl, ap, ◌∙◌}
use Rattle.std.specs.List.{list_all, take_while}
use Rattle.std.proofs.lemmas.List.{reverse-append}
use Rattle.std.proofs.lemmas.List.Folds.{list_all-append}
use Rattle.std.proofs.lemmas.List.Sums.{take_while-cons}
use Rattle.jsonc_tree.specs.Tree.{Node}
use Rattle.jsonc_layout.specs.nodes.Kinds.{is_newline_at, is_trivia_at}
use Rattle.jsonc_layout.specs.nodes.Siblings.{is_no_newline_at}

-- what is left of the line, from here back, is trivia
abbrev pub begins_from : List Node → List ℕ → Bool
begins_from ns rest = list_all (is_trivia_at ns) (take_while (is_no_newline_at ns) rest)

turned : (a b : Bool) → (a && (b && true)) ≡ (b && a)
turned true true = refl
turned true false = refl
turned false true = refl
turned false false = refl

-- it does not matter from which end a list is read
pub all_reversed : (p : ℕ → Bool) (xs : List ℕ) → list_all p (reverse xs) ≡ list_all p xs
all_reversed p [] = refl
all_reversed p (x ∷ xs) =
    ap (list_all p) (reverse-append (x ∷ []) xs)
    ∙ list_all-append p (reverse xs) (x ∷ [])
    ∙ ap (λ b. b && (p x && true)) (all_reversed p xs)
    ∙ turned (list_all p xs) (p x)

-- a step back over a sibling of a row
module _ (ns : List Node) (row : List ℕ) (m : ℕ) (rest : List ℕ) (is : row ≡ m ∷ rest) where
  line_step : begins_from ns row ≡ list_all (is_trivia_at ns) (cond (not (is_newline_at ns m)) (m ∷ take_while (is_no_newline_at ns) rest) [])
  line_step = ap (begins_from ns) is ∙ ap (list_all (is_trivia_at ns)) (take_while-cons (is_no_newline_at ns) m rest)

  pub begins_here : is_newline_at ns m ≡ true → begins_from ns row ≡ true
  begins_here e = line_step ∙ ap (λ b. list_all (is_trivia_at ns) (cond (not b) (m ∷ take_while (is_no_newline_at ns) rest) [])) e

  over : is_newline_at ns m ≡ false → begins_from ns row ≡ is_trivia_at ns m && begins_from ns rest
  over e = line_step ∙ ap (λ b. list_all (is_trivia_at ns) (cond (not b) (m ∷ take_while (is_no_newline_at ns) rest) [])) e

  pub begins_not : is_newline_at ns m ≡ false → is_trivia_at ns m ≡ false → begins_from ns row ≡ false
  begins_not e f = over e ∙ ap (λ b. b && begins_from ns rest) f

  pub begins_on : is_newline_at ns m ≡ false → is_trivia_at ns m ≡ true → begins_from ns row ≡ begins_from ns rest
  begins_on e f = over e ∙ ap (λ b. b && begins_from ns rest) f
