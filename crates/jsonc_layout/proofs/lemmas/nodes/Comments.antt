-- The comments that a row of siblings begins with, sibling by sibling.
use Rattle.std.proofs.Common.{◌≡◌, sym, ap, refl, ◌∙◌, ℕ, suc, ◌+◌, [], ◌∷◌, Bool, true, false, cond, List, filter, take, arith}
use Rattle.std.specs.List.{prefix_len}
use Rattle.jsonc_tree.specs.Tree.{Node}
use Rattle.jsonc_layout.specs.nodes.Comments.{inline_comments}
use Rattle.jsonc_layout.specs.nodes.Kinds.{is_inline_trivia_at, is_comment_at}

first_of : (test : ℕ → Bool) (n x : ℕ) (rest : List ℕ) (b : Bool)
    → filter test (take (cond b (1 + n) 0) (x ∷ rest)) ≡ cond b (cond (test x) (x ∷ filter test (take n rest)) (filter test (take n rest))) []
first_of test n x rest true = let more : 1 + n ≡ suc n = omega arith in ap (λ m. filter test (take m (x ∷ rest))) more
first_of test n x rest false = refl

-- where the first is neither whitespace nor a comment, where it is a comment, and where it is whitespace
abbrev first_is : List Node → ℕ → List ℕ → Bool → Bool → List ℕ
first_is ns x rest inline comment = cond inline (cond comment (x ∷ inline_comments ns rest) (inline_comments ns rest)) []

first_comments : (ns : List Node) (row : List ℕ) (x : ℕ) (rest : List ℕ) (inline comment : Bool) → row ≡ x ∷ rest → inline ≡ is_inline_trivia_at ns x → comment ≡ is_comment_at ns x
    → inline_comments ns row ≡ first_is ns x rest inline comment
first_comments ns row x rest inline comment e i k =
    ap (inline_comments ns) e
    ∙ first_of (is_comment_at ns) (prefix_len (is_inline_trivia_at ns) rest) x rest (is_inline_trivia_at ns x)
    ∙ ap (λ b. first_is ns x rest b (is_comment_at ns x)) (sym i)
    ∙ ap (first_is ns x rest inline) (sym k)

module _ (ns : List Node) (row : List ℕ) (x : ℕ) (rest : List ℕ) (e : row ≡ x ∷ rest) where
  pub comments_end : false ≡ is_inline_trivia_at ns x → inline_comments ns row ≡ []
  comments_end i = first_comments ns row x rest false (is_comment_at ns x) e i refl

  pub comment_passed : true ≡ is_inline_trivia_at ns x → false ≡ is_comment_at ns x → inline_comments ns row ≡ inline_comments ns rest
  comment_passed i k = first_comments ns row x rest true false e i k

  pub comment_taken : true ≡ is_inline_trivia_at ns x → true ≡ is_comment_at ns x → inline_comments ns row ≡ x ∷ inline_comments ns rest
  comment_taken i k = first_comments ns row x rest true true e i k
