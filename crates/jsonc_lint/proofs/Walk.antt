-- A walk over the nodes of a document with their ranges, and what it has found.
use Rattle.std.proofs.Common.{◌≡◌, ◌∙◌, refl, sym, ap, subst, ℕ, ◌<◌, List, [], ◌∷◌, ◌++◌, length, map, Option, Some, None, String}
use Rattle.std.specs.HashMap.{HashMap}
use Rattle.std.specs.List.{All}
use Rattle.std.proofs.lemmas.List.{append-nil, append_assoc}
use Rattle.std.proofs.lemmas.List.Elements.{All-head, All-tail, All-weaker, All-map}
use Rattle.jsonc_text.specs.declared.common.Range.{Range}
use Rattle.jsonc_tree.specs.Order.{in_order}
use Rattle.jsonc_tree.specs.Tree.{Node, IsOver, IsTree, content_at}
use Rattle.jsonc_cst.specs.declared.cst.node.CstNode.{CstNode}
use Rattle.jsonc_cst.specs.Nodes.{number_of, typed_at, IsNodeOf}
use Rattle.jsonc_cst.specs.Ranges.{IsRangeOf}
use Rattle.jsonc_cst.specs.Readings.{typed_all}
use Rattle.jsonc_cst.proofs.Descendants.{IsUnder, order_under}
use Rattle.jsonc_cst.proofs.Family.{number_of-typed}
use Rattle.jsonc_cst.proofs.RangedDescendants.{all_firsts}
use Rattle.jsonc_lint.specs.declared.finding.Finding.{Finding}
use Rattle.jsonc_lint.specs.declared.rules.Rules.{Rules}
use Rattle.jsonc_lint.specs.Findings.{AreFindings, none, nothing, one}
use Rattle.jsonc_lint.specs.SeenNames.{Knows}
use Rattle.jsonc_lint.specs.Steps.{IsFound}

-- a node with what was answered as its range
abbrev pub Ranged : Type 0
Ranged = CstNode × Option Range

abbrev pub number : Ranged → ℕ
number x = number_of x.0

-- the node is in the document, and has this range
abbrev pub IsReady : List Node → Ranged → Type 0
IsReady ns x = (number x < length ns) × IsOver ns 0 (number x) × IsRangeOf ns (number x) x.1

module _ (ns : List Node) (tree : IsTree ns) where
  numbers : (rest : List Ranged) (row : List ℕ) → map (λ x. x.0) rest ≡ typed_all ns row → map number rest ≡ row
  numbers [] [] e = refl
  numbers [] (n ∷ row) e = cc
  numbers (x ∷ rest) [] e = cc
  numbers (x ∷ rest) (n ∷ row) e =
      let first : x.0 ≡ typed_at ns n = cc in
      let later : map (λ y. y.0) rest ≡ typed_all ns row = cc in
      ap (λ m. m ∷ map number rest) (ap number_of first ∙ number_of-typed (content_at ns n) n) ∙ ap (λ l. n ∷ l) (numbers rest row later)

  -- each is in the document
  all_over : All (λ m. IsOver ns 0 (number_of m)) (typed_all ns (in_order ns 0))
  all_over =
      All-map (λ m. IsOver ns 0 (number_of m)) (typed_at ns) (in_order ns 0)
      (All-weaker (IsUnder ns 0) (λ k. IsOver ns 0 (number_of (typed_at ns k))) (λ k u. subst (IsOver ns 0) (sym (number_of-typed (content_at ns k) k)) u.1) (in_order ns 0) (order_under ns tree 0 tree.first))

  all_three : (P Q R : Ranged → Type 0) (rest : List Ranged) → All P rest → All Q rest → All R rest → All (λ x. P x × Q x × R x) rest
  all_three P Q R rest p q r = λ k d h. (p k d h, q k d h, r k d h)

module _ {A S : Type 0} (rules : Rules) (ns : List Node) (t : List ℕ) where
  -- some of the nodes in order are passed, these are the rest, and those are the findings and the names so far
  pub record HasPassed (rest : List Ranged) (names : HashMap (ℕ × String A) ℕ S) (found : List (Finding A)) : Type 0 where
    pub passed : List ℕ
    pub split : in_order ns 0 ≡ passed ++ map number rest
    pub ready : All (IsReady ns) rest
    pub findings : AreFindings rules ns t passed found
    pub known : Knows ns passed names

  module _ (tree : IsTree ns) where
    pub begun : (rest : List Ranged) (names : HashMap (ℕ × String A) ℕ S) (found : List (Finding A)) → map (λ x. x.0) rest ≡ typed_all ns (in_order ns 0) → All (λ x. IsNodeOf ns x.0) rest
        → All (λ x. IsRangeOf ns (number x) x.1) rest → Knows ns [] names → found ≡ [] → HasPassed rest names found
    begun rest names found e held ranges known empty = record {
      passed = [];
      split = sym (numbers ns tree rest (in_order ns 0) e);
      ready =
          all_three ns tree (λ x. number x < length ns) (λ x. IsOver ns 0 (number x)) (λ x. IsRangeOf ns (number x) x.1) rest
          (λ k d h. (held k d h).0)
          (all_firsts (λ m. IsOver ns 0 (number_of m)) rest (subst (All (λ m. IsOver ns 0 (number_of m))) (sym e) (all_over ns tree)))
          ranges;
      findings = subst (AreFindings rules ns t []) (sym empty) none;
      known = known;
    }

  -- what was found at a node, by other words for the nodes, the text and the number
  pub found_there : (nodes : List Node) (text : List ℕ) (n k : ℕ) (old new : HashMap (ℕ × String A) ℕ S) (answer : Option (Finding A)) → nodes ≡ ns → text ≡ t → n ≡ k → IsFound rules nodes text n old new answer
      → IsFound rules ns t k old new answer
  found_there nodes text n k old new answer d e f h =
      subst (λ m. IsFound rules ns t m old new answer) f (subst (λ s. IsFound rules ns s n old new answer) e (subst (λ l. IsFound rules l text n old new answer) d h))

  module _ (x : Ranged) (rest all : List Ranged) (e : all ≡ x ∷ rest) (names new : HashMap (ℕ × String A) ℕ S) (found : List (Finding A)) (w : HasPassed all names found) where
    -- the next node is ready
    pub next_ready : IsReady ns x
    next_ready = All-head (IsReady ns) x rest (subst (All (IsReady ns)) e w.ready)

    left : All (IsReady ns) rest
    left = All-tail (IsReady ns) x rest (subst (All (IsReady ns)) e w.ready)

    split_on : in_order ns 0 ≡ (w.passed ++ number x ∷ []) ++ map number rest
    split_on = w.split ∙ ap (λ l. w.passed ++ map number l) e ∙ sym (append_assoc w.passed (number x ∷ []) (map number rest))

    pub passed_nothing : IsFound rules ns t (number x) names new None → HasPassed rest new found
    passed_nothing h =
        let answer = h w.passed w.known in
        record { passed = w.passed ++ number x ∷ []; split = split_on; ready = left; findings = nothing (number x) w.findings answer.0; known = answer.1 }

    pub passed_one : (finding : Finding A) (more : List (Finding A)) → IsFound rules ns t (number x) names new (Some finding) → more ≡ found ++ finding ∷ [] → HasPassed rest new more
    passed_one finding more h pushed =
        let answer = h w.passed w.known in
        record {
          passed = w.passed ++ number x ∷ [];
          split = split_on;
          ready = left;
          findings = subst (AreFindings rules ns t (w.passed ++ number x ∷ [])) (sym pushed) (one (number x) finding w.findings answer.0);
          known = answer.1;
        }

  -- all are passed
  pub all_passed : (rest : List Ranged) (names : HashMap (ℕ × String A) ℕ S) (found : List (Finding A)) → HasPassed rest names found → rest ≡ [] → AreFindings rules ns t (in_order ns 0) found
  all_passed rest names found w over =
      subst (λ l. AreFindings rules ns t l found) (sym (w.split ∙ ap (λ l. w.passed ++ map number l) over ∙ append-nil w.passed)) w.findings
