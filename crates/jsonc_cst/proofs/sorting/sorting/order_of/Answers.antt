use Rattle.std.proofs.Common.{◌≡◌, ◌∙◌, sym, ap, ℕ, List, [], ◌∷◌, zero, suc, Option, Some, None, IfSome, All, subst, true≢false, is_some}
use Rattle.std.specs.Prelude.{slice_index_or}
use Rattle.std.proofs.lemmas.List.Elements.{All-head, All-tail}
use Rattle.jsonc_cst.specs.Document.{HasNode}
use Rattle.jsonc_cst.proofs.sorting.sorting.order_of.Goals as goal

among : {N : Type 0} (Q : N → Type 0) (nodes : List (Option N)) (i : ℕ) (x : N) → All (λ o. IfSome o Q) nodes → slice_index_or nodes i None ≡ Some x → Q x
among Q [] i x all e = absurd (true≢false (sym (ap is_some e)))
among Q (o ∷ nodes) zero x all e = subst (λ p. IfSome p Q) e (All-head (λ p. IfSome p Q) o nodes all)
among Q (o ∷ nodes) (suc i) x all e = among Q nodes i x (All-tail (λ p. IfSome p Q) o nodes all) e

pub returns-clause-order : goal.returns-clause-order
returns-clause-order g c = λ lt by.
    let holds = λ (x : g.row.N.Denot). HasNode c.args.doc.now (g.N.TypedNode.node_of x) in
    c.in-Ok.ensures.order lt (record {
      answers = λ d x y r same hx hy said.
          by.answers d x y r (same ∙ c.of.ensures) (among holds c.args.nodes.now hx.0 x c.requires.in_document hx.1) (among holds c.args.nodes.now hy.0 y c.requires.in_document hy.1) said;
      order = by.order;
    })
