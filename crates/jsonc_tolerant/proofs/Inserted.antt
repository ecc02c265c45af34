-- Which nodes the mends wrote, by the ranges that nodes have.
use Rattle.std.proofs.Common.{ℕ, ◌≡◌, ◌+◌, ◌≤◌, ◌^◌, ◌∙◌, ap, subst, Bool, false, List, ◌++◌, length, arith, length-append}
use Rattle.std.specs.Bool.{Decides}
use Rattle.std.proofs.lemmas.Bool.{false≢true}
use Rattle.jsonc_tree.specs.Order.{printed_at}
use Rattle.jsonc_tree.specs.OrderedTree.{ordered_tree, printed}
use Rattle.jsonc_tree.specs.Tree.{Node, IsOver}
use Rattle.jsonc_text.specs.Options.{Options}
use Rattle.jsonc_cst.specs.declared.cst.node.CstNode.{CstNode}
use Rattle.jsonc_cst.specs.Document.{nodes_of, printed_of}
use Rattle.jsonc_cst.specs.Nodes.{number_of}
use Rattle.jsonc_cst.specs.Ranges.{PrintsRange, printed_after}
use Rattle.jsonc_mends.specs.Mends.{mended_text}
use Rattle.jsonc_mends.specs.Places.{IsWrittenBy}
use Rattle.jsonc_tolerant.specs.Mended.{IsInserted, IsMendedDocument}
use Rattle.jsonc_tolerant.specs.declared.mended.MendedDocument.{MendedDocument}

-- two lists before the same one are as long, where what they make is
as_long : (a b rest whole : List ℕ) → whole ≡ a ++ rest → whole ≡ b ++ rest → length a ≡ length b
as_long a b rest whole p q =
    let one : length whole ≡ length a + length rest = ap length p ∙ length-append a rest in
    let two : length whole ≡ length b + length rest = ap length q ∙ length-append b rest in
    omega arith

-- a node prints one range
same_start : (ns : List Node) (n a b c d : ℕ) → PrintsRange ns n a b → PrintsRange ns n c d → c ≡ a
same_start ns n a b c d p q =
    let long = as_long p.before q.before (printed_at ns n ++ printed_after ns n) (printed (ordered_tree ns 0)) p.split q.split in
    omega (arith, long, p.starts, q.starts)

same_end : (ns : List Node) (n a b c d : ℕ) → PrintsRange ns n a b → PrintsRange ns n c d → d ≡ b
same_end ns n a b c d p q =
    let long = as_long p.before q.before (printed_at ns n ++ printed_after ns n) (printed (ordered_tree ns 0)) p.split q.split in
    omega (arith, long, p.ends, q.ends)

module _ {A : Type 0} where
  -- the node was written where the bytes that it prints were
  pub decides_inserted : (r : MendedDocument A) (node : CstNode) (start end : ℕ) (b : Bool) → PrintsRange (nodes_of r.document) (number_of node) start end
      → Decides b (IsWrittenBy r.mends.list.items start end) → Decides b (IsInserted r node)
  decides_inserted r node start end b p d = (
    λ t. record { start = start; end = end; range = p; written = d.0 t },
    λ i. d.1
        (subst (λ s. IsWrittenBy r.mends.list.items s end) (same_start (nodes_of r.document) (number_of node) start end i.start i.end p i.range)
        (subst (λ e. IsWrittenBy r.mends.list.items i.start e) (same_end (nodes_of r.document) (number_of node) start end i.start i.end p i.range) i.written)),
  )

  -- a node without a range is not in the document, whose text memory counts
  pub not_inserted : (o : Options) (bytes : List ℕ) (r : MendedDocument A) (node : CstNode) → IsMendedDocument o bytes r
      → (IsOver (nodes_of r.document) 0 (number_of node) → 2 ^ 64 ≤ length (printed_of r.document)) → Decides false (IsInserted r node)
  not_inserted o bytes r node h f = (
    λ e. absurd (false≢true e),
    λ i.
        let many : 2 ^ 64 ≤ length (mended_text r.mends) = subst (λ t. 2 ^ 64 ≤ length t) h.printed (f i.range.in_document) in
        absurd (omega (arith, many, r.mends.text.bytes.ok.0, r.mends.text.bytes.ok.1, r.mends.text.bytes.small)),
  )
