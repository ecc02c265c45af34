use Rattle.std.proofs.Common.{◌≡◌, ◌∙◌, ◌-◌, sym, ap, subst, arith, false, drop, length, take, reverse, vec_len, List, ℕ, IfOk}
use Rattle.std.specs.List.{take_while}
use Rattle.std.proofs.lemmas.List.{take_rest}
use Rattle.jsonc_tree.specs.Tree.{content_at}
use Rattle.jsonc_layout.specs.nodes.Siblings.{siblings_before}
use Rattle.jsonc_sort.specs.Parts.{is_none, parts, tail_length}
use Rattle.jsonc_cst.specs.EntryComments.{comments_around, tail_of}
use Rattle.jsonc_cst.proofs.lemmas.comments.Parts.{lead_in, no_elem}
use Rattle.jsonc_cst.proofs.lemmas.comments.Beside.{back_last, back_next, comments_are, front_first, front_next, none_there, some_there, stands}
use Rattle.jsonc_cst.proofs.cst.comments.comments_of.Goals as goal
use Rattle.jsonc_cst.proofs.cst.comments.comments_of.Goals.{in-Some, in-None, then-last, else-last}

pub overflow_sub-upto : goal.overflow_sub-upto
overflow_sub-upto g c =
    let ns = c.args.tree.now.nodes in
    let tree = c.args.tree.now.tree in
    let n = c.args.node in
    let s = stands ns tree n c.requires.entry in
    let none = sym c.next_element.ensures.element ∙ none_there c.next_element.result c.is_none-last.result c.is_none-last.ensures c.if-last.true in
    let all = back_last ns tree n s c.in_ok-after.after.items c.in_ok-after.ensures none in
    omega (arith, all.0)

pub slice_bounds-comments_around-count : goal.slice_bounds-comments_around-count
slice_bounds-comments_around-count g c =
    let ns = c.args.tree.now.nodes in
    let tree = c.args.tree.now.tree in
    let n = c.args.node in
    let s = stands ns tree n c.requires.entry in
    let at = content_at ns in
    elim c.match-previous_element.branch [
      | in-Some w ↦ omega (arith, w.from-is, w.tail_length-from.ensures.within, ap length w.deref.ensures.value, ap length c.deref-2.ensures.value)
      | in-None w ↦ (
          let items : c.reverse.new.self.items ≡ reverse (take_while (no_elem at) (siblings_before ns n)) = c.reverse.ensures.items ∙ ap (λ (l : List ℕ). reverse l) c.in_ok-before.ensures in
          let all = front_first ns tree n s c.reverse.new.self.items items (sym c.previous_element.ensures.element ∙ w.in-None.is) in
          omega (arith, w.from-is, all.0, ap length c.deref-2.ensures.value)
          )
    ]

pub slice_bounds-comments_around-start : goal.slice_bounds-comments_around-start
slice_bounds-comments_around-start g c = slice_bounds-comments_around-count g c

pub returns : goal.returns
returns g c =
    let ns = c.args.tree.now.nodes in
    let tree = c.args.tree.now.tree in
    let n = c.args.node in
    let s = stands ns tree n c.requires.entry in
    let at = content_at ns in
    let d2 = c.deref-2.result.now in
    let d3 = c.deref-3.result.now in
    let from = c.match-previous_element.from in
    let upto = c.if-last.upto in
    let last = c.is_none-last.result in
    let h : IfOk c.comments_around.result (λ v. v.items ≡ comments_around at (take (length d2 - from) (drop from d2)) (tail_of at last (take upto d3))) = c.comments_around.ensures in
    let items : c.reverse.new.self.items ≡ reverse (take_while (no_elem at) (siblings_before ns n)) = c.reverse.ensures.items ∙ ap (λ (l : List ℕ). reverse l) c.in_ok-before.ensures in
    let lead : drop from c.reverse.new.self.items ≡ lead_in at s.inner.before = elim c.match-previous_element.branch [
      | in-Some w ↦ ap (λ k. drop k c.reverse.new.self.items) (w.from-is ∙ w.tail_length-from.ensures.count ∙ ap (tail_length at false) w.deref.ensures.value) ∙ front_next ns tree n s c.reverse.new.self.items w.in-Some.field-0 items (sym c.previous_element.ensures.element ∙ w.in-Some.is)
      | in-None w ↦ ap (λ k. drop k c.reverse.new.self.items) w.from-is ∙ (front_first ns tree n s c.reverse.new.self.items items (sym c.previous_element.ensures.element ∙ w.in-None.is)).1
    ] in
    let size : vec_len c.in_ok-after.after ≡ length c.in_ok-after.after.items = sym c.deref-3.ensures.len ∙ ap length c.deref-3.ensures.value in
    let gap : (take upto c.in_ok-after.after.items ≡ (parts at s.inner.behind).lead) × (is_none (parts at s.inner.behind).rest ≡ last) = elim c.if-last.branch [
      | then-last w ↦ (
          let none = sym c.next_element.ensures.element ∙ none_there c.next_element.result last c.is_none-last.ensures w.if-last.true in
          let all = back_last ns tree n s c.in_ok-after.after.items c.in_ok-after.ensures none in
          (ap (λ k. take k c.in_ok-after.after.items) (w.upto-is ∙ ap (λ k. k - 1) (w.len.ensures ∙ size)) ∙ all.1, all.2 ∙ sym w.if-last.true)
          )
      | else-last w ↦ (
          let some = some_there c.next_element.result last c.is_none-last.ensures w.if-last.false in
          let all = back_next ns tree n s c.in_ok-after.after.items some.0 c.in_ok-after.ensures (sym c.next_element.ensures.element ∙ some.1) in
          (ap (λ k. take k c.in_ok-after.after.items) (w.upto-is ∙ w.len-upto.ensures ∙ size) ∙ all.0, all.1 ∙ sym w.if-last.false)
          )
    ] in
    let one : take (length d2 - from) (drop from d2) ≡ lead_in at s.inner.before = take_rest d2 from ∙ ap (drop from) c.deref-2.ensures.value ∙ lead in
    let two : take upto d3 ≡ (parts at s.inner.behind).lead = ap (take upto) c.deref-3.ensures.value ∙ gap.0 in
    subst (λ l. IfOk c.comments_around.result (λ v. v.items ≡ l)) (comments_are ns tree n s (take (length d2 - from) (drop from d2)) (take upto d3) last one two gap.1) h
