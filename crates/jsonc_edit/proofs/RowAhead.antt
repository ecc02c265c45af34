-- A space that comes before what is printed behind a node leaves the row as it was up to that node.
use Rattle.std.proofs.Common.{◌≡◌, ℕ, zero, suc, ◌+◌, ◌<◌, ◌≤◌, ◌==◌, cond, false, true, List, ◌∷◌, ◌++◌, length, take, drop, slice_index, get_or, Some, inl, inr, if◌then◌else◌, refl, sym, ap, subst, ◌∙◌, arith, length-take, get_or-take}
use Rattle.std.proofs.lemmas.Bool.{cases_Bool}
use Rattle.std.proofs.lemmas.List.{take-append-le, take-take}
use Rattle.jsonc_text.proofs.Basics.{eq_test, test_eq}
use Rattle.jsonc_tree.specs.Tree.{Node, content_at, parent_at, children_at, place_at, IsTree, IsOver}
use Rattle.jsonc_tree.specs.Siblings.{siblings_after}
use Rattle.jsonc_tree.proofs.Order.{not_over_parent}
use Rattle.jsonc_layout.specs.nodes.Kinds.{is_newline, is_newline_at, is_whitespace, is_whitespace_at}
use Rattle.jsonc_sound.specs.Lines.{is_line_comment}
use Rattle.jsonc_edit.specs.Comments.{blanks_from, newline_from, removed_from}
use Rattle.jsonc_edit.specs.Due.{nearest, behind_holder, seen_behind}
use Rattle.jsonc_edit.specs.Put.{StandsBefore}
use Rattle.jsonc_edit.proofs.Elements.{Some_same}
use Rattle.jsonc_edit.proofs.InsertedSpaces.{children_kept, container_row, contents_kept, place_within, placed_ahead, placed_elsewhere}
use Rattle.jsonc_edit.proofs.UnneededSpaces.{either_seen, holder_seen, nearest_in}
use Rattle.jsonc_edit.proofs.BlanksBefore.{blanks_low}

take_front : (k m : ℕ) (row rest : List ℕ) → k ≤ m → m ≤ length row → take k (take m row ++ rest) ≡ take k row
take_front k m row rest low inn = take-append-le k (take m row) rest (omega (arith, low, inn, length-take m row)) ∙ take-take k m row low

module _ (old new : List Node) (x space n c : ℕ) (tree : IsTree old) (r : StandsBefore old new x space) (said : parent_at old n ≡ Some c) (seen : seen_behind old n ≡ Some x) where
  abbrev row : List ℕ
  row = children_at old c

  behind_it : r.container ≡ c → place_at old n < place_at old x
  behind_it e =
      elim (either_seen (nearest old (siblings_after old n)) (behind_holder old n) x seen) [
        | inl near ↦ (let m = nearest_in old tree n x c (parent_at old n) (r.parent ∙ ap Some e) refl near in omega (arith, m.at))
        | inr two ↦
            (let h = holder_seen old n x (parent_at old n) refl two.1 in
            let is : h.holder ≡ c = Some_same h.holder c (sym h.parent ∙ said) in
            let m = nearest_in old tree h.holder x c (parent_at old h.holder) (r.parent ∙ ap Some e) refl h.near in
            absurd (not_over_parent old tree h.holder c m.parent (subst (λ k. IsOver old h.holder k) is IsOver.itself)))
      ]

  row_ahead : (k : ℕ) → k ≤ place_at old n + 1 → take k (children_at new c) ≡ take k row
  row_ahead k low =
      elim (cases_Bool (r.container == c)) [
        | inl h ↦
            (let same : r.container ≡ c = test_eq r.container c h in
            let is : children_at new c ≡ take (place_at old x) row ++ space ∷ drop (place_at old x) row =
            subst (λ p. children_at new p ≡ take (place_at old x) (children_at old p) ++ space ∷ drop (place_at old x) (children_at old p)) same (container_row old new x space tree r) in
            let inn : place_at old x < length row = subst (λ p. place_at old x < length (children_at old p)) same (place_within old new x space tree r) in
            ap (take k) is ∙ take_front k (place_at old x) row (space ∷ drop (place_at old x) row) (omega (arith, low, behind_it same)) (omega (arith, inn)))
        | inr h ↦ ap (take k) (children_kept old new x space tree r c (λ e. let wrong : false ≡ true = sym h ∙ eq_test r.container c (sym e) in cc))
      ]

  place_stays : place_at new n ≡ place_at old n
  place_stays =
      elim (cases_Bool (r.container == c)) [
        | inl h ↦
            (let same : r.container ≡ c = test_eq r.container c h in
            let is : slice_index (children_at old r.container) (place_at old n) ≡ n = ap (λ p. slice_index (children_at old p) (place_at old n)) same ∙ tree.found n c said in
            ap (place_at new) (sym is) ∙ placed_ahead old new x space tree r (place_at old n) (behind_it same))
        | inr h ↦ placed_elsewhere old new x space tree r n c said (λ e. let wrong : false ≡ true = sym h ∙ eq_test r.container c (sym e) in cc)
      ]

  index_ahead : (k : ℕ) → k < place_at old n → slice_index (children_at new c) k ≡ slice_index row k
  index_ahead k low =
      let less : k < place_at old n + 1 = omega (arith, low) in
      sym (get_or-take (place_at old n + 1) (children_at new c) k 0 less) ∙ ap (λ l. get_or l k 0) (row_ahead (place_at old n + 1) (omega arith)) ∙ get_or-take (place_at old n + 1) row k 0 less

  blanks_ahead : (place : ℕ) → place ≤ place_at old n → blanks_from new (children_at new c) place ≡ blanks_from old row place
  blanks_ahead zero h = refl
  blanks_ahead (suc place) h =
      ap (λ k. cond (is_whitespace_at new k) (blanks_from new (children_at new c) place) (suc place)) (index_ahead place (omega (arith, h)))
      ∙ ap (λ w. cond (is_whitespace w) (blanks_from new (children_at new c) place) (suc place)) (contents_kept old new x space tree r (slice_index row place))
      ∙ ap (λ k. cond (is_whitespace_at old (slice_index row place)) k (suc place)) (blanks_ahead place (omega (arith, h)))

  newline_ahead : (place : ℕ) → place ≤ place_at old n → newline_from new (children_at new c) place ≡ newline_from old row place
  newline_ahead zero h = refl
  newline_ahead (suc place) h =
      ap (λ k. cond (is_newline_at new k) place (suc place)) (index_ahead place (omega (arith, h)))
      ∙ ap (λ w. cond (is_newline w) place (suc place)) (contents_kept old new x space tree r (slice_index row place))

  removed_stays : removed_from new c n ≡ removed_from old c n
  removed_stays =
      ap (λ w. if is_line_comment w then newline_from new (children_at new c) (blanks_from new (children_at new c) (place_at new n)) else place_at new n) (contents_kept old new x space tree r n)
      ∙ ap (λ k. if is_line_comment (content_at old n) then newline_from new (children_at new c) (blanks_from new (children_at new c) k) else k) place_stays
      ∙ ap (λ k. if is_line_comment (content_at old n) then newline_from new (children_at new c) k else place_at old n) (blanks_ahead (place_at old n) (omega arith))
      ∙ ap (λ k. if is_line_comment (content_at old n) then k else place_at old n) (newline_ahead (blanks_from old row (place_at old n)) (blanks_low old row (place_at old n)))

  -- so what stands there up to the node
  pub record RowAhead : Type 0 where
    pub rows : (k : ℕ) → k ≤ place_at old n + 1 → take k (children_at new c) ≡ take k row
    pub place : place_at new n ≡ place_at old n
    pub removed : removed_from new c n ≡ removed_from old c n

  pub row_stays : RowAhead
  row_stays = record { rows = row_ahead; place = place_stays; removed = removed_stays }
