-- Blank lines that were removed, and put back.
use Rattle.std.proofs.Common.{◌≡◌, ◌<◌, ◌+◌, ◌-◌, ◌==◌, cond, inl, ℕ, zero, suc, true, false, List, [], ◌++◌, length, take, drop, slice_index, slice_range, Option, Some, None, refl, sym, ap, subst, ◌∙◌, arith, length-append, length-take}
use Rattle.std.proofs.lemmas.Bool.{eqb-true, false≢true}
use Rattle.std.proofs.lemmas.List.{get_or-take, get_or_append_left, nil_from_length, take-append-drop}
use Rattle.std.proofs.lemmas.List.Edits.{get_or-between, length-between}
use Rattle.jsonc_tree.specs.Building.{Keeps}
use Rattle.jsonc_tree.specs.Changes.{CanJoin, Splices}
use Rattle.jsonc_tree.specs.Siblings.{IsStretch}
use Rattle.jsonc_text.specs.Plain.{Plain}
use Rattle.jsonc_tree.specs.Tree.{Node, children_at, content_at, is_container_at, parent_at, place_at, is_in, IsTree}
use Rattle.jsonc_tree.proofs.Order.{parent_there}
use Rattle.jsonc_tree.proofs.Returned.{CanJoin-back, CanJoin-kept, Keeps-back}
use Rattle.jsonc_tree.proofs.RowSteps.{row_shrinks, RowBecomes, RowBecomes-splice}
use Rattle.jsonc_tree.proofs.Stretches.{CanJoin-gone}
use Rattle.jsonc_edit.proofs.NodesKept.{place_kept}
use Rattle.jsonc_insert.specs.Inserted.{EntryPut}
use Rattle.jsonc_insert.specs.Planned.{has_brackets}
use Rattle.jsonc_insert.specs.Removed.{HaveLeft, StandsAt, WereRemoved}
use Rattle.jsonc_insert.specs.Trimmed.{first_gone, last_gone, trimmed, without}
use Rattle.jsonc_insert.specs.declared.trim.BlankLines.{BlankLines}
use Rattle.jsonc_insert.specs.declared.trim.Blanks.{Blanks}
use Rattle.jsonc_insert.specs.declared.trim.Stretch.{Stretch}
use Rattle.jsonc_insert.proofs.Additions.{rows_then}
use Rattle.jsonc_insert.proofs.EntriesPut.{entry_put}
use Rattle.jsonc_insert.proofs.Numbering.{element_row, same_brackets}
use Rattle.jsonc_insert.proofs.RowReplaced.{may_join, IsRowFor}
use Rattle.jsonc_insert.proofs.TrimmedRows.{trimmed_brackets}

some_length : (n : ℕ) → (n == 0) ≡ false → 0 < n
some_length zero e = absurd (false≢true (sym e))
some_length (suc n) e = omega arith

none_length : (n : ℕ) → (n == 0) ≡ true → n ≡ 0
none_length n e = eqb-true n 0 e

-- a stretch of the children of a container
module _ {A : Type 0} (ns : List Node) (tree : IsTree ns) (c : ℕ) (s : Stretch) (b : Blanks A) (at : StandsAt (children_at ns c) s b) where
  abbrev row : List ℕ
  row = children_at ns c

  abbrev nodes : List ℕ
  nodes = b.nodes.items

  many : length nodes ≡ s.to - s.from
  many = ap length at.nodes ∙ length-between row s.from s.to (omega (arith, at.to))

  node_at : (k : ℕ) → k < length nodes → slice_index nodes k ≡ slice_index row (s.from + k)
  node_at k h = ap (λ l. slice_index l k) at.nodes ∙ get_or-between row s.from s.to k 0 (omega (arith, h, many))

  node_said : (k : ℕ) → k < length nodes → parent_at ns (slice_index nodes k) ≡ Some c
  node_said k h = ap (parent_at ns) (node_at k h) ∙ tree.named c (s.from + k) (omega (arith, h, many, at.to))

  node_place : (k : ℕ) → k < length nodes → place_at ns (slice_index nodes k) ≡ s.from + k
  node_place k h = ap (place_at ns) (node_at k h) ∙ tree.placed c (s.from + k) (omega (arith, h, many, at.to))

  pub is_stretch : 0 < length nodes → IsStretch ns c (slice_index nodes 0) (slice_index nodes (length nodes - 1))
  is_stretch some = record {
    front = node_said 0 some;
    back = node_said (length nodes - 1) (omega (arith, some));
    order = omega (arith, node_place 0 some, node_place (length nodes - 1) (omega (arith, some)));
  }

  pub from_is : 0 < length nodes → place_at ns (slice_index nodes 0) ≡ s.from
  from_is some = node_place 0 some ∙ omega arith

  pub to_is : 0 < length nodes → place_at ns (slice_index nodes (length nodes - 1)) + 1 ≡ s.to
  to_is some = omega (arith, node_place (length nodes - 1) (omega (arith, some)), many, some)

  pub nothing_leaves : length nodes ≡ 0 → Splices ns ns c s.from s.to []
  nothing_leaves none =
      let same : s.to ≡ s.from = omega (arith, many, none, at.order) in
      let empty : slice_range row s.from s.to ≡ [] = nil_from_length (slice_range row s.from s.to) (omega (arith, none, ap length at.nodes)) in
      record {
        len = refl;
        content = λ n. refl;
        children = sym (ap (λ k. take s.from row ++ drop k row) same ∙ take-append-drop s.from row);
        others = λ n ne. refl;
        parents = λ n. sym (ap (λ l. cond (is_in n l) None (parent_at ns n)) empty);
      }

  pub removes : (given : List ℕ) → given ≡ nodes → (length given == 0) ≡ false → (new : List Node) → Splices ns new c (place_at ns (slice_index given 0)) (place_at ns (slice_index given (length given - 1)) + 1) [] → Splices ns new c s.from s.to []
  removes given same e new out =
      let some : 0 < length nodes = some_length (length nodes) (ap (λ l. length l == 0) (sym same) ∙ e) in
      subst (λ k. Splices ns new c k s.to []) (ap (λ l. place_at ns (slice_index l 0)) same ∙ from_is some)
      (subst (λ k. Splices ns new c (place_at ns (slice_index given 0)) k []) (ap (λ l. place_at ns (slice_index l (length l - 1)) + 1) same ∙ to_is some) out)

  after_place : place_at ns b.after ≡ s.from - 1
  after_place = ap (place_at ns) at.after ∙ tree.placed c (s.from - 1) (omega (arith, at.order, at.to))

  module _ (cur : List Node) (tc : IsTree cur) (out : Splices ns cur c s.from s.to []) where
    here : slice_index (children_at cur c) (s.from - 1) ≡ b.after
    here =
        ap (λ l. slice_index l (s.from - 1)) out.children
        ∙ get_or_append_left (take s.from row) (drop s.to row) 0 (s.from - 1) (omega (arith, at.from, at.order, at.to, length-take s.from row))
        ∙ get_or-take s.from row (s.from - 1) 0 (omega (arith, at.from)) ∙ sym at.after

    inside : s.from - 1 < length (children_at cur c)
    inside = omega (arith, ap length out.children, length-append (take s.from row) (drop s.to row), length-take s.from row, at.from, at.order, at.to)

    cur_said : parent_at cur b.after ≡ Some c
    cur_said = ap (parent_at cur) (sym here) ∙ tc.named c (s.from - 1) inside

    cur_place : place_at cur b.after ≡ s.from - 1
    cur_place = ap (place_at cur) (sym here) ∙ tc.placed c (s.from - 1) inside

    -- and nodes were added since
    module _ (mid : List Node) (keeps : Keeps (length cur) cur mid) (there : c < length ns) where
      pub mid_said : parent_at mid b.after ≡ Some c
      mid_said = keeps.parent b.after (parent_there cur tc b.after c cur_said).0 ∙ cur_said

      mid_place : place_at mid b.after + 1 ≡ s.from
      mid_place = omega (arith, place_kept cur mid tc keeps b.after c cur_said, cur_place, at.from)

      pub back_joins : CanJoin mid c (place_at mid b.after + 1) (place_at mid b.after + 1) nodes
      back_joins =
          subst (λ k. CanJoin mid c k k nodes) (sym mid_place)
          (subst (CanJoin mid c s.from s.from) (sym at.nodes)
          (CanJoin-kept cur mid tc c s.from s.from (slice_range row s.from s.to) (omega (arith, there, out.len)) keeps
          (CanJoin-gone ns cur c s.from s.to (slice_range row s.from s.to) out (CanJoin-back ns tree c s.from s.to (omega (arith, at.to))))))

      pub keeps_back : (new : List Node) → Splices mid new c (place_at mid b.after + 1) (place_at mid b.after + 1) nodes → Keeps (length ns) ns new
      keeps_back new put =
          Keeps-back ns cur mid new tree tc c s.from s.to there at.order (omega (arith, at.to)) out keeps
          (subst (Splices mid new c s.from s.from) at.nodes (subst (λ k. Splices mid new c k k nodes) mid_place put))

-- both are removed
module _ {A : Type 0} (old kept : List Node) (c : ℕ) (b : BlankLines A) (h : HaveLeft old kept c b) (tk : IsTree kept) where
  abbrev kids : List ℕ
  kids = children_at old c

  row_one : children_at h.one c ≡ without (last_gone old kids) kids
  row_one = h.last.children

  pub row_left : children_at kept c ≡ trimmed old kids
  row_left = h.first.children ∙ ap (without (first_gone old kids)) row_one

  pub first_at : StandsAt (children_at h.one c) (first_gone old kids) b.first
  first_at = subst (λ r. StandsAt r (first_gone old kids) b.first) (sym row_one) h.are.first

  pub left_becomes : RowBecomes old kept c
  left_becomes =
      rows_then old h.one kept tk c
      (RowBecomes-splice old h.one h.was h.tree c (last_gone old kids).from (last_gone old kids).to [] h.last)
      (RowBecomes-splice h.one kept h.tree tk c (first_gone old kids).from (first_gone old kids).to [] h.first)
      (λ n stood out. inl (row_shrinks old h.one h.was h.tree c (last_gone old kids).from (last_gone old kids).to h.last n stood))

-- both are put back
module _ {A : Type 0} (old mid : List Node) (c : ℕ) (b : BlankLines A) (r : WereRemoved old mid c b) where
  abbrev h : HaveLeft old r.kept c b
  h = r.left

  abbrev gone : Stretch
  gone = first_gone old (children_at old c)

  abbrev past : Stretch
  past = last_gone old (children_at old c)

  one_there : c < length h.one
  one_there = omega (arith, h.there, h.last.len)

  first : StandsAt (children_at h.one c) gone b.first
  first = first_at old r.kept c b h r.tree

  pub first_said : parent_at mid b.first.after ≡ Some c
  first_said = mid_said h.one h.tree c gone b.first first r.kept r.tree h.first mid r.later.keeps one_there

  pub first_joins : CanJoin mid c (place_at mid b.first.after + 1) (place_at mid b.first.after + 1) b.first.nodes.items
  first_joins = back_joins h.one h.tree c gone b.first first r.kept r.tree h.first mid r.later.keeps one_there

  module _ (next : List Node) (put : Splices mid next c (place_at mid b.first.after + 1) (place_at mid b.first.after + 1) b.first.nodes.items) where
    keeps_one : Keeps (length h.one) h.one next
    keeps_one = keeps_back h.one h.tree c gone b.first first r.kept r.tree h.first mid r.later.keeps one_there next put

    pub last_said : parent_at next b.last.after ≡ Some c
    last_said = mid_said old h.was c past b.last h.are.last h.one h.tree h.last next keeps_one h.there

    pub last_joins : CanJoin next c (place_at next b.last.after + 1) (place_at next b.last.after + 1) b.last.nodes.items
    last_joins = back_joins old h.was c past b.last h.are.last h.one h.tree h.last next keeps_one h.there

    pub all_back : (new : List Node) → Splices next new c (place_at next b.last.after + 1) (place_at next b.last.after + 1) b.last.nodes.items → Keeps (length old) old new
    all_back new more = keeps_back old h.was c past b.last h.are.last h.one h.tree h.last next keeps_one h.there new more

-- what is left has its brackets, and what comes in then has come in where blank lines were removed
module _ {A : Type 0} (old kept : List Node) (c : ℕ) (b : BlankLines A) (h : HaveLeft old kept c b) (tk : IsTree kept) (brackets : has_brackets old (children_at old c) ≡ true) where
  contents : (n : ℕ) → content_at kept n ≡ content_at old n
  contents n = h.first.content n ∙ h.last.content n

  pub left_brackets : has_brackets kept (children_at kept c) ≡ true
  left_brackets = ap (has_brackets kept) (row_left old kept c b h tk) ∙ same_brackets old kept contents (trimmed old (children_at old c)) ∙ trimmed_brackets old (children_at old c) brackets

  left_row : IsRowFor old old c (children_at kept c)
  left_row = subst (IsRowFor old old c) (sym (row_left old kept c b h tk)) (element_row old h.was c brackets)

  pub entry_left : is_container_at old c ≡ true → (new : List Node) (i : ℕ) (name : Option (List ℕ)) (v : Plain) (m : ℕ) → EntryPut kept new c (children_at kept c) i name v m → EntryPut old new c (trimmed old (children_at old c)) i name v m
  entry_left holds new i name v m e =
      subst (λ r. EntryPut old new c r i name v m) (row_left old kept c b h tk)
      (entry_put old h.was c h.there (children_at kept c) left_row holds kept new tk (left_becomes old kept c b h tk)
      (may_join old old h.was left_row.prepared c h.there (children_at kept c) left_row.once left_row.from) i name v m e)
