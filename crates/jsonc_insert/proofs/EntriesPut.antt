-- What came in where the row of its container had become another has come in at once.
use Rattle.std.proofs.Common.{◌≡◌, ◌<◌, ◌⊎◌, inl, inr, ℕ, true, List, length, Option, Some, None, sym, ap, subst, ◌∙◌, arith}
use Rattle.std.specs.List.{splice}
use Rattle.jsonc_text.specs.Plain.{Plain}
use Rattle.jsonc_tree.specs.Changes.{CanJoin, Splices}
use Rattle.jsonc_tree.specs.Tree.{Node, children_at, is_container_at, is_in, parent_at, IsTree}
use Rattle.jsonc_tree.proofs.RowSteps.{RowBecomes}
use Rattle.jsonc_edit.specs.Put.{Extends}
use Rattle.jsonc_insert.specs.Inserted.{plan_of, EntryPut, RowMade}
use Rattle.jsonc_insert.specs.Settings.{layout_inside, outer_indent}
use Rattle.jsonc_insert.specs.members.Inserted.{PropertyPut}
use Rattle.jsonc_insert.specs.members.Opened.{IsBefore}
use Rattle.jsonc_insert.proofs.Additions.{free_by, made_before, ready, ready_becomes, ready_extends, rows_then, there_in, whole_row}
use Rattle.jsonc_insert.proofs.RowReplaced.{made_joins, IsRowFor}

module _ (old lined : List Node) (tree : IsTree old) (c : ℕ) (there : c < length old) (was : List ℕ) (b : IsRowFor old lined c was) (holds : is_container_at lined c ≡ true) (cur new : List Node) (tc : IsTree cur) (step : RowBecomes lined cur c) (join : CanJoin lined c 0 (length (children_at lined c)) (children_at cur c))
    (i : ℕ) (name : Option (List ℕ)) (v : Plain) (m : ℕ) (e : EntryPut cur new c was i name v m) where
  pub tl : IsTree lined
  tl = b.prepared.tree

  pub at : c < length lined
  at = omega (arith, there, b.prepared.keeps.len)

  -- the nodes to which all was added before
  abbrev pub first : List Node
  first = ready lined cur e.ready tl tc e.prepared.tree c at holds step join e.prepared.keeps

  pub extends : Extends lined first
  extends = ready_extends lined cur e.ready tl tc e.prepared.tree c at holds step join e.prepared.keeps

  same : children_at lined c ≡ children_at old c
  same = b.prepared.keeps.children c there

  has_row : children_at e.made.kept c ≡ was
  has_row = e.made.has.put.children ∙ whole_row (children_at cur c) was

  to_kept : RowBecomes lined e.made.kept c
  to_kept =
      rows_then lined cur e.made.kept e.made.has.tree c step (subst (Splices cur e.made.kept c 0 (length (children_at cur c))) (sym has_row) e.made.has.put)
      (λ n stood out. free_by lined c (children_at cur c) join n stood)

  pub made : RowMade lined first c was i name v m e.row
  made = record {
    kept = e.made.kept;
    has = record { put = subst (Splices lined e.made.kept c 0 (length (children_at lined c))) has_row to_kept; tree = e.made.has.tree };
    comma = e.made.comma;
    before = e.made.before;
    behind = e.made.behind;
    made = made_before lined cur e.ready tl tc e.prepared.tree c at holds step join e.prepared.keeps (layout_inside e.made.kept c) (outer_indent e.made.kept c) (plan_of e.made.kept c i name v) name v m e.made.comma e.made.before e.made.behind e.made.made;
    is = e.made.is;
  }

  cur_there : c < length cur
  cur_there = omega (arith, at, step.len)

  row_mid : children_at e.ready c ≡ children_at cur c
  row_mid = e.prepared.keeps.children c cur_there

  row_new : children_at new c ≡ e.row
  row_new = e.put.children ∙ ap (λ k. splice (children_at e.ready c) 0 k e.row) (ap length (sym row_mid)) ∙ whole_row (children_at e.ready c) e.row

  last : RowBecomes e.ready new c
  last = subst (λ k. Splices e.ready new c 0 k (children_at new c)) (ap length (sym row_mid)) (subst (Splices e.ready new c 0 (length (children_at cur c))) (sym row_new) e.put)

  stood_before : (n : ℕ) → is_in n (children_at cur c) ≡ true → (is_in n (children_at lined c) ≡ true) ⊎ (parent_at lined n ≡ None) → (is_in n (children_at first c) ≡ true) ⊎ (parent_at first n ≡ None)
  stood_before n stood (inl here) = inl (ap (is_in n) (extends.keeps.children c at) ∙ here)
  stood_before n stood (inr alone) = inr (extends.keeps.parent n (omega (arith, there_in cur tc c n stood, step.len)) ∙ alone)

  all : RowBecomes first new c
  all =
      rows_then first e.ready new e.tree c (ready_becomes lined cur e.ready tl tc e.prepared.tree c at holds step join e.prepared.keeps) last
      (λ n stood out. let here : is_in n (children_at cur c) ≡ true = ap (is_in n) (sym row_mid) ∙ stood in stood_before n here (free_by lined c (children_at cur c) join n here))

  pub put : Splices first new c 0 (length (children_at old c)) e.row
  put =
      subst (λ k. Splices first new c 0 k e.row) (ap length (extends.keeps.children c at ∙ same))
      (subst (Splices first new c 0 (length (children_at first c))) row_new all)

  pub takes : CanJoin first c 0 (length (children_at old c)) e.row
  takes = made_joins old lined tree c was b first there extends i name v m e.row made

-- an element, or a property in an object that had the end of a line
pub entry_put : (old : List Node) (tree : IsTree old) (c : ℕ) (there : c < length old) (was : List ℕ) (b : IsRowFor old old c was) (holds : is_container_at old c ≡ true) (cur new : List Node) (tc : IsTree cur) (step : RowBecomes old cur c) (join : CanJoin old c 0 (length (children_at old c)) (children_at cur c))
    (i : ℕ) (name : Option (List ℕ)) (v : Plain) (m : ℕ) → EntryPut cur new c was i name v m → EntryPut old new c was i name v m
entry_put old tree c there was b holds cur new tc step join i name v m e = record {
  ready = first old old tree c there was b holds cur new tc step join i name v m e;
  row = e.row;
  prepared = extends old old tree c there was b holds cur new tc step join i name v m e;
  made = made old old tree c there was b holds cur new tc step join i name v m e;
  join = takes old old tree c there was b holds cur new tc step join i name v m e;
  put = put old old tree c there was b holds cur new tc step join i name v m e;
  tree = e.tree;
}

-- a property in an object that was put on several lines before
pub property_put : (old lined : List Node) (tree : IsTree old) (c : ℕ) (there : c < length old) (was : List ℕ) (before : IsBefore old lined c was) (b : IsRowFor old lined c was) (holds : is_container_at lined c ≡ true) (cur new : List Node) (tc : IsTree cur) (step : RowBecomes lined cur c) (join : CanJoin lined c 0 (length (children_at lined c)) (children_at cur c))
    (i : ℕ) (name : List ℕ) (v : Plain) (m : ℕ) → EntryPut cur new c was i (Some name) v m → PropertyPut old new c i name v m
property_put old lined tree c there was before b holds cur new tc step join i name v m e = record {
  lined = lined;
  was = was;
  before = before;
  ready = first old lined tree c there was b holds cur new tc step join i (Some name) v m e;
  row = e.row;
  prepared = extends old lined tree c there was b holds cur new tc step join i (Some name) v m e;
  made = made old lined tree c there was b holds cur new tc step join i (Some name) v m e;
  join = takes old lined tree c there was b holds cur new tc step join i (Some name) v m e;
  put = put old lined tree c there was b holds cur new tc step join i (Some name) v m e;
  tree = e.tree;
}
