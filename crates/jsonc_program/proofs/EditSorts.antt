-- Objects that are sorted one after another, as one chain of documents.
use Rattle.std.proofs.Common.{◌≡◌, ◌≢◌, ◌∙◌, ◌⊎◌, ◌≤◌, ℕ, zero, suc, true, List, [], ◌∷◌, Option, Some, None, inl, inr, refl, sym, ap, subst, arith}
use Rattle.jsonc_text.specs.Documents.{Document}
use Rattle.jsonc_tree.specs.Content.{object}
use Rattle.jsonc_tree.specs.OrderedTree.{ordered_tree}
use Rattle.jsonc_tree.specs.Tree.{Node, content_at, parent_at, IsOver, IsTree, Rooted, above, itself, top, under}
use Rattle.jsonc_edit.specs.Paths.{IsAt}
use Rattle.jsonc_sound.specs.Documents.{Shows}
use Rattle.jsonc_run.specs.Edits as edits
use Rattle.jsonc_run.specs.promise.Within.{StaysWithin}
use Rattle.jsonc_run.specs.texts.Edits.{Operation, Run, options_behind, rearrange}
use Rattle.jsonc_run.proofs.lemmas.promise.Leads.{shown_are_documents}
use Rattle.jsonc_cst.specs.declared.cst.CstRootNode.{CstRootNode}
use Rattle.jsonc_cst.specs.declared.cst.node.CstObject.{CstObject}
use Rattle.jsonc_cst.specs.Document.{nodes_of, tree_of, HasNode}
use Rattle.jsonc_cst.specs.Nodes.{object_node}
use Rattle.jsonc_parser.proofs.lemmas.paths.Depths.{run_within}
use Rattle.jsonc_parser.proofs.lemmas.paths.Found.{is_object}
use Rattle.jsonc_program.specs.edit.Sorting.{HasSorted, SortsAt, SortsObjects, SortsWhatShown, none_left, one_sorted}
use Rattle.jsonc_program.proofs.EditMade.{run_options}

-- a node stands in the document, or it does not
module _ (ns : List Node) (tree : IsTree ns) where
  not_top : (n : ℕ) → n ≢ 0 → parent_at ns n ≡ None → IsOver ns 0 n → ⊥
  not_top _ ne said itself = ne refl
  not_top n ne said (above {c = d} h r) = let wrong : None ≡ Some d = sym said ∙ h in cc

  not_under : (n c : ℕ) → n ≢ 0 → parent_at ns n ≡ Some c → (IsOver ns 0 c → ⊥) → IsOver ns 0 n → ⊥
  not_under _ c ne said not itself = ne refl
  not_under n c ne said not (above {c = d} h r) =
      let both : Some d ≡ Some c = sym h ∙ said in
      let same : d ≡ c = cc in
      not (subst (IsOver ns 0) same r)

  no_zero : (k : ℕ) → suc k ≢ 0
  no_zero k e = cc

  decide : (n : ℕ) → Rooted ns n → (IsOver ns 0 n) ⊎ (IsOver ns 0 n → ⊥)
  decide zero (top said) = inl itself
  decide (suc k) (top said) = inr (not_top (suc k) (no_zero k) said)
  decide zero (under said rest) = inl itself
  decide (suc k) (under {c = c} said rest) =
      elim (decide c rest) [
        | inl over ↦ inl (above said over)
        | inr not ↦ inr (not_under (suc k) c (no_zero k) said not)
      ]

  pub over_or_not : (n : ℕ) → (IsOver ns 0 n) ⊎ (IsOver ns 0 n → ⊥)
  over_or_not n = decide n (tree.rooted n)

-- two chains are one
sorts_join : {d m e : Document} → SortsObjects d m → SortsObjects m e → SortsObjects d e
sorts_join (none_left is) more = more
sorts_join (one_sorted path first rest) more = one_sorted path first (sorts_join rest more)

-- a sort of one object at a place of a document
module _ {A : Type 0} (old new : CstRootNode A) (x : CstObject) (tree : IsTree (nodes_of old)) (held : HasNode old (object_node x)) (sorted : HasSorted (nodes_of old) (nodes_of new) x.number) where
  pub over_place : (over : IsOver (nodes_of old) 0 x.number) (d : Document) (shown : Shows d (tree_of old))
      → (path : List ℕ) × IsAt (nodes_of old) path x.number × (e : Document) × Shows e (tree_of new) × (e.options ≡ d.options) × StaysWithin d e × SortsAt path d e
  over_place over d shown =
      let s = sorted.step over d shown in
      let l = s.2 tt in
      let asked = edits.rearrange true s.0 sorted.headers sorted.order in
      let run : Run d (rearrange true s.0 sorted.order ∷ []) l.0 = subst (λ op. Run d (op ∷ []) l.0) l.3.1 l.4 in
      let is : content_at (nodes_of old) x.number ≡ object = is_object old tree x held in (
        s.0,
        s.1,
        l.0,
        l.1,
        run_options run (rearrange true s.0 sorted.order) refl,
        run_within asked l.3 l.4 (omega arith),
        record {
          nodes = nodes_of old;
          shown = shown;
          object_node = x.number;
          at = s.1;
          is_object = is;
          order = sorted.order;
          by_name = sorted.by_name d.options s.0 shown.sound s.1 is;
          sorted = run;
        },
      )

  one_more : SortsWhatShown old new
  one_more d shown =
      elim (over_or_not (nodes_of old) tree x.number) [
        | inl over ↦
            let m = over_place over d shown in
            (m.2, m.3, m.4, m.5, one_sorted m.0 m.6 (none_left (shown_are_documents (tree_of new) m.2 m.3)))
        | inr not ↦ (d, subst (Shows d) (sym (sorted.detached not)) shown, refl, (λ within. within), none_left (shown_are_documents (tree_of old) d shown))
      ]

pub sorts_begin : {A : Type 0} (doc : CstRootNode A) → SortsWhatShown doc doc
sorts_begin doc d shown = (d, shown, refl, (λ within. within), none_left (shown_are_documents (tree_of doc) d shown))

pub sorts_further : {A : Type 0} (old mid new : CstRootNode A) (x : CstObject) → IsTree (nodes_of mid) → HasNode mid (object_node x) → SortsWhatShown old mid → HasSorted (nodes_of mid) (nodes_of new) x.number
    → SortsWhatShown old new
sorts_further old mid new x tree held so_far sorted d shown =
    let m = so_far d shown in
    let e = one_more mid new x tree held sorted m.0 m.1 in
    (e.0, e.1, e.2 ∙ m.2, (λ within. e.3 (m.3 within)), sorts_join m.4 e.4)
