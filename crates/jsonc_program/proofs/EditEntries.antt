-- The entry that a value is, or that has it, and what is made of a document that it has left with its comments.
use Rattle.std.proofs.Common.{◌≡◌, ◌≢◌, ◌∙◌, ◌⊎◌, ◌&&◌, ◌<◌, ◌≤◌, ◌++◌, ℕ, Bool, true, false, cond, List, [], ◌∷◌, Err, Ok, Option, Result, Some, None, option_map, inl, inr, refl, sym, ap, subst, arith}
use Rattle.std.proofs.lemmas.Bool.{cases_Bool}
use Rattle.std.specs.Prelude.{IsTrue}
use Rattle.jsonc_text.specs.Documents.{Document, IsOne}
use Rattle.jsonc_text.specs.Gaps.{is_blank}
use Rattle.jsonc_text.specs.Options.{Options}
use Rattle.jsonc_text.specs.Plain.{Plain}
use Rattle.jsonc_text.specs.declared.edit.EditError.{EditError}
use Rattle.jsonc_text.specs.declared.edit.EditError.TheVariants.{OutOfMemory}
use Rattle.jsonc_tree.specs.Content as content
use Rattle.jsonc_tree.specs.Content.{Content}
use Rattle.jsonc_tree.specs.OrderedTree.{OrderedTree, ordered_tree}
use Rattle.jsonc_tree.specs.Tree.{Node, content_at, parent_at, IsOver, IsTree, above}
use Rattle.jsonc_tree.specs.Values as values
use Rattle.jsonc_tree.specs.Values.{ValueOf}
use Rattle.jsonc_layout.specs.lines.Indents.{is_some_property}
use Rattle.jsonc_layout.specs.lines.Kinds.{is_array_or_object}
use Rattle.jsonc_layout.specs.nodes.Kinds.{is_element_at, is_property}
use Rattle.jsonc_layout.specs.nodes.Properties.{value_at}
use Rattle.jsonc_sound.specs.Documents.{Shows}
use Rattle.jsonc_edit.specs.Changes.{row_below, top_at}
use Rattle.jsonc_edit.specs.Paths as paths
use Rattle.jsonc_edit.specs.Paths.{IsAt, IsElementOf, IsHeldBy, LeadsTo, StepsTo}
use Rattle.jsonc_edit.specs.remove.Removed.{has_brackets}
use Rattle.jsonc_edit.proofs.ShapedPlaces.{at_further}
use Rattle.jsonc_edit.proofs.Uniqueness.{element_parent, over_at, path_once}
use Rattle.jsonc_insert.specs.named.Places.{IsPropertyAt, IsPropertyOf, a_property}
use Rattle.jsonc_insert.proofs.lemmas.named.PropertyValues.{value_held}
use Rattle.jsonc_run.specs.Edits as plainly
use Rattle.jsonc_run.specs.Places.{IsEntryAt, IsEntryOf, an_entry, the_value}
use Rattle.jsonc_run.specs.Places as places
use Rattle.jsonc_walk.specs.Refusals.{IsWithin}
use Rattle.jsonc_run.specs.promise.Within.{StaysWithin}
use Rattle.jsonc_run.specs.texts.Edits as texts
use Rattle.jsonc_run.specs.texts.Edits.{Run, options_behind}
use Rattle.jsonc_run.specs.texts.Stretches as stretches
use Rattle.jsonc_run.specs.texts.Stretches.{Without}
use Rattle.jsonc_run.proofs.lemmas.promise.Leads.{shown_are_documents}
use Rattle.jsonc_cst.specs.declared.cst.CstRootNode.{CstRootNode}
use Rattle.jsonc_cst.specs.declared.cst.node.CstContainerNode.{CstContainerNode}
use Rattle.jsonc_cst.specs.declared.cst.node.CstNode.{CstNode}
use Rattle.jsonc_cst.specs.declared.cst.node.CstNullKeyword.{CstNullKeyword}
use Rattle.jsonc_cst.specs.Document.{nodes_of, parent_of, tree_of, HasNode}
use Rattle.jsonc_cst.specs.EntryComments.{comment_numbers, comments_at, is_entry_at, is_entry_in}
use Rattle.jsonc_cst.specs.Nodes.{container_of, null_keyword_node, number_of, object_prop_node, typed, typed_container}
use Rattle.jsonc_cst.specs.typed.Calls.{IsEntryRemoval}
use Rattle.jsonc_cst.specs.typed.Clearing.{LosesComments, RemovesBlanks, RemovesComment, none_left, not_there, one_kept, one_removed}
use Rattle.jsonc_cst.specs.typed.Removing.{AreClearedIfAny, IsTakenWithComments, is_name_or_value, removal_of}
use Rattle.jsonc_parser.proofs.lemmas.paths.Depths.{run_within}
use Rattle.jsonc_parser.proofs.lemmas.paths.TakenValues.{nodes_have_values}
use Rattle.jsonc_engine.specs.declared.fault.Fault.TheVariants as told
use Rattle.jsonc_program.specs.declared.edit.fault.EditFault.TheVariants as faults
use Rattle.jsonc_program.specs.edit.Asked.{remove}
use Rattle.jsonc_program.specs.edit.Faults.{FailsWhatShown, IsWhyNot}
use Rattle.jsonc_program.specs.edit.Making.{LeavesWithComments, MadeBy, MakesWhatShown, entry_comments}
use Rattle.jsonc_program.specs.edit.Routes.{IsLedTo, Route, entry_of, entry_under}
use Rattle.jsonc_program.proofs.EditComments.{kind_still, over_still}
use Rattle.jsonc_program.proofs.EditMade.{run_options}
use Rattle.jsonc_program.proofs.EditRoutes.{no_property_value}

-- a node that is removed as values are
abbrev some_value : CstNode
some_value = null_keyword_node (record { number = 0 })

-- the last step of the way to a node
module _ (ns : List Node) where
  LastOf : ℕ → ℕ → List ℕ → Type 0
  LastOf v n path = ((v ≡ n) × (path ≡ [])) ⊎ ((front : List ℕ) × (p : ℕ) × (i : ℕ) × LeadsTo ns p v front × StepsTo ns p i n × (path ≡ front ++ i ∷ []))

  last_of : {n v : ℕ} {path : List ℕ} → LeadsTo ns n v path → LastOf v n path
  unfolding LastOf
  last_of paths.itself = inl (refl, refl)
  last_of {n = n} (paths.step {p = p} {i = i} {path = path} s l) =
      elim (last_of l) [
        | inl end ↦ inr ([], p, i, paths.itself, subst (StepsTo ns p i) end.0 s, ap (λ k. i ∷ k) end.1)
        | inr more ↦ inr (i ∷ more.0, more.1, more.2, paths.step s more.3, more.4, ap (λ k. i ∷ k) more.5)
      ]

-- values are elements, with what is removed with them
value_kind : (o : Options) (c : Content) (below : OrderedTree) (v : Plain) → ValueOf o c below v → (n : ℕ) → removal_of (typed c n) ≡ removal_of some_value
value_kind o _ below _ (values.object h) n = refl
value_kind o _ below _ (values.array h) n = refl
value_kind o _ below _ (values.string h) n = refl
value_kind o _ below _ values.number n = refl
value_kind o _ below _ values.boolean n = refl
value_kind o _ below _ values.null n = refl

some_number : {x y : ℕ} → Some x ≡ Some y → x ≡ y
some_number e = cc

-- the entry n at the path, in its container
pub record EntryThere (ns : List Node) (over : List ℕ) (node : CstNode) : Type 0 where
  container : ℕ
  said : parent_at ns (number_of node) ≡ Some container
  at : IsEntryAt ns over (number_of node)
  outer : is_property (content_at ns container) ≡ false
  inside : IsOver ns 0 container
  kind : removal_of node ≡ removal_of some_value
  one : (p : List ℕ) → IsEntryAt ns p (number_of node) → p ≡ over

module _ {A : Type 0} (old : CstRootNode A) (tree : IsTree (nodes_of old)) (d : Document) (shown : Shows d (tree_of old)) (value : CstNode) (held : HasNode old value) (over : List ℕ) (at : IsAt (nodes_of old) over (number_of value)) where
  abbrev ns : List Node
  ns = nodes_of old

  abbrev q : ℕ
  q = number_of value

  -- a node at positions is no property
  no_property_at : (path : List ℕ) (n : ℕ) → IsAt ns path n → content_at ns n ≡ content.property → ⊥
  no_property_at path n there is =
      let h = nodes_have_values {A = Unit {0}} d ns path n tree shown there in
      no_property_value d.options (content_at ns n) (row_below ns n) h.v is h.has

  value_is : removal_of value ≡ removal_of some_value
  value_is =
      let h = nodes_have_values {A = Unit {0}} d ns over q tree shown at in
      ap removal_of (sym held.1) ∙ value_kind d.options (content_at ns q) (row_below ns q) h.v h.has q

  -- the value itself, where it is no property's
  one_value : (p : List ℕ) → IsEntryAt ns p q → p ≡ over
  one_value _ (the_value there) = path_once ns tree [] over q there at
  one_value _ (an_entry front c i there (places.in_array is e)) = path_once ns tree (front ++ i ∷ []) over q (at_further ns c i q front there (paths.in_array is e)) at
  one_value _ (an_entry front c i there (places.in_object is)) = absurd (no_property_at over q at is.is)

  as_value : (c : ℕ) → parent_at ns q ≡ Some c → IsEntryAt ns over q → is_property (content_at ns c) ≡ false → IsOver ns 0 c → EntryThere ns over value
  as_value c said there outer inside = record { container = c; said = said; at = there; outer = outer; inside = inside; kind = value_is; one = one_value }

  not_property : (c : Content) (k : ℕ) → is_property c ≡ false → entry_under value (Some (typed_container c k)) ≡ value
  not_property content.property k e = cc
  not_property c k e = refl

  itself_is : (c : ℕ) → parent_at ns q ≡ Some c → is_property (content_at ns c) ≡ false → entry_of old value ≡ value
  itself_is c said outer = ap (λ o. entry_under value (option_map (container_of ns) o)) said ∙ not_property (content_at ns c) c outer

  property_is : (r : ℕ) → parent_at ns q ≡ Some r → content_at ns r ≡ content.property → entry_of old value ≡ object_prop_node (record { number = r })
  property_is r said is = ap (λ o. entry_under value (option_map (container_of ns) o)) said ∙ ap (λ c. entry_under value (Some (typed_container c r))) is

  -- a property that has the value
  module _ (front : List ℕ) (p i r : ℕ) (there : IsAt ns front p) (object : content_at ns p ≡ content.object) (element : IsElementOf ns p i r) (holds : IsHeldBy ns r q) (is : over ≡ front ++ i ∷ []) where
    one_property : (k : List ℕ) → IsEntryAt ns k r → k ≡ over
    one_property _ (the_value at_root) = absurd (no_property_at [] r at_root holds.0)
    one_property _ (an_entry first c j at_first (places.in_array array e)) = absurd (no_property_at (first ++ j ∷ []) r (at_further ns c j r first at_first (paths.in_array array e)) holds.0)
    one_property _ (an_entry first c j at_first (places.in_object inside)) =
        let has = value_held d.options ns tree shown.sound (first ++ j ∷ []) r (a_property first c j at_first inside) in
        let same : has.value ≡ q = some_number (sym has.holds ∙ holds.2) in
        path_once ns tree (first ++ j ∷ []) over q (subst (IsAt ns (first ++ j ∷ [])) same has.at) at

    as_property : EntryThere ns over (object_prop_node (record { number = r }))
    as_property = record {
      container = p;
      said = element_parent ns tree p i r element;
      at = subst (λ k. IsEntryAt ns k r) (sym is) (an_entry front p i there (places.in_object (record { of_object = object; element = element; is = holds.0 })));
      outer = ap is_property object;
      inside = over_at ns tree front p there;
      kind = refl;
      one = one_property;
    }

  steps : (front : List ℕ) (p i : ℕ) → IsAt ns front p → StepsTo ns p i q → over ≡ front ++ i ∷ [] → (node : CstNode) × (node ≡ entry_of old value) × EntryThere ns over node
  steps front p i there (paths.in_array array element) is =
      let said = element_parent ns tree p i q element in
      let outer : is_property (content_at ns p) ≡ false = ap is_property array in
      (value, sym (itself_is p said outer), as_value p said (subst (λ k. IsEntryAt ns k q) (sym is) (an_entry front p i there (places.in_array array element))) outer (over_at ns tree front p there))
  steps front p i there (paths.in_object {r = r} object element holds) is =
      (object_prop_node (record { number = r }), sym (property_is r (element_parent ns tree r 1 q holds.1) holds.0), as_property front p i r there object element holds is)

  pub entry_there : (node : CstNode) × (node ≡ entry_of old value) × EntryThere ns over node
  unfolding LastOf
  entry_there =
      elim (last_of ns at.2) [
        | inl whole ↦
            let first : IsElementOf ns 0 0 q = subst (IsElementOf ns 0 0) whole.0 at.1 in
            let said = element_parent ns tree 0 0 q first in
            let outer : is_property (content_at ns 0) ≡ false = ap is_property tree.root_first in
            (value, sym (itself_is 0 said outer), as_value 0 said (subst (λ k. IsEntryAt ns k q) (sym whole.1) (the_value (subst (λ k. IsAt ns k q) whole.1 at))) outer IsOver.itself)
        | inr inner ↦ steps inner.0 inner.1 inner.2 (at.0, at.1, inner.3) inner.4 inner.5
      ]

-- comments that leave change neither options nor value
loses_options : {c : ℕ} {new : List Node} {e : Document} {ns : List Node} {d : Document} {numbers : List ℕ} → LosesComments c new e ns d numbers → (e.options ≡ d.options) × (e.value ≡ d.value)
loses_options (none_left one blanks last shown) = (blanks.1, blanks.2.0)
loses_options (not_there away more) = loses_options more
loses_options (one_kept wants more) = loses_options more
loses_options (one_removed mid m number said is one removes shown more) =
    let rest = loses_options more in
    (rest.0 ∙ options_of removes, rest.1 ∙ value_of removes)
  where
    options_of : {n : ℕ} {x y : Document} → RemovesComment n x y → y.options ≡ x.options
    options_of (front, before, comment, after, back, text, rest, line, whole, options, value, ahead, behind, s, parted, marks, number) = options

    value_of : {n : ℕ} {x y : Document} → RemovesComment n x y → y.value ≡ x.value
    value_of (front, before, comment, after, back, text, rest, line, whole, options, value, ahead, behind, s, parted, marks, number) = value

without_none : (p : ℕ → Bool) (s : List ℕ) → Without p s s
without_none p [] = stretches.ended
without_none p (x ∷ xs) = stretches.stays (without_none p xs)

module _ {A : Type 0} (old new : CstRootNode A) (tree : IsTree (nodes_of old)) (d : Document) (shown : Shows d (tree_of old)) (over : List ℕ) (node : CstNode) (there : EntryThere (nodes_of old) over node) where
  abbrev before : List Node
  before = nodes_of old

  abbrev n : ℕ
  n = number_of node

  abbrev c : ℕ
  c = there.container

  no_name : is_name_or_value before n ≡ false
  no_name = ap (λ o. is_element_at before n && is_some_property before o) there.said ∙ ap (λ b. is_element_at before n && b) there.outer ∙ none (is_element_at before n)
    where
      none : (b : Bool) → b && false ≡ false
      none true = refl
      none false = refl

  no_part : (k : ℕ) → parent_at before n ≡ Some k → content_at before k ≢ content.property
  no_part k said is =
      let same : c ≡ k = some_number (sym there.said ∙ said) in
      let wrong : false ≡ true = sym there.outer ∙ ap (λ m. is_property (content_at before m)) same ∙ ap is_property is in
      cc

  no_entry : is_array_or_object (content_at before c) ≡ false → entry_comments before n ≡ []
  no_entry closed = ap (λ b. cond b (comments_at before n) []) entry_so
    where
      none : (a b : Bool) → a && (false && b) ≡ false
      none true b = refl
      none false b = refl

      entry_so : is_entry_at before n ≡ false
      entry_so =
          ap (λ o. is_entry_in before n o) there.said
          ∙ ap (λ b. is_element_at before n && (b && has_brackets before c)) closed ∙ none (is_element_at before n) (has_brackets before c)

  module _ (t : IsTakenWithComments (removal_of some_value) before (nodes_of new) n c (entry_comments before n)) where
    record Left : Type 0 where
      mid : Document
      mid_shown : Shows mid (ordered_tree t.without 0)
      run : MadeBy (texts.remove over) d mid
      within : StaysWithin d mid

    left : Left
    left =
        let s = t.step no_part (above there.said there.inside) d shown in
        let l = s.2 tt in
        let run : Run d (texts.remove s.0 ∷ []) l.0 = subst (λ op. Run d (op ∷ []) l.0) l.3.1 l.4 in
        record {
          mid = l.0;
          mid_shown = l.1;
          run = subst (λ p. MadeBy (texts.remove p) d l.0) (there.one s.0 s.1) run;
          within = run_within (plainly.remove s.0) l.3 l.4 (omega arith);
        }

    record Cleared (m : Document) : Type 0 where
      e : Document
      shows : Shows e (tree_of new)
      loses : LosesComments c (nodes_of new) e t.without m (entry_comments before n)

    cleared : (m : Document) → Shows m (ordered_tree t.without 0) → Cleared m
    cleared m m_shown =
        elim (cases_Bool (is_array_or_object (content_at before c))) [
          | inl opened ↦
              let holds : IsTrue (is_array_or_object (content_at t.without c)) = ap is_array_or_object (kind_still before tree c there.inside t.without n there.said t.taken) ∙ opened in
              let s = t.steps (over_still before tree c there.inside t.without n there.said t.taken) holds m m_shown in
              record { e = s.0; shows = s.1; loses = s.2 }
          | inr closed ↦
              let none = no_entry closed in
              let same : nodes_of new ≡ t.without = subst (λ l. AreClearedIfAny t.without (nodes_of new) c l) none t.cleared in
              let one : IsOne m = shown_are_documents (ordered_tree t.without 0) m m_shown in
              let shows : Shows m (tree_of new) = subst (λ l. Shows m (ordered_tree l 0)) (sym same) m_shown in
              record {
                e = m;
                shows = shows;
                loses = subst (λ l. LosesComments c (nodes_of new) m t.without m l) (sym none) (none_left one (without_none is_blank m.text, refl, (refl, refl)) one shows);
              }
        ]

    pub left_so : (e : Document) × Shows e (tree_of new) × (e.options ≡ d.options) × StaysWithin d e × LeavesWithComments over d e
    left_so =
        let l = left in
        let m = cleared l.mid l.mid_shown in
        let same = loses_options m.loses in (
          m.e,
          m.shows,
          same.0 ∙ run_options l.run (texts.remove over) refl,
          (λ old_within. subst IsWithin (sym same.1) (l.within old_within)),
          record {
            nodes = before;
            shown = shown;
            n = n;
            at = there.at;
            container = c;
            inside = there.said;
            without = t.without;
            mid = l.mid;
            left = l.run;
            new = nodes_of new;
            comments = m.loses;
          },
        )

  pub removed_so : IsEntryRemoval old new node (Ok tt) → (e : Document) × Shows e (tree_of new) × (e.options ≡ d.options) × StaysWithin d e × LeavesWithComments over d e
  removed_so removal =
      let t = (removal.removed no_name).removed c there.said in
      left_so (subst (λ r. IsTakenWithComments r before (nodes_of new) n c (entry_comments before n)) there.kind t)

-- what a route leads to has left with its comments
pub removed_with_comments : {A : Type 0} (old new : CstRootNode A) → IsTree (nodes_of old) → (route : Route) (value : CstNode) → HasNode old value → IsLedTo old route (Some value) → (in_object : Bool)
    → IsEntryRemoval old new (entry_of old value) (Ok tt) → MakesWhatShown (remove route in_object true true) old new
removed_with_comments old new tree route value held led in_object removal d shown may =
    let w = led d shown in
    let there = entry_there old tree d shown value held w.0 w.3 in
    let m = removed_so old new tree d shown w.0 there.0 there.2 (subst (λ k. IsEntryRemoval old new k (Ok tt)) (sym there.1) removal) in
    (m.0, m.1, record { options = m.2; within = m.3; makes = inl (w.0, w.1, w.2, m.4) })

-- why it has not
pub kept_with_comments : {A : Type 0} (old new : CstRootNode A) → IsTree (nodes_of old) → (route : Route) (value : CstNode) → HasNode old value → IsLedTo old route (Some value) → (in_object : Bool) (why : EditError)
    → IsEntryRemoval old new (entry_of old value) (Err why) → FailsWhatShown {A = A} (remove route in_object true true) old (faults.Engine (told.Edit why))
kept_with_comments {A = A} old new tree route value held led in_object why removal d shown =
    let w = led d shown in
    let there = entry_there old tree d shown value held w.0 w.3 in
    let entry = there.2 in
    let removed = subst (λ k. IsEntryRemoval old new k (Err why)) (sym there.1) removal in
    let memory : why ≡ OutOfMemory = (removed.removed (no_name old new tree d shown w.0 there.0 entry)).memory d.options shown.sound (above entry.said entry.inside) in
    subst (λ e. IsWhyNot {A = A} (remove route in_object true true) (faults.Engine (told.Edit e)) d) (sym memory) tt
