-- What is made of a document where a route leads, and why it is not.
use Rattle.std.proofs.Common.{◌≡◌, ◌≢◌, ◌∙◌, ◌⊎◌, ◌<◌, ◌≤◌, ◌+◌, ℕ, zero, suc, Bool, true, false, List, [], ◌∷◌, Option, Some, None, get_or, is_some, length, option_map, chars, inl, inr, refl, sym, ap, subst, arith}
use Rattle.std.proofs.lemmas.Bool.{false≢true}
use Rattle.std.specs.List.{All}
use Rattle.std.specs.Prelude.{string_bytes}
use Rattle.std.specs.declared.string.String.{String}
use Rattle.std.specs.declared.vec.Vec.{Vec}
use Rattle.jsonc_text.specs.Documents.{Document}
use Rattle.jsonc_text.specs.Options.{Options}
use Rattle.jsonc_text.specs.Plain as plains
use Rattle.jsonc_text.specs.Plain.{Members, Plain}
use Rattle.jsonc_text.specs.declared.edit.EditError.{EditError}
use Rattle.jsonc_text.specs.declared.edit.EditError.TheVariants.{InvalidComment, LineContinues, MissingBrackets, MissingName, NestingDepthExceeded, NoSuchPlace, NotAnEntry, OutOfMemory}
use Rattle.jsonc_text.specs.declared.edit.Over.TheVariants.{Keep}
use Rattle.jsonc_text.specs.declared.edit.Place as sides
use Rattle.jsonc_text.specs.declared.edit.Place.TheVariants.{Above, After}
use Rattle.jsonc_edit.specs.Changes.{row_below, top_at}
use Rattle.jsonc_edit.specs.Paths.{IsAt}
use Rattle.jsonc_edit.proofs.Uniqueness.{over_at, path_once}
use Rattle.jsonc_insert.proofs.lemmas.named.PathValues.{value_once}
use Rattle.jsonc_layout.specs.input.Views.{chars_of, plain}
use Rattle.jsonc_layout.specs.declared.input.value.CstInputValue.{CstInputValue}
use Rattle.jsonc_tree.specs.Content as contents
use Rattle.jsonc_tree.specs.Content.{Content, object}
use Rattle.jsonc_layout.specs.nodes.Properties.{value_at}
use Rattle.jsonc_tree.specs.OrderedTree.{ordered_tree}
use Rattle.jsonc_tree.specs.Tree.{Node, content_at, IsTree}
use Rattle.jsonc_sound.specs.Changes as changes
use Rattle.jsonc_sound.specs.Changes.{Changed}
use Rattle.jsonc_sound.specs.Documents.{Shows}
use Rattle.jsonc_sound.specs.Sound.{HasValue}
use Rattle.jsonc_run.specs.Edits as plainly
use Rattle.jsonc_run.specs.Edits.{Fits}
use Rattle.jsonc_run.specs.Named.{Asks, HasPropertyAt, StandsAt}
use Rattle.jsonc_run.specs.declared.edit.Edit.{Edit}
use Rattle.jsonc_run.specs.declared.edit.Edit.TheVariants.{InsertComment, Remove, RenameProperty, Replace}
use Rattle.jsonc_run.specs.promise.Asked.{EditsTheText, in_order}
use Rattle.jsonc_run.specs.promise.Within.{StaysWithin}
use Rattle.jsonc_run.specs.texts.Edits as texts
use Rattle.jsonc_run.specs.texts.Edits.{Operation, Run, options_behind}
use Rattle.jsonc_run.proofs.AskedPlaces.{place_asked}
use Rattle.jsonc_run.proofs.lemmas.promise.Plains.{what_stands}
use Rattle.jsonc_cst.specs.declared.cst.CstRootNode.{CstRootNode}
use Rattle.jsonc_cst.specs.declared.cst.node.CstNode.{CstNode}
use Rattle.jsonc_cst.specs.declared.cst.node.CstObject.{CstObject}
use Rattle.jsonc_cst.specs.Document.{nodes_of, tree_of, HasNode}
use Rattle.jsonc_cst.specs.Nodes.{number_of, object_node, typed, typed_at}
use Rattle.jsonc_cst.specs.Readings.{object_if, value_under}
use Rattle.jsonc_parser.proofs.lemmas.paths.AtPaths.{root_holds}
use Rattle.jsonc_parser.specs.paths.Settings.{IsNoObject}
use Rattle.jsonc_parser.specs.patch.PutCalls as calls
use Rattle.jsonc_parser.specs.declared.patch.putting.PutError.{PutError}
use Rattle.jsonc_parser.specs.declared.patch.putting.PutError.TheVariants as put_error
use Rattle.jsonc_parser.proofs.lemmas.patch.Nodes.{object_content}
use Rattle.jsonc_parser.proofs.lemmas.paths.Found.{no_object}
use Rattle.jsonc_parser.proofs.lemmas.paths.TakenValues.{nodes_have_values}
use Rattle.jsonc_engine.specs.declared.fault.Fault.TheVariants as told
use Rattle.jsonc_program.specs.declared.edit.fault.EditFault.{EditFault}
use Rattle.jsonc_program.specs.declared.edit.fault.EditFault.TheVariants as faults
use Rattle.jsonc_program.specs.edit.Asked.{Asked, comment, put, remove, rename, replace, sort}
use Rattle.jsonc_program.specs.edit.Faults.{FailsWhatShown, IsRefusedThere, IsWhyNot, is_nothing, needed}
use Rattle.jsonc_program.specs.edit.Making.{IsMadeIn, MadeBy, MakesWhatShown, MayStay}
use Rattle.jsonc_program.specs.edit.Routes.{IsLedOver, IsLedTo, LeadsBy, LeadsNowhere, LeadsOver, LeadsWhere, Route}
use Rattle.jsonc_program.specs.edit.Sorting.{HasSorted, SortsAt, SortsObjects, SortsWhatShown}
use Rattle.jsonc_program.proofs.EditMade.{one_made_of, run_options, stands_there}
use Rattle.jsonc_program.proofs.EditSorts.{over_place}

all_one : {A : Type 0} (P : A → Type 0) (x : A) → P x → All P (x ∷ [])
all_one P x h zero d low = h
all_one P x h (suc k) d low = absurd (omega (arith, low))

-- nothing is there that has to be
pub nothing_there : {A : Type 0} (doc : CstRootNode A) (route : Route) (asked : Asked) → IsLedOver doc route None → needed asked ≡ Some route → FailsWhatShown {A = A} asked doc (faults.Engine told.NoSuchValue)
nothing_there doc route asked none is d shown = (route, is, none d shown)

module _ {A : Type 0} (old new : CstRootNode A) (route : Route) (path : Vec ℕ A) (led : LeadsOver old route path.items) where
  -- what one edit makes at the positions
  record MadeThere (op : List ℕ → Operation) (d : Document) : Type 0 where
    e : Document
    shown : Shows e (tree_of new)
    options : e.options ≡ d.options
    within : StaysWithin d e
    made : LeadsWhere route d (λ p. MadeBy (op p) d e)

  made_there : (edit : Edit A) (op : List ℕ → Operation) → ((w : Option Plain) (order : List ℕ) (it : Operation) → Asks w (in_order order edit) it → it ≡ op path.items)
      → ((o : Options) → options_behind o (op path.items) ≡ o) → EditsTheText (tree_of old) (edit ∷ []) (tree_of new) → (d : Document) → Shows d (tree_of old) → Fits d.options edit → MadeThere op d
  made_there edit op asks behind edits d shown fits =
      let w = led d shown in
      let e = edits d shown (all_one (Fits d.options) edit fits) in
      let one = one_made_of edit e.2 refl in
      let run : Run d (op path.items ∷ []) e.0 = subst (λ it. Run d (it ∷ []) e.0) (asks d.value one.order one.op one.asks) one.run in
      record {
        e = e.0;
        shown = e.1;
        options = run_options run (op path.items) refl ∙ behind d.options;
        within = e.3;
        made = (w.0, w.1, w.2, subst (λ p. MadeBy (op p) d e.0) w.3 run);
      }

  pub replace_made : (value : CstInputValue A) → EditsTheText (tree_of old) (Replace path value ∷ []) (tree_of new) → MakesWhatShown (replace route (plain value)) old new
  replace_made value edits d shown may =
      let m = made_there (Replace path value) (λ p. texts.replace p (plain value)) (λ w order it asks. asks.1) (λ o. refl) edits d shown may in
      (m.e, m.shown, record { options = m.options; within = m.within; makes = m.made })

  pub rename_made : (name : String A) → EditsTheText (tree_of old) (RenameProperty path name ∷ []) (tree_of new) → MakesWhatShown (rename route (chars_of name)) old new
  rename_made name edits d shown may =
      let m = made_there (RenameProperty path name) (λ p. texts.rename_property p (chars_of name)) (λ w order it asks. asks.1) (λ o. refl) edits d shown tt in
      (m.e, m.shown, record { options = m.options; within = m.within; makes = m.made })

  pub comment_made : (place : sides.Place) (text : String A) → EditsTheText (tree_of old) (InsertComment path place text ∷ []) (tree_of new) → MakesWhatShown (comment route place (chars_of text)) old new
  comment_made place text edits d shown may =
      let m = made_there (InsertComment path place text) (λ p. texts.insert_comment p place (chars_of text)) (λ w order it asks. asks.1) (λ o. refl) edits d shown may in
      (m.e, m.shown, record { options = m.options; within = m.within; makes = m.made })

  pub remove_made : (in_object : Bool) → EditsTheText (tree_of old) (Remove path ∷ []) (tree_of new) → MakesWhatShown (remove route in_object false true) old new
  remove_made in_object edits d shown may =
      let m = made_there (Remove path) (λ p. texts.remove p) (λ w order it asks. asks.1) (λ o. refl) edits d shown tt in
      (m.e, m.shown, record { options = m.options; within = m.within; makes = inl m.made })

  -- why it is refused
  stands : (d : Document) → Shows d (tree_of old) → (v : Plain) × StandsAt v path.items d.value
  stands d shown =
      let w = led d shown in
      (w.1, subst (λ p. StandsAt w.1 p d.value) (sym w.3) (stands_there route d.value w.0 w.1 w.2))

  pub replace_refused : (value : CstInputValue A) (why : EditError) → IsRefusedThere old (Replace path value) why → FailsWhatShown {A = A} (replace route (plain value)) old (faults.Engine (told.Edit why))
  replace_refused value OutOfMemory refused d shown = tt
  replace_refused value NestingDepthExceeded refused d shown =
      let w = led d shown in
      (path.items, w.1, subst (λ p. LeadsBy route d.value p w.1) (sym w.3) w.2, (refused d shown).0)
  replace_refused value NoSuchPlace refused d shown = absurd ((refused d shown).1 refl (place_asked d (Replace path value) (stands d shown)))
  replace_refused value why refused d shown = absurd (refused d shown).0

  pub rename_refused : (name : String A) (why : EditError) → why ≢ NoSuchPlace → IsRefusedThere old (RenameProperty path name) why → FailsWhatShown {A = A} (rename route (chars_of name)) old (faults.Engine (told.Edit why))
  rename_refused name OutOfMemory other refused d shown = tt
  rename_refused name NestingDepthExceeded other refused d shown = absurd (let deep : 512 < 0 = (refused d shown).0 in omega (arith, deep))
  rename_refused name NoSuchPlace other refused d shown = absurd (other refl)
  rename_refused name why other refused d shown = absurd (refused d shown).0

  pub no_property_there : (name : String A) → IsRefusedThere old (RenameProperty path name) NoSuchPlace → FailsWhatShown {A = A} (rename route (chars_of name)) old faults.NotProperty
  no_property_there name refused d shown =
      let w = led d shown in
      (w.0, w.1, w.2, subst (λ p. ¬ (HasPropertyAt p d.value)) w.3 (λ property. (refused d shown).1 refl (place_asked d (RenameProperty path name) property)))

  pub comment_refused : (place : sides.Place) (text : String A) (why : EditError) → IsRefusedThere old (InsertComment path place text) why → FailsWhatShown {A = A} (comment route place (chars_of text)) old (faults.Engine (told.Edit why))
  comment_refused place text OutOfMemory refused d shown = tt
  comment_refused place text NestingDepthExceeded refused d shown = absurd (let deep : 512 < 0 = (refused d shown).0 in omega (arith, deep))
  comment_refused place text NoSuchPlace refused d shown = absurd ((refused d shown).1 refl (place_asked d (InsertComment path place text) (stands d shown)))
  comment_refused place text InvalidComment refused d shown = (refused d shown).0
  comment_refused After text LineContinues refused d shown = tt
  comment_refused Above text LineContinues refused d shown = absurd (refused d shown).0
  comment_refused place text why refused d shown = absurd (refused d shown).0

  pub remove_refused : (in_object : Bool) (why : EditError) → IsRefusedThere old (Remove path) why → FailsWhatShown {A = A} (remove route in_object false true) old (faults.Engine (told.Edit why))
  remove_refused in_object OutOfMemory refused d shown = tt
  remove_refused in_object NestingDepthExceeded refused d shown = absurd (let deep : 512 < 0 = (refused d shown).0 in omega (arith, deep))
  remove_refused in_object NoSuchPlace refused d shown = absurd ((refused d shown).1 refl (place_asked d (Remove path) (stands d shown)))
  remove_refused in_object why refused d shown = absurd (refused d shown).0

-- what leaves where something has to be leaves where nothing has to be too
pub removed_anyhow : {A : Type 0} (old new : CstRootNode A) (route : Route) (in_object with_comments must_exist : Bool) → MakesWhatShown (remove route in_object with_comments true) old new → MakesWhatShown (remove route in_object with_comments must_exist) old new
removed_anyhow old new route in_object with_comments must_exist makes d shown may =
    let m = makes d shown tt in
    (m.0, m.1, record { options = m.2.options; within = m.2.within; makes = elim m.2.makes [ inl leaves ↦ inl leaves | inr stays ↦ absurd (false≢true (sym stays.0)) ] })

same_route : {x y : Route} → Some x ≡ Some y → x ≡ y
same_route e = cc

-- where nothing is there, and nothing has to be, the document stays
pub stays_there : {A : Type 0} (old new : CstRootNode A) (route : Route) (in_object with_comments : Bool) → FailsWhatShown {A = A} (remove route in_object with_comments true) old (faults.Engine told.NoSuchValue) → new ≡ old
    → MakesWhatShown (remove route in_object with_comments false) old new
stays_there old new route in_object with_comments fails same d shown may =
    let f = fails d shown in
    let nowhere : LeadsNowhere route d.value = subst (λ r. LeadsNowhere r d.value) (sym (same_route f.1)) f.2 in
    (d, subst (λ k. Shows d (tree_of k)) (sym same) shown, record { options = refl; within = λ h. h; makes = inr (refl, nowhere, refl) })

-- what is told where something has to be
pub told_anyhow : {A : Type 0} (doc : CstRootNode A) (route : Route) (in_object with_comments must_exist : Bool) (fault : EditFault A) → FailsWhatShown (remove route in_object with_comments true) doc fault
    → ((fault ≡ faults.Engine told.NoSuchValue) → must_exist ≡ true) → FailsWhatShown (remove route in_object with_comments must_exist) doc fault
told_anyhow doc route in_object with_comments true fault fails must = fails
told_anyhow doc route in_object with_comments false (faults.Engine told.NoSuchValue) fails must = absurd (false≢true (must refl))
told_anyhow doc route true with_comments false (faults.Engine told.NotObject) fails must = fails
told_anyhow doc route false with_comments false (faults.Engine told.NotObject) fails must = λ d shown. absurd (fails d shown)
told_anyhow doc route in_object with_comments false (faults.Engine (told.Edit OutOfMemory)) fails must = fails
told_anyhow doc route in_object with_comments false (faults.Engine (told.Edit why)) fails must = λ d shown. absurd (fails d shown)
told_anyhow doc route in_object with_comments false fault fails must = λ d shown. absurd (fails d shown)

-- a value that was put
module _ {A : Type 0} (old new : CstRootNode A) (v : Plain) (ts : List (List ℕ)) where
  pub put_made : calls.PutsWhatShown old v Keep ts new → MakesWhatShown (put ts v) old new
  put_made puts d shown may =
      let p = puts d shown in
      let e = p.3 may in
      (e.0, e.1, record { options = e.2.options; within = e.2.within; makes = (p.0, e.2) })

  pub put_refused : (why : EditError) → calls.FailsToPut old v Keep ts (put_error.Edit why) → FailsWhatShown {A = A} (put ts v) old (faults.Engine (told.Edit why))
  put_refused OutOfMemory fails d shown = tt
  put_refused NestingDepthExceeded fails d shown = fails d shown
  put_refused why fails d shown = absurd (fails d shown)

  pub put_stops : (error : PutError) → ((why : EditError) → error ≢ put_error.Edit why) → calls.FailsToPut old v Keep ts error → FailsWhatShown {A = A} (put ts v) old (faults.Put error)
  put_stops (put_error.OtherKind number) other fails d shown =
      let s = (fails d shown).0 in
      record { front = s.front; token = s.token; rest = s.rest; split = s.split; is = s.is; path = s.path; x = s.x; leads = s.leads; so = s.stops }
  put_stops (put_error.NoSuchIndex number) other fails d shown =
      let s = fails d shown in
      record { front = s.front; token = s.token; rest = s.rest; split = s.split; is = s.is; path = s.path; x = s.x; leads = s.leads; so = s.stops }
  put_stops (put_error.AmbiguousToken number) other fails d shown = fails d shown
  put_stops (put_error.Edit why) other fails d shown = absurd (other why refl)

-- a sort
module _ {A : Type 0} (old new : CstRootNode A) (tree : IsTree (nodes_of old)) (route : Route) (node : CstNode) (held : HasNode old node) (led : IsLedTo old route (Some node)) (keeps_headers : Bool) where
  pub sort_made : (x : CstObject) → node ≡ object_node x → HasSorted (nodes_of old) (nodes_of new) x.number → MakesWhatShown (sort route false keeps_headers) old new
  sort_made x is sorted d shown may =
      let w = led d shown in
      let at : IsAt (nodes_of old) w.0 x.number = subst (λ n. IsAt (nodes_of old) w.0 (number_of n)) is w.3 in
      let m = over_place old new x tree (subst (HasNode old) is held) sorted (over_at (nodes_of old) tree w.0 x.number at) d shown in
      let same : m.0 ≡ w.0 = path_once (nodes_of old) tree m.0 w.0 x.number m.1 at in
      (m.2, m.3, record { options = m.4; within = m.5; makes = (w.0, w.1, w.2, subst (λ p. SortsAt p d m.2) same m.6) })

  pub sort_all_made : SortsWhatShown old new → MakesWhatShown (sort route true keeps_headers) old new
  sort_all_made sorted d shown may =
      let w = led d shown in
      let m = sorted d shown in
      (m.0, m.1, record { options = m.2; within = m.3; makes = (w.0, w.1, w.2, m.4) })

  pub not_sorted : ((x : CstObject) → node ≡ object_node x → ⊥) → FailsWhatShown {A = A} (sort route false keeps_headers) old faults.NotSorted
  not_sorted other d shown =
      let w = led d shown in
      let h = nodes_have_values {A = Unit {0}} d (nodes_of old) w.0 (number_of node) tree shown w.3 in
      let s = what_stands d.value (stands_there route d.value w.0 w.1 w.2) in
      let same : w.1 ≡ h.v = value_once s.2 (subst (λ k. Changed h.v h.v w.0 k k) (some_plain (sym h.is ∙ s.1)) h.there) in
      let has : HasValue d.options (top_at (nodes_of old) (number_of node)) w.1 = subst (HasValue d.options (top_at (nodes_of old) (number_of node))) (sym same) h.has in
      (w.0, w.1, w.2, λ ms e. no_object old tree node held other (object_content d.options (content_at (nodes_of old) (number_of node)) (row_below (nodes_of old) (number_of node)) ms (subst (HasValue d.options (top_at (nodes_of old) (number_of node))) e has)))
    where
      some_plain : {x y : Plain} → Some x ≡ Some y → x ≡ y
      some_plain e = cc

-- a fault that is another than that nothing is there
pub another_fault : {A : Type 0} (fault : EditFault A) → is_nothing fault ≡ false → fault ≡ faults.Engine told.NoSuchValue → ⊥
another_fault fault other is = false≢true (sym other ∙ ap is_nothing is)

nothing_is : {A : Type 0} (fault : EditFault A) → is_nothing fault ≡ true → fault ≡ faults.Engine told.NoSuchValue
nothing_is (faults.Engine told.NoSuchValue) e = refl
nothing_is (faults.Engine f) e = cc
nothing_is fault e = cc

-- nothing was there, and nothing had to be
pub stays_for_nothing : {A : Type 0} (old new : CstRootNode A) (route : Route) (in_object with_comments must_exist : Bool) (fault : EditFault A) → is_nothing fault ≡ true → must_exist ≡ false
    → FailsWhatShown (remove route in_object with_comments true) old fault → ((fault ≡ faults.Engine told.NoSuchValue) → new ≡ old) → MakesWhatShown (remove route in_object with_comments must_exist) old new
stays_for_nothing old new route in_object with_comments must_exist fault nothing free fails stays =
    let is = nothing_is fault nothing in
    subst (λ b. MakesWhatShown (remove route in_object with_comments b) old new) (sym free)
    (stays_there old new route in_object with_comments (subst (FailsWhatShown (remove route in_object with_comments true) old) is fails) (stays is))

-- what is told where something has to be is told
pub told_so : {A : Type 0} (doc : CstRootNode A) (route : Route) (in_object with_comments must_exist : Bool) (fault : EditFault A) → must_exist ≡ true → FailsWhatShown (remove route in_object with_comments true) doc fault
    → FailsWhatShown (remove route in_object with_comments must_exist) doc fault
told_so doc route in_object with_comments must_exist fault must fails = subst (λ b. FailsWhatShown (remove route in_object with_comments b) doc fault) (sym must) fails

pub told_of_another : {A : Type 0} (doc : CstRootNode A) (route : Route) (in_object with_comments must_exist : Bool) (fault : EditFault A) → is_nothing fault ≡ false → FailsWhatShown (remove route in_object with_comments true) doc fault
    → FailsWhatShown (remove route in_object with_comments must_exist) doc fault
told_of_another doc route in_object with_comments must_exist fault other fails = told_anyhow doc route in_object with_comments must_exist fault fails (λ is. absurd (another_fault fault other is))

pub none_of : {A : Type 0} (o : Option A) → is_some o ≡ false → o ≡ None
none_of None e = refl
none_of (Some q) e = absurd (false≢true (sym e))

-- the document has no object
pub lacks_object : {A : Type 0} (doc : CstRootNode A) (tree : IsTree (nodes_of doc)) (route : Route) (with_comments must_exist : Bool) → None ≡ object_if (value_under doc 0)
    → FailsWhatShown {A = A} (remove route true with_comments must_exist) doc (faults.Engine told.NotObject)
lacks_object doc tree route with_comments must_exist none d shown ms is = no_object_root (value_at (nodes_of doc) 0) refl none
  where
    no_object_root : (q : Option ℕ) → value_at (nodes_of doc) 0 ≡ q → None ≡ object_if (option_map (typed_at (nodes_of doc)) q) → ⊥
    no_object_root None at e =
        let nothing : d.value ≡ None = (root_holds d (nodes_of doc) tree shown).none.0 at in
        let wrong : None ≡ Some (plains.object ms) = sym nothing ∙ is in cc
    no_object_root (Some n) at e =
        let there = (root_holds d (nodes_of doc) tree shown).some n at in
        let h = nodes_have_values {A = Unit {0}} d (nodes_of doc) [] n tree shown there in
        let same : h.v ≡ plains.object ms = value_at_root h.there ∙ some_plain (sym h.is ∙ is) in
        let kind : content_at (nodes_of doc) n ≡ object = object_content d.options (content_at (nodes_of doc) n) (row_below (nodes_of doc) n) ms (subst (HasValue d.options (top_at (nodes_of doc) n)) same h.has) in
        no_object_typed (content_at (nodes_of doc) n) n kind e
      where
        some_plain : {x y : Plain} → Some x ≡ Some y → x ≡ y
        some_plain e = cc

        value_at_root : {a b x y : Plain} → Changed a b [] x y → a ≡ x
        value_at_root changes.itself = refl

        no_object_typed : (c : Content) (k : ℕ) → c ≡ object → None ≡ object_if (Some (typed c k)) → ⊥
        no_object_typed contents.object k is e = cc
        no_object_typed c k is e = cc
