-- The one edit that is chosen puts the value.
use Rattle.std.proofs.Common.{ℕ, zero, suc, ◌≡◌, ◌≢◌, ◌<◌, ◌≤◌, ◌+◌, ◌-◌, ◌++◌, ◌∙◌, ◌==◌, ◌^◌, true, false, List, [], ◌∷◌, Option, Some, None, sym, ap, subst, refl, inl, inr, drop, take, length, get_or, arith}
use Rattle.std.proofs.Math.Seq.{drop-append-add, drop-append_seam, drop-length}
use Rattle.std.proofs.lemmas.List.{drop-map, length-drop, length-map, take_rest}
use Rattle.std.proofs.lemmas.List.Elements.{All-nil}
use Rattle.std.specs.List.{All}
use Rattle.std.specs.declared.string.String.{String}
use Rattle.std.specs.declared.vec.Vec.{Vec}
use Rattle.jsonc_text.specs.Documents.{Document}
use Rattle.jsonc_text.specs.Plain.{Plain, array, object}
use Rattle.jsonc_text.specs.declared.edit.EditError.{EditError}
use Rattle.jsonc_text.specs.declared.edit.EditError.TheVariants.{OutOfMemory}
use Rattle.jsonc_text.specs.declared.edit.Over.{Over}
use Rattle.jsonc_text.specs.declared.edit.Over.TheVariants.{Keep, Replace}
use Rattle.jsonc_layout.specs.declared.input.value.CstInputValue.{CstInputValue}
use Rattle.jsonc_layout.specs.input.Views.{chars_of, plain}
use Rattle.jsonc_tree.specs.OrderedTree.{ordered_tree}
use Rattle.jsonc_tree.specs.Tree.{Node, IsTree}
use Rattle.jsonc_sound.specs.Documents.{Shows}
use Rattle.jsonc_edit.specs.Paths.{IsAt}
use Rattle.jsonc_edit.proofs.Uniqueness.{path_once}
use Rattle.jsonc_run.specs.declared.edit.Edit.{Edit}
use Rattle.jsonc_run.specs.declared.edit.Edit.TheVariants as edits
use Rattle.jsonc_run.specs.Edits.{PlainEdit, append_element, append_property, replace, set_root}
use Rattle.jsonc_cst.specs.declared.cst.CstRootNode.{CstRootNode}
use Rattle.jsonc_cst.specs.declared.cst.node.CstNode.{CstNode}
use Rattle.jsonc_cst.specs.Document.{nodes_of}
use Rattle.jsonc_cst.specs.Nodes.{number_of}
use Rattle.jsonc_parser.specs.paths.Found.{names_of}
use Rattle.jsonc_parser.specs.paths.Settings.{nest}
use Rattle.jsonc_parser.specs.patch.Found.{IsOfShown}
use Rattle.jsonc_parser.specs.patch.Putting.{IsNested, IsPutBy, IsWrittenBy, sets_root, sets_first, replaces, appends_member, appends_element, replaces_other, LeadsAlong, MayBeIndex, StopsAt}
use Rattle.jsonc_parser.specs.patch.PutCalls.{FailsToPut, IsPutError, LeadsToNode, PassesEscaped}
use Rattle.jsonc_parser.specs.patch.PutSteps.{IsChosen, IsLed, IsUnnested, IsUnprepared, StopsAtNode}
use Rattle.jsonc_parser.specs.declared.patch.entry.Led.TheVariants as led
use Rattle.jsonc_parser.specs.declared.patch.entry.Stop.{Stop}
use Rattle.jsonc_parser.specs.declared.patch.entry.Stop.TheVariants.{AfterLast, NoMember, OtherKind, PastEnd}
use Rattle.jsonc_parser.specs.declared.patch.putting.PutError.{PutError}
use Rattle.jsonc_parser.specs.declared.patch.putting.PutError.TheVariants as errors
use Rattle.jsonc_parser.proofs.lemmas.paths.ChosenEdit.{here}
use Rattle.jsonc_parser.proofs.lemmas.patch.PutMade.{unnested}

module _ {A : Type 0} (doc : CstRootNode A) (tree : IsTree (nodes_of doc)) (v : Plain) (over : Over) (tokens : List (List ℕ)) where
  -- what is written by the tokens that are left, in whatever document the tree shows
  abbrev WritesBy : List (List ℕ) → Type 0
  WritesBy left = IsOfShown doc (λ d. (u : Plain) → (e : PlainEdit) × IsWrittenBy u over d.value tokens left e)

  pub not_nested : (left : List (List ℕ)) (before : ℕ) → before + length left ≡ length tokens → WritesBy left → (error : PutError) → IsUnnested left before v error → FailsToPut doc v over tokens error
  not_nested left before all writes error is d shown = unnested doc v over tokens d left before all (writes d shown) error is

  pub not_prepared : (node : CstNode) → IsOfShown doc (λ d. (path : List ℕ) × IsAt (nodes_of doc) path (number_of node)) → (left : List (List ℕ)) (before : ℕ) → before + length left ≡ length tokens → WritesBy left → (error : PutError)
      → IsUnprepared doc node left before v error → FailsToPut doc v over tokens error
  not_prepared node at left before all writes error (inl is) d shown = unnested doc v over tokens d left before all (writes d shown) error is
  not_prepared node at left before all writes error (inr none) d shown = let p = at d shown in absurd (none p.0 p.1)

  -- the document's value
  pub chosen_whole : (u : CstInputValue A) → plain u ≡ v → tokens ≡ [] → IsChosen doc v over tokens (edits.SetRoot u)
  chosen_whole u same none = (
    refl,
    λ d shown. subst (λ l. IsPutBy v over d.value l (set_root (plain u))) (sym none)
        (record { rest = []; u = plain u; nested = (All-nil (λ (name : List ℕ). ¬ (MayBeIndex name)), same); written = sets_root }),
  )

  first_written : (u : Plain) (w : Option Plain) → w ≡ None → (left : List (List ℕ)) → IsWrittenBy u over w left left (set_root u)
  first_written u w none [] = sets_root
  first_written u w none (token ∷ rest) = sets_first none

  pub writes_first : IsOfShown doc (IsLed doc tokens led.Nothing) → WritesBy tokens
  writes_first none d shown u = (set_root u, first_written u d.value (none d shown) tokens)

  pub chosen_first : IsOfShown doc (IsLed doc tokens led.Nothing) → (u : CstInputValue A) → IsNested tokens v (plain u) → IsChosen doc v over tokens (edits.SetRoot u)
  chosen_first none u nested = (refl, λ d shown. record { rest = tokens; u = plain u; nested = nested; written = first_written (plain u) d.value (none d shown) tokens })

  -- the value that all tokens lead to
  module _ (node : CstNode) (to : IsOfShown doc (IsLed doc tokens (led.To node))) (some : tokens ≢ []) where
    value_written : (u : Plain) (d : Document) → Shows d (ordered_tree (nodes_of doc) 0) → (l : List (List ℕ)) → tokens ≡ l → (path : List ℕ) → IsAt (nodes_of doc) path (number_of node) → IsWrittenBy u over d.value l [] (replace path u)
    value_written u d shown [] same path at = absurd (some same)
    value_written u d shown (token ∷ rest) same path at =
        let w = to d shown in
        replaces (subst (λ l. LeadsAlong d.value l path w.v) same (subst (λ p. LeadsAlong d.value tokens p w.v) (path_once (nodes_of doc) tree w.path path (number_of node) w.at at) (w.value, w.is, w.leads)))

    pub at_value : IsOfShown doc (λ d. (path : List ℕ) × IsAt (nodes_of doc) path (number_of node))
    at_value d shown = let w = to d shown in (w.path, w.at)

    pub writes_value : WritesBy []
    writes_value d shown u = let w = to d shown in (replace w.path u, value_written u d shown tokens refl w.path w.at)

    pub chosen_value : (path : Vec ℕ A) → IsAt (nodes_of doc) path.items (number_of node) → (u : CstInputValue A) → IsNested [] v (plain u) → IsChosen doc v over tokens (edits.Replace path u)
    chosen_value path at u nested = (refl, λ d shown. record { rest = []; u = plain u; nested = nested; written = value_written (plain u) d shown tokens refl path.items at })

  -- where a token leads to nothing
  module _ (node : CstNode) (number : ℕ) (stop : Stop) (stops : IsOfShown doc (λ d. StopsAtNode d (nodes_of doc) tokens (number_of node) number stop)) where
    pub at_stop : IsOfShown doc (λ d. (path : List ℕ) × IsAt (nodes_of doc) path (number_of node))
    at_stop d shown = let s = stops d shown in (s.leads.path, s.leads.at)

    pub stop_told : IsOfShown doc (λ d. StopsAt d.value tokens number stop)
    stop_told d shown =
        let s = stops d shown in
        record { front = s.front; token = s.token; rest = s.rest; split = s.split; is = s.is; path = s.leads.path; x = s.leads.v; leads = (s.leads.value, s.leads.is, s.leads.leads); stops = s.stops }

    module _ (d : Document) (shown : Shows d (ordered_tree (nodes_of doc) 0)) where
      after : drop (number + 1) tokens ≡ (stops d shown).rest
      after =
          let s = stops d shown in
          ap (λ k. drop (k + 1) tokens) s.is ∙ ap (drop (length s.front + 1)) s.split ∙ drop-append-add s.front (s.token ∷ s.rest) 1

      from_here : drop number tokens ≡ (stops d shown).token ∷ (stops d shown).rest
      from_here =
          let s = stops d shown in
          ap (λ k. drop k tokens) s.is ∙ ap (drop (length s.front)) s.split ∙ drop-append_seam s.front (s.token ∷ s.rest)

      along : (path : List ℕ) → IsAt (nodes_of doc) path (number_of node) → LeadsAlong d.value (stops d shown).front path (stops d shown).leads.v
      along path at =
          let w = (stops d shown).leads in
          subst (λ p. LeadsAlong d.value (stops d shown).front p w.v) (path_once (nodes_of doc) tree w.path path (number_of node) w.at at) (w.value, w.is, w.leads)

  module _ (node : CstNode) (number : ℕ) (stops : IsOfShown doc (λ d. StopsAtNode d (nodes_of doc) tokens (number_of node) number NoMember)) where
    member_written : (u : Plain) (d : Document) (shown : Shows d (ordered_tree (nodes_of doc) 0)) (path : List ℕ) → IsAt (nodes_of doc) path (number_of node) → (name : List ℕ) → name ≡ (stops d shown).token
        → IsWrittenBy u over d.value tokens (drop (number + 1) tokens) (append_property path name u)
    member_written u d shown path at name is =
        let s = stops d shown in
        let leads = subst (LeadsAlong d.value s.front path) s.stops.1 (along node number NoMember stops d shown path at) in
        subst (λ n. IsWrittenBy u over d.value tokens (drop (number + 1) tokens) (append_property path n u)) (sym is)
        (subst (λ l. IsWrittenBy u over d.value tokens l (append_property path s.token u)) (sym (after node number NoMember stops d shown))
        (subst (λ l. IsWrittenBy u over d.value l s.rest (append_property path s.token u)) (sym s.split) (appends_member s.front s.rest leads s.stops.2)))

    pub writes_member : WritesBy (drop (number + 1) tokens)
    writes_member d shown u = let s = stops d shown in (append_property s.leads.path s.token u, member_written u d shown s.leads.path s.leads.at s.token refl)

    pub chosen_member : (path : Vec ℕ A) → IsAt (nodes_of doc) path.items (number_of node) → (u : CstInputValue A) → IsNested (drop (number + 1) tokens) v (plain u) → (name : String A) (rest : List (List ℕ)) → drop number tokens ≡ chars_of name ∷ rest
        → IsChosen doc v over tokens (edits.AppendProperty path name u)
    chosen_member path at u nested name rest first = (
      refl,
      λ d shown.
          (let s = stops d shown in
          let both : chars_of name ∷ rest ≡ s.token ∷ s.rest = sym first ∙ from_here node number NoMember stops d shown in
          let is : chars_of name ≡ s.token = cc in
          record { rest = drop (number + 1) tokens; u = plain u; nested = nested; written = member_written (plain u) d shown path.items at (chars_of name) is }),
    )

  module _ (node : CstNode) (number : ℕ) (stops : IsOfShown doc (λ d. StopsAtNode d (nodes_of doc) tokens (number_of node) number AfterLast)) where
    element_written : (u : Plain) (d : Document) (shown : Shows d (ordered_tree (nodes_of doc) 0)) (path : List ℕ) → IsAt (nodes_of doc) path (number_of node) → IsWrittenBy u over d.value tokens (drop (number + 1) tokens) (append_element path u)
    element_written u d shown path at =
        let s = stops d shown in
        let leads = subst (LeadsAlong d.value s.front path) s.stops.1 (along node number AfterLast stops d shown path at) in
        subst (λ l. IsWrittenBy u over d.value tokens l (append_element path u)) (sym (after node number AfterLast stops d shown))
        (subst (λ l. IsWrittenBy u over d.value l s.rest (append_element path u)) (sym s.split) (appends_element s.front s.rest leads s.stops.2))

    pub writes_element : WritesBy (drop (number + 1) tokens)
    writes_element d shown u = let s = stops d shown in (append_element s.leads.path u, element_written u d shown s.leads.path s.leads.at)

    pub chosen_element : (path : Vec ℕ A) → IsAt (nodes_of doc) path.items (number_of node) → (u : CstInputValue A) → IsNested (drop (number + 1) tokens) v (plain u) → IsChosen doc v over tokens (edits.AppendElement path u)
    chosen_element path at u nested = (refl, λ d shown. record { rest = drop (number + 1) tokens; u = plain u; nested = nested; written = element_written (plain u) d shown path.items at })

  module _ (node : CstNode) (number : ℕ) (stops : IsOfShown doc (λ d. StopsAtNode d (nodes_of doc) tokens (number_of node) number OtherKind)) (how : over ≡ Replace) where
    other_written : (u : Plain) (d : Document) (shown : Shows d (ordered_tree (nodes_of doc) 0)) (path : List ℕ) → IsAt (nodes_of doc) path (number_of node) → IsWrittenBy u over d.value tokens (drop number tokens) (replace path u)
    other_written u d shown path at =
        let s = stops d shown in
        subst (λ l. IsWrittenBy u over d.value tokens l (replace path u)) (sym (from_here node number OtherKind stops d shown))
        (subst (λ l. IsWrittenBy u over d.value l (s.token ∷ s.rest) (replace path u)) (sym s.split) (replaces_other s.front s.rest (along node number OtherKind stops d shown path at) s.stops how))

    pub writes_other : WritesBy (drop number tokens)
    writes_other d shown u = let s = stops d shown in (replace s.leads.path u, other_written u d shown s.leads.path s.leads.at)

    pub chosen_other : (path : Vec ℕ A) → IsAt (nodes_of doc) path.items (number_of node) → (u : CstInputValue A) → IsNested (drop number tokens) v (plain u) → IsChosen doc v over tokens (edits.Replace path u)
    chosen_other path at u nested = (refl, λ d shown. record { rest = drop number tokens; u = plain u; nested = nested; written = other_written (plain u) d shown path.items at })

-- so many tokens are left
pub so_many : {A : Type 0} (tokens : List (String A)) (from : ℕ) → from ≤ length tokens → from + length (drop from (names_of tokens)) ≡ length (names_of tokens)
so_many tokens from within =
    let all = length-map tokens chars_of in
    let left = length-drop from (names_of tokens) in
    omega (arith, all, left, within)

-- after all of them none
pub none_left : {A : Type 0} (tokens : List (String A)) (count : ℕ) → count ≡ length tokens → drop count (names_of tokens) ≡ []
none_left tokens count is = ap (λ k. drop k (names_of tokens)) (is ∙ sym (length-map tokens chars_of)) ∙ drop-length (names_of tokens)

-- memory was lacking for a value that may be nested
pub unnested_for_memory : (left : List (List ℕ)) (before : ℕ) (v : Plain) (why : EditError) → why ≡ OutOfMemory → All (λ name. ¬ (MayBeIndex name)) left → IsUnnested left before v (errors.Edit why)
unnested_for_memory left before v why is all = subst (λ e. IsUnnested left before v (errors.Edit e)) (sym is) all

-- the tokens from one of them on, as a slice takes them
pub names_left : {A : Type 0} (tokens : List (String A)) (from : ℕ) → names_of (take (length tokens - from) (drop from tokens)) ≡ drop from (names_of tokens)
names_left tokens from = ap names_of (take_rest tokens from) ∙ sym (drop-map chars_of from tokens)

pub few_left : {A : Type 0} (tokens : List (String A)) (from : ℕ) → from ≤ length tokens → length tokens < 2 ^ 64 → from + length (take (length tokens - from) (drop from tokens)) < 2 ^ 64
few_left tokens from within fits =
    let rest = ap length (take_rest tokens from) in
    let left = length-drop from tokens in
    omega (arith, rest, left, within, fits)

-- a name could not be looked up
pub looked_up : {A : Type 0} (doc : CstRootNode A) (v : Plain) (over : Over) (tokens : List (List ℕ)) (why : EditError) → why ≡ OutOfMemory → IsOfShown doc (λ d. PassesEscaped d (nodes_of doc) tokens) → FailsToPut doc v over tokens (errors.Edit why)
looked_up doc v over tokens why is passes d shown = subst (λ e. IsPutError doc v over tokens (errors.Edit e) d) (sym is) (inl (passes d shown))

-- what was not prepared, by where it was to be written
module _ {A : Type 0} (doc : CstRootNode A) (tree : IsTree (nodes_of doc)) (v : Plain) (over : Over) (tokens : List (String A)) (node : CstNode) where
  pub value_not_put : IsOfShown doc (IsLed doc (names_of tokens) (led.To node)) → names_of tokens ≢ [] → (count : ℕ) → count ≡ length tokens → (error : PutError) → IsUnprepared doc node (drop count (names_of tokens)) count v error
      → FailsToPut doc v over (names_of tokens) error
  value_not_put to some count is error unprepared =
      not_prepared doc tree v over (names_of tokens) node (at_value doc tree v over (names_of tokens) node to some) (drop count (names_of tokens)) count (so_many tokens count (omega (arith, is)))
      (subst (λ l. IsOfShown doc (λ d. (u : Plain) → (e : PlainEdit) × IsWrittenBy u over d.value (names_of tokens) l e)) (sym (none_left tokens count is)) (writes_value doc tree v over (names_of tokens) node to some)) error unprepared

  module _ (number : ℕ) (h : number < length tokens) where
    pub member_not_put : IsOfShown doc (λ d. StopsAtNode d (nodes_of doc) (names_of tokens) (number_of node) number NoMember) → (error : PutError) → IsUnprepared doc node (drop (number + 1) (names_of tokens)) (number + 1) v error
        → FailsToPut doc v over (names_of tokens) error
    member_not_put stops error unprepared =
        not_prepared doc tree v over (names_of tokens) node (at_stop doc tree v over (names_of tokens) node number NoMember stops) (drop (number + 1) (names_of tokens)) (number + 1) (so_many tokens (number + 1) (omega (arith, h)))
        (writes_member doc tree v over (names_of tokens) node number stops) error unprepared

    pub member_not_named : IsOfShown doc (λ d. StopsAtNode d (nodes_of doc) (names_of tokens) (number_of node) number NoMember) → (u : Plain) → IsNested (drop (number + 1) (names_of tokens)) v u → (why : EditError) → why ≡ OutOfMemory
        → FailsToPut doc v over (names_of tokens) (errors.Edit why)
    member_not_named stops u nested why is = member_not_put stops (errors.Edit why) (inl (unnested_for_memory (drop (number + 1) (names_of tokens)) (number + 1) v why is nested.0))

    pub element_not_put : IsOfShown doc (λ d. StopsAtNode d (nodes_of doc) (names_of tokens) (number_of node) number AfterLast) → (error : PutError) → IsUnprepared doc node (drop (number + 1) (names_of tokens)) (number + 1) v error
        → FailsToPut doc v over (names_of tokens) error
    element_not_put stops error unprepared =
        not_prepared doc tree v over (names_of tokens) node (at_stop doc tree v over (names_of tokens) node number AfterLast stops) (drop (number + 1) (names_of tokens)) (number + 1) (so_many tokens (number + 1) (omega (arith, h)))
        (writes_element doc tree v over (names_of tokens) node number stops) error unprepared

    pub other_not_put : IsOfShown doc (λ d. StopsAtNode d (nodes_of doc) (names_of tokens) (number_of node) number OtherKind) → over ≡ Replace → (error : PutError) → IsUnprepared doc node (drop number (names_of tokens)) number v error
        → FailsToPut doc v over (names_of tokens) error
    other_not_put stops how error unprepared =
        not_prepared doc tree v over (names_of tokens) node (at_stop doc tree v over (names_of tokens) node number OtherKind stops) (drop number (names_of tokens)) number (so_many tokens number (omega (arith, h)))
        (writes_other doc tree v over (names_of tokens) node number stops how) error unprepared

-- the name of a number, copied, and the tokens after it
pub name_so : {A : Type 0} (tokens : List (String A)) (number : ℕ) (s : String A) → number < length tokens → (name : List ℕ) → name ≡ chars_of (get_or tokens number s) → drop number (names_of tokens) ≡ name ∷ names_of (drop (number + 1) tokens)
name_so tokens number s h name is = here tokens number s h ∙ ap (λ n. n ∷ names_of (drop (number + 1) tokens)) (sym is)
