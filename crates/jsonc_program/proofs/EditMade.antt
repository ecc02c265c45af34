-- What one edit of the library makes of a document, and why it is refused.
use Rattle.std.proofs.Common.{◌≡◌, ◌≢◌, ◌∙◌, ◌↔◌, ◌<◌, ℕ, zero, suc, List, [], ◌∷◌, Option, Some, None, length, slice_get, take, true, false, chars, inl, inr, refl, sym, ap, subst, arith}
use Rattle.std.specs.List.{All}
use Rattle.std.specs.Prelude.{string_bytes}
use Rattle.std.specs.declared.string.String.{String}
use Rattle.std.specs.declared.vec.Vec.{Vec}
use Rattle.jsonc_text.specs.Documents.{Document}
use Rattle.jsonc_text.specs.Plain as plains
use Rattle.jsonc_text.specs.Plain.{Plain}
use Rattle.jsonc_text.specs.declared.edit.EditError.{EditError}
use Rattle.jsonc_text.specs.declared.edit.EditError.TheVariants.{NoSuchPlace}
use Rattle.jsonc_layout.specs.input.Views.{plain}
use Rattle.jsonc_tree.specs.OrderedTree.{OrderedTree, ordered_tree}
use Rattle.jsonc_sound.specs.Documents.{Shows}
use Rattle.jsonc_sound.specs.Changes.{Changed}
use Rattle.jsonc_run.specs.Edits.{Fits, operation_of, unsorted}
use Rattle.jsonc_run.specs.Named.{Asks, StandsAt}
use Rattle.jsonc_run.specs.Refusals.{MayFailWith}
use Rattle.jsonc_run.specs.declared.edit.Edit.{Edit}
use Rattle.jsonc_run.specs.promise.Asked.{EditsTo, EditsTheText, HasPlace, IsStopped, StopsInText, in_order, none_asked, one_asked}
use Rattle.jsonc_run.specs.promise.Within.{StaysWithin}
use Rattle.jsonc_run.specs.texts.Edits.{Operation, Run, options_behind, none_made, one_made}
use Rattle.jsonc_run.proofs.lemmas.promise.Plains as standing
use Rattle.jsonc_cst.specs.declared.cst.CstRootNode.{CstRootNode}
use Rattle.jsonc_cst.specs.Document.{tree_of}
use Rattle.jsonc_parser.specs.Lists.{RunUnsortedErr, RunUnsortedOk}
use Rattle.jsonc_parser.proofs.lemmas.paths.Leading.{leads_changed}
use Rattle.jsonc_parser.proofs.lemmas.patch.PutValues.{first_changed}
use Rattle.jsonc_program.specs.edit.Faults.{IsRefusedThere}
use Rattle.jsonc_program.specs.edit.Routes.{LeadsBy, LeadsOver, LeadsWhere, Route, names, tokens}

-- a chain of no edits leads nowhere
none_left : {A : Type 0} {d e : Document} {es : List (Edit A)} → EditsTo d es e → es ≡ [] → e ≡ d
none_left (none_asked is) same = refl
none_left (one_asked order op place asks run rest) same = cc

-- of one edit that was made: the operation that it asks for
pub record OneMade {A : Type 0} (d : Document) (edit : Edit A) (e : Document) : Type 0 where
  pub order : List ℕ
  pub op : Operation
  pub asks : Asks d.value (in_order order edit) op
  pub run : Run d (op ∷ []) e

first_of : {A : Type 0} {x y : A} {xs ys : List A} → x ∷ xs ≡ y ∷ ys → x ≡ y
first_of e = cc

rest_of : {A : Type 0} {x y : A} {xs ys : List A} → x ∷ xs ≡ y ∷ ys → xs ≡ ys
rest_of e = cc

pub one_made_of : {A : Type 0} {d e : Document} {es : List (Edit A)} (edit : Edit A) → EditsTo d es e → es ≡ edit ∷ [] → OneMade d edit e
one_made_of edit (none_asked is) same = cc
one_made_of {d = d} edit (one_asked order op place asks run rest) same =
    let first = first_of same in
    let last = none_left rest (rest_of same) in
    record { order = order; op = op; asks = subst (λ x. Asks d.value (in_order order x) op) first asks; run = subst (λ k. Run d (op ∷ []) k) (sym last) run }

-- the options behind one operation
pub run_options : {d e : Document} {ops : List Operation} → Run d ops e → (op : Operation) → ops ≡ op ∷ [] → e.options ≡ options_behind d.options op
run_options (none_made is) op same = cc
run_options {d = d} (one_made is options makes rest) op same =
    let first = first_of same in
    none_options rest (rest_of same) ∙ options ∙ ap (options_behind d.options) first
  where
    none_options : {m f : Document} {ops : List Operation} → Run m ops f → ops ≡ [] → f.options ≡ m.options
    none_options (none_made is) same = refl
    none_options (one_made is options makes rest) same = cc

module _ {A : Type 0} (old new : CstRootNode A) (edit : Edit A) where
  -- the edit was made
  pub made_text : (edits : List (Edit A)) → edits ≡ edit ∷ [] → RunUnsortedOk old edits new → EditsTheText (tree_of old) (edit ∷ []) (tree_of new)
  made_text edits same ok = subst (λ l. EditsTheText (tree_of old) l (tree_of new)) same ok.edited

  only_first : (k : ℕ) (next : Edit A) → slice_get (edit ∷ []) k ≡ Some next → (k ≡ 0) × (next ≡ edit)
  only_first zero next e = (refl, let same : next ≡ edit = cc in same)
  only_first (suc k) next e = absurd (nothing k e)
    where
      nothing : (k : ℕ) → slice_get [] k ≡ Some next → ⊥
      nothing k e = cc

  -- or refused
  pub refused_text : (edits : List (Edit A)) → edits ≡ edit ∷ [] → (k : ℕ) (why : EditError) → RunUnsortedErr old edits k why new → IsRefusedThere old edit why
  refused_text edits same k why err d shown =
      let err_one : RunUnsortedErr old (edit ∷ []) k why new = subst (λ l. RunUnsortedErr old l k why new) same err in
      let first = only_first k err_one.next err_one.is_next in
      let stops : StopsInText (tree_of old) (edit ∷ []) 0 why (tree_of new) = subst (λ n. StopsInText (tree_of old) (edit ∷ []) n why (tree_of new)) first.0 err_one.edited in
      let s = (stops d shown (λ i x low. absurd (none_below low))).2 in
      let next = only_first 0 s.next s.is_next in
      let here : s.m ≡ d = none_left s.made refl in (
        subst (λ m. MayFailWith m (operation_of unsorted edit) why) (ap (λ x. x.value) here) (subst (λ x. MayFailWith s.m.value (operation_of unsorted x) why) next.1 s.may_fail),
        λ is. subst (λ m. ¬ (HasPlace m edit)) here (subst (λ x. ¬ (HasPlace s.m x)) next.1 (s.named.0 is)),
      )
    where
      none_below : {n : ℕ} → n < 0 → ⊥
      none_below h = omega (arith, h)

-- what a route leads to stands there
pub stands_there : (route : Route) (w : Option Plain) (path : List ℕ) (v : Plain) → LeadsBy route w path v → StandsAt v path w
stands_there (tokens ts) w path v (x, is, leads) = standing.stands_there x is (first_changed leads)
stands_there (names ns) w path v (x, is, leads) = standing.stands_there x is (leads_changed leads)
