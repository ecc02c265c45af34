-- Edits that a list makes: one more of them, what they say of nodes, and where none can be made.
use Rattle.std.proofs.Common.{◌≡◌, ◌<◌, ◌+◌, ℕ, zero, suc, Bool, true, false, List, [], ◌∷◌, ◌++◌, Some, Result, Ok, Err, OnOk, OnErr, IfErr, length, get_or, take, refl, sym, ap, subst, ◌∙◌, arith}
use Rattle.std.specs.List.{slice_get, All}
use Rattle.std.proofs.lemmas.List.Elements.{All-nil, All-cons, All-head, All-tail}
use Rattle.std.specs.declared.cmp.Ordering.{Ordering}
use Rattle.std.specs.declared.vec.Vec.{Vec}
use denote.Ref.{Bor}
use denote.Param.Members.{Shared}
use Rattle.jsonc_text.specs.Options.{Options}
use Rattle.jsonc_tree.specs.Tree.{Node, IsTree}
use Rattle.jsonc_text.specs.declared.edit.EditError.{EditError}
use Rattle.jsonc_run.specs.declared.edit.Edit.{Edit}
use Rattle.jsonc_run.specs.declared.edit.Edit.TheVariants.{Sort}
use Rattle.jsonc_run.specs.Edits as nodes
use Rattle.jsonc_run.specs.Edits.{PlainEdit, Sorting, is_sort, operation_of, rearrange, unsorted, EditSteps, EditStep, Fits, IsOfCharacters, Allows}
use Rattle.jsonc_run.specs.Refusals.{IsLeft, IsTooDeep, FailsWith}
use Rattle.jsonc_run.proofs.SoundChain.{of_characters, fits_alike}
use Rattle.jsonc_run.proofs.lemmas.depth.Within.{AllFit, steps_keep}
use Rattle.jsonc_run.proofs.lemmas.promise.Asked.{Ask, edits_to, none_asks, one_asks, stops_so}
use Rattle.jsonc_run.proofs.lemmas.promise.Leads.{edits_lead}
use Rattle.jsonc_cst.specs.declared.cst.CstRootNode.{CstRootNode}
use Rattle.jsonc_cst.specs.declared.cst.node.CstNode.{CstNode}
use Rattle.jsonc_cst.specs.Document.{nodes_of}
use Rattle.jsonc_parser.specs.Lists.{RunSteps, none_made, first_made, RunOk, RunErr, RunUnsortedOk, RunUnsortedErr, AreAsked, IsAsked, RunStep, IsRunStep, IsSorting}

-- an edit that is no sort asks for the same however sorts are done
pub asks_alike : {A : Type 0} (s : Sorting) (e : Edit A) → is_sort e ≡ false → operation_of unsorted e ≡ operation_of s e
asks_alike s (Sort path pin groups) plain = let wrong : true ≡ false = plain in cc
asks_alike s e plain = refl

-- what is no sort
pub no_sort : {A : Type 0} (e : Edit A) → ((path : Vec ℕ A) (pin groups : Bool) → e ≡ Sort path pin groups → ⊥) → is_sort e ≡ false
no_sort (Sort path pin groups) other = absurd (other path pin groups refl)
no_sort e other = refl

-- what is said of an edit that is no sort, however sorts are done
pub told_alike : {T A : Type 0} (ns : List Node) (s : Sorting) (e : Edit A) (r : Result T EditError) → is_sort e ≡ false → IfErr r (FailsWith ns (operation_of unsorted e)) → IfErr r (FailsWith ns (operation_of s e))
told_alike ns s e r plain reported = subst (λ (op : PlainEdit). IfErr r (FailsWith ns op)) (asks_alike s e plain) reported

pub left_alike : {T E A : Type 0} (old new : List Node) (s : Sorting) (e : Edit A) (r : Result T E) → is_sort e ≡ false → OnErr r (IsLeft old (operation_of unsorted e) new) → OnErr r (IsLeft old (operation_of s e) new)
left_alike old new s e r plain left = subst (λ (op : PlainEdit). OnErr r (IsLeft old op new)) (asks_alike s e plain) left

-- what is said of a sort, as its edit is seen
module _ {A : Type 0} (e : Edit A) (path : Vec ℕ A) (pin groups : Bool) (is : e ≡ Sort path pin groups) (seen : List ℕ) (same_path : seen ≡ path.items) where
  sort_asks : (s : Sorting) → rearrange true seen s.headers s.order ≡ operation_of s e
  sort_asks s = ap (λ p. rearrange true p s.headers s.order) same_path ∙ sym (ap (operation_of s) is)

  pub sort_told : {T : Type 0} (ns : List Node) (s : Sorting) (r : Result T EditError) → IfErr r (FailsWith ns (rearrange true seen s.headers s.order)) → IfErr r (FailsWith ns (operation_of s e))
  sort_told ns s r reported = subst (λ (op : PlainEdit). IfErr r (FailsWith ns op)) (sort_asks s) reported

  pub sort_left : {T E : Type 0} (old new : List Node) (s : Sorting) (r : Result T E) → OnErr r (IsLeft old (rearrange true seen s.headers s.order) new) → OnErr r (IsLeft old (operation_of s e) new)
  sort_left old new s r left = subst (λ (op : PlainEdit). OnErr r (IsLeft old op new)) (sort_asks s) left

  pub sort_made : {C D T E : Type 0} (call : Shared C (Bor D × (CstNode × (CstNode × Unit {0}))) Ordering) (compare : C) (same : CstRootNode A → D) (old new : CstRootNode A) (r : Result T E)
      → OnOk r ((s : Sorting) × IsSorting call compare same old seen pin groups s × EditStep (nodes_of old) (rearrange true seen s.headers s.order) (nodes_of new)) → OnOk r (IsRunStep call compare same old e new)
  sort_made call compare same old new (Err x) made = tt
  sort_made call compare same old new (Ok x) (s, sorting, made) = (
    rearrange true seen s.headers s.order,
    record {
      sorting = s;
      asked = subst (λ (d : Edit A). IsAsked call compare same old d s) (sym is) (subst (λ p. IsSorting call compare same old p pin groups s) same_path sorting);
      is = sort_asks s;
      made = made;
      fits = λ deep. let none : 512 < 0 = deep.2 in omega (arith, none);
    },
  )

-- the next of a list, as it is seen
pub next_seen : {X : Type 0} (xs : List X) (i : ℕ) (x : X) → i < length xs → x ≡ get_or xs i x → slice_get xs i ≡ Some x
next_seen [] i x h e = absurd (omega (arith, h))
next_seen (y ∷ ys) zero x h e = ap Some (sym e)
next_seen (y ∷ ys) (suc i) x h e = next_seen ys i x (omega (arith, h)) e

taken_next : {X : Type 0} (xs : List X) (i : ℕ) (x : X) → i < length xs → x ≡ get_or xs i x → take (suc i) xs ≡ take i xs ++ x ∷ []
taken_next [] i x h e = absurd (omega (arith, h))
taken_next (y ∷ ys) zero x h e = ap (λ z. z ∷ []) (sym e)
taken_next (y ∷ ys) (suc i) x h e = ap (λ l. y ∷ l) (taken_next ys i x (omega (arith, h)) e)

pub taken_seen : {X : Type 0} (xs : List X) (i : ℕ) (x : X) → i < length xs → x ≡ get_or xs i x → take i xs ++ x ∷ [] ≡ take (i + 1) xs
taken_seen xs i x h e =
    let next : suc i ≡ i + 1 = omega arith in subst (λ n. take i xs ++ x ∷ [] ≡ take n xs) next (sym (taken_next xs i x h e))

module _ {C D A : Type 0} (call : Shared C (Bor D × (CstNode × (CstNode × Unit {0}))) Ordering) (compare : C) (same : CstRootNode A → D) where
  -- an edit that is no sort was made
  plainly_asked : (d : CstRootNode A) (s : Sorting) (e : Edit A) → is_sort e ≡ false → IsAsked call compare same d e s
  plainly_asked d s (Sort path pin groups) plain = let wrong : true ≡ false = plain in cc
  plainly_asked d s e plain = tt

  pub plainly_made : {T E : Type 0} (old : CstRootNode A) (e : Edit A) (new : CstRootNode A) (r : Result T E) → is_sort e ≡ false → OnOk r (EditStep (nodes_of old) (operation_of unsorted e) (nodes_of new)) → OnOk r (¬ (IsTooDeep (nodes_of old) (operation_of unsorted e)))
      → OnOk r (IsRunStep call compare same old e new)
  plainly_made old e new (Ok x) plain made fits = (operation_of unsorted e, record { sorting = unsorted; asked = plainly_asked old unsorted e plain; is = refl; made = made; fits = fits })
  plainly_made old e new (Err x) plain made fits = tt

  -- what edits that were made say of nodes
  pub as_nodes : {old new : CstRootNode A} {es : List (Edit A)} {ops : List PlainEdit} → RunSteps call compare same old es ops new → EditSteps (nodes_of old) ops (nodes_of new)
  as_nodes none_made = nodes.none_made
  as_nodes (first_made is after rest) = nodes.first_made is.made after (as_nodes rest)

  -- none of which writes what would be nested too deep
  all_fit : {old new : CstRootNode A} {es : List (Edit A)} {ops : List PlainEdit} → (made : RunSteps call compare same old es ops new) → AllFit (as_nodes made)
  unfolding as_nodes
  all_fit none_made = tt
  all_fit (first_made is after rest) = (is.fits, all_fit rest)

  -- what they write is characters, and its numbers fit
  pub are_characters : {old new : CstRootNode A} {es : List (Edit A)} {ops : List PlainEdit} → RunSteps call compare same old es ops new → All IsOfCharacters ops
  are_characters none_made = All-nil IsOfCharacters
  are_characters (first_made {e = e} {operations = operations} is after rest) = All-cons IsOfCharacters _ operations (subst IsOfCharacters (sym is.is) (of_characters is.sorting e)) (are_characters rest)

  pub numbers_fit : (o : Options) {old new : CstRootNode A} {es : List (Edit A)} {ops : List PlainEdit} → RunSteps call compare same old es ops new → All (Fits o) es → All (Allows o) ops
  numbers_fit o none_made f = All-nil (Allows o)
  numbers_fit o (first_made {e = e} {es = es} {operations = operations} is after rest) f =
      All-cons (Allows o) _ operations (subst (Allows o) (sym is.is) (fits_alike o is.sorting e (All-head (Fits o) e es f))) (numbers_fit o rest (All-tail (Fits o) e es f))

  -- one more edit
  pub made_more : (es : List (Edit A)) (ops : List PlainEdit) (e : Edit A) (op : PlainEdit) {old now new : CstRootNode A} → RunSteps call compare same old es ops now → RunStep call compare same now e op new → IsTree (nodes_of new) → RunSteps call compare same old (es ++ e ∷ []) (ops ++ op ∷ []) new
  made_more [] [] e op none_made made tree = first_made made tree none_made
  made_more (d ∷ ds) (p ∷ ps) e op (first_made first t rest) made tree = first_made first t (made_more ds ps e op rest made tree)
  made_more [] (p ∷ ps) e op wrong made tree = elim wrong [ ]
  made_more (d ∷ ds) [] e op wrong made tree = elim wrong [ ]

  -- so for the next of a list
  pub more_made_after : (old now new : CstRootNode A) (es : List (Edit A)) (k : ℕ) (e : Edit A) (ops : List PlainEdit) → k < length es → e ≡ get_or es k e → RunSteps call compare same old (take k es) ops now → IsRunStep call compare same now e new → IsTree (nodes_of new)
      → (all : List PlainEdit) × RunSteps call compare same old (take (k + 1) es) all new
  more_made_after old now new es k e ops there is made (op, next) tree = (
    ops ++ op ∷ [],
    subst (λ (l : List (Edit A)). RunSteps call compare same old l (ops ++ op ∷ []) new) (taken_seen es k e there is) (made_more (take k es) ops e op made next tree),
  )

  -- they ask for their operations
  asked_for : {old new : CstRootNode A} {es : List (Edit A)} {ops : List PlainEdit} → RunSteps call compare same old es ops new → Ask es ops
  asked_for none_made = none_asks
  asked_for (first_made {e = e} {es = es} {operations = ops} is after rest) =
      subst (λ (op : PlainEdit). Ask (e ∷ es) (op ∷ ops)) (sym is.is) (one_asks is.sorting (asked_for rest))

  -- all of them
  pub have_been_made : (old new : CstRootNode A) (es : List (Edit A)) (ops : List PlainEdit) → IsTree (nodes_of old) → RunSteps call compare same old es ops new → RunOk call compare same old es new
  have_been_made old new es ops tree made = record {
    operations = ops;
    made = made;
    edited = λ d shown fit.
        let allowed = numbers_fit d.options made fit in
        let lead = edits_lead (nodes_of old) (nodes_of new) ops tree (as_nodes made) (are_characters made) d shown allowed in
        (lead.0, lead.1, edits_to (asked_for made) lead.4, steps_keep tree (as_nodes made) (all_fit made) (are_characters made) d lead.0 shown allowed lead.1);
  }

  -- the first of them, and why the next was not
  pub have_stopped : (old now new : CstRootNode A) (es : List (Edit A)) (k : ℕ) (ops : List PlainEdit) (next : Edit A) (why : EditError) → IsTree (nodes_of old) → IsTree (nodes_of new) → RunSteps call compare same old (take k es) ops now → slice_get es k ≡ Some next
      → ((s : Sorting) → FailsWith (nodes_of now) (operation_of s next) why) → ((s : Sorting) → IsLeft (nodes_of now) (operation_of s next) (nodes_of new)) → RunErr call compare same old es k why new
  have_stopped old now new es k ops next why tree after made is_next reported left = record {
    operations = ops;
    now = now;
    made = made;
    next = next;
    is_next = is_next;
    error = reported;
    left = left;
    edited = stops_so (nodes_of old) (nodes_of now) (nodes_of new) es k ops next why tree after (as_nodes made) (all_fit made) (are_characters made) (λ o fit. numbers_fit o made fit) (asked_for made) is_next (reported unsorted) (left unsorted);
  }

  -- without the comparison, they are what the edits ask for
  are_asked : {old new : CstRootNode A} {es : List (Edit A)} {ops : List PlainEdit} → RunSteps call compare same old es ops new → AreAsked es ops
  are_asked none_made = AreAsked.none_asked
  are_asked (first_made {e = e} {es = es} {operations = operations} is after rest) =
      subst (λ (op : PlainEdit). AreAsked (e ∷ es) (op ∷ operations)) (sym is.is) (AreAsked.one_asked is.sorting (are_asked rest))

  pub unsorted_ok : {T E : Type 0} (old new : CstRootNode A) (seen es : List (Edit A)) (r : Result T E) → seen ≡ es → OnOk r (RunOk call compare same old seen new) → OnOk r (RunUnsortedOk old es new)
  unsorted_ok old new seen es (Err x) is run = tt
  unsorted_ok old new seen es (Ok x) is run =
      let all = subst (λ l. RunOk call compare same old l new) is run in
      record { operations = all.operations; asked = are_asked all.made; made = as_nodes all.made; edited = all.edited }

  pub unsorted_err : {T : Type 0} (old new : CstRootNode A) (seen es : List (Edit A)) (r : Result T (ℕ × EditError)) → seen ≡ es → IfErr r (λ e. RunErr call compare same old seen e.0 e.1 new) → IfErr r (λ e. RunUnsortedErr old es e.0 e.1 new)
  unsorted_err old new seen es (Ok x) is run = tt
  unsorted_err old new seen es (Err x) is run =
      let part = subst (λ l. RunErr call compare same old l x.0 x.1 new) is run in
      record {
        operations = part.operations;
        asked = are_asked part.made;
        now = nodes_of part.now;
        made = as_nodes part.made;
        next = part.next;
        is_next = part.is_next;
        error = part.error;
        left = part.left;
        edited = part.edited;
      }
