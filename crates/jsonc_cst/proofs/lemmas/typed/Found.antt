-- The value of a document that has been set is the node that is answered.
use Rattle.std.proofs.Common.{◌≡◌, ℕ, ◌++◌, Bool, true, false, cond, inl, inr, List, [], ◌∷◌, length, map, take, drop, filter, slice_get, Option, Some, None, refl, ap, sym, subst, ◌∙◌, arith}
use Rattle.std.specs.List.{All, find, splice}
use Rattle.std.specs.Option.{option_or}
use Rattle.std.proofs.lemmas.Bool.{cases_Bool}
use Rattle.std.proofs.lemmas.List.{get_or_default, take-append-drop}
use Rattle.std.proofs.lemmas.List.Elements.{All-head, All-tail}
use Rattle.std.proofs.lemmas.List.Folds.{find-append}
use Rattle.jsonc_text.specs.Plain.{Plain}
use Rattle.jsonc_tree.specs.Content.{Content, newline}
use Rattle.jsonc_tree.specs.Tree.{Node, content_at, children_at, IsTree}
use Rattle.jsonc_tree.specs.declared.node.CstNewlineKind.{CstNewlineKind}
use Rattle.jsonc_layout.specs.nodes.Kinds.{is_element, is_element_at}
use Rattle.jsonc_layout.specs.nodes.Properties.{value_at, value_by}
use Rattle.jsonc_sound.specs.TreeChanges.{IsElement}
use Rattle.jsonc_layout.specs.from_input.Laid.{laid}
use Rattle.jsonc_layout.specs.lines.Breadth.{newline_kind_of}
use Rattle.jsonc_edit.specs.Paths.{IsElementOf, LeadsTo, itself, IsAt}
use Rattle.jsonc_edit.specs.Reading.{layout_for, IsReplaced}
use Rattle.jsonc_edit.proofs.Elements.{taken, left}
use Rattle.jsonc_edit.proofs.FittingFinds.{fails, none_first, passes}
use Rattle.jsonc_edit.proofs.ReplacedChildren.{laid_element, in_place}
use Rattle.jsonc_edit.proofs.NewPaths.{at_now}
use Rattle.jsonc_edit.proofs.ReplacedValues.{spaced, spaced_at}
use Rattle.jsonc_edit.specs.set.Kinds.{FoundOrCreated, FoundOrSet, KeptOrReplaced}
use Rattle.jsonc_edit.specs.set.RootSet.{first_place, leads_in, line_end_if, FirstValue}
use Rattle.jsonc_cst.specs.declared.cst.node.CstNode.{CstNode}
use Rattle.jsonc_cst.specs.Nodes.{number_of, typed_at, IsNodeOf}
use Rattle.jsonc_cst.specs.Readings.{typed_if}
use Rattle.jsonc_cst.specs.typed.Setting.{IsRootValue, ValueBecomes}
use Rattle.jsonc_cst.proofs.lemmas.typed.Roots.{first_content}

module _ (test : ℕ → Bool) where
  -- what is found is the first of all that pass
  pub first_is : (xs : List ℕ) → slice_get (filter test xs) 0 ≡ find test xs
  first_is [] = refl
  first_is (x ∷ xs) =
      elim (cases_Bool (test x)) [
        | inl h ↦ ap (λ l. slice_get l 0) (taken test x xs h) ∙ sym (passes test x xs h)
        | inr h ↦ ap (λ l. slice_get l 0) (left test x xs h) ∙ first_is xs ∙ sym (fails test x xs h)
      ]

  behind_none : (xs ys : List ℕ) → find test xs ≡ None → find test (xs ++ ys) ≡ find test ys
  behind_none xs ys e = find-append test xs ys ∙ ap (λ r. option_or r (find test ys)) e

  before_any : (xs ys : List ℕ) (m : ℕ) → find test xs ≡ Some m → find test (xs ++ ys) ≡ Some m
  before_any xs ys m e = find-append test xs ys ∙ ap (λ r. option_or r (find test ys)) e

  none_in_front : (xs ys : List ℕ) → find test (xs ++ ys) ≡ None → find test xs ≡ None
  none_in_front [] ys e = refl
  none_in_front (x ∷ xs) ys e = let both = none_first test x (xs ++ ys) e in fails test x xs both.0 ∙ none_in_front xs ys both.1

found_alike : (p q : ℕ → Bool) (xs : List ℕ) → All (λ k. p k ≡ q k) xs → find p xs ≡ find q xs
found_alike p q [] all = refl
found_alike p q (x ∷ xs) all =
    ap (λ b. cond b (Some x) (find p xs)) (All-head (λ k. p k ≡ q k) x xs all)
    ∙ ap (λ r. cond (q x) (Some x) r) (found_alike p q xs (All-tail (λ k. p k ≡ q k) x xs all))

-- newlines that may have been made hold no element
no_element : (ns : List Node) (b : Bool) (k : CstNewlineKind) (xs : List ℕ) → map (content_at ns) xs ≡ line_end_if b k → find (is_element_at ns) xs ≡ None
no_element ns b k [] e = refl
no_element ns true k (x ∷ []) e = let h : content_at ns x ≡ newline k = cc in fails (is_element_at ns) x [] (ap is_element h)
no_element ns true k (x ∷ y ∷ xs) e = absurd (omega (arith, ap length e))
no_element ns false k (x ∷ xs) e = absurd (omega (arith, ap length e))

pub value_root : (ns : List Node) → IsTree ns → value_at ns 0 ≡ find (is_element_at ns) (children_at ns 0)
value_root ns tree = ap (λ w. value_by w ns 0) tree.root_first

ends_here : (ns : List Node) (n v : ℕ) → LeadsTo ns n v [] → v ≡ n
ends_here ns n _ itself = refl

value_from : (ns : List Node) → IsTree ns → (m : ℕ) → IsAt ns [] m → value_at ns 0 ≡ Some m
value_from ns tree m (x, e, leads) = value_root ns tree ∙ sym (first_is (is_element_at ns) (children_at ns 0)) ∙ e ∙ ap Some (ends_here ns m x leads)

replaced_found : (old new : List Node) (n : ℕ) (v : Plain) (m : ℕ) → IsTree old → IsTree new → value_at old 0 ≡ Some n → IsReplaced old new n v m → value_at new 0 ≡ Some m
replaced_found old new n v m tree after e (c, said, g) =
    let l = layout_for old c n in
    let here : IsElementOf old 0 0 n = first_is (is_element_at old) (children_at old 0) ∙ sym (value_root old tree) ∙ e in
    let at : IsAt old [] n = (n, here, itself) in
    value_from new after m
    (at_now g.spaced new (spaced old new n m (laid l v) tree g [] at).tree n m (laid l v) (in_place g.spaced new n m (laid l v) g.place) (laid_element l v) []
    (spaced_at old new n m (laid l v) tree g [] at))

-- where a first value was inserted
module _ (old new : List Node) (v : Plain) (m : ℕ) (tree : IsTree old) (f : FirstValue old new v m) where
  kids : children_at new 0 ≡ take (first_place old) (children_at old 0) ++ ((f.before ++ m ∷ f.behind) ++ drop (first_place old) (children_at old 0))
  kids =
      f.put.children
      ∙ ap (λ l. splice l (first_place old) (first_place old) (f.before ++ m ∷ f.behind)) (f.prepared.keeps.children 0 tree.first)

  same_kinds : All (λ k. is_element_at new k ≡ is_element_at old k) (children_at old 0)
  same_kinds k d l =
      subst (λ n. is_element_at new n ≡ is_element_at old n) (get_or_default (children_at old 0) k 0 d l)
      (ap is_element (f.put.content _ ∙ f.prepared.keeps.content _ (tree.in_tree 0 k l)))

  none_front : value_at old 0 ≡ None → find (is_element_at new) (take (first_place old) (children_at old 0)) ≡ None
  none_front e =
      none_in_front (is_element_at new) (take (first_place old) (children_at old 0)) (drop (first_place old) (children_at old 0))
      (ap (find (is_element_at new)) (take-append-drop (first_place old) (children_at old 0))
      ∙ found_alike (is_element_at new) (is_element_at old) (children_at old 0) same_kinds ∙ sym (value_root old tree) ∙ e)

  none_before : find (is_element_at new) f.before ≡ None
  none_before =
      found_alike (is_element_at new) (is_element_at f.ready) f.before (λ k d l. ap is_element (f.put.content _))
      ∙ no_element f.ready (leads_in old) (newline_kind_of old) f.before f.leads

  is_one : is_element_at new m ≡ true
  is_one = subst IsElement (sym (first_content old new v m f)) (laid_element (layout_for old 0 0) v)

  first_found : value_at old 0 ≡ None → value_at new 0 ≡ Some m
  first_found e =
      value_root new f.tree ∙ ap (find (is_element_at new)) kids
      ∙ behind_none (is_element_at new) (take (first_place old) (children_at old 0)) ((f.before ++ m ∷ f.behind) ++ drop (first_place old) (children_at old 0)) (none_front e)
      ∙ before_any (is_element_at new) (f.before ++ m ∷ f.behind) (drop (first_place old) (children_at old 0)) m
      (behind_none (is_element_at new) f.before (m ∷ f.behind) none_before ∙ passes (is_element_at new) m f.behind is_one)

-- so it is where a value has been set
pub value_found : (old new : List Node) (v : Plain) (o : Option ℕ) (m : ℕ) → IsTree old → IsTree new → value_at old 0 ≡ o → ValueBecomes old new v o m → value_at new 0 ≡ Some m
value_found old new v None m tree after e f = first_found old new v m tree f e
value_found old new v (Some n) m tree after e r = replaced_found old new n v m tree after e r

-- or an array or object has been found
module _ (kind : Content → Bool) (v : Plain) (old new : List Node) (tree : IsTree old) (after : IsTree new) where
  found_if : (n m : ℕ) (b : Bool) → value_at old 0 ≡ Some n → new ≡ old → Some m ≡ cond b (Some n) None → value_at new 0 ≡ Some m
  found_if n m true e same said = ap (λ ns. value_at ns 0) same ∙ e ∙ sym said
  found_if n m false e same said = absurd (let wrong : Some m ≡ None = said in cc)

  pub created_found : (o : Option ℕ) (m : ℕ) → value_at old 0 ≡ o → FoundOrCreated kind v old new o (Some m) → value_at new 0 ≡ Some m
  created_found None m e (k, said, f) = first_found old new v k tree f e ∙ sym said
  created_found (Some n) m e (said, same) = found_if n m (kind (content_at old n)) e same said

  kept_found : (n m : ℕ) (b : Bool) → value_at old 0 ≡ Some n → KeptOrReplaced b v old new n m → value_at new 0 ≡ Some m
  kept_found n m true e (here, same) = ap (λ ns. value_at ns 0) same ∙ e ∙ ap Some (sym here)
  kept_found n m false e r = replaced_found old new n v m tree after e r

  pub set_found : (o : Option ℕ) (m : ℕ) → value_at old 0 ≡ o → FoundOrSet kind v old new o m → value_at new 0 ≡ Some m
  set_found None m e f = first_found old new v m tree f e
  set_found (Some n) m e r = kept_found n m (kind (content_at old n)) e r

-- as a typed node
pub stands_as : (ns : List Node) (m : ℕ) (node : CstNode) → value_at ns 0 ≡ Some m → number_of node ≡ m → IsNodeOf ns node → IsRootValue ns node
stands_as ns m node e here held = ap (typed_if ns) e ∙ ap (λ k. Some (typed_at ns k)) (sym here) ∙ ap (λ x. Some x) held.1
