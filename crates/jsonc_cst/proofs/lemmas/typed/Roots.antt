-- The nodes that set a document's value, or a property: they are there, of their kind, and every other node stays.
use Rattle.std.proofs.Common.{◌≡◌, ℕ, ◌<◌, ◌++◌, Bool, true, false, inl, inr, List, ◌∷◌, length, get_or, Option, Some, None, IfSome, IfNone, cond, refl, ap, subst, ◌∙◌, arith, length-append}
use Rattle.std.proofs.Math.Seq.{get_or-append_seam}
use Rattle.std.proofs.lemmas.Bool.{cases_lt, false≢true}
use Rattle.std.proofs.lemmas.List.{get_or_past}
use Rattle.jsonc_text.specs.Plain.{Plain}
use Rattle.jsonc_tree.specs.Content.{Content}
use Rattle.jsonc_tree.specs.OrderedTree.{Top}
use Rattle.jsonc_tree.specs.Tree.{Node, nowhere, content_at}
use Rattle.jsonc_layout.specs.from_input.Layout.{Layout}
use Rattle.jsonc_layout.specs.from_input.Laid.{laid}
use Rattle.jsonc_edit.specs.Reading.{layout_for, IsReplaced}
use Rattle.jsonc_edit.specs.set.Giving.{IsPropertyReplaced}
use Rattle.jsonc_edit.specs.set.Kinds.{is_array, is_object, FoundOrCreated, FoundOrSet, KeptOrReplaced}
use Rattle.jsonc_edit.specs.set.RootSet.{FirstValue}
use Rattle.jsonc_cst.specs.Nodes.{array_node, object_node, typed, typed_at}
use Rattle.jsonc_cst.specs.typed.Setting.{ValueBecomes}
use Rattle.jsonc_cst.proofs.lemmas.typed.HandlesKept.{Stays, stay_both, stay_kept, stay_replaced, stay_same, stay_spaced, stay_spliced, replaced_there}

-- where a first value was inserted
module _ (old new : List Node) (v : Plain) (m : ℕ) (f : FirstValue old new v m) where
  pub stay_first : Stays old new
  stay_first = stay_both old f.ready new (stay_kept old f.ready f.prepared.keeps) (stay_spliced f.ready new _ _ _ _ f.put)

  pub first_there : m < length new
  first_there =
      let within : length f.before < length (f.before ++ m ∷ f.behind) = omega (arith, length-append f.before (m ∷ f.behind)) in
      let there : get_or (f.before ++ m ∷ f.behind) (length f.before) 0 < length f.ready = f.join.in_tree (length f.before) within in
      omega (arith, there, get_or-append_seam f.before m f.behind 0, f.put.len)

  pub first_content : content_at new m ≡ (laid (layout_for old 0 0) v).content
  first_content = f.put.content m ∙ ap (λ (t : Top). t.content) f.is

-- where a value has been replaced
replaced_content : (old new : List Node) (n : ℕ) (v : Plain) (m : ℕ) (content : Content) → ((l : Layout) → (laid l v).content ≡ content)
    → IsReplaced old new n v m → content_at new m ≡ content
replaced_content old new n v m content made (c, said, g) =
    g.place.replaces.spliced.content m ∙ ap (λ (t : Top). t.content) g.place.is ∙ made (layout_for old c n)

-- where the root's value has been set
pub set_there : (old new : List Node) (v : Plain) (o : Option ℕ) (m : ℕ) → ValueBecomes old new v o m → m < length new
set_there old new v None m f = first_there old new v m f
set_there old new v (Some n) m r = replaced_there old new n v m r

pub stay_set : (old new : List Node) (v : Plain) (o : Option ℕ) (m : ℕ) → ValueBecomes old new v o m → Stays old new
stay_set old new v None m f = stay_first old new v m f
stay_set old new v (Some n) m r = stay_replaced old new n v m r

-- by what the edit of numbers says
pub becomes : (old new : List Node) (v : Plain) (o : Option ℕ) (m : ℕ) → IfSome o (λ n. IsReplaced old new n v m) → IfNone o (FirstValue old new v m)
    → ValueBecomes old new v o m
becomes old new v None m r f = f
becomes old new v (Some n) m r f = r

-- an array or object that was found, or has been set
module _ (kind : Content → Bool) (v : Plain) (old new : List Node) where
  pub stay_created : (o answer : Option ℕ) → FoundOrCreated kind v old new o answer → Stays old new
  stay_created None answer (m, said, f) = stay_first old new v m f
  stay_created (Some n) answer (said, same) = stay_same old new same

  pub kept_stays : (n m : ℕ) (b : Bool) → KeptOrReplaced b v old new n m → Stays old new
  kept_stays n m true (here, same) = stay_same old new same
  kept_stays n m false r = stay_replaced old new n v m r

  pub stay_found : (o : Option ℕ) (m : ℕ) → FoundOrSet kind v old new o m → Stays old new
  stay_found None m f = stay_first old new v m f
  stay_found (Some n) m r = kept_stays n m (kind (content_at old n)) r

  -- a value of another kind has been replaced
  pub other_replaced : (found : Option ℕ) (m : ℕ) → FoundOrSet kind v old new found m → (n : ℕ) → found ≡ Some n → kind (content_at old n) ≡ false → IsReplaced old new n v m
  other_replaced found m r n e other = subst (λ b. KeptOrReplaced b v old new n m) other (subst (λ w. FoundOrSet kind v old new w m) e r)

-- it is of its kind
module _ (kind : Content → Bool) (v : Plain) (content : Content) (made : (l : Layout) → (laid l v).content ≡ content)
    (is : (c : Content) → kind c ≡ true → c ≡ content) (old new : List Node) where
  still_is : (n m : ℕ) → m ≡ n → new ≡ old → kind (content_at old n) ≡ true → content_at new m ≡ content
  still_is n m here same e = ap (content_at new) here ∙ ap (λ ns. content_at ns n) same ∙ is (content_at old n) e

  found_if : (n m : ℕ) → new ≡ old → (b : Bool) → kind (content_at old n) ≡ b → Some m ≡ cond b (Some n) None → content_at new m ≡ content
  found_if n m same true e said = still_is n m (cc) same e
  found_if n m same false e said = absurd (let wrong : Some m ≡ None = said in cc)

  pub created_is : (o : Option ℕ) (m : ℕ) → FoundOrCreated kind v old new o (Some m) → content_at new m ≡ content
  created_is None m (k, said, f) =
      let here : m ≡ k = cc in
      ap (content_at new) here ∙ first_content old new v k f ∙ made (layout_for old 0 0)
  created_is (Some n) m (said, same) = found_if n m same (kind (content_at old n)) refl said

  pub kept_is : (n m : ℕ) (b : Bool) → kind (content_at old n) ≡ b → KeptOrReplaced b v old new n m → content_at new m ≡ content
  kept_is n m true e (here, same) = still_is n m here same e
  kept_is n m false e r = replaced_content old new n v m content made r

  pub set_is : (o : Option ℕ) (m : ℕ) → FoundOrSet kind v old new o m → content_at new m ≡ content
  set_is None m f = first_content old new v m f ∙ made (layout_for old 0 0)
  set_is (Some n) m r = kept_is n m (kind (content_at old n)) refl r

pub object_is : (c : Content) → is_object c ≡ true → c ≡ Content.object
object_is Content.object e = refl
object_is c e = absurd (false≢true e)

pub array_is : (c : Content) → is_array c ≡ true → c ≡ Content.array
array_is Content.array e = refl
array_is c e = absurd (false≢true e)

-- what is there is of its kind
pub object_there : (ns : List Node) (n : ℕ) → content_at ns n ≡ Content.object → typed_at ns n ≡ object_node (record { number = n })
object_there ns n e = ap (λ w. typed w n) e

pub array_there : (ns : List Node) (n : ℕ) → content_at ns n ≡ Content.array → typed_at ns n ≡ array_node (record { number = n })
array_there ns n e = ap (λ w. typed w n) e

-- what is not `null` is there
pub there_if : (ns : List Node) (n : ℕ) → (content_at ns n ≡ Content.null → ⊥) → n < length ns
there_if ns n other =
    elim (cases_lt n (length ns)) [
      | inl l ↦ l
      | inr g ↦ absurd (other (ap (λ (x : Node). x.content) (get_or_past ns n nowhere g)))
    ]

-- where a property has been replaced by another
module _ (old new : List Node) (n : ℕ) (name : List ℕ) (v : Plain) (m : ℕ) where
  pub property_there : IsPropertyReplaced old new n name v m → m < length new
  property_there (c, said, g) =
      let there : m < length g.spaced = g.place.replaces.join.in_tree 0 (omega arith) in
      omega (arith, there, g.place.replaces.spliced.len)

  pub stay_property : IsPropertyReplaced old new n name v m → Stays old new
  stay_property (c, said, g) =
      stay_both old g.ready new (stay_kept old g.ready g.prepared.keeps)
      (stay_both g.ready g.spaced new (stay_spaced _ g.ready g.spaced g.spaces) (stay_spliced g.spaced new _ _ _ _ g.place.replaces.spliced))
