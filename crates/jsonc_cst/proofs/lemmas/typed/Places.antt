-- Each node of a sound document that an edit is made of has its place: by what the node is.
use Rattle.std.proofs.Common.{IsTrue, ◌≡◌, ◌≢◌, ℕ, Bool, true, false, not, cond, List, [], ◌∷◌, filter, slice_get, Option, Some, None, inl, inr, refl, sym, ap, subst, ◌∙◌, rules}
use Rattle.std.proofs.lemmas.Bool.{cases_Bool, false≢true}
use Rattle.std.specs.List.{find}
use Rattle.jsonc_text.specs.Options.{Options}
use Rattle.jsonc_tree.specs.Content as content
use Rattle.jsonc_tree.specs.Content.{Content}
use Rattle.jsonc_tree.specs.OrderedTree.{OrderedTree, ordered_tree}
use Rattle.jsonc_tree.specs.Tree.{Node, content_at, parent_at, children_at, IsTree, IsOver}
use Rattle.jsonc_tree.specs.Values.{is_passed_over}
use Rattle.jsonc_tree.proofs.Order.{parent_there}
use Rattle.jsonc_sound.specs.Shape.{IsLiteralBefore}
use Rattle.jsonc_layout.specs.nodes.Kinds.{is_comment, is_element_at, is_property}
use Rattle.jsonc_layout.specs.lines.Kinds.{is_array_or_object}
use Rattle.jsonc_layout.specs.nodes.Properties.{is_name, is_name_at, name_at}
use Rattle.jsonc_sound.specs.Alone as alone
use Rattle.jsonc_sound.specs.Alone.{ValueAlone}
use Rattle.jsonc_sound.specs.SoundTrees.{SoundTree}
use Rattle.jsonc_edit.specs.Paths.{IsAt, IsElementOf, as_root, as_value, as_property, as_name, between}
use Rattle.jsonc_edit.proofs.ShapedPlaces.{all_stand}
use Rattle.jsonc_edit.proofs.Uniqueness.{element_parent}
use Rattle.jsonc_edit.proofs.lemmas.commas.Holders.{value_at_path}
use Rattle.jsonc_insert.specs.named.Places.{IsPropertyAt}
use Rattle.jsonc_run.specs.Places.{IsEntryAt}
use Rattle.jsonc_run.specs.promise.Steps.{IsCommentAt, IsNoPart}
use Rattle.jsonc_run.proofs.lemmas.promise.NodePlaces.{comment_place, entry_place, over_parent, property_place, value_place, IsKind}
use Rattle.jsonc_cst.specs.Nodes.{typed}
use Rattle.jsonc_cst.specs.typed.Edits.{is_found, is_name_in, is_name_under}
use Rattle.jsonc_cst.specs.typed.Removing.{removal_of}
use Rattle.jsonc_cst.specs.typed.Steps.{IsHolder, IsValueIn, IsWholeOrAt}
use Rattle.jsonc_cst.specs.declared.typed.removing.Removal.TheVariants.{Clearing, OfComment, OfElement, OfLeaf}
use Rattle.jsonc_cst.proofs.lemmas.typed.CompleteNodes.{name_kind}

-- what a value is, and what is removed as an element: no root and nothing that is passed over
value_kind : (ns : List Node) (c : Content) (n : ℕ) → IsValueIn ns (typed c n) → IsKind c × (c ≡ content.property → ⊥)
value_kind ns content.array n v = ((λ e. let w : content.array ≡ content.root = e in cc, refl), λ e. let w : content.array ≡ content.property = e in cc)
value_kind ns content.object n v = ((λ e. let w : content.object ≡ content.root = e in cc, refl), λ e. let w : content.object ≡ content.property = e in cc)
value_kind ns (content.string s) n v = ((λ e. let w : content.string s ≡ content.root = e in cc, refl), λ e. let w : content.string s ≡ content.property = e in cc)
value_kind ns (content.word s) n v = ((λ e. let w : content.word s ≡ content.root = e in cc, refl), λ e. let w : content.word s ≡ content.property = e in cc)
value_kind ns (content.number s) n v = ((λ e. let w : content.number s ≡ content.root = e in cc, refl), λ e. let w : content.number s ≡ content.property = e in cc)
value_kind ns (content.boolean b) n v = ((λ e. let w : content.boolean b ≡ content.root = e in cc, refl), λ e. let w : content.boolean b ≡ content.property = e in cc)
value_kind ns content.null n v = ((λ e. let w : content.null ≡ content.root = e in cc, refl), λ e. let w : content.null ≡ content.property = e in cc)
value_kind ns c n v = absurd v

element_kind : (c : Content) (n : ℕ) → removal_of (typed c n) ≡ OfElement → IsKind c
element_kind content.array n e = (λ x. let w : content.array ≡ content.root = x in cc, refl)
element_kind content.object n e = (λ x. let w : content.object ≡ content.root = x in cc, refl)
element_kind content.property n e = (λ x. let w : content.property ≡ content.root = x in cc, refl)
element_kind (content.string s) n e = (λ x. let w : content.string s ≡ content.root = x in cc, refl)
element_kind (content.word s) n e = (λ x. let w : content.word s ≡ content.root = x in cc, refl)
element_kind (content.number s) n e = (λ x. let w : content.number s ≡ content.root = x in cc, refl)
element_kind (content.boolean b) n e = (λ x. let w : content.boolean b ≡ content.root = x in cc, refl)
element_kind content.null n e = (λ x. let w : content.null ≡ content.root = x in cc, refl)
element_kind content.root n e = absurd (let w : Clearing ≡ OfElement = e in cc)
element_kind (content.token x) n e = absurd (let w : OfLeaf ≡ OfElement = e in cc)
element_kind (content.whitespace x) n e = absurd (let w : OfLeaf ≡ OfElement = e in cc)
element_kind (content.newline x) n e = absurd (let w : OfLeaf ≡ OfElement = e in cc)
element_kind (content.comment x) n e = absurd (let w : OfComment ≡ OfElement = e in cc)

pub comment_kind : (c : Content) (n : ℕ) → removal_of (typed c n) ≡ OfComment → is_comment c ≡ true
comment_kind (content.comment s) n e = refl
comment_kind content.root n e = absurd (let w : Clearing ≡ OfComment = e in cc)
comment_kind (content.token x) n e = absurd (let w : OfLeaf ≡ OfComment = e in cc)
comment_kind (content.whitespace x) n e = absurd (let w : OfLeaf ≡ OfComment = e in cc)
comment_kind (content.newline x) n e = absurd (let w : OfLeaf ≡ OfComment = e in cc)
comment_kind content.array n e = absurd (let w : OfElement ≡ OfComment = e in cc)
comment_kind content.object n e = absurd (let w : OfElement ≡ OfComment = e in cc)
comment_kind content.property n e = absurd (let w : OfElement ≡ OfComment = e in cc)
comment_kind (content.string s) n e = absurd (let w : OfElement ≡ OfComment = e in cc)
comment_kind (content.word s) n e = absurd (let w : OfElement ≡ OfComment = e in cc)
comment_kind (content.number s) n e = absurd (let w : OfElement ≡ OfComment = e in cc)
comment_kind (content.boolean b) n e = absurd (let w : OfElement ≡ OfComment = e in cc)
comment_kind content.null n e = absurd (let w : OfElement ≡ OfComment = e in cc)

holder_kind : (c : Content) (n : ℕ) → IsHolder (typed c n) → (c ≡ content.property → ⊥) × (is_name c ≡ false) × (is_passed_over c ≡ false)
holder_kind content.root n h = (λ x. let w : content.root ≡ content.property = x in cc, refl, refl)
holder_kind content.array n h = (λ x. let w : content.array ≡ content.property = x in cc, refl, refl)
holder_kind content.object n h = (λ x. let w : content.object ≡ content.property = x in cc, refl, refl)
holder_kind c n h = absurd h

-- no value is a property
no_property_value : {o : Options} {c : Content} {below : OrderedTree} → ValueAlone o c below → c ≡ content.property → ⊥
no_property_value {o} (alone.literal {content = c} l) e = subst (λ c. IsLiteralBefore o c []) e l
no_property_value (alone.an_array g) e = let wrong : content.array ≡ content.property = e in cc
no_property_value (alone.an_object g) e = let wrong : content.object ≡ content.property = e in cc

-- nor is one the root
pub no_root_value : {o : Options} {c : Content} {below : OrderedTree} → ValueAlone o c below → c ≡ content.root → ⊥
no_root_value {o} (alone.literal {content = c} l) e = subst (λ c. IsLiteralBefore o c []) e l
no_root_value (alone.an_array g) e = let wrong : content.array ≡ content.root = e in cc
no_root_value (alone.an_object g) e = let wrong : content.object ≡ content.root = e in cc

-- what holds commas and is not the root is an array or an object
holder_holds : (c : Content) (n : ℕ) → IsHolder (typed c n) → (c ≡ content.root → ⊥) → IsTrue (is_array_or_object c)
holder_holds content.root n h out = absurd (out refl)
holder_holds content.array n h out = refl
holder_holds content.object n h out = refl
holder_holds c n h out = absurd h

-- a string or a word among the values is no name
not_named : (ns : List Node) (c : Content) (n : ℕ) → is_name c ≡ true → IsValueIn ns (typed c n) → is_name_in ns n ≡ false
not_named ns (content.string s) n e v = v
not_named ns (content.word s) n e v = v
not_named ns c n e v = cc

-- what names is no trivia and no token
name_is_element : (c : Content) → is_passed_over c ≡ true → is_name c ≡ false
name_is_element (content.token x) h = refl
name_is_element (content.whitespace x) h = refl
name_is_element (content.newline x) h = refl
name_is_element (content.comment x) h = refl
name_is_element c h = cc

-- the first element among children, if it is a string or a word, is the first of these
found_name : (ns : List Node) (n : ℕ) → is_name_at ns n ≡ true → (xs : List ℕ) → slice_get (filter (is_element_at ns) xs) 0 ≡ Some n → find (is_name_at ns) xs ≡ Some n
found_name ns n named [] e = absurd (let wrong : None ≡ Some n = e in cc)
found_name ns n named (x ∷ xs) e =
    elim (cases_Bool (is_passed_over (content_at ns x))) [
      | inl over ↦
          let later : slice_get (filter (is_element_at ns) xs) 0 ≡ Some n = sym (ap (λ b. slice_get (cond b (filter (is_element_at ns) xs) (x ∷ filter (is_element_at ns) xs)) 0) over) ∙ same_cond x xs ∙ e in
          ap (λ b. cond b (Some x) (find (is_name_at ns) xs)) (name_is_element (content_at ns x) over) ∙ found_name ns n named xs later
      | inr element ↦
          let one : Some x ≡ Some n = sym (ap (λ b. slice_get (cond b (filter (is_element_at ns) xs) (x ∷ filter (is_element_at ns) xs)) 0) element) ∙ same_cond x xs ∙ e in
          let it : x ≡ n = cc in
          ap (λ b. cond b (Some x) (find (is_name_at ns) xs)) (ap (is_name_at ns) it ∙ named) ∙ one
    ]
  where
    by_not : (b : Bool) (x : ℕ) (l : List ℕ) → slice_get (cond b l (x ∷ l)) 0 ≡ slice_get (cond (not b) (x ∷ l) l) 0
    by_not true x l = refl
    by_not false x l = refl

    same_cond : (x : ℕ) (xs : List ℕ) → slice_get (cond (is_passed_over (content_at ns x)) (filter (is_element_at ns) xs) (x ∷ filter (is_element_at ns) xs)) 0 ≡ slice_get (filter (is_element_at ns) (x ∷ xs)) 0
    same_cond x xs = by_not (is_passed_over (content_at ns x)) x (filter (is_element_at ns) xs)

-- what is no string and no word is no name
found_not : (ns : List Node) (n : ℕ) → is_name_at ns n ≡ false → (xs : List ℕ) → is_found (find (is_name_at ns) xs) n ≡ false
found_not ns n other [] = refl
found_not ns n other (x ∷ xs) =
    elim (cases_Bool (is_name_at ns x)) [
      | inl named ↦ ap (λ b. is_found (cond b (Some x) (find (is_name_at ns) xs)) n) named ∙ apart x n (λ e. false≢true (sym other ∙ ap (is_name_at ns) (sym e) ∙ named))
      | inr not_it ↦ ap (λ b. is_found (cond b (Some x) (find (is_name_at ns) xs)) n) not_it ∙ found_not ns n other xs
    ]
  where
    apart : (x n : ℕ) → x ≢ n → is_found (Some x) n ≡ false
    apart x n ne = search rules

under_not : (ns : List Node) (n : ℕ) → is_name_at ns n ≡ false → (o : Option ℕ) → is_name_under ns o n ≡ false
under_not ns n other None = refl
under_not ns n other (Some p) = by (is_property (content_at ns p))
  where
    by : (b : Bool) → cond b (is_found (name_at ns p) n) false ≡ false
    by true = found_not ns n other (children_at ns p)
    by false = refl

unnamed_by : (ns : List Node) (c : Content) (n : ℕ) → content_at ns n ≡ c → IsValueIn ns (typed c n) → is_name_in ns n ≡ false
unnamed_by ns (content.string s) n is v = v
unnamed_by ns (content.word s) n is v = v
unnamed_by ns content.array n is v = under_not ns n (ap is_name is) (parent_at ns n)
unnamed_by ns content.object n is v = under_not ns n (ap is_name is) (parent_at ns n)
unnamed_by ns (content.number s) n is v = under_not ns n (ap is_name is) (parent_at ns n)
unnamed_by ns (content.boolean b) n is v = under_not ns n (ap is_name is) (parent_at ns n)
unnamed_by ns content.null n is v = under_not ns n (ap is_name is) (parent_at ns n)
unnamed_by ns c n is v = absurd v

-- so a value is no name
pub value_unnamed : (ns : List Node) (n : ℕ) → IsValueIn ns (typed (content_at ns n) n) → is_name_in ns n ≡ false
value_unnamed ns n v = unnamed_by ns (content_at ns n) n refl v

module _ (ns : List Node) (tree : IsTree ns) where
  -- the first element of a property, if it is a string or a word, is its name
  is_named : (r n : ℕ) → content_at ns r ≡ content.property → IsElementOf ns r 0 n → is_name_at ns n ≡ true → is_name_in ns n ≡ true
  is_named r n is element named =
      ap (λ o. is_name_under ns o n) (element_parent ns tree r 0 n element)
      ∙ ap (λ c. cond (is_property c) (is_found (name_at ns r) n) false) is
      ∙ ap (λ o. is_found o n) (found_name ns n named (children_at ns r) element)
      ∙ same_number n
    where
      same_number : (n : ℕ) → is_found (Some n) n ≡ true
      same_number n = search rules

module _ (o : Options) (ns : List Node) (tree : IsTree ns) (sound : SoundTree o (ordered_tree ns 0)) where
  named : (r n : ℕ) → IsOver ns 0 r → content_at ns r ≡ content.property → IsElementOf ns r 0 n → is_name (content_at ns n) ≡ true
  named r n over is element = name_kind o ns tree sound r n over (parent_there ns tree n r (element_parent ns tree r 0 n element)).1 is element

  pub value_path : (n : ℕ) → IsValueIn ns (typed (content_at ns n) n) → IsOver ns 0 n → (path : List ℕ) × IsAt ns path n
  value_path n v over =
      let kind = value_kind ns (content_at ns n) n v in
      value_place o ns tree sound n over kind.0 kind.1 (λ r up is element.
      let name = named r n up is element in
      false≢true (sym (not_named ns (content_at ns n) n name v) ∙ is_named ns tree r n is element name))

  pub property_path : (n : ℕ) → content_at ns n ≡ content.property → IsOver ns 0 n → (path : List ℕ) × IsPropertyAt ns path n
  property_path n is over =
      property_place o ns tree sound n over is (λ path at. no_property_value (value_at_path o ns tree sound path n at) is)
      (λ r up kind element. false≢true (ap is_name (sym is) ∙ named r n up kind element))

  pub entry_path : (n : ℕ) → removal_of (typed (content_at ns n) n) ≡ OfElement → IsNoPart ns n → IsOver ns 0 n → (path : List ℕ) × IsEntryAt ns path n
  entry_path n e alone over = entry_place o ns tree sound n over (element_kind (content_at ns n) n e) alone

  pub comment_number : (n : ℕ) → removal_of (typed (content_at ns n) n) ≡ OfComment → IsOver ns 0 n → (number : ℕ) × IsCommentAt ns number n
  comment_number n e over = comment_place ns tree n over (comment_kind (content_at ns n) n e)

  pub holder_at : (n : ℕ) → IsHolder (typed (content_at ns n) n) → (path : List ℕ) → IsAt ns path n → IsTrue (is_array_or_object (content_at ns n))
  holder_at n h path at = holder_holds (content_at ns n) n h (no_root_value (value_at_path o ns tree sound path n at))

  pub holder_place : (n : ℕ) → IsHolder (typed (content_at ns n) n) → IsOver ns 0 n → (path : List ℕ) × IsWholeOrAt ns path n
  holder_place n h over =
      let kind = holder_kind (content_at ns n) n h in
      elim (all_stand o ns tree sound.shaped n over) [
        | as_root e ↦ ([], inl (e, refl))
        | as_value {path = path} at ↦ (path, inr at)
        | as_property i at outer element is ↦ absurd (kind.0 is)
        | as_name r is element ↦ absurd (no_name_holder n r over kind.1 is element)
        | between h2 ↦ absurd (false≢true (sym kind.2 ∙ h2))
      ]
    where
      no_name_holder : (n r : ℕ) → IsOver ns 0 n → is_name (content_at ns n) ≡ false → content_at ns r ≡ content.property → IsElementOf ns r 0 n → ⊥
      no_name_holder n r over other is element = false≢true (sym other ∙ named r n (over_parent ns tree n r over (element_parent ns tree r 0 n element)) is element)
