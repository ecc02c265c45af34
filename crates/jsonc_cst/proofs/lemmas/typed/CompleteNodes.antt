-- What no node of a document of the grammar's shape lacks: an array or object its brackets, and a property its name and its colon.
use Rattle.std.proofs.Common.{◌≡◌, ℕ, zero, suc, ◌<◌, ◌||◌, ◌&&◌, Bool, true, false, cond, not, List, [], ◌∷◌, ◌++◌, length, filter, slice_get, slice_index, Some, None, inl, inr, IsTrue, reverse, refl, sym, ap, subst, ◌∙◌, arith, Result, Ok, Err, IfErr, OnErr}
use Rattle.std.proofs.lemmas.List.{reverse-append}
use Rattle.std.specs.List.{list_any}
use Rattle.std.proofs.lemmas.Bool.{cases_Bool, false≢true}
use Rattle.jsonc_text.specs.Options.{Options}
use Rattle.jsonc_tree.specs.Content.{Content, root, array, object, property}
use Rattle.jsonc_tree.specs.Siblings.{first}
use Rattle.jsonc_tree.specs.Tree.{Node, content_at, parent_at, children_at, place_at, IsTree, IsOver}
use Rattle.jsonc_tree.specs.OrderedTree.{OrderedTree, none, more, Shows, shows_none, shows_more, ordered_tree}
use Rattle.jsonc_tree.specs.Values.{is_passed_over}
use Rattle.jsonc_tree.proofs.Order.{parent_there}
use Rattle.jsonc_tree.proofs.OrderedTrees.{Shows-unique}
use Rattle.jsonc_sound.specs.Shape.{IsLiteralBefore, IsNameBefore, Trivia, nothing, trivia, token_then, printed_text, ValueShaped, PropertyShaped, DocumentShaped}
use Rattle.jsonc_layout.specs.nodes.Kinds.{is_colon, is_colon_at, is_element, is_element_at, is_token}
use Rattle.jsonc_layout.specs.nodes.Properties.{is_name, is_name_at, behind_first, lacks_name_at}
use Rattle.jsonc_layout.specs.lines.Kinds.{is_array_or_object}
use Rattle.jsonc_sound.specs.Alone as alone
use Rattle.jsonc_sound.specs.Alone.{ValueAlone}
use Rattle.jsonc_sound.specs.Rows.{of_values, of_properties}
use Rattle.jsonc_sound.specs.SoundTrees.{SoundTree}
use Rattle.jsonc_sound.specs.TreeChanges.{IsElement}
use Rattle.jsonc_sound.proofs.NodesAlone.{value_alone}
use Rattle.jsonc_edit.specs.Changes.{row_below}
use Rattle.jsonc_edit.specs.Paths.{IsElementOf}
use Rattle.jsonc_text.specs.declared.edit.EditError.{EditError}
use Rattle.jsonc_text.specs.declared.edit.EditError.TheVariants.{OutOfMemory, MissingBrackets, MissingName, NoSuchPlace, InvalidComment, LineContinues, NotAnEntry, NestingDepthExceeded}
use Rattle.jsonc_edit.proofs.Entries.{Entry, this, behind_passed, behind_element, Passed, IsAnyValue, IsAnyProperty, not_both, passed_leaf, no_entry, entry_property, entry_value, entry_document}
use Rattle.jsonc_edit.proofs.ChangesUpward.{Shows-row_below, document_is}
use Rattle.jsonc_edit.specs.remove.Removed.{has_brackets, has_two, is_token_at, IsKeptFor}
use Rattle.jsonc_edit.proofs.lemmas.remove.Containers.{brackets, first_shown}
use Rattle.jsonc_edit.specs.set.PropertyValues.{EnsureValueError}
use Rattle.jsonc_edit.specs.Comments.{WantsSpace}
use Rattle.jsonc_edit.proofs.lemmas.commas.Holders.{Held}
use Rattle.jsonc_cst.specs.declared.typed.removing.Removal.TheVariants.{OfComment}
use Rattle.jsonc_cst.specs.typed.Removing.{IsKeptBy, OnlyOutOfMemory}

-- nothing but a property is one
no_property : (o : Options) (content : Content) (r : List ℕ) → content ≡ property → IsLiteralBefore o content r → ⊥
no_property o content r e l = subst (λ w. IsLiteralBefore o w r) e l

no_property_value : (o : Options) (content : Content) (below : OrderedTree) (r : List ℕ) → content ≡ property → ValueShaped o content below r → ⊥
no_property_value o content _ r e (ValueShaped.literal h) = no_property o content r e h
no_property_value o _ _ r e (ValueShaped.empty_array a) = let wrong : array ≡ property = e in cc
no_property_value o _ _ r e (ValueShaped.array a es) = let wrong : array ≡ property = e in cc
no_property_value o _ _ r e (ValueShaped.empty_object a) = let wrong : object ≡ property = e in cc
no_property_value o _ _ r e (ValueShaped.object a ps) = let wrong : object ≡ property = e in cc

-- what follows no element, among children whose first node is one, is that
first_is : (content first : Content) (below under after : OrderedTree) (i : ℕ) → i ≡ 0 → IsElement first → Entry content below i (more first under after) → content ≡ first
first_is content _ below _ after _ e h this = refl
first_is content first below under after i e h (behind_passed p t) = absurd (not_both first p h)
first_is content first below under after _ e h (behind_element {i = j} q t) = absurd (let wrong : suc j ≡ 0 = e in omega (arith, wrong))

name_no_property : (o : Options) (content name : Content) (r : List ℕ) → content ≡ name → content ≡ property → IsNameBefore o name r → ⊥
name_no_property o content name r same is n = subst (λ w. IsNameBefore o w r) (sym same ∙ is) n

name_element : (o : Options) (content : Content) (r : List ℕ) → IsNameBefore o content r → (is_name content ≡ true) × IsElement content
name_element o (Content.string s) r h = (refl, refl)
name_element o (Content.word s) r h = (refl, refl)
name_element o Content.root r h = absurd h
name_element o Content.object r h = absurd h
name_element o Content.array r h = absurd h
name_element o Content.property r h = absurd h
name_element o (Content.number s) r h = absurd h
name_element o (Content.boolean b) r h = absurd h
name_element o Content.null r h = absurd h
name_element o (Content.token c) r h = absurd h
name_element o (Content.whitespace s) r h = absurd h
name_element o (Content.newline k) r h = absurd h
name_element o (Content.comment s) r h = absurd h

no_name : (o : Options) (content : Content) (below row : OrderedTree) (i : ℕ) (r : List ℕ) → i ≡ 0 → PropertyShaped o row r → Entry content below i row → content ≡ property → ⊥
no_name o content below _ i r zeroth (PropertyShaped.named {name = name} {after = after} n a b v) e is =
    name_no_property o content name (printed_text after) (first_is content name below none after i zeroth (name_element o name (printed_text after) n).1 e) is n

module _ (ns : List Node) (tree : IsTree ns) where
  -- a child is an entry of its parent
  abbrev EntryOf : ℕ → OrderedTree → Type 0
  EntryOf n row = (i : ℕ) × Entry (content_at ns n) (row_below ns n) i row

  entry_behind : (n m : ℕ) (under after : OrderedTree) → EntryOf m after → EntryOf m (more (content_at ns n) under after)
  entry_behind n m under after e =
      elim (cases_Bool (is_passed_over (content_at ns n))) [
        | inl over ↦ (e.0, behind_passed over e.1)
        | inr element ↦ (suc e.0, behind_element (ap not element) e.1)
      ]

  entry_at : (cs : List ℕ) (row : OrderedTree) (k : ℕ) → Shows ns cs row → ((e : ℕ) → e < length cs → slice_index cs e < length ns) → k < length cs → EntryOf (slice_index cs k) row
  entry_at _ _ k shows_none there h = absurd (omega arith)
  entry_at _ _ zero (shows_more {n = n} {rest = rest} {below = b} {after = a} p q) there h =
      let same : row_below ns n ≡ b = Shows-unique ns (children_at ns n) (row_below ns n) b (Shows-row_below ns tree n (there 0 h)) p in
      (0, subst (λ (t : OrderedTree). Entry (content_at ns n) (row_below ns n) 0 (more (content_at ns n) t a)) same this)
  entry_at _ _ (suc k) (shows_more {n = n} {rest = rest} {below = b} {after = a} p q) there h =
      entry_behind n (slice_index rest k) b a (entry_at rest a k q (λ e l. there (suc e) (omega arith)) (omega arith))

  entry_of : (n p : ℕ) → parent_at ns n ≡ Some p → EntryOf n (row_below ns p)
  entry_of n p said =
      subst (λ m. EntryOf m (row_below ns p)) (tree.found n p said)
      (entry_at (children_at ns p) (row_below ns p) (place_at ns n) (Shows-row_below ns tree p (parent_there ns tree n p said).1) (λ e h. tree.in_tree p e h) (tree.within n p said))

  bare_parent : (n p : ℕ) → parent_at ns n ≡ Some p → row_below ns p ≡ none → ⊥
  bare_parent n p said bare =
      let e = entry_of n p said in
      no_entry (content_at ns n) (row_below ns n) e.0 (subst (λ (t : OrderedTree). Entry (content_at ns n) (row_below ns n) e.0 t) bare e.1)

  leaf_parent : (n p : ℕ) → parent_at ns n ≡ Some p → Passed (content_at ns p) → ⊥
  leaf_parent n p said h = omega (arith, tree.within n p said, ap length (tree.leaf p (passed_leaf (content_at ns p) h)))

-- what a node of a document is, and of what shape the children below it
data Shaped (o : Options) (ns : List Node) (n : ℕ) : Type 0 where
  a_root : n ≡ 0 → Shaped o ns n
  a_value : IsAnyValue o (content_at ns n) (row_below ns n) → Shaped o ns n
  a_property : content_at ns n ≡ property → IsAnyProperty o (row_below ns n) → Shaped o ns n
  a_name : (content_at ns n ≡ property → ⊥) → row_below ns n ≡ none → Shaped o ns n
  a_leaf : Passed (content_at ns n) → Shaped o ns n

module _ (o : Options) (ns : List Node) (tree : IsTree ns) (shaped : DocumentShaped o (ordered_tree ns 0)) where
  in_document : (n : ℕ) → parent_at ns n ≡ Some 0 → Shaped o ns n
  in_document n said =
      let row : OrderedTree = row_below ns 0 in
      let shape : DocumentShaped o (more root row none) = subst (DocumentShaped o) (sym (document_is ns tree row (Shows-row_below ns tree 0 tree.first))) shaped in
      let e = entry_of ns tree n 0 said in
      elim (entry_document o (content_at ns n) (row_below ns n) e.0 row shape e.1) [
        | inl h ↦ a_leaf h
        | inr v ↦ a_value v.1
      ]

  in_value : (n p : ℕ) → parent_at ns n ≡ Some p → IsAnyValue o (content_at ns p) (row_below ns p) → Shaped o ns n
  in_value n p said v =
      let e = entry_of ns tree n p said in
      elim (entry_value o (content_at ns n) (row_below ns n) e.0 (content_at ns p) (row_below ns p) v.0 v.1 e.1) [
        | inl h ↦ a_leaf h
        | inr inside ↦ elim inside [
          | inl a ↦ a_value a.1
          | inr b ↦ a_property b.1.0 b.1.1
        ]
      ]

  in_property : (n r : ℕ) → parent_at ns n ≡ Some r → IsAnyProperty o (row_below ns r) → Shaped o ns n
  in_property n r said shape =
      let e = entry_of ns tree n r said in
      elim (entry_property o (content_at ns n) (row_below ns n) e.0 (row_below ns r) shape.0 shape.1 e.1) [
        | inl h ↦ a_leaf h
        | inr held ↦ elim held [
          | inl name ↦ a_name (no_name o (content_at ns n) (row_below ns n) (row_below ns r) e.0 shape.0 name.0 shape.1 e.1) name.1
          | inr v ↦ a_value v.1
        ]
      ]

  child_shaped : (n p : ℕ) → parent_at ns n ≡ Some p → Shaped o ns p → Shaped o ns n
  child_shaped n p said (a_root e) = in_document n (said ∙ ap Some e)
  child_shaped n p said (a_value v) = in_value n p said v
  child_shaped n p said (a_property is shape) = in_property n p said shape
  child_shaped n p said (a_name other bare) = absurd (bare_parent ns tree n p said bare)
  child_shaped n p said (a_leaf h) = absurd (leaf_parent ns tree n p said h)

  all_shaped : (n : ℕ) → IsOver ns 0 n → Shaped o ns n
  all_shaped _ IsOver.itself = a_root refl
  all_shaped n (IsOver.above {c = p} said rest) = child_shaped n p said (all_shaped p rest)

-- an array or object that is a value has its brackets
no_literal : (o : Options) (content : Content) → IsTrue (is_array_or_object content) → IsLiteralBefore o content [] → ⊥
no_literal o array h l = l
no_literal o object h l = l
no_literal o content h l = cc

held : (o : Options) {content : Content} {below : OrderedTree} → IsTrue (is_array_or_object content) → ValueAlone o content below → Held o content below
held o h (alone.literal {content = content} l) = absurd (no_literal o content h l)
held o h (alone.an_array {row = row} g) = record { kind = of_values; row = row; is = refl; under = refl; alone = g }
held o h (alone.an_object {row = row} g) = record { kind = of_properties; row = row; is = refl; under = refl; alone = g }

two_or_more : (x last : ℕ) (inner : List ℕ) → has_two (x ∷ (inner ++ last ∷ [])) ≡ true
two_or_more x last [] = refl
two_or_more x last (y ∷ inner) = refl

last_of : (x last : ℕ) (inner : List ℕ) → first (reverse (x ∷ (inner ++ last ∷ []))) ≡ Some last
last_of x last inner = ap (λ l. first l) (reverse-append (x ∷ inner) (last ∷ []))

both_true : (a b c : Bool) → a ≡ true → b ≡ true → c ≡ true → IsTrue (a && (b && c))
both_true a b c p q r = ap (λ z. z && (b && c)) p ∙ ap (λ z. z && c) q ∙ r

module _ (o : Options) (ns : List Node) (tree : IsTree ns) (sound : SoundTree o (ordered_tree ns 0)) where
  value_has_brackets : (c : ℕ) → c < length ns → IsTrue (is_array_or_object (content_at ns c)) → IsAnyValue o (content_at ns c) (row_below ns c) → IsTrue (has_brackets ns c)
  value_has_brackets c there holds v =
      let b = brackets o ns tree c there (held o holds (value_alone o v.1)) in
      both_true (has_two (children_at ns c)) (is_token_at ns (first (children_at ns c))) (is_token_at ns (first (reverse (children_at ns c))))
      (ap has_two b.children ∙ two_or_more b.open_with b.last b.inner)
      (ap (λ l. is_token_at ns (first l)) b.children ∙ ap is_token b.opens)
      (ap (λ l. is_token_at ns (first (reverse l))) b.children ∙ ap (is_token_at ns) (last_of b.open_with b.last b.inner) ∙ ap is_token b.closes)

  brackets_by : (n c : ℕ) → parent_at ns n ≡ Some c → IsTrue (is_array_or_object (content_at ns c)) → Shaped o ns c → IsTrue (has_brackets ns c)
  brackets_by n c said holds (a_root e) = absurd (false≢true (sym (ap is_array_or_object (ap (content_at ns) e ∙ tree.root_first)) ∙ holds))
  brackets_by n c said holds (a_value v) = value_has_brackets c (parent_there ns tree n c said).1 holds v
  brackets_by n c said holds (a_property is shape) = absurd (false≢true (sym (ap is_array_or_object is) ∙ holds))
  brackets_by n c said holds (a_name other bare) = absurd (bare_parent ns tree n c said bare)
  brackets_by n c said holds (a_leaf h) = absurd (leaf_parent ns tree n c said h)

  -- a node of the document, whose parent is an array or object, is between brackets
  parent_has_brackets : (n c : ℕ) → IsOver ns 0 n → parent_at ns n ≡ Some c → IsTrue (is_array_or_object (content_at ns c)) → IsTrue (has_brackets ns c)
  parent_has_brackets _ c IsOver.itself said holds = absurd (let wrong : None ≡ Some c = sym tree.root_alone ∙ said in cc)
  parent_has_brackets n c (IsOver.above {c = p} up rest) said holds =
      let same : p ≡ c = let e : Some p ≡ Some c = sym up ∙ said in cc in
      brackets_by n c said holds (subst (Shaped o ns) same (all_shaped o ns tree sound.shaped p rest))

  -- a colon is among the children after trivia
  or_true : (a b : Bool) → b ≡ true → a || b ≡ true
  or_true true b e = refl
  or_true false b e = e

  colon_here : (xs : List ℕ) (u : OrderedTree) → Shows ns xs (token_then 0x3A u) → list_any (is_colon_at ns) xs ≡ true
  colon_here xs u shows =
      let f = first_shown ns shows in
      ap (list_any (is_colon_at ns)) f.split ∙ ap (λ b. b || list_any (is_colon_at ns) f.rest) (ap is_colon f.is)

  colon_behind : {t r : OrderedTree} → Trivia o t r → ((xs : List ℕ) → Shows ns xs r → list_any (is_colon_at ns) xs ≡ true) → (xs : List ℕ) → Shows ns xs t → list_any (is_colon_at ns) xs ≡ true
  colon_behind nothing further = further
  colon_behind (trivia {t = t} is rest) further = λ xs shows.
      let f = first_shown ns shows in
      ap (list_any (is_colon_at ns)) f.split ∙ or_true (is_colon_at ns f.first) (list_any (is_colon_at ns) f.rest) (colon_behind rest further f.rest f.shown)

  row_has_name : (n : ℕ) (row : OrderedTree) (r : List ℕ) → Shows ns (children_at ns n) row → PropertyShaped o row r → lacks_name_at ns n ≡ false
  row_has_name n _ r shows (PropertyShaped.named {name = name} {after = after} {u = u} named before between value) =
      let f = first_shown ns shows in
      let is : is_name_at ns f.first ≡ true = ap is_name f.is ∙ (name_element o name (printed_text after) named).0 in
      ap (λ l. not (list_any (is_colon_at ns) (behind_first (is_name_at ns) l))) f.split
      ∙ ap (λ b. not (list_any (is_colon_at ns) (cond b f.rest (behind_first (is_name_at ns) f.rest)))) is
      ∙ ap not (colon_behind before (λ ys g. colon_here ys u g) f.rest f.shown)

  -- the first element of a property is a string or a word
  row_named : (r n : ℕ) (row : OrderedTree) (rest : List ℕ) → Shows ns (children_at ns r) row → PropertyShaped o row rest → IsElementOf ns r 0 n → is_name (content_at ns n) ≡ true
  row_named r n _ rest shows (PropertyShaped.named {name = name} {after = after} {u = u} named before between value) element =
      let f = first_shown ns shows in
      let kind = name_element o name (printed_text after) named in
      let one : is_element_at ns f.first ≡ true = ap is_element f.is ∙ kind.1 in
      let same : Some f.first ≡ Some n = sym (ap (λ l. slice_get (filter (is_element_at ns) l) 0) f.split ∙ ap (λ b. slice_get (cond b (f.first ∷ filter (is_element_at ns) f.rest) (filter (is_element_at ns) f.rest)) 0) one) ∙ element in
      let it : f.first ≡ n = cc in
      ap is_name (ap (content_at ns) (sym it) ∙ f.is) ∙ kind.0

  named_by : (r n : ℕ) → r < length ns → content_at ns r ≡ property → IsElementOf ns r 0 n → Shaped o ns r → is_name (content_at ns n) ≡ true
  named_by r n there is element (a_root e) = absurd (let wrong : root ≡ property = sym (ap (content_at ns) e ∙ tree.root_first) ∙ is in cc)
  named_by r n there is element (a_value v) = absurd (no_property_value o (content_at ns r) (row_below ns r) v.0 is v.1)
  named_by r n there is element (a_property same shape) = row_named r n (row_below ns r) shape.0 (Shows-row_below ns tree r there) shape.1 element
  named_by r n there is element (a_name other bare) = absurd (other is)
  named_by r n there is element (a_leaf h) = absurd (false≢true (sym (ap is_passed_over is) ∙ h))

  pub name_kind : (r n : ℕ) → IsOver ns 0 r → r < length ns → content_at ns r ≡ property → IsElementOf ns r 0 n → is_name (content_at ns n) ≡ true
  name_kind r n over there is element = named_by r n there is element (all_shaped o ns tree sound.shaped r over)

  name_by : (n : ℕ) → n < length ns → content_at ns n ≡ property → Shaped o ns n → lacks_name_at ns n ≡ false
  name_by n there is (a_root e) = absurd (let wrong : root ≡ property = sym (ap (content_at ns) e ∙ tree.root_first) ∙ is in cc)
  name_by n there is (a_value v) = absurd (no_property_value o (content_at ns n) (row_below ns n) v.0 is v.1)
  name_by n there is (a_property same shape) = row_has_name n (row_below ns n) shape.0 (Shows-row_below ns tree n there) shape.1
  name_by n there is (a_name other bare) = absurd (other is)
  name_by n there is (a_leaf h) = absurd (false≢true (sym (ap is_passed_over is) ∙ h))

  -- so neither an element nor a property is refused for what is missing
  element_kept : (n : ℕ) (e : EditError) → IsKeptFor ns n e → IsOver ns 0 n → e ≡ OutOfMemory
  element_kept n OutOfMemory k over = refl
  element_kept n MissingBrackets (c, said, holds, lacks) over = absurd (false≢true (sym (ap not (parent_has_brackets n c over said holds)) ∙ lacks))
  element_kept n MissingName k over = absurd k
  element_kept n NoSuchPlace k over = absurd k
  element_kept n InvalidComment k over = absurd k
  element_kept n LineContinues k over = absurd k
  element_kept n NotAnEntry k over = absurd k
  element_kept n NestingDepthExceeded k over = absurd k

  value_unset : (kind : Content → Bool) (n : ℕ) → n < length ns → content_at ns n ≡ property → (e : EditError) → EnsureValueError kind ns n e → IsOver ns 0 n → e ≡ OutOfMemory
  value_unset kind n there is OutOfMemory k over = refl
  value_unset kind n there is MissingName k over = absurd (false≢true (sym (name_by n there is (all_shaped o ns tree sound.shaped n over)) ∙ k))
  value_unset kind n there is MissingBrackets k over = absurd k
  value_unset kind n there is NoSuchPlace k over = absurd k
  value_unset kind n there is InvalidComment k over = absurd k
  value_unset kind n there is LineContinues k over = absurd k
  value_unset kind n there is NotAnEntry k over = absurd k
  value_unset kind n there is NestingDepthExceeded k over = absurd k

-- the same of answers
pub element_for_memory : {T : Type 0} (o : Options) (ns : List Node) → IsTree ns → (n : ℕ) (r : Result T EditError) → IfErr r (IsKeptFor ns n) → IfErr r (OnlyOutOfMemory o ns n)
element_for_memory o ns tree n (Ok x) k = tt
element_for_memory o ns tree n (Err e) k = λ sound over. element_kept o ns tree sound n e k over

pub value_for_memory : {T : Type 0} (o : Options) (ns : List Node) → IsTree ns → (kind : Content → Bool) (n : ℕ) → n < length ns → content_at ns n ≡ property → (r : Result T EditError) → IfErr r (EnsureValueError kind ns n) → IfErr r (OnlyOutOfMemory o ns n)
value_for_memory o ns tree kind n there is (Ok x) k = tt
value_for_memory o ns tree kind n there is (Err e) k = λ sound over. value_unset o ns tree sound kind n there is e k over

pub comment_for_memory : {T : Type 0} (o : Options) (ns : List Node) (n : ℕ) (r : Result T EditError) → IfErr r (λ e. e ≡ OutOfMemory) → IfErr r (OnlyOutOfMemory o ns n)
comment_for_memory o ns n (Ok x) k = tt
comment_for_memory o ns n (Err e) k = λ sound over. k

pub comment_kept : {T : Type 0} (ns : List Node) (n : ℕ) (r : Result T EditError) → IfErr r (λ e. e ≡ OutOfMemory) → OnErr r (WantsSpace ns n) → IfErr r (IsKeptBy OfComment ns n)
comment_kept ns n (Ok x) k space = tt
comment_kept ns n (Err e) k space = (k, space)
