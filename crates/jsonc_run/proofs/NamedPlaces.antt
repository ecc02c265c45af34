-- In a sound document an edit has its place exactly where its path, or its number of a comment, names one.
use Rattle.std.proofs.Common.{◌≡◌, ◌⊎◌, inl, inr, ℕ, zero, suc, ◌<◌, Bool, true, IsTrue, List, [], ◌∷◌, ◌++◌, filter, length, get_or, Option, Some, Result, Ok, Err, IfErr, refl, sym, ap, subst, ◌∙◌, arith}
use Rattle.std.proofs.lemmas.Bool.{false≢true}
use Rattle.std.proofs.lemmas.List.{append_assoc}
use Rattle.std.proofs.lemmas.Option.{slice_get_within, slice_get-get_or}
use Rattle.jsonc_text.specs.Options.{Options}
use Rattle.jsonc_text.specs.Plain.{Plain, Items, Members, member, no_members}
use Rattle.jsonc_tree.specs.Content.{Content}
use Rattle.jsonc_tree.specs.Order.{in_order}
use Rattle.jsonc_tree.specs.OrderedTree.{OrderedTree, ordered_tree}
use Rattle.jsonc_tree.specs.Tree.{Node, content_at, IsTree}
use Rattle.jsonc_tree.specs.Values as values
use Rattle.jsonc_tree.specs.Values.{ValueOf, MembersOf, DocumentValueOf}
use Rattle.jsonc_layout.specs.nodes.Kinds.{is_comment_at}
use Rattle.jsonc_layout.specs.nodes.Siblings.{elements_at}
use Rattle.jsonc_layout.specs.lines.Kinds.{is_array_or_object}
use Rattle.jsonc_sound.specs.Changes as changes
use Rattle.jsonc_sound.specs.Changes.{MemberChanged}
use Rattle.jsonc_sound.specs.Sound.{HasValue}
use Rattle.jsonc_sound.specs.SoundTrees.{SoundTree}
use Rattle.jsonc_edit.specs.Changes.{top_at}
use Rattle.jsonc_edit.specs.Paths as paths
use Rattle.jsonc_edit.specs.Paths.{IsAt, LeadsTo, StepsTo}
use Rattle.jsonc_text.specs.declared.edit.EditError.{EditError}
use Rattle.jsonc_text.specs.declared.edit.EditError.TheVariants.{NoSuchPlace, NestingDepthExceeded}
use Rattle.jsonc_edit.proofs.FittingNodes.{over_there}
use Rattle.jsonc_edit.proofs.OneValue.{document_once}
use Rattle.jsonc_edit.proofs.ShapedPlaces.{at_further}
use Rattle.jsonc_edit.proofs.ChangesUpward.{Shows-row_below}
use Rattle.jsonc_edit.specs.set.Booleans.{is_boolean}
use Rattle.jsonc_edit.proofs.lemmas.set.BooleanSetting.{boolean_of}
use Rattle.jsonc_edit.proofs.lemmas.set.PropertyRows.{counted_elements}
use Rattle.jsonc_insert.specs.elements.Members.{member_count}
use Rattle.jsonc_insert.proofs.lemmas.elements.Members.{members_counted}
use Rattle.jsonc_insert.specs.named.Places.{IsPropertyAt, a_property}
use Rattle.jsonc_insert.proofs.lemmas.named.PathValues.{gives_way_to_itself, value_at_path}
use Rattle.jsonc_insert.proofs.lemmas.named.PropertyValues.{value_held}
use Rattle.jsonc_run.specs.Depth.{needs_at}
use Rattle.jsonc_run.specs.Edits.{PlainEdit, place_of}
use Rattle.jsonc_run.specs.Named.{StandsAt, HasValueAt, HasBooleanAt, HasArrayAt, HasObjectAt, HasContainerAt, HasPropertyAt, IsThere, comment_count, PlacesAreNamed, NoSuchPlaceIff}
use Rattle.jsonc_edit.specs.Comments.{comment_at}
use Rattle.jsonc_edit.proofs.SoundValues.{some_value_of}
use Rattle.jsonc_edit.proofs.Uniqueness.{over_at}
use Rattle.jsonc_run.specs.Places.{IsArrayAt, IsBooleanAt, IsContainerAt, IsEntryOf, IsEntryAt, IsObjectAt, an_entry, in_array, in_object, the_value, Place, in_document, at_value, at_entry, at_property, at_boolean, at_array, at_object, at_container, at_comment, AtPlace, IsFound}
use Rattle.jsonc_run.specs.Refusals.{HasItsPlace, FailsWith, RefusedAt}
use Rattle.jsonc_run.proofs.Booleans.{boolean_value}
use Rattle.jsonc_run.proofs.CommentCount.{comments_counted}
use Rattle.jsonc_run.proofs.lemmas.promise.Plains.{stands_there}
use Rattle.jsonc_run.proofs.ValueNodes.{is_array, is_object, node_found, property_found}

-- the value of an array's node is an array, and that of an object's an object
array_value : {o : Options} {content : Content} {below : OrderedTree} {v : Plain} → content ≡ Content.array → ValueOf o content below v → (vs : Items) × (v ≡ Plain.array vs)
array_value e (values.array {vs = vs} h) = (vs, refl)
array_value e (values.string h) = cc
array_value e values.number = cc
array_value e values.boolean = cc
array_value e values.null = cc
array_value e (values.object h) = cc

object_value : {o : Options} {content : Content} {below : OrderedTree} {v : Plain} → content ≡ Content.object → ValueOf o content below v → (ms : Members) × (v ≡ Plain.object ms) × MembersOf o below ms
object_value e (values.object {ms = ms} h) = (ms, refl, h)
object_value e (values.string h) = cc
object_value e values.number = cc
object_value e values.boolean = cc
object_value e values.null = cc
object_value e (values.array h) = cc

-- and the other way
of_boolean : {o : Options} {content : Content} {below : OrderedTree} {b : Bool} → ValueOf o content below (Plain.boolean b) → is_boolean content ≡ true
of_boolean values.boolean = refl

-- an array or an object
array_or_object : (content : Content) → IsTrue (is_array_or_object content) → (content ≡ Content.array) ⊎ (content ≡ Content.object)
array_or_object Content.array h = inl refl
array_or_object Content.object h = inr refl
array_or_object content h = absurd (false≢true h)

-- each property may be replaced by itself
pub nth_member : (ms : Members) (i : ℕ) → i < member_count ms → (v : Plain) × MemberChanged v v i ms ms
nth_member no_members i h = absurd (omega arith)
nth_member (member name v ms) zero h = (v, changes.this_member)
nth_member (member name v ms) (suc i) h = let k = nth_member ms i (omega arith) in (k.0, changes.later_member k.1)

module _ (ns : List Node) where
  -- a step leads to an entry, or to the value of one
  entry_of_step : (c i q : ℕ) → StepsTo ns c i q → (m : ℕ) × IsEntryOf ns c i m
  entry_of_step c i q (paths.in_array a e) = (q, in_array a e)
  entry_of_step c i q (paths.in_object {r = r} is e h) = (r, in_object (record { of_object = is; element = e; is = h.0 }))

  entry_behind : (n : ℕ) (front : List ℕ) (c i q : ℕ) (path : List ℕ) → IsAt ns front c → StepsTo ns c i q → LeadsTo ns n q path → (m : ℕ) × IsEntryAt ns (front ++ i ∷ path) m
  entry_behind _ front c i q _ at s paths.itself = let entry = entry_of_step c i q s in (entry.0, an_entry front c i at entry.1)
  entry_behind n front c i q _ at s (paths.step {i = j} {q = r} {path = path} t rest) =
      let later = entry_behind n (front ++ i ∷ []) q j r path (at_further ns c i q front at s) t rest in
      (later.0, subst (λ p. IsEntryAt ns p later.0) (append_assoc front (i ∷ []) (j ∷ path)) later.1)

  -- where a value stands there is an entry, or it is the document's value
  entry_at_value : (path : List ℕ) (n : ℕ) → IsAt ns path n → (m : ℕ) × IsEntryAt ns path m
  entry_at_value _ n (v, e, paths.itself) = (n, the_value (v, e, paths.itself))
  entry_at_value _ n (v, e, paths.step {i = i} {q = q} {path = path} s rest) = entry_behind n [] v i q path (v, e, paths.itself) s rest

module _ (o : Options) (ns : List Node) (tree : IsTree ns) (sound : SoundTree o (ordered_tree ns 0)) (w : Option Plain) (value : DocumentValueOf o (ordered_tree ns 0) w) where
  -- what stands at a path has a value, which stands there in the document's
  record Valued (path : List ℕ) (n : ℕ) : Type 0 where
    its : Plain
    has : HasValue o (top_at ns n) its
    stands : StandsAt its path w

  valued : (path : List ℕ) (n : ℕ) → IsAt ns path n → Valued path n
  valued path n at =
      let some = some_value_of o (gives_way_to_itself ns tree path n at) w value in
      let held = value_at_path o ns tree path n at some.0 some.1 in
      record { its = held.value; has = held.has; stands = stands_there some.0 (document_once o (ordered_tree ns 0) w (Some some.0) value some.1) held.at }

  value_named : (path : List ℕ) (n : ℕ) → IsAt ns path n → HasValueAt path w
  value_named path n at = let v = valued path n at in (v.its, v.stands)

  boolean_named : (path : List ℕ) (n : ℕ) → IsBooleanAt ns path n → HasBooleanAt path w
  boolean_named path n at =
      let v = valued path n at.0 in
      let kind = boolean_of (content_at ns n) at.1 in
      (kind.0, subst (λ u. StandsAt u path w) (boolean_value kind.0 kind.1 v.has) v.stands)

  array_named : (path : List ℕ) (n : ℕ) → IsArrayAt ns path n → HasArrayAt path w
  array_named path n at =
      let v = valued path n at.0 in
      let is = array_value at.1 v.has in
      (is.0, subst (λ u. StandsAt u path w) is.1 v.stands)

  object_named : (path : List ℕ) (n : ℕ) → IsObjectAt ns path n → HasObjectAt path w
  object_named path n at =
      let v = valued path n at.0 in
      let is = object_value at.1 v.has in
      (is.0, subst (λ u. StandsAt u path w) is.1 v.stands)

  container_named : (path : List ℕ) (n : ℕ) → IsContainerAt ns path n → HasContainerAt path w
  container_named path n at =
      elim (array_or_object (content_at ns n) at.1) [
        | inl a ↦ inl (array_named path n (at.0, a))
        | inr b ↦ inr (object_named path n (at.0, b))
      ]

  property_named : (path : List ℕ) (r : ℕ) → IsPropertyAt ns path r → HasPropertyAt path w
  property_named _ r (a_property front c i at inside) =
      let v = valued front c at in
      let is = object_value inside.of_object v.has in
      let there : c < length ns = over_there ns tree c (over_at ns tree front c at) in
      let counted : member_count is.0 ≡ length (elements_at ns c) = members_counted o is.2 ∙ counted_elements (Shows-row_below ns tree c there) in
      let short : i < length (elements_at ns c) = slice_get_within (elements_at ns c) i r inside.element in
      (front, i, is.0, refl, subst (λ u. StandsAt u front w) is.1 v.stands, omega arith)

  entry_named : (path : List ℕ) (n : ℕ) → IsEntryAt ns path n → HasValueAt path w
  entry_named _ n (the_value at) = value_named [] n at
  entry_named _ n (an_entry front c i at (in_array is e)) = value_named (front ++ i ∷ []) n (at_further ns c i n front at (paths.in_array is e))
  entry_named _ n (an_entry front c i at (in_object p)) =
      let held = value_held o ns tree sound (front ++ i ∷ []) n (a_property front c i at p) in value_named (front ++ i ∷ []) held.value held.at

  comment_named : (number n : ℕ) → comment_at ns number ≡ Some n → number < comment_count (ordered_tree ns 0)
  comment_named number n e =
      subst (λ k. number < k) (comments_counted ns tree) (slice_get_within (filter (is_comment_at ns) (in_order ns 0)) number n e)

  -- and where one stands in the document's value there is the node
  value_placed : (path : List ℕ) → HasValueAt path w → (n : ℕ) × IsAt ns path n
  value_placed path (v, stands) = let f = node_found o ns tree sound w value path v stands in (f.node, f.at)

  boolean_placed : (path : List ℕ) → HasBooleanAt path w → (n : ℕ) × IsBooleanAt ns path n
  boolean_placed path (b, stands) = let f = node_found o ns tree sound w value path (Plain.boolean b) stands in (f.node, (f.at, of_boolean f.has))

  array_placed : (path : List ℕ) → HasArrayAt path w → (n : ℕ) × IsArrayAt ns path n
  array_placed path (vs, stands) = let f = node_found o ns tree sound w value path (Plain.array vs) stands in (f.node, (f.at, (is_array f.has).0))

  object_placed : (path : List ℕ) → HasObjectAt path w → (n : ℕ) × IsObjectAt ns path n
  object_placed path (ms, stands) = let f = node_found o ns tree sound w value path (Plain.object ms) stands in (f.node, (f.at, (is_object f.has).0))

  container_placed : (path : List ℕ) → HasContainerAt path w → (n : ℕ) × IsContainerAt ns path n
  container_placed path (inl a) = let f = array_placed path a in (f.0, (f.1.0, ap is_array_or_object f.1.1))
  container_placed path (inr b) = let f = object_placed path b in (f.0, (f.1.0, ap is_array_or_object f.1.1))

  property_placed : (path : List ℕ) → HasPropertyAt path w → (r : ℕ) × IsPropertyAt ns path r
  property_placed path (front, i, ms, parts, stands, short) =
      let f = node_found o ns tree sound w value front (Plain.object ms) stands in
      let found = property_found o ns tree sound front f (nth_member ms i short).1 in
      (found.0, subst (λ p. IsPropertyAt ns p found.0) (sym parts) (a_property front f.node i f.at found.1))

  entry_placed : (path : List ℕ) → HasValueAt path w → (n : ℕ) × IsEntryAt ns path n
  entry_placed path h = let f = value_placed path h in entry_at_value ns path f.0 f.1

  comment_placed : (number : ℕ) → number < comment_count (ordered_tree ns 0) → (n : ℕ) × (comment_at ns number ≡ Some n)
  comment_placed number h =
      let xs : List ℕ = filter (is_comment_at ns) (in_order ns 0) in
      (get_or xs number 0, slice_get-get_or xs number 0 (subst (λ k. number < k) (sym (comments_counted ns tree)) h))

  -- so it is for each place
  named : (p : Place) → IsFound ns p → IsThere w (comment_count (ordered_tree ns 0)) p
  named in_document at = tt
  named (at_value path) (n, at) = value_named path n at
  named (at_entry path) (n, at) = entry_named path n at
  named (at_property path) (n, at) = property_named path n at
  named (at_boolean path) (n, at) = boolean_named path n at
  named (at_array path) (n, at) = array_named path n at
  named (at_object path) (n, at) = object_named path n at
  named (at_container path) (n, at) = container_named path n at
  named (at_comment number) (n, at) = comment_named number n at

  placed : (p : Place) → IsThere w (comment_count (ordered_tree ns 0)) p → IsFound ns p
  placed in_document h = tt
  placed (at_value path) h = value_placed path h
  placed (at_entry path) h = entry_placed path h
  placed (at_property path) h = property_placed path h
  placed (at_boolean path) h = boolean_placed path h
  placed (at_array path) h = array_placed path h
  placed (at_object path) h = object_placed path h
  placed (at_container path) h = container_placed path h
  placed (at_comment number) h = comment_placed number h

pub places_named : (o : Options) (ns : List Node) (e : PlainEdit) → PlacesAreNamed o ns e
places_named o ns e tree sound w value = (named o ns tree sound w value (place_of e), placed o ns tree sound w value (place_of e))

-- what is so of a node at a place has it there
pub at_found : (ns : List Node) (p : Place) (Is : ℕ → Type 0) → AtPlace ns p Is → IsFound ns p
at_found ns in_document Is h = tt
at_found ns (at_value path) Is (n, at, h) = (n, at)
at_found ns (at_entry path) Is (n, at, h) = (n, at)
at_found ns (at_property path) Is (n, at, h) = (n, at)
at_found ns (at_boolean path) Is (n, at, h) = (n, at)
at_found ns (at_array path) Is (n, at, h) = (n, at)
at_found ns (at_object path) Is (n, at, h) = (n, at)
at_found ns (at_container path) Is (n, at, h) = (n, at)
at_found ns (at_comment number) Is (n, at, h) = (n, at)

module _ (ns : List Node) where
  -- whatever else is told of an edit, it has its place
  no_place : (e : PlainEdit) (why : EditError) → FailsWith ns e why → ¬ (HasItsPlace ns e) → why ≡ NoSuchPlace
  no_place e NoSuchPlace k none = refl
  no_place e NestingDepthExceeded k none = absurd (none (at_found ns (place_of e) (λ n. 512 < needs_at ns n e) k))
  no_place e why k none = absurd (none (at_found ns (place_of e) (λ n. RefusedAt ns n e why) k))

  -- so that it has none is told where none is named
  pub tells_unnamed : (o : Options) → IsTree ns → SoundTree o (ordered_tree ns 0) → (e : PlainEdit) (why : EditError) → FailsWith ns e why → NoSuchPlaceIff o ns e why
  tells_unnamed o tree sound e why told = λ w value.
      let law = places_named o ns e tree sound w value in (
        λ is. let none : ¬ (HasItsPlace ns e) = subst (FailsWith ns e) is told in λ h. none (law.1 h),
        λ none. no_place e why told (λ place. none (law.0 place)),
      )

  pub answer_unnamed : {T : Type 0} (o : Options) → IsTree ns → SoundTree o (ordered_tree ns 0) → (e : PlainEdit) (r : Result T EditError) → IfErr r (FailsWith ns e) → IfErr r (NoSuchPlaceIff o ns e)
  answer_unnamed o tree sound e (Ok x) told = tt
  answer_unnamed o tree sound e (Err why) told = tells_unnamed o tree sound e why told
