-- Where trailing commas are used below a node of a document, its options allow them.
use Rattle.std.proofs.Common.{◌≡◌, ℕ, zero, suc, ◌+◌, ◌<◌, true, false, cond, inl, inr, List, [], ◌∷◌, All, length, drop, slice_index, Option, Some, None, is_some, option_and_then, IsTrue, refl, sym, ap, ◌∙◌, arith}
use Rattle.std.specs.List.{find, flat_map}
use Rattle.std.proofs.lemmas.Bool.{cases_Bool, and_parts, not-false, false≢true}
use Rattle.std.proofs.lemmas.List.Elements.{All-nil, All-cons, All-head, All-tail, All-append}
use Rattle.jsonc_text.specs.Options.{Options}
use Rattle.jsonc_tree.specs.Content.{Content}
use Rattle.jsonc_tree.specs.Order.{with_parent}
use Rattle.jsonc_tree.specs.Tree.{Node, content_at, children_at, place_at, IsTree, IsOver}
use Rattle.jsonc_tree.specs.OrderedTree.{OrderedTree, none, more, Shows, shows_none, shows_more, ordered_tree}
use Rattle.jsonc_sound.specs.Shape.{IsTrivia, Trivia, nothing, trivia, Separated, comma, no_comma, Closed, plain, trailing_comma, token_then, ValueShaped, ElementsShaped, PropertiesShaped, DocumentShaped}
use Rattle.jsonc_layout.specs.nodes.Kinds.{is_element_at, is_trivia, is_comma}
use Rattle.jsonc_layout.specs.nodes.Siblings.{siblings_after}
use Rattle.jsonc_sound.specs.TreeChanges.{IsElement}
use Rattle.jsonc_layout.specs.lines.Kinds.{is_array_or_object}
use Rattle.jsonc_layout.specs.lines.Siblings.{is_no_trivia_at, after_trivia_at, if_comma, trailing_comma_at}
use Rattle.jsonc_layout.specs.lines.Breadth.{levels, breadth_first, last_element, is_spaced, ends_with_comma, uses_trailing_commas_at}
use Rattle.jsonc_sound.proofs.FirstNodes.{value_element}
use Rattle.jsonc_edit.specs.Changes.{row_below}
use Rattle.jsonc_edit.proofs.Elements.{Some_same}
use Rattle.jsonc_edit.proofs.Entries.{Passed, not_both, trivia_passed}
use Rattle.jsonc_edit.proofs.FittingFinds.{none_is_some, passes, fails, found_one, none_first, IsLast, found_last}
use Rattle.jsonc_edit.proofs.FittingNodes.{FollowsFromShape, holds_of_each, over_there, children_over}
use Rattle.jsonc_edit.proofs.ChangesUpward.{Shows-row_below}

-- the first of the row that is no trivia is a comma
data CommaNext : OrderedTree → Type 0 where
  comma_here : {content : Content} {below after : OrderedTree} → is_comma content ≡ true → CommaNext (more content below after)
  behind_trivia : {content : Content} {below after : OrderedTree} → IsTrue (is_trivia content) → CommaNext after → CommaNext (more content below after)

-- no element stands in the row
data NoElement : OrderedTree → Type 0 where
  ended : NoElement none
  passed_first : {content : Content} {below after : OrderedTree} → Passed content → NoElement after → NoElement (more content below after)

-- a comma stands after the last element of the row
data CommaAfterLast : OrderedTree → Type 0 where
  after_first : {content : Content} {below after : OrderedTree} → IsElement content → CommaNext after → NoElement after → CommaAfterLast (more content below after)
  after_later : {content : Content} {below after : OrderedTree} → CommaAfterLast after → CommaAfterLast (more content below after)

nothing_last : CommaAfterLast none → ⊥
nothing_last l = elim l [ ]

module _ (o : Options) where
  no_comma_trivia : (content : Content) → IsTrivia o content → is_comma content ≡ true → ⊥
  no_comma_trivia (Content.token c) h e = h
  no_comma_trivia _ h e = false≢true e

  next_in_trivia : {t r : OrderedTree} → Trivia o t r → CommaNext t → CommaNext r
  next_in_trivia nothing n = n
  next_in_trivia (trivia {content = content} h rest) (comma_here e) = absurd (no_comma_trivia content h e)
  next_in_trivia (trivia h rest) (behind_trivia i n) = next_in_trivia rest n

  no_comma_bracket : (c : ℕ) (t : OrderedTree) → is_comma (Content.token c) ≡ false → CommaNext (token_then c t) → ⊥
  no_comma_bracket c t other (comma_here e) = false≢true (sym other ∙ e)
  no_comma_bracket c t other (behind_trivia i n) = false≢true i

  -- before a closing bracket stands a comma only where that is allowed
  next_in_closed : {t : OrderedTree} (c : ℕ) → is_comma (Content.token c) ≡ false → Closed o c t → CommaNext t → IsTrue o.trailing_commas
  next_in_closed c other (plain a) n = absurd (no_comma_bracket c none other (next_in_trivia a n))
  next_in_closed c other (trailing_comma h a b) n = h

  last_behind : {content : Content} {below after : OrderedTree} → Passed content → CommaAfterLast (more content below after) → CommaAfterLast after
  last_behind {content} h (after_first e n not_more) = absurd (not_both content h e)
  last_behind h (after_later l) = l

  last_in_trivia : {t r : OrderedTree} → Trivia o t r → CommaAfterLast t → CommaAfterLast r
  last_in_trivia nothing l = l
  last_in_trivia (trivia {content = content} h rest) l = last_in_trivia rest (last_behind (trivia_passed o content h) l)

  last_in_token : (c : ℕ) (t : OrderedTree) → CommaAfterLast (token_then c t) → CommaAfterLast t
  last_in_token c t l = last_behind {content = Content.token c} {below = none} refl l

  last_in_separated : {t r : OrderedTree} → Separated o t r → CommaAfterLast t → CommaAfterLast r
  last_in_separated (comma {u = u} a b) l = last_in_trivia b (last_in_token 0x2C u (last_in_trivia a l))
  last_in_separated (no_comma h a) l = last_in_trivia a l

  last_in_end : {t : OrderedTree} (c : ℕ) → Trivia o t (token_then c none) → CommaAfterLast t → ⊥
  last_in_end c a l = nothing_last (last_in_token c none (last_in_trivia a l))

  last_in_closed : {t : OrderedTree} (c : ℕ) → Closed o c t → CommaAfterLast t → ⊥
  last_in_closed c (plain a) l = last_in_end c a l
  last_in_closed c (trailing_comma {u = u} h a b) l = last_in_end c b (last_in_token 0x2C u (last_in_trivia a l))

  none_in_trivia : {t r : OrderedTree} → Trivia o t r → NoElement t → NoElement r
  none_in_trivia nothing n = n
  none_in_trivia (trivia h rest) (passed_first p n) = none_in_trivia rest n

  none_in_token : (c : ℕ) (t : OrderedTree) → NoElement (token_then c t) → NoElement t
  none_in_token c t (passed_first p n) = n

  none_in_separated : {t r : OrderedTree} → Separated o t r → NoElement t → NoElement r
  none_in_separated (comma {u = u} a b) n = none_in_trivia b (none_in_token 0x2C u (none_in_trivia a n))
  none_in_separated (no_comma h a) n = none_in_trivia a n

  some_element : {row : OrderedTree} → ElementsShaped o row → NoElement row → ⊥
  some_element (ElementsShaped.last_element {content = content} {below = below} {after = after} v c) (passed_first p n) = not_both content p (value_element v)
  some_element (ElementsShaped.element {content = content} {below = below} {after = after} v s rest) (passed_first p n) = not_both content p (value_element v)

  some_property : {row : OrderedTree} → PropertiesShaped o row → NoElement row → ⊥
  some_property (PropertiesShaped.last_property p c) (passed_first h n) = false≢true h
  some_property (PropertiesShaped.property p s rest) (passed_first h n) = false≢true h

  last_in_elements : {row : OrderedTree} → ElementsShaped o row → CommaAfterLast row → IsTrue o.trailing_commas
  last_in_elements (ElementsShaped.last_element v c) (after_first e n not_more) = next_in_closed 0x5D refl c n
  last_in_elements (ElementsShaped.last_element v c) (after_later l) = absurd (last_in_closed 0x5D c l)
  last_in_elements (ElementsShaped.element v s rest) (after_first e n not_more) = absurd (some_element rest (none_in_separated s not_more))
  last_in_elements (ElementsShaped.element v s rest) (after_later l) = last_in_elements rest (last_in_separated s l)

  last_in_properties : {row : OrderedTree} → PropertiesShaped o row → CommaAfterLast row → IsTrue o.trailing_commas
  last_in_properties (PropertiesShaped.last_property p c) (after_first e n not_more) = next_in_closed 0x7D refl c n
  last_in_properties (PropertiesShaped.last_property p c) (after_later l) = absurd (last_in_closed 0x7D c l)
  last_in_properties (PropertiesShaped.property p s rest) (after_first e n not_more) = absurd (some_property rest (none_in_separated s not_more))
  last_in_properties (PropertiesShaped.property p s rest) (after_later l) = last_in_properties rest (last_in_separated s l)

  last_in_value : {content : Content} {below : OrderedTree} {r : List ℕ} → ValueShaped o content below r → CommaAfterLast below → IsTrue o.trailing_commas
  last_in_value (ValueShaped.literal h) l = absurd (nothing_last l)
  last_in_value (ValueShaped.empty_array {t = t} a) l = absurd (last_in_end 0x5D a (last_in_token 0x5B t l))
  last_in_value (ValueShaped.array {t = t} a es) l = last_in_elements es (last_in_trivia a (last_in_token 0x5B t l))
  last_in_value (ValueShaped.empty_object {t = t} a) l = absurd (last_in_end 0x7D a (last_in_token 0x7B t l))
  last_in_value (ValueShaped.object {t = t} a ps) l = last_in_properties ps (last_in_trivia a (last_in_token 0x7B t l))

  -- an array or object has a comma after its last element only where that is allowed
  abbrev ClosesWell : Content → OrderedTree → Type 0
  ClosesWell content below = is_array_or_object content ≡ true → CommaAfterLast below → IsTrue o.trailing_commas

  closes_well : FollowsFromShape o ClosesWell
  closes_well = record {
    of_trivia = λ content h holds l. absurd (nothing_last l);
    of_token = λ c holds l. absurd (nothing_last l);
    of_name = λ content r h holds l. absurd (nothing_last l);
    of_value = λ content below r v holds l. last_in_value v l;
    of_property = λ below holds l. absurd (false≢true holds);
    of_root = λ below holds l. absurd (false≢true holds);
  }

module _ (ns : List Node) where
  no_element_in : (xs : List ℕ) (t : OrderedTree) → Shows ns xs t → find (is_element_at ns) xs ≡ None → NoElement t
  no_element_in _ _ shows_none e = ended
  no_element_in _ _ (shows_more {n = n} {rest = rest} {after = a} p q) e =
      let r = none_first (is_element_at ns) n rest e in passed_first (not-false _ r.0) (no_element_in rest a q r.1)

  comma_in : (xs : List ℕ) (t : OrderedTree) (j : ℕ) → Shows ns xs t → find (is_no_trivia_at ns) xs ≡ Some j → is_comma (content_at ns j) ≡ true → CommaNext t
  comma_in _ _ j shows_none e is = none_is_some j e
  comma_in _ _ j (shows_more {n = n} {rest = rest} {after = a} p q) e is =
      elim (cases_Bool (is_no_trivia_at ns n)) [
        | inl h ↦ let same : n ≡ j = Some_same n j (sym (passes (is_no_trivia_at ns) n rest h) ∙ e) in comma_here (ap (λ m. is_comma (content_at ns m)) same ∙ is)
        | inr h ↦ behind_trivia (not-false _ h) (comma_in rest a j q (sym (fails (is_no_trivia_at ns) n rest h) ∙ e) is)
      ]

  -- the comma after the last element of these nodes is that of their row
  comma_after_last : (cs : List ℕ) (row : OrderedTree) (k j : ℕ) → Shows ns cs row → k < length cs → is_element_at ns (slice_index cs k) ≡ true → find (is_element_at ns) (drop (suc k) cs) ≡ None
      → find (is_no_trivia_at ns) (drop (suc k) cs) ≡ Some j → is_comma (content_at ns j) ≡ true → CommaAfterLast row
  comma_after_last _ _ k j shows_none h element last next is = absurd (omega arith)
  comma_after_last _ _ zero j (shows_more {n = n} {rest = rest} {after = a} p q) h element last next is =
      after_first element (comma_in rest a j q next is) (no_element_in rest a q last)
  comma_after_last _ _ (suc k) j (shows_more {n = n} {rest = rest} {after = a} p q) h element last next is =
      after_later (comma_after_last rest a k j q (omega arith) element last next is)

  some_then : (f : ℕ → Option ℕ) (r : Option ℕ) → is_some (option_and_then f r) ≡ true → (m : ℕ) × (r ≡ Some m) × (is_some (f m) ≡ true)
  some_then f None e = absurd (false≢true e)
  some_then f (Some m) e = (m, refl, e)

  some_comma : (r : Option ℕ) → is_some (if_comma ns r) ≡ true → (j : ℕ) × (r ≡ Some j) × (is_comma (content_at ns j) ≡ true)
  some_comma None e = absurd (false≢true e)
  some_comma (Some j) e =
      elim (cases_Bool (is_comma (content_at ns j))) [
        | inl h ↦ (j, refl, h)
        | inr h ↦ absurd (false≢true (ap (λ b. is_some (cond b (Some j) None)) (sym h) ∙ e))
      ]

  some_end : (r : Option ℕ) → ends_with_comma ns r ≡ true → (n : ℕ) × (r ≡ Some n) × (ends_with_comma ns (Some n) ≡ true)
  some_end None e = absurd (false≢true e)
  some_end (Some n) e = (n, refl, e)

module _ (ns : List Node) (tree : IsTree ns) where
  -- what stands after a child
  after_child : (p k : ℕ) → k < length (children_at ns p) → siblings_after ns (slice_index (children_at ns p) k) ≡ drop (suc k) (children_at ns p)
  after_child p k h =
      let m : ℕ = slice_index (children_at ns p) k in
      let place : place_at ns m + 1 ≡ suc k = omega (arith, tree.placed p k h) in
      ap (λ r. drop (place_at ns m + 1) (with_parent r (children_at ns))) (tree.named p k h) ∙ ap (λ i. drop i (children_at ns p)) place

  -- a container that ends with a comma has one after the last element of its row
  ends_in_row : (n : ℕ) → n < length ns → ends_with_comma ns (Some n) ≡ true → CommaAfterLast (row_below ns n)
  ends_in_row n there e =
      let cs : List ℕ = children_at ns n in
      let given = some_then ns (trailing_comma_at ns) (last_element ns cs) e in
      let last : IsLast (is_element_at ns) cs given.0 = found_last (is_element_at ns) cs given.0 given.1 in
      let next = some_comma ns (after_trivia_at ns given.0) given.2 in
      let behind : siblings_after ns given.0 ≡ drop (suc last.0) cs = ap (siblings_after ns) (sym last.2) ∙ after_child n last.0 last.1 in
      comma_after_last ns cs (row_below ns n) last.0 next.0 (Shows-row_below ns tree n there) last.1 (ap (is_element_at ns) last.2 ∙ last.3) last.4 (ap (find (is_no_trivia_at ns)) (sym behind) ∙ next.1) next.2

  level_over : (level : List ℕ) → All (IsOver ns 0) level → All (IsOver ns 0) (flat_map (children_at ns) level)
  level_over [] all = All-nil (IsOver ns 0)
  level_over (n ∷ level) all =
      All-append (IsOver ns 0) (children_at ns n) (flat_map (children_at ns) level) (children_over ns tree n (All-head (IsOver ns 0) n level all)) (level_over level (All-tail (IsOver ns 0) n level all))

  pub levels_over : (depth : ℕ) (level : List ℕ) → All (IsOver ns 0) level → All (IsOver ns 0) (levels depth ns level)
  levels_over zero level all = All-nil (IsOver ns 0)
  levels_over (suc depth) level all =
      All-append (IsOver ns 0) level (levels depth ns (flat_map (children_at ns) level)) all (levels_over depth (flat_map (children_at ns) level) (level_over level all))

  -- below a node of the document trailing commas are used only where they are allowed
  pub commas_fit : (o : Options) → DocumentShaped o (ordered_tree ns 0) → (n : ℕ) → IsOver ns 0 n → IsTrue (uses_trailing_commas_at ns n) → IsTrue o.trailing_commas
  commas_fit o shaped n over e =
      let end = some_end ns (find (is_spaced ns) (breadth_first ns n)) e in
      let all : All (IsOver ns 0) (breadth_first ns n) = levels_over (length ns) (n ∷ []) (All-cons (IsOver ns 0) n [] over (All-nil (IsOver ns 0))) in
      let found = found_one (is_spaced ns) (IsOver ns 0) (breadth_first ns n) end.0 all end.1 in
      let holds : is_array_or_object (content_at ns end.0) ≡ true = (and_parts (is_array_or_object (content_at ns end.0)) _ found.1).0 in
      holds_of_each o (ClosesWell o) (closes_well o) ns tree shaped end.0 found.0 holds (ends_in_row end.0 (over_there ns tree end.0 found.0) end.2)
