-- What is found of a name among the children of an object, the first property of it or the last, and the properties of the object's value.
use Rattle.std.proofs.Common.{ℕ, zero, suc, ◌≡◌, ◌<◌, ◌∙◌, ◌++◌, sym, ap, subst, refl, Bool, true, List, [], ◌∷◌, length, filter, slice_get, get_or, Option, Some, None, inl, inr, arith}
use Rattle.std.proofs.lemmas.Bool.{cases_Bool}
use Rattle.std.specs.List.{All}
use Rattle.jsonc_text.specs.Options.{Options}
use Rattle.jsonc_text.specs.Plain.{Plain, Members, member}
use Rattle.jsonc_tree.specs.Content.{object, property}
use Rattle.jsonc_tree.specs.OrderedTree.{OrderedTree, ordered_tree, Shows, shows_more}
use Rattle.jsonc_tree.specs.Tree.{Node, content_at, children_at, IsTree}
use Rattle.jsonc_tree.specs.Values as values
use Rattle.jsonc_tree.specs.Values.{is_passed_over, MembersOf}
use Rattle.jsonc_tree.proofs.Order.{parent_there}
use Rattle.jsonc_tree.proofs.OrderedTrees.{Shows-unique}
use Rattle.jsonc_layout.specs.nodes.Kinds.{is_element, is_element_at}
use Rattle.jsonc_layout.specs.nodes.Names as names
use Rattle.jsonc_layout.specs.nodes.Names.{FirstNamed, IsNamed}
use Rattle.jsonc_sound.specs.Alone.{PropertyAlone}
use Rattle.jsonc_sound.specs.SoundTrees.{SoundTree}
use Rattle.jsonc_sound.proofs.FirstNodes.{no_element}
use Rattle.jsonc_edit.specs.Changes.{row_below}
use Rattle.jsonc_edit.specs.Paths.{IsAt, IsElementOf}
use Rattle.jsonc_edit.proofs.Elements.{taken, left}
use Rattle.jsonc_edit.proofs.FittingNodes.{over_there}
use Rattle.jsonc_edit.proofs.Uniqueness.{element_parent, over_at}
use Rattle.jsonc_edit.proofs.ChangesUpward.{Shows-row_below}
use Rattle.jsonc_insert.specs.named.Members.{LacksMember, IsFirstMember, first_is, first_later, no_more, other_name}
use Rattle.jsonc_insert.proofs.lemmas.named.Names.{Among, IsWhole, members_found}
use Rattle.jsonc_insert.proofs.lemmas.named.PropertyValues.{property_row}
use Rattle.jsonc_parser.specs.paths.Settings.{FirstAt, this_at, later_at}
use Rattle.jsonc_parser.specs.paths.Which.{IsChosenAt, IsChosenIn, LastAt, last_one, last_later, LastNamed, none_named, last_named}
use Rattle.jsonc_parser.specs.declared.paths.which.Which.{Which}
use Rattle.jsonc_parser.specs.declared.paths.which.Which.TheVariants.{First, Last}

-- a node that passes is one of those that pass (as in jsonc_insert/proofs/lemmas/named/Writing.antt)
module _ (test : ℕ → Bool) where
  at_filter : (xs : List ℕ) (k d : ℕ) → k < length xs → test (get_or xs k d) ≡ true → (i : ℕ) × (slice_get (filter test xs) i ≡ Some (get_or xs k d))
  at_filter [] k d h is = absurd (omega (arith, h))
  at_filter (x ∷ xs) zero d h is = (0, ap (λ l. slice_get l 0) (taken test x xs is))
  at_filter (x ∷ xs) (suc k) d h is =
      let later = at_filter xs k d (omega (arith, h)) is in
      elim (cases_Bool (test x)) [
        | inl p ↦ (suc later.0, ap (λ l. slice_get l (suc later.0)) (taken test x xs p) ∙ later.1)
        | inr p ↦ (later.0, ap (λ l. slice_get l later.0) (left test x xs p) ∙ later.1)
      ]

-- the first member of a name has a value
pub value_of_first : {name : List ℕ} {i : ℕ} {ms : Members} → IsFirstMember name i ms → (v : Plain) × FirstAt name v i ms
value_of_first (first_is {v = v}) = (v, this_at)
value_of_first (first_later ne f) = let g = value_of_first f in (g.0, later_at ne g.1)

-- what is found has the name (as in jsonc_insert/proofs/lemmas/named/Writing.antt)
pub first_named : (ns : List Node) (name xs : List ℕ) (found : Option ℕ) (r : ℕ) → found ≡ Some r → FirstNamed ns name xs found → IsNamed ns name r
first_named ns name _ _ r e names.none = let wrong : None ≡ Some r = e in cc
first_named ns name _ _ r e (names.here {n = n} is) = let same : n ≡ r = cc in subst (IsNamed ns name) same is
first_named ns name _ _ r e (names.later {rest = rest} {found = found} other f) = first_named ns name rest found r e f

-- a member that none is
none_first : {name : List ℕ} {i : ℕ} {ms : Members} → LacksMember name ms → IsFirstMember name i ms → ⊥
none_first no_more f = elim f [ ]
none_first (other_name ne l) first_is = ne refl
none_first (other_name ne l) (first_later other f) = none_first l f

module _ (ns : List Node) (c : ℕ) (name : List ℕ) where
  -- what was found is a property of the name; and of the members none has the name, or the chosen one is the element of its number
  abbrev pub IsNamedIf : Option ℕ → Type 0
  IsNamedIf None = Unit {0}
  IsNamedIf (Some r) = IsNamed ns name r

  abbrev pub ChosenAmong : Which → Option ℕ → Members → Type 0
  ChosenAmong which None ms = LacksMember name ms
  ChosenAmong which (Some r) ms = (i : ℕ) × IsElementOf ns c i r × (v : Plain) × IsChosenAt which name v i ms

module _ (o : Options) (ns : List Node) (name : List ℕ) where
  -- the last property of the name among children, and their members
  abbrev LastInRow : List ℕ → ℕ → Members → Type 0
  LastInRow xs n ms = (i : ℕ) × (slice_get (filter (is_element_at ns) xs) i ≡ Some n) × (v : Plain) × LastAt name v i ms

  others_whole : (n : ℕ) (xs : List ℕ) → All (IsWhole o ns) (n ∷ xs) → All (IsWhole o ns) xs
  others_whole n xs whole = λ k d h. whole (suc k) d (omega (arith, h))

  -- a member that lacks the name after it, and is the first of the name, has it
  has_name : (m : List ℕ) (v : Plain) (ms : Members) (i : ℕ) → LacksMember name ms → IsFirstMember name i (member m v ms) → m ≡ name
  has_name m v ms i lacks first_is = refl
  has_name m v ms i lacks (first_later ne f) = absurd (none_first lacks f)

  here : (n : ℕ) (rest : List ℕ) (row same : OrderedTree) (ms : Members) → Shows ns (n ∷ rest) row → MembersOf o same ms → row ≡ same → All (IsWhole o ns) (n ∷ rest) → IsNamed ns name n → FirstNamed ns name rest None
      → LastInRow (n ∷ rest) n ms
  here n rest _ _ _ (shows_more p q) values.no_more_members e whole is alone = cc
  here n rest _ _ _ (shows_more p q) (values.pass_to_members {content = w} h g) e whole is alone =
      let kind : content_at ns n ≡ w = cc in
      absurd (no_element w (ap is_element (sym kind ∙ is.0)) h)
  here n rest _ _ _ (shows_more {below = below} {after = after} p q) (values.one_member {below = b} {after = a} {name = m} {v = v} {ms = ms} h g) e whole is alone =
      let tail : after ≡ a = cc in
      let lacks : LacksMember name ms = members_found o ns rest after a ms name None q g tail (others_whole n rest whole) alone in
      let first = members_found o ns (n ∷ rest) _ _ (member m v ms) name (Some n) (shows_more p q) (values.one_member {below = b} {after = a} {name = m} {v = v} {ms = ms} h g) e whole (names.here is) in
      let same : m ≡ name = has_name m v ms first.0 lacks first.2 in
      (0, ap (λ l. slice_get l 0) (taken (is_element_at ns) n rest (ap is_element is.0)), v, subst (λ k. LastAt name v 0 (member k v ms)) (sym same) (last_one lacks))

  in_row : (front : List ℕ) (n : ℕ) (rest : List ℕ) (row same : OrderedTree) (ms : Members) → Shows ns (front ++ n ∷ rest) row → MembersOf o same ms → row ≡ same → All (IsWhole o ns) (front ++ n ∷ rest)
      → IsNamed ns name n → FirstNamed ns name rest None → LastInRow (front ++ n ∷ rest) n ms
  in_row [] n rest row same ms shows members e whole is alone = here n rest row same ms shows members e whole is alone
  in_row (k ∷ front) n rest _ _ _ (shows_more p q) values.no_more_members e whole is alone = cc
  in_row (k ∷ front) n rest _ _ ms (shows_more {after = after} p q) (values.pass_to_members {content = w} {after = a} h g) e whole is alone =
      let kind : content_at ns k ≡ w = cc in
      let tail : after ≡ a = cc in
      let inner = in_row front n rest after a ms q g tail (others_whole k (front ++ n ∷ rest) whole) is alone in
      elim (cases_Bool (is_element_at ns k)) [
        | inl element ↦ absurd (no_element w (sym (ap is_element kind) ∙ element) h)
        | inr other ↦ (inner.0, ap (λ l. slice_get l inner.0) (left (is_element_at ns) k (front ++ n ∷ rest) other) ∙ inner.1, inner.2, inner.3)
      ]
  in_row (k ∷ front) n rest _ _ _ (shows_more {after = after} p q) (values.one_member {after = a} {ms = ms} h g) e whole is alone =
      let kind : content_at ns k ≡ property = cc in
      let tail : after ≡ a = cc in
      let inner = in_row front n rest after a ms q g tail (others_whole k (front ++ n ∷ rest) whole) is alone in
      (suc inner.0, ap (λ l. slice_get l (suc inner.0)) (taken (is_element_at ns) k (front ++ n ∷ rest) (ap is_element kind)) ∙ inner.1, inner.2, last_later inner.3)

module _ (o : Options) (ns : List Node) (path : List ℕ) (c : ℕ) (tree : IsTree ns) (sound : SoundTree o (ordered_tree ns 0)) (at : IsAt ns path c) (is : content_at ns c ≡ object) (ms : Members)
    (below : MembersOf o (row_below ns c) ms) (name : List ℕ) where
  there : c < length ns
  there = over_there ns tree c (over_at ns tree path c at)

  whole : All (IsWhole o ns) (children_at ns c)
  whole = λ k d h kind row p.
      let r = get_or (children_at ns c) k d in
      let element = at_filter (is_element_at ns) (children_at ns c) k d h (ap is_element kind) in
      let alone = property_row o ns tree sound path c element.0 r at (record { of_object = is; element = element.1; is = kind }) in
      subst (PropertyAlone o) (Shows-unique ns (children_at ns r) (row_below ns r) row (Shows-row_below ns tree r ((parent_there ns tree r c (element_parent ns tree c element.0 r element.1)).0)) p) alone

  first_among : (found : Option ℕ) → FirstNamed ns name (children_at ns c) found → Among o ns (children_at ns c) name found ms
  first_among found first = members_found o ns (children_at ns c) (row_below ns c) (row_below ns c) ms name found (Shows-row_below ns tree c there) below refl whole first

  first_chosen : (found : Option ℕ) → FirstNamed ns name (children_at ns c) found → ChosenAmong ns c name First found ms
  first_chosen None first = first_among None first
  first_chosen (Some r) first =
      let a = first_among (Some r) first in
      let v = value_of_first a.2 in
      (a.0, a.1, v.0, v.1)

  last_chosen : (found : Option ℕ) (xs : List ℕ) → xs ≡ children_at ns c → LastNamed ns name xs found → ChosenAmong ns c name Last found ms
  last_chosen _ xs e (none_named first) = first_among None (subst (λ l. FirstNamed ns name l None) e first)
  last_chosen _ _ e (last_named front {n = n} {rest = rest} named alone) =
      let shows = subst (λ l. Shows ns l (row_below ns c)) (sym e) (Shows-row_below ns tree c there) in
      let found = in_row o ns name front n rest (row_below ns c) (row_below ns c) ms shows below refl (subst (λ l. All (IsWhole o ns) l) (sym e) whole) named alone in
      (found.0, ap (λ l. slice_get (filter (is_element_at ns) l) found.0) (sym e) ∙ found.1, found.2, found.3)

  pub chosen_among : (which : Which) (found : Option ℕ) → IsChosenIn which ns c name found → ChosenAmong ns c name which found ms
  chosen_among First found first = first_chosen found first
  chosen_among Last found last = last_chosen found (children_at ns c) refl last

-- what is found has the name
pub last_has : (ns : List Node) (name xs : List ℕ) (found : Option ℕ) (r : ℕ) → found ≡ Some r → LastNamed ns name xs found → IsNamed ns name r
last_has ns name _ _ r e (none_named first) = let wrong : None ≡ Some r = e in cc
last_has ns name _ _ r e (last_named front {n = n} named alone) = let same : n ≡ r = cc in subst (IsNamed ns name) same named

pub chosen_named : (which : Which) (ns : List Node) (c : ℕ) (name : List ℕ) (r : ℕ) → IsChosenIn which ns c name (Some r) → IsNamed ns name r
chosen_named First ns c name r first = first_named ns name (children_at ns c) (Some r) r refl first
chosen_named Last ns c name r last = last_has ns name (children_at ns c) (Some r) r refl last
