-- What stands in a row of numbers stands in the row of trees that it shows.
use Rattle.std.proofs.Common.{◌≡◌, ℕ, ◌+◌, ◌<◌, List, [], ◌∷◌, length, get_or, take, Bool, true, false, cond, not, Option, None, Some, IsTrue, refl, sym, ap, subst, ◌∙◌}
use Rattle.std.specs.List.{find}
use Rattle.std.specs.Option.{option_map}
use Rattle.std.proofs.lemmas.Bool.{false≢true}
use Rattle.std.proofs.lemmas.List.{take_more}
use Rattle.jsonc_text.specs.Plain.{Plain}
use Rattle.jsonc_tree.specs.Content.{Content}
use Rattle.jsonc_tree.specs.Tree.{Node, IsTree, children_at, content_at}
use Rattle.jsonc_tree.specs.Values.{is_passed_over}
use Rattle.jsonc_tree.specs.OrderedTree.{OrderedTree, none, more, followed_by, Shows, shows_none, shows_more, ordered_tree}
use Rattle.jsonc_tree.proofs.OrderedTrees.{Shows-ordered_tree}
use Rattle.jsonc_tree.proofs.Rows.{Shows-part}
use Rattle.jsonc_layout.specs.nodes.Kinds.{is_element, is_element_at, is_colon}
use Rattle.jsonc_layout.specs.nodes.Properties.{value_by, value_at, behind_first, is_name, is_name_at, name_at}
use Rattle.jsonc_layout.specs.nodes.Properties as properties
use Rattle.jsonc_layout.specs.nodes.Names.{Names, HasName}
use Rattle.jsonc_layout.specs.to_input.Given.{Gives, FirstGives, no_element, pass_to_element, first_element, behind_colon, row_behind, name_leaf, RowHasName, holds_value}
use Rattle.jsonc_layout.specs.to_input.Taken.{GivesAt, TreeGives}

module _ (ns : List Node) where
  nothing_shown : (row : OrderedTree) → Shows ns [] row → row ≡ none
  nothing_shown _ shows_none = refl

  pub empty_shown : (xs : List ℕ) (row : OrderedTree) → xs ≡ [] → Shows ns xs row → row ≡ none
  empty_shown xs row e shows = nothing_shown row (subst (λ (l : List ℕ). Shows ns l row) e shows)

  -- the rows behind the first that passes a test
  behind_shown : (test : Content → Bool) (xs : List ℕ) (row : OrderedTree) → Shows ns xs row → Shows ns (behind_first (λ n. test (content_at ns n)) xs) (row_behind test row)
  behind_shown test _ _ shows_none = shows_none
  behind_shown test _ _ (shows_more {n = n} {rest = rest} {after = after} p q) = go (test (content_at ns n)) (behind_shown test rest after q)
    where
      go : (b : Bool) → Shows ns (behind_first (λ n. test (content_at ns n)) rest) (row_behind test after) → Shows ns (cond b rest (behind_first (λ n. test (content_at ns n)) rest)) (cond b after (row_behind test after))
      go true shows = q
      go false shows = shows

  -- the rows behind the colon of a property
  colon_shown : (n : ℕ) (row : OrderedTree) → Shows ns (children_at ns n) row → Shows ns (properties.behind_colon ns n) (behind_colon row)
  colon_shown n row shows = behind_shown is_colon (properties.behind_name ns n) (row_behind is_name row) (behind_shown is_name (children_at ns n) row shows)

  passed : (content : Content) → is_element content ≡ false → IsTrue (is_passed_over content)
  passed content e = go (is_passed_over content) e
    where
      go : (b : Bool) → not b ≡ false → IsTrue b
      go true h = refl
      go false h = absurd (false≢true (sym h))

  -- the first element of the one is that of the other
  first_shown : (xs : List ℕ) (row : OrderedTree) (m : ℕ) (found : Option Plain) → Shows ns xs row → find (is_element_at ns) xs ≡ Some m → GivesAt ns m found → FirstGives row found
  first_shown _ _ m found shows_none e gives = absurd (let wrong : None ≡ Some m = e in cc)
  first_shown _ _ m found (shows_more {n = n} {rest = rest} {below = below} {after = after} p q) e gives =
      go (is_element_at ns n) refl e (λ f. first_shown rest after m found q f gives)
    where
      go : (b : Bool) → is_element (content_at ns n) ≡ b → cond b (Some n) (find (is_element_at ns) rest) ≡ Some m → (find (is_element_at ns) rest ≡ Some m → FirstGives after found) → FirstGives (more (content_at ns n) below after) found
      go true h f further =
          let same : m ≡ n = cc in
          let here : GivesAt ns n found = subst (λ (k : ℕ). GivesAt ns k found) same gives in
          first_element h (here below p)
      go false h f further = pass_to_element (passed (content_at ns n) h) (further f)

  none_shown : (xs : List ℕ) (row : OrderedTree) → Shows ns xs row → find (is_element_at ns) xs ≡ None → FirstGives row None
  none_shown _ _ shows_none e = no_element
  none_shown _ _ (shows_more {n = n} {rest = rest} {below = below} {after = after} p q) e =
      go (is_element_at ns n) refl e (λ f. none_shown rest after q f)
    where
      go : (b : Bool) → is_element (content_at ns n) ≡ b → cond b (Some n) (find (is_element_at ns) rest) ≡ None → (find (is_element_at ns) rest ≡ None → FirstGives after None) → FirstGives (more (content_at ns n) below after) None
      go true h f further = absurd (let wrong : Some n ≡ None = f in cc)
      go false h f further = pass_to_element (passed (content_at ns n) h) (further f)

  -- the value of a property
  after_colon : (n m : ℕ) (row : OrderedTree) (found : Option Plain) → Shows ns (children_at ns n) row → value_by Content.property ns n ≡ Some m → GivesAt ns m found → FirstGives (behind_colon row) found
  after_colon n m row found shows e gives = first_shown (properties.behind_colon ns n) (behind_colon row) m found (colon_shown n row shows) e gives

  none_after_colon : (n : ℕ) (row : OrderedTree) → Shows ns (children_at ns n) row → value_by Content.property ns n ≡ None → FirstGives (behind_colon row) None
  none_after_colon n row shows e = none_shown (properties.behind_colon ns n) (behind_colon row) (colon_shown n row shows) e

  no_value : {X : Type 0} (m : ℕ) → None ≡ Some m → X
  no_value m e = absurd (let wrong : None ≡ Some m = e in cc)

  held : (content : Content) (n m : ℕ) (row : OrderedTree) (found : Option Plain) → Shows ns (children_at ns n) row → value_by content ns n ≡ Some m → GivesAt ns m found → Gives content row found
  held Content.root n m row found shows e gives = Gives.root (first_shown (children_at ns n) row m found shows e gives)
  held Content.property n m row found shows e gives = Gives.property (after_colon n m row found shows e gives)
  held Content.object n m row found shows e gives = no_value m e
  held Content.array n m row found shows e gives = no_value m e
  held (Content.string s) n m row found shows e gives = no_value m e
  held (Content.word s) n m row found shows e gives = no_value m e
  held (Content.number s) n m row found shows e gives = no_value m e
  held (Content.boolean b) n m row found shows e gives = no_value m e
  held Content.null n m row found shows e gives = no_value m e
  held (Content.token c) n m row found shows e gives = no_value m e
  held (Content.whitespace s) n m row found shows e gives = no_value m e
  held (Content.newline k) n m row found shows e gives = no_value m e
  held (Content.comment s) n m row found shows e gives = no_value m e

  -- a node gives what its value gives
  pub value_gives : (n m : ℕ) (found : Option Plain) → value_at ns n ≡ Some m → GivesAt ns m found → GivesAt ns n found
  value_gives n m found e gives row shows = held (content_at ns n) n m row found shows e gives

  not_held : {X : Type 0} → false ≡ true → X
  not_held h = absurd (false≢true h)

  nothing_held : (content : Content) (n : ℕ) (row : OrderedTree) → IsTrue (holds_value content) → Shows ns (children_at ns n) row → value_by content ns n ≡ None → Gives content row None
  nothing_held Content.root n row h shows e = Gives.root (none_shown (children_at ns n) row shows e)
  nothing_held Content.property n row h shows e = Gives.property (none_after_colon n row shows e)
  nothing_held Content.object n row h shows e = not_held h
  nothing_held Content.array n row h shows e = not_held h
  nothing_held (Content.string s) n row h shows e = not_held h
  nothing_held (Content.word s) n row h shows e = not_held h
  nothing_held (Content.number s) n row h shows e = not_held h
  nothing_held (Content.boolean b) n row h shows e = not_held h
  nothing_held Content.null n row h shows e = not_held h
  nothing_held (Content.token c) n row h shows e = not_held h
  nothing_held (Content.whitespace s) n row h shows e = not_held h
  nothing_held (Content.newline k) n row h shows e = not_held h
  nothing_held (Content.comment s) n row h shows e = not_held h

  -- or nothing where it has none
  pub no_value_gives : (n : ℕ) → IsTrue (holds_value (content_at ns n)) → value_at ns n ≡ None → GivesAt ns n None
  no_value_gives n h e row shows = nothing_held (content_at ns n) n row h shows e

  -- names
  name_shown : (xs : List ℕ) (row : OrderedTree) → Shows ns xs row → option_map (content_at ns) (find (is_name_at ns) xs) ≡ name_leaf row
  name_shown _ _ shows_none = refl
  name_shown _ _ (shows_more {n = n} {rest = rest} {below = below} {after = after} p q) = go (is_name_at ns n) (name_shown rest after q)
    where
      go : (b : Bool) → option_map (content_at ns) (find (is_name_at ns) rest) ≡ name_leaf after → option_map (content_at ns) (cond b (Some n) (find (is_name_at ns) rest)) ≡ cond b (Some (content_at ns n)) (name_leaf after)
      go true h = refl
      go false h = h

  pub has_name_shown : (n : ℕ) (v : List ℕ) (row : OrderedTree) → Shows ns (children_at ns n) row → HasName ns n v → RowHasName row v
  has_name_shown n v row shows (m, e, h) = (content_at ns m, sym (name_shown (children_at ns n) row shows) ∙ ap (option_map (content_at ns)) e, h)

  pub shown_has_name : (n : ℕ) (v : List ℕ) (row : OrderedTree) → Shows ns (children_at ns n) row → RowHasName row v → HasName ns n v
  shown_has_name n v row shows (leaf, e, h) = go (name_at ns n) refl (name_shown (children_at ns n) row shows ∙ e)
    where
      go : (o : Option ℕ) → name_at ns n ≡ o → option_map (content_at ns) o ≡ Some leaf → HasName ns n v
      go None p f = absurd (let wrong : None ≡ Some leaf = f in cc)
      go (Some m) p f = let same : leaf ≡ content_at ns m = cc in (m, p, subst (λ (c : Content). Names c v) same h)

  -- a row of one node
  single : (n : ℕ) (row : OrderedTree) → Shows ns (n ∷ []) row → (below : OrderedTree) × (row ≡ more (content_at ns n) below none) × Shows ns (children_at ns n) below
  single n _ (shows_more {below = below} p shows_none) = (below, refl, p)

  -- the first children, and one more
  pub one_more_shown : (xs : List ℕ) (k : ℕ) (tree : OrderedTree) → k < length xs → Shows ns (take (k + 1) xs) tree
      → (before below : OrderedTree) × (tree ≡ followed_by before (more (content_at ns (get_or xs k 0)) below none)) × Shows ns (take k xs) before × Shows ns (children_at ns (get_or xs k 0)) below
  one_more_shown xs k tree h shows =
      let part = Shows-part ns (take k xs) (get_or xs k 0 ∷ []) tree (subst (λ (l : List ℕ). Shows ns l tree) (take_more xs k 0 h) shows) in
      let last = single (get_or xs k 0) part.1 part.4 in
      (part.0, last.0, part.2 ∙ ap (followed_by part.0) last.1, part.3, last.2)

  -- a node and its ordered tree
  pub tree_gives : IsTree ns → (n : ℕ) (found : Option Plain) → n < length ns → GivesAt ns n found → TreeGives (ordered_tree ns n) found
  tree_gives tree n found h gives =
      let last = single n (ordered_tree ns n) (Shows-ordered_tree ns tree n h) in
      (content_at ns n, last.0, last.1, gives last.0 last.2)
