-- Where a first value has come, it has come among the rows of roots.
use Rattle.std.proofs.Common.{◌≡◌, ℕ, zero, suc, ◌<◌, Bool, false, List, [], ◌∷◌, ◌++◌, length, map, take, drop, None, IsTrue, refl, sym, ap, subst, ◌∙◌, arith, length-append}
use Rattle.std.specs.List.{find}
use Rattle.std.proofs.Math.Seq.{get_or-append_seam}
use Rattle.jsonc_text.specs.Options.{Options}
use Rattle.jsonc_text.specs.Plain.{Plain}
use Rattle.jsonc_tree.specs.Content.{Content}
use Rattle.jsonc_tree.specs.OrderedTree.{OrderedTree, none, more, followed_by, Shows, shows_none, shows_more, ordered_tree, Top}
use Rattle.jsonc_tree.specs.Tree.{Node, content_at, children_at, IsTree}
use Rattle.jsonc_tree.specs.Values.{is_passed_over}
use Rattle.jsonc_tree.proofs.OrderedTrees.{Shows-unique}
use Rattle.jsonc_tree.proofs.Rows.{Shows-append, followed_by-assoc}
use Rattle.jsonc_layout.specs.nodes.Kinds.{is_element_at}
use Rattle.jsonc_layout.specs.nodes.Properties.{value_at, value_by}
use Rattle.jsonc_layout.specs.lines.Breadth.{newline_kind_of}
use Rattle.jsonc_sound.specs.TriviaChanges.{AreTrivia, leaves_then}
use Rattle.jsonc_sound.proofs.FirstNodes.{no_element}
use Rattle.jsonc_sound.specs.Alone as alone
use Rattle.jsonc_sound.specs.Alone.{RootAlone}
use Rattle.jsonc_sound.specs.SoundTrees.{SoundTree}
use Rattle.jsonc_sound.proofs.Changed.{alone_element}
use Rattle.jsonc_sound.specs.Coming.{ValueInserted, value_comes}
use Rattle.jsonc_sound.specs.Leaving.{among}
use Rattle.jsonc_sound.proofs.RootRows.{leaves_then_joined, line_ends_trivia, passed_first, root_alone}
use Rattle.jsonc_edit.specs.Changes.{row_below}
use Rattle.jsonc_edit.specs.Reading.{layout_for}
use Rattle.jsonc_layout.specs.from_input.Laid.{laid}
use Rattle.jsonc_edit.proofs.FittingFinds.{none_first}
use Rattle.jsonc_edit.proofs.PutRows.{shown_put, RowPut}
use Rattle.jsonc_edit.proofs.ChangesUpward.{Shows-row_below, document_is}
use Rattle.jsonc_edit.specs.set.RootSet.{first_place, leads_in, leads_out, line_end_if, FirstValue}
use Rattle.jsonc_edit.specs.set.Laws.{ComesAmongRows}
use Rattle.jsonc_edit.proofs.lemmas.set.FirstRow.{line_ends, led_apart, leads_so, ends_behind, ends_told, starts}
use Rattle.jsonc_edit.proofs.LeafKinds.{trivia_leaf, trivia_is}
use Rattle.jsonc_edit.proofs.lemmas.commenting.Coming.{then_joined}
use Rattle.jsonc_edit.proofs.Lists.{not_false}

all_together : (front before behind back : List Content) (top : Top)
    → followed_by (leaves_then front none) (followed_by (followed_by (leaves_then before none) (more top.content top.below (leaves_then behind none))) (leaves_then back none))
    ≡ leaves_then (front ++ before) (among [] top [] (leaves_then (behind ++ back) none))
all_together front before behind back top =
    let node : OrderedTree = more top.content top.below (leaves_then behind none) in
    then_joined front (followed_by (followed_by (leaves_then before none) node) (leaves_then back none))
    ∙ ap (leaves_then front) (followed_by-assoc (leaves_then before none) node (leaves_then back none) ∙ then_joined before (followed_by node (leaves_then back none)))
    ∙ ap (λ t. leaves_then front (leaves_then before (more top.content top.below t))) (then_joined behind (leaves_then back none) ∙ sym (leaves_then_joined behind back none))
    ∙ sym (leaves_then_joined front before (more top.content top.below (leaves_then (behind ++ back) none)))

module _ (f : ℕ → Content) where
  trivia_taken : (row : List ℕ) (k : ℕ) → AreTrivia (map f row) → AreTrivia (map f (take k row))
  trivia_taken row zero h = tt
  trivia_taken [] (suc k) h = tt
  trivia_taken (n ∷ row) (suc k) h = (h.0, trivia_taken row k h.1)

  trivia_dropped : (row : List ℕ) (k : ℕ) → AreTrivia (map f row) → AreTrivia (map f (drop k row))
  trivia_dropped row zero h = h
  trivia_dropped [] (suc k) h = tt
  trivia_dropped (n ∷ row) (suc k) h = trivia_dropped row k h.1

  parted : (row : List ℕ) (k : ℕ) → map f row ≡ map f (take k row) ++ map f (drop k row)
  parted row zero = refl
  parted [] (suc k) = refl
  parted (n ∷ row) (suc k) = ap (λ l. f n ∷ l) (parted row k)

-- leaves of trivia stand for themselves
leaf_row : (ns : List Node) → IsTree ns → (xs : List ℕ) → AreTrivia (map (content_at ns) xs) → Shows ns xs (leaves_then (map (content_at ns) xs) none)
leaf_row ns tree [] h = shows_none
leaf_row ns tree (n ∷ xs) h =
    shows_more (subst (λ (l : List ℕ). Shows ns l none) (sym (tree.leaf n (trivia_leaf (content_at ns n) h.0))) shows_none) (leaf_row ns tree xs h.1)

module _ (o : Options) where
  -- trivia stands alone
  bare_below : {stood : Bool} {content : Content} {below after : OrderedTree} → IsTrue (is_passed_over content) → RootAlone o stood (more content below after) → below ≡ none
  bare_below p (alone.root_trivia h g) = refl
  bare_below p (alone.root_value {content = content} v g) = absurd (no_element content (alone_element o v) p)

  -- a root's row without an element is trivia
  trivia_row : (ns : List Node) (xs : List ℕ) (row : OrderedTree) → Shows ns xs row → RootAlone o false row → find (is_element_at ns) xs ≡ None → AreTrivia (map (content_at ns) xs)
  trivia_row ns _ _ shows_none g e = tt
  trivia_row ns _ _ (shows_more {n = n} {rest = rest} {below = below} {after = after} p q) g e =
      let none_found = none_first (is_element_at ns) n rest e in
      let over : IsTrue (is_passed_over (content_at ns n)) = not_false (is_passed_over (content_at ns n)) none_found.0 in
      let first = passed_first o over g in
      (trivia_is o (content_at ns n) first.0, trivia_row ns rest after q first.1 none_found.1)

  pub root_trivia : (ns : List Node) → IsTree ns → SoundTree o (ordered_tree ns 0) → value_at ns 0 ≡ None → AreTrivia (map (content_at ns) (children_at ns 0))
  root_trivia ns tree s e =
      let row = Shows-row_below ns tree 0 tree.first in
      let known : RootAlone o false (row_below ns 0) = root_alone o (row_below ns 0) (subst (SoundTree o) (sym (document_is ns tree (row_below ns 0) row)) s) in
      trivia_row ns (children_at ns 0) (row_below ns 0) row known (sym (ap (λ w. value_by w ns 0) tree.root_first) ∙ e)

-- Of what the rows below the root are made, before a value has come into it and then: the ends of lines that come with it are of the document's kind.
pub record FirstParts (old new : List Node) (top : Top) : Type 0 where
  pub front : List Content
  pub back : List Content
  pub leads : Bool
  pub ends : Bool
  pub front_trivia : AreTrivia front
  pub back_trivia : AreTrivia back
  pub was : row_below old 0 ≡ leaves_then (front ++ back) none
  pub is : row_below new 0 ≡ leaves_then (front ++ line_end_if leads (newline_kind_of old)) (among [] top [] (leaves_then (line_end_if ends (newline_kind_of old) ++ back) none))

-- A first value, where the root's children are trivia.
module _ (old new : List Node) (v : Plain) (m : ℕ) (tree : IsTree old) (f : FirstValue old new v m) (quiet : AreTrivia (map (content_at old) (children_at old 0))) where
  abbrev row : List ℕ
  row = children_at old 0

  abbrev place : ℕ
  place = first_place old

  abbrev front : List Content
  front = map (content_at old) (take place row)

  abbrev back : List Content
  back = map (content_at old) (drop place row)

  abbrev top : Top
  top = laid (layout_for old 0 0) v

  quiet_front : AreTrivia front
  quiet_front = trivia_taken (content_at old) row place quiet

  quiet_back : AreTrivia back
  quiet_back = trivia_dropped (content_at old) row place quiet

  abbrev before : List Content
  before = line_end_if (leads_in old) (newline_kind_of old)

  abbrev behind : List Content
  behind = line_end_if (leads_out old) (newline_kind_of old)

  before_shown : Shows f.ready f.before (leaves_then before none)
  before_shown =
      subst (λ (cs : List Content). Shows f.ready f.before (leaves_then cs none)) f.leads
      (leaf_row f.ready f.prepared.tree f.before (subst AreTrivia (sym f.leads) (line_ends_trivia before (line_ends (leads_in old) (newline_kind_of old)))))

  behind_shown : Shows f.ready f.behind (leaves_then behind none)
  behind_shown =
      subst (λ (cs : List Content). Shows f.ready f.behind (leaves_then cs none)) f.ends
      (leaf_row f.ready f.prepared.tree f.behind (subst AreTrivia (sym f.ends) (line_ends_trivia behind (line_ends (leads_out old) (newline_kind_of old)))))

  long : length f.before < length (f.before ++ m ∷ f.behind)
  long = omega (arith, length-append f.before (m ∷ f.behind))

  m_there : m < length f.ready
  m_there = subst (λ n. n < length f.ready) (get_or-append_seam f.before m f.behind 0) (f.join.in_tree (length f.before) long)

  node_shown : Shows f.ready (m ∷ f.behind) (more top.content top.below (leaves_then behind none))
  node_shown =
      subst (λ (t : Top). Shows f.ready (m ∷ f.behind) (more t.content t.below (leaves_then behind none))) f.is (shows_more {after = leaves_then behind none} (Shows-row_below f.ready f.prepared.tree m m_there) behind_shown)

  abbrev put : RowPut old new 0
  put = record { ready = f.ready; from = place; to = place; put = f.before ++ m ∷ f.behind; tree = tree; there = tree.first; prepared = f.prepared; join = f.join; spliced = f.put; after = f.tree }

  new_row : row_below new 0 ≡ leaves_then (front ++ before) (among [] top [] (leaves_then (behind ++ back) none))
  new_row =
      let node : OrderedTree = more top.content top.below (leaves_then behind none) in
      shown_put old new 0 put (leaf_row old tree (take place row) quiet_front) (Shows-append f.ready f.before (m ∷ f.behind) (leaves_then before none) node before_shown node_shown) (leaf_row old tree (drop place row) quiet_back)
      ∙ all_together front before behind back top

  old_row : row_below old 0 ≡ leaves_then (front ++ back) none
  old_row =
      Shows-unique old row (row_below old 0) (leaves_then (map (content_at old) row) none) (Shows-row_below old tree 0 tree.first) (leaf_row old tree row quiet)
      ∙ ap (λ cs. leaves_then cs none) (parted (content_at old) row place)

  comes : ValueInserted top (leaves_then (front ++ back) none) (leaves_then (front ++ before) (among [] top [] (leaves_then (behind ++ back) none)))
  comes =
      value_comes front back before behind quiet_front quiet_back (line_ends (leads_in old) (newline_kind_of old)) (line_ends (leads_out old) (newline_kind_of old))
      (led_apart front (leads_in old) (newline_kind_of old) (ends_told old row place quiet_front)) (starts old row (newline_kind_of old))
      (leads_so front (leads_in old) (newline_kind_of old) (ends_told old row place quiet_front)) (ends_behind old row (newline_kind_of old))

  pub value_has_come : ValueInserted top (row_below old 0) (row_below new 0)
  value_has_come = subst (λ t. ValueInserted top t (row_below new 0)) (sym old_row) (subst (ValueInserted top (leaves_then (front ++ back) none)) (sym new_row) comes)

  pub first_parts : FirstParts old new top
  first_parts = record { front = front; back = back; leads = leads_in old; ends = leads_out old; front_trivia = quiet_front; back_trivia = quiet_back; was = old_row; is = new_row }

pub parts_of_first : (o : Options) (old new : List Node) (v : Plain) (m : ℕ) → IsTree old → SoundTree o (ordered_tree old 0) → value_at old 0 ≡ None → FirstValue old new v m → FirstParts old new (laid (layout_for old 0 0) v)
parts_of_first o old new v m tree s e f = first_parts old new v m tree f (root_trivia o old tree s e)

pub comes_among_rows : (o : Options) (old new : List Node) (v : Plain) (m : ℕ) → ComesAmongRows o old new v m
comes_among_rows o old new v m tree s e f = value_has_come old new v m tree f (root_trivia o old tree s e)
