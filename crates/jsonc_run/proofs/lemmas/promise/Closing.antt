-- Where a container closes up behind the last entry that has left it.
use Rattle.std.proofs.Common.{ℕ, suc, ◌+◌, ◌≡◌, ◌≢◌, ◌∙◌, sym, ap, refl, Bool, true, false, List, [], ◌∷◌, ◌++◌, arith}
use Rattle.jsonc_text.specs.Options.{Options}
use Rattle.jsonc_tree.specs.Content.{Content, token}
use Rattle.jsonc_tree.specs.OrderedTree.{OrderedTree, none, more, own_leaf, leaves, followed_by}
use Rattle.jsonc_tree.proofs.OrderedTrees.{leaves-followed_by}
use Rattle.jsonc_sound.specs.Shape.{ValueShaped, token_then}
use Rattle.jsonc_layout.specs.nodes.Kinds.{is_element}
use Rattle.jsonc_sound.specs.Alone as alone
use Rattle.jsonc_sound.specs.Alone.{ValueAlone, PartAlone, RowAlone, StretchAlone}
use Rattle.jsonc_sound.specs.Leaving.{element_count}
use Rattle.jsonc_sound.specs.MarkChanges.{AreBlanks}
use Rattle.jsonc_sound.specs.Rows.{RowKind, of_values, of_properties, container_of, Last, nothing_yet}
use Rattle.jsonc_sound.specs.TriviaChanges.{leaves_then}
use Rattle.jsonc_sound.proofs.NodesAlone.{value_alone}
use Rattle.jsonc_sound.proofs.Changed.{part_element}
use Rattle.jsonc_sound.proofs.Entries.{blanks_trivia}
use Rattle.jsonc_sound.proofs.FirstNodes.{trivia_over}
use Rattle.jsonc_sound.proofs.TriviaLeaves.{front_leaves}

-- a list that ends in a leaf, in two
pub record Split (xs ys zs : List Content) (c : Content) : Type 0 where
  pub rest : List Content
  pub behind : ys ≡ rest ++ c ∷ []
  pub before : zs ≡ xs ++ rest

first_of : List Content → Content → Content
first_of [] d = d
first_of (c ∷ cs) d = c

pub split : (xs ys zs : List Content) (c : Content) → ys ≢ [] → xs ++ ys ≡ zs ++ c ∷ [] → Split xs ys zs c
split [] ys zs c some e = record { rest = zs; behind = e; before = refl }
split (x ∷ xs) ys [] c some e =
    let none_left : xs ++ ys ≡ [] = cc in
    absurd (some (nothing xs ys none_left))
  where
    nothing : (xs ys : List Content) → xs ++ ys ≡ [] → ys ≡ []
    nothing [] ys e = e
    nothing (x ∷ xs) ys e = cc
split (x ∷ xs) ys (z ∷ zs) c some e =
    let same : x ≡ z = cc in
    let rest : xs ++ ys ≡ zs ++ c ∷ [] = cc in
    let m = split xs ys zs c some rest in
    record { rest = m.rest; behind = m.behind; before = ap (λ l. z ∷ l) m.before ∙ ap (λ y. y ∷ (xs ++ m.rest)) (sym same) }

pub blanks_first : (xs ys : List Content) → AreBlanks (xs ++ ys) → AreBlanks xs
blanks_first [] ys h = tt
blanks_first (x ∷ xs) ys h = (h.0, blanks_first xs ys h.1)

pub blanks_second : (xs ys : List Content) → AreBlanks (xs ++ ys) → AreBlanks ys
blanks_second [] ys h = h
blanks_second (x ∷ xs) ys h = blanks_second xs ys h.1

some_behind : (xs ys : List Content) → ys ≢ [] → xs ++ ys ≢ []
some_behind [] ys h e = h e
some_behind (x ∷ xs) ys h e = cc

module _ (o : Options) where
  -- a row that ends in its bracket has leaves
  pub row_some : {kind : RowKind} {last : Last} {row : OrderedTree} → RowAlone o kind last row → leaves row ≢ []
  row_some (alone.closes m) e = cc
  row_some (alone.trivia {content = content} {after = after} t g) e = some_behind (own_leaf content) (leaves after) (row_some g) e
  row_some (alone.element {content = content} {below = below} {after = after} m p g) e = some_behind (own_leaf content) (leaves below ++ leaves after) (some_behind (leaves below) (leaves after) (row_some g)) e
  row_some (alone.comma g) e = cc

  -- the row of a container of a sound tree
  pub container_row : (kind : RowKind) {row : OrderedTree} {r : List ℕ} → ValueShaped o (container_of kind row).content (container_of kind row).below r → RowAlone o kind nothing_yet row
  container_row of_values v = array_row (value_alone o v)
    where
      array_row : {row : OrderedTree} → ValueAlone o Content.array (token_then 0x5B row) → RowAlone o of_values nothing_yet row
      array_row (alone.an_array g) = g
  container_row of_properties v = object_row (value_alone o v)
    where
      object_row : {row : OrderedTree} → ValueAlone o Content.object (token_then 0x7B row) → RowAlone o of_properties nothing_yet row
      object_row (alone.an_object g) = g

  -- a stretch with no element, where nothing stood, is trivia
  pub no_elements : {kind : RowKind} {front : OrderedTree} {to : Last} → StretchAlone o kind nothing_yet front to → element_count front ≡ 0 → to ≡ nothing_yet
  no_elements alone.stays e = refl
  no_elements (alone.past_trivia {content = content} {after = after} t g) e =
      let over : is_element content ≡ false = rw (trivia_over o content t) refl in
      no_elements g (sym (count_over content none after over) ∙ e)
    where
      count_over : (c : Content) (below after : OrderedTree) → is_element c ≡ false → element_count (more c below after) ≡ element_count after
      count_over c below after e = rw e refl
  no_elements (alone.past_element {content = content} {below = below} {after = after} m p g) e =
      let one : element_count (more content below after) ≡ suc (element_count after) = rw (part_element o p) refl in
      let wrong : suc (element_count after) ≡ 0 = sym one ∙ e in
      absurd (omega (arith, wrong))

-- the elements of rows that follow one another
pub count_followed : (x y : OrderedTree) → element_count (followed_by x y) ≡ element_count x + element_count y
count_followed none y = omega arith
count_followed (more c below after) y = by (count_followed after y) (is_element c) refl
  where
    by : element_count (followed_by after y) ≡ element_count after + element_count y → (b : Bool) → is_element c ≡ b → element_count (more c below (followed_by after y)) ≡ element_count (more c below after) + element_count y
    by ih true e =
        let first : element_count (more c below (followed_by after y)) ≡ suc (element_count (followed_by after y)) = rw e refl in
        let second : element_count (more c below after) ≡ suc (element_count after) = rw e refl in
        omega (arith, first, second, ih)
    by ih false e =
        let first : element_count (more c below (followed_by after y)) ≡ element_count (followed_by after y) = rw e refl in
        let second : element_count (more c below after) ≡ element_count after = rw e refl in
        omega (arith, first, second, ih)

pub blanks_count : (ls : List Content) (c : ℕ) → AreBlanks ls → element_count (leaves_then ls (token_then c none)) ≡ 0
blanks_count [] c h = refl
blanks_count (Content.whitespace s ∷ ls) c h = blanks_count ls c h.1
blanks_count (Content.newline k ∷ ls) c h = blanks_count ls c h.1
blanks_count (content ∷ ls) c h = cc

-- what is left is blanks and the last bracket
pub left_blanks : (front back : OrderedTree) (blanks : List Content) (c : ℕ) → AreBlanks blanks → followed_by front back ≡ leaves_then blanks (token_then c none) → leaves front ++ leaves back ≡ blanks ++ token c ∷ []
left_blanks front back blanks c h e = sym (leaves-followed_by front back) ∙ ap leaves e ∙ front_leaves blanks (token_then c none) (blanks_trivia blanks h)
