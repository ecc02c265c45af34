-- A property in the row of an object: what stands beside it, and what it prints first and last.
use Rattle.std.proofs.Common.{◌≡◌, ℕ, suc, ◌+◌, Bool, true, false, cond, List, [], ◌∷◌, ◌++◌, length, take, drop, filter, Option, Some, None, if◌then◌else◌, refl, sym, ap, subst, ◌∙◌}
use Rattle.std.proofs.lemmas.Bool.{false≢true}
use Rattle.std.proofs.lemmas.List.{append-nil, take-append-drop, drop_more}
use Rattle.std.proofs.lemmas.List.Elements.{All-nil}
use Rattle.std.specs.List.{All}
use Rattle.jsonc_text.specs.Options.{Options}
use Rattle.jsonc_text.specs.Plain.{Plain}
use Rattle.jsonc_tree.specs.Content.{Content, object, property, token, whitespace}
use Rattle.jsonc_tree.specs.OrderedTree.{OrderedTree, none, more, own_leaf, leaves, followed_by, Shows, shows_none, shows_more, Top}
use Rattle.jsonc_tree.specs.Tree.{Node, content_at, parent_at, children_at, place_at, IsTree, IsOver}
use Rattle.jsonc_tree.proofs.Order.{parent_there}
use Rattle.jsonc_tree.proofs.OrderedTrees.{Shows-unique, leaves-followed_by}
use Rattle.jsonc_tree.proofs.Rows.{Shows-part}
use Rattle.jsonc_sound.specs.Shape.{IsLiteralBefore, token_then}
use Rattle.jsonc_layout.specs.nodes.Kinds.{is_element, is_element_at}
use Rattle.jsonc_layout.specs.from_input.Layout.{Layout}
use Rattle.jsonc_layout.specs.from_input.Laid.{laid, laid_property, string_leaf}
use Rattle.jsonc_sound.specs.ChangeLaws.{DiffersIn}
use Rattle.jsonc_sound.specs.Rows as rows
use Rattle.jsonc_sound.specs.Rows.{Last}
use Rattle.jsonc_sound.specs.TreeChanges.{IsElement, leaves_of, property_of}
use Rattle.jsonc_sound.proofs.FirstNodes.{no_element, trivia_over}
use Rattle.jsonc_sound.specs.Adjacent.{or_else, last_printed}
use Rattle.jsonc_sound.specs.Alone as alone
use Rattle.jsonc_sound.specs.Alone.{ValueAlone, RowAlone, PropertyAlone}
use Rattle.jsonc_sound.specs.InRows.{row_around}
use Rattle.jsonc_sound.specs.Spaces.{is_bare, is_bare_leaf, first_printed}
use Rattle.jsonc_sound.proofs.RowsWithin.{LeafPrints, name_prints}
use Rattle.jsonc_sound.proofs.Spaces.{last_append}
use Rattle.jsonc_sound.specs.Leaving.{element_count}
use Rattle.jsonc_sound.specs.Properties.{object_of}
use Rattle.jsonc_edit.specs.Due.{begins_bare, space_needed_before, space_needed_after, seen_behind, listed}
use Rattle.jsonc_edit.specs.Put.{AreSpaced}
use Rattle.jsonc_edit.proofs.NearestLeaves.{value_last}
use Rattle.jsonc_edit.proofs.UnneededSpaces.{quiet_behind}
use Rattle.jsonc_edit.specs.Changes.{row_below, top_at}
use Rattle.jsonc_edit.proofs.SpacedNodes.{Placed, around_placed}
use Rattle.jsonc_edit.proofs.ChangesUpward.{Shows-row_below}
use Rattle.jsonc_edit.specs.set.Giving.{due_after, is_bare_value}
use Rattle.jsonc_edit.proofs.lemmas.set.PropertyGiving.{last_all}

-- the rows around a child
pub record Parted (ns : List Node) (n c : ℕ) : Type 0 where
  pub front : OrderedTree
  pub back : OrderedTree
  pub before : Shows ns (take (place_at ns n) (children_at ns c)) front
  pub behind : Shows ns (drop (place_at ns n + 1) (children_at ns c)) back
  pub is : row_below ns c ≡ row_around front (top_at ns n) back

module _ (ns : List Node) (tree : IsTree ns) (n c : ℕ) (said : parent_at ns n ≡ Some c) where
  first_of : (rest : List ℕ) (t : OrderedTree) → Shows ns (n ∷ rest) t → (back : OrderedTree) × Shows ns rest back × (t ≡ more (content_at ns n) (row_below ns n) back)
  first_of rest _ (shows_more {below = b} {after = a} p q) =
      let same : b ≡ row_below ns n = Shows-unique ns (children_at ns n) b (row_below ns n) p (Shows-row_below ns tree n (parent_there ns tree n c said).0) in
      (a, q, ap (λ t. more (content_at ns n) t a) same)

  pub parted : Parted ns n c
  parted =
      let row : List ℕ = children_at ns c in
      let place : ℕ = place_at ns n in
      let parts : row ≡ take place row ++ n ∷ drop (place + 1) row =
      sym (take-append-drop place row) ∙ ap (λ l. take place row ++ l) (drop_more row place 0 (tree.within n c said)) ∙ ap (λ m. take place row ++ m ∷ drop (place + 1) row) (tree.found n c said) in
      let two = Shows-part ns (take place row) (n ∷ drop (place + 1) row) (row_below ns c) (subst (λ (l : List ℕ). Shows ns l (row_below ns c)) parts (Shows-row_below ns tree c (parent_there ns tree n c said).1)) in
      let one = first_of (drop (place + 1) row) two.1 two.4 in
      record { front = two.0; back = one.0; before = two.3; behind = one.1; is = two.2 ∙ ap (followed_by two.0) one.2 }

-- as many elements stand in a row as among its numbers
pub counted_elements : {ns : List Node} {xs : List ℕ} {t : OrderedTree} → Shows ns xs t → element_count t ≡ length (filter (is_element_at ns) xs)
counted_elements shows_none = refl
counted_elements {ns} (shows_more {n = n} {rest = rest} {after = after} p q) = by (is_element (content_at ns n)) (counted_elements q)
  where
    by : (b : Bool) → element_count after ≡ length (filter (is_element_at ns) rest) → (if b then suc (element_count after) else element_count after) ≡ length (cond b (n ∷ filter (is_element_at ns) rest) (filter (is_element_at ns) rest))
    by true e = ap suc e
    by false e = e

-- the row of an object, behind its first bracket
pub record ObjectRow (o : Options) (below : OrderedTree) : Type 0 where
  pub row : OrderedTree
  pub is : below ≡ token_then 0x7B row
  pub alone : RowAlone o rows.of_properties rows.nothing_yet row

pub object_row : (o : Options) {content : Content} {below : OrderedTree} → content ≡ object → ValueAlone o content below → ObjectRow o below
object_row o e (alone.literal {content = content} l) = absurd (subst (λ w. IsLiteralBefore o w []) e l)
object_row o e (alone.an_array g) = cc
object_row o e (alone.an_object {row = row} g) = record { row = row; is = refl; alone = g }

-- an element of it stands behind the bracket
pub record Inside (before rest row : OrderedTree) : Type 0 where
  pub front : OrderedTree
  pub is : before ≡ token_then 0x7B front
  pub joined : row ≡ followed_by front rest

pub inside_of : (before : OrderedTree) (top : Top) (back row : OrderedTree) → IsElement top.content → row_around before top back ≡ token_then 0x7B row → Inside before (more top.content top.below back) row
inside_of none top back row h e = let same : top.content ≡ token 0x7B = cc in absurd (false≢true (subst IsElement same h))
inside_of (more content below after) top back row h e =
    let first : content ≡ token 0x7B = cc in
    let under : below ≡ none = cc in
    let rest : row_around after top back ≡ row = cc in
    record { front = after; is = ap (λ w. more w below after) first ∙ ap (λ t. more (token 0x7B) t after) under; joined = sym rest }

-- and is a property
pub property_here : {o : Options} {last : Last} {content : Content} {below after : OrderedTree} → IsElement content → RowAlone o rows.of_properties last (more content below after) → content ≡ property
property_here h (alone.closes m) = cc
property_here {o} h (alone.trivia {content = content} k g) = absurd (no_element content h (trivia_over o content k))
property_here h (alone.element m (alone.a_property p) g) = refl
property_here h (alone.comma g) = cc

-- the nodes before which a space is due behind a property
pub due_placed : (ns : List Node) → IsTree ns → (n c : ℕ) → parent_at ns n ≡ Some c → IsOver ns 0 n → IsElement (content_at ns n) → (v : Plain) → All (Placed ns n) (listed (due_after ns n v))
due_placed ns tree n c said below element v = by (is_bare_value v)
  where
    by : (b : Bool) → All (Placed ns n) (listed (cond b (space_needed_after ns n) None))
    by true = last_all (Placed ns n) (space_needed_before ns n) (listed (space_needed_after ns n)) (around_placed ns tree n c said below Content.null element)
    by false = All-nil (Placed ns n)

-- once the space has come none is due behind it any more
pub quiet_after : (old new : List Node) → IsTree old → (n : ℕ) (v : Plain) → AreSpaced old (listed (due_after old n v)) new → is_bare_value v ≡ true → begins_bare new (seen_behind new n) ≡ false
quiet_after old new tree n v spaced bare = by (begins_bare old (seen_behind old n)) (seen_behind old n) refl refl (subst (λ b. AreSpaced old (listed (cond b (cond (begins_bare old (seen_behind old n)) (seen_behind old n) None) None)) new) bare spaced)
  where
    by : (b : Bool) (o : Option ℕ) → seen_behind old n ≡ o → begins_bare old (seen_behind old n) ≡ b → AreSpaced old (listed (cond b o None)) new → begins_bare new (seen_behind new n) ≡ false
    by false o seen e same = subst (λ ns. begins_bare ns (seen_behind ns n) ≡ false) (sym same) e
    by true None seen e same = absurd (false≢true (sym (ap (begins_bare old) seen) ∙ e))
    by true (Some x) seen e (now, space, s, same) = subst (λ ns. begins_bare ns (seen_behind ns n) ≡ false) (sym same) (quiet_behind old now tree n x space s seen)

-- a name between quotes is printed first
name_of : {o : Options} {name : Content} {after : OrderedTree} → PropertyAlone o (more name none after) → LeafPrints name
name_of {o} (alone.named {name = name} k g h v) = name_prints o name k

pub name_first : (o : Options) (layout : Layout) (name : List ℕ) (v : Plain) (rest : List Content) → PropertyAlone o (laid_property layout name v).below → is_bare_leaf (first_printed (leaves (laid_property layout name v).below ++ rest)) ≡ false
name_first o layout name v rest p = ap (λ b. is_bare_leaf (if b then Some (string_leaf name) else first_printed (behind_name ++ rest))) (name_of p)
  where
    behind_name : List Content
    behind_name = token 0x3A ∷ whitespace (0x20 ∷ []) ∷ (own_leaf (laid layout v).content ++ (leaves (laid layout v).below ++ []))

-- and the value last
bare_kind : (layout : Layout) (v : Plain) → is_bare (laid layout v).content ≡ is_bare_value v
bare_kind layout Plain.null = refl
bare_kind layout (Plain.boolean b) = refl
bare_kind layout (Plain.number s) = refl
bare_kind layout (Plain.string s) = refl
bare_kind layout (Plain.array vs) = refl
bare_kind layout (Plain.object ms) = refl

pub value_behind : (o : Options) (layout : Layout) (name : List ℕ) (v : Plain) → ValueAlone o (laid layout v).content (laid layout v).below → is_bare_leaf (last_printed (leaves (laid_property layout name v).below)) ≡ is_bare_value v
value_behind o layout name v alone =
    let own : List Content = own_leaf (laid layout v).content in
    let under : List Content = leaves (laid layout v).below in
    let lead : List Content = string_leaf name ∷ token 0x3A ∷ whitespace (0x20 ∷ []) ∷ [] in
    let known = value_last o alone in
    let last : last_printed (lead ++ (own ++ (under ++ []))) ≡ Some known.0 =
    last_append lead (own ++ (under ++ [])) ∙ ap (λ l. or_else (last_printed (own ++ l)) (last_printed lead)) (append-nil under) ∙ ap (λ x. or_else x (last_printed lead)) known.1 in
    ap is_bare_leaf last ∙ known.2 ∙ bare_kind layout v

-- the leaves of the object around the property
pub property_differs : (front was now back : OrderedTree) → DiffersIn (leaves_of (property_of was)) (leaves_of (property_of now)) (leaves_of (object_of front was back)) (leaves_of (object_of front now back))
property_differs front was now back = record {
  front = token 0x7B ∷ leaves front;
  back = leaves back;
  before = ap (λ l. token 0x7B ∷ l) (leaves-followed_by front (more property was back));
  after = ap (λ l. token 0x7B ∷ l) (leaves-followed_by front (more property now back));
}
