-- A whole row is planned, and takes its place.
use Rattle.std.proofs.Common.{◌≡◌, ◌≢◌, ℕ, ◌+◌, ◌-◌, ◌<◌, ◌≤◌, Bool, true, false, inl, inr, List, [], ◌∷◌, ◌++◌, length, take, drop, slice_index, Some, None, IsTrue, refl, sym, ap, subst, ◌∙◌, arith, append_assoc, append-nil, length-take, length-drop, get_or-take, get_or-drop}
use Rattle.std.specs.Prelude.{slice_range}
use Rattle.std.specs.List.{flat_map, suffix_len}
use Rattle.std.proofs.lemmas.List.{drop_all, drop_more}
use Rattle.jsonc_tree.specs.Changes.{CanJoin, Splices, IsFree}
use Rattle.jsonc_tree.specs.Tree.{Node, content_at, parent_at, children_at, place_at, is_in, IsTree, IsOver}
use Rattle.jsonc_tree.proofs.Builder.{Keeps-same}
use Rattle.jsonc_tree.proofs.Order.{not_over_parent, parent_there}
use Rattle.jsonc_tree.proofs.Splicing.{in_at}
use Rattle.jsonc_layout.specs.Building.{Gains}
use Rattle.jsonc_layout.specs.nodes.Kinds.{is_whitespace, is_whitespace_at, is_comma_at, is_comma}
use Rattle.jsonc_sound.proofs.RowParts.{first_and}
use Rattle.jsonc_edit.proofs.NodesKept.{over_no_old}
use Rattle.jsonc_edit.specs.remove.Removed.{has_brackets, has_two}
use Rattle.jsonc_edit.specs.multiline.Slots.{Slot}
use Rattle.jsonc_edit.specs.multiline.Lines.{Lines, between, last_leaves, last_line, lines_for, on_line, on_lines, parts, without_back, without_front}
use Rattle.jsonc_edit.specs.multiline.Multiline.{has_line_end, TakesRow, MadeMultiline}
use Rattle.jsonc_edit.specs.multiline.Plans.{IsFrom, Planned, PlannedRow, GainsChild, child_slots, begins_behind}
use Rattle.jsonc_edit.proofs.lemmas.multiline.Planning.{planned_later, planned_leaves, planned_none}
use Rattle.jsonc_edit.proofs.lemmas.multiline.RowByNode.{woven, both_woven}

-- the row of c has been planned as far as these of its children
pub record SoFar (old now : List Node) (c : ℕ) (lines : Lines) (items : List ℕ) (index : ℕ) (begins : Bool) (row : List ℕ) : Type 0 where
  pub tree : IsTree old
  pub in_tree : c < length old
  pub far : index + 2 ≤ length (children_at old c)
  pub are : items ≡ without_back old (between (children_at old c))
  pub done : List Slot
  pub planned : Planned old now c (index + 1) done row
  pub rest : done ++ woven lines old begins (drop index items) ≡ woven lines old true items

-- what stands at a place of a stretch
module _ (xs : List ℕ) (k index : ℕ) where
  low_count : index < length (take k (between xs)) → index + 2 < length xs
  low_count h = omega (arith, h, length-take k (between xs), length-take (length xs - 1 - 1) (drop 1 xs), length-drop 1 xs)

  item_is : index < length (take k (between xs)) → slice_index (take k (between xs)) index ≡ slice_index xs (1 + index)
  item_is h =
      get_or-take k (between xs) index 0 (omega (arith, h, length-take k (between xs))) ∙ get_or-take (length xs - 1 - 1) (drop 1 xs) index 0 (omega (arith, h, length-take k (between xs), length-take (length xs - 1 - 1) (drop 1 xs))) ∙ get_or-drop 1 xs index 0

module _ (old now : List Node) (c : ℕ) (lines : Lines) (items : List ℕ) (index : ℕ) (begins : Bool) (row : List ℕ) (s : SoFar old now c lines items index begins row) where
  module _ (n : ℕ) (is : n ≡ slice_index items index) (h : index < length items) where
    abbrev kids : List ℕ
    kids = children_at old c

    within : index + 2 < length kids
    within = low_count kids _ index (subst (λ (l : List ℕ). index < length l) s.are h)

    child : n ≡ slice_index kids (1 + index)
    child = is ∙ ap (λ (l : List ℕ). slice_index l index) s.are ∙ item_is kids _ index (subst (λ (l : List ℕ). index < length l) s.are h)

    said : parent_at old n ≡ Some c
    said = ap (parent_at old) child ∙ s.tree.named c (1 + index) (omega (arith, within))

    placed : place_at old n ≡ 1 + index
    placed = ap (place_at old) child ∙ s.tree.placed c (1 + index) (omega (arith, within))

    pub item_there : n < length now
    item_there = omega (arith, (parent_there old s.tree n c said).0, s.planned.keeps.len)

    same : content_at now n ≡ content_at old n
    same = s.planned.keeps.content n (parent_there old s.tree n c said).0

    pub so_far_more : (later : List Node) (next : List ℕ) (b : Bool) → GainsChild now row later next n (child_slots lines begins (is_whitespace_at now n) n) → b ≡ begins_behind begins (is_whitespace_at now n) (is_comma_at now n) → SoFar old later c lines items (index + 1) b next
    so_far_more later next b gains behind =
        let blank : is_whitespace_at now n ≡ is_whitespace_at old n = ap is_whitespace same in
        let comma : is_comma_at now n ≡ is_comma_at old n = ap is_comma same in
        let new : List Slot = child_slots lines begins (is_whitespace_at old n) n in
        let planned : Planned old later c (place_at old n + 1) (s.done ++ new) next =
        subst (λ w. Planned old later c (place_at old n + 1) (s.done ++ child_slots lines begins w n) next) blank (gains old c (index + 1) s.done s.tree s.planned said (omega (arith, placed)) (omega (arith, placed))) in
        let parts : drop index items ≡ n ∷ drop (index + 1) items = drop_more items index 0 h ∙ ap (λ m. m ∷ drop (index + 1) items) (sym is) in
        let after : b ≡ begins_behind begins (is_whitespace_at old n) (is_comma_at old n) = behind ∙ ap (λ w. begins_behind begins w (is_comma_at now n)) blank ∙ ap (begins_behind begins (is_whitespace_at old n)) comma in
        record {
          tree = s.tree;
          in_tree = s.in_tree;
          far = omega (arith, within);
          are = s.are;
          done = s.done ++ new;
          planned = planned_later old later c (place_at old n + 1) (s.done ++ new) next planned later (index + 1 + 1) planned.tree (Keeps-same (length later) later) (omega (arith, placed));
          rest = append_assoc s.done new (woven lines old b (drop (index + 1) items)) ∙ ap (λ w. s.done ++ (new ++ woven lines old w (drop (index + 1) items))) after ∙ ap (λ l. s.done ++ woven lines old begins l) (sym parts) ∙ s.rest;
        }

  -- the whole row
  pub row_planned : length items ≤ index → (later : List Node) (next : List ℕ) → IsTree later → Gains now row later next (last_leaves lines) → PlannedRow old later c (on_lines lines old (between (children_at old c))) next
  row_planned h later next tree gains =
      let all : s.done ≡ woven lines old true items = sym (append-nil s.done) ∙ ap (λ l. s.done ++ woven lines old begins l) (sym (drop_all index items h)) ∙ s.rest in
      let same : s.done ++ last_line lines ≡ on_lines lines old (between (children_at old c)) =
      ap (λ l. l ++ last_line lines) (all ∙ sym (both_woven lines old items).0 ∙ ap (λ l. flat_map (λ part. on_line lines (without_front old part)) (parts old l)) s.are) in
      let planned : Planned old later c (index + 1) (s.done ++ last_line lines) next = planned_leaves old now c (index + 1) s.done row s.planned s.tree later next (last_leaves lines) tree gains in
      subst (λ l. Planned old later c (length (children_at old c) - 1) l next) same (planned_later old later c (index + 1) (s.done ++ last_line lines) next planned later (length (children_at old c) - 1) planned.tree (Keeps-same (length later) later) (omega (arith, s.far)))

-- the children that are gone through
pub items_are : (ns : List Node) (kids xs : List ℕ) (count end : ℕ) → xs ≡ kids → count ≡ length kids → end ≡ length (without_back ns (take (count - 1 - 1) (drop 1 xs))) → take end (take (count - 1 - 1) (drop 1 xs)) ≡ without_back ns (between kids)
items_are ns kids xs count end e f h =
    let inside : List ℕ = take (count - 1 - 1) (drop 1 xs) in
    let same : inside ≡ between kids = ap (λ (l : List ℕ). take (count - 1 - 1) (drop 1 l)) e ∙ ap (λ k. take (k - 1 - 1) (drop 1 kids)) f in
    let far : end ≡ length inside - suffix_len (is_whitespace_at ns) inside = omega (arith, h, length-take (length inside - suffix_len (is_whitespace_at ns) inside) inside) in
    ap (λ k. take k inside) far ∙ ap (without_back ns) same

-- nothing has been planned yet
pub so_far_none : (old : List Node) (c : ℕ) (lines : Lines) (items : List ℕ) → IsTree old → c < length old → 2 ≤ length (children_at old c) → items ≡ without_back old (between (children_at old c)) → SoFar old old c lines items 0 true []
so_far_none old c lines items tree there two e = record {
  tree = tree;
  in_tree = there;
  far = omega (arith, two);
  are = e;
  done = [];
  planned = planned_none old c tree;
  rest = refl;
}

between_at : (xs : List ℕ) (i : ℕ) → 0 < i → i < length xs - 1 → slice_index (between xs) (i - 1) ≡ slice_index xs i
between_at xs i low h = get_or-take (length xs - 1 - 1) (drop 1 xs) (i - 1) 0 (omega (arith, low, h)) ∙ get_or-drop 1 xs (i - 1) 0 ∙ ap (slice_index xs) (omega (arith, low))

between_in : (xs : List ℕ) (i n : ℕ) → 0 < i → i < length xs - 1 → slice_index xs i ≡ n → is_in n (between xs) ≡ true
between_in xs i n low h e =
    subst (λ m. is_in m (between xs) ≡ true) (between_at xs i low h ∙ e)
    (in_at (between xs) (i - 1) (omega (arith, low, h, length-take (length xs - 1 - 1) (drop 1 xs), length-drop 1 xs)))

-- what has brackets has two children
pub two_there : (ns : List Node) (c : ℕ) → IsTrue (has_brackets ns c) → 2 ≤ length (children_at ns c)
two_there ns c h = by (children_at ns c) (first_and (has_two (children_at ns c)) _ h)
  where
    by : (xs : List ℕ) → IsTrue (has_two xs) → 2 ≤ length xs
    by (m ∷ k ∷ rest) e = omega arith
    by (m ∷ []) e = cc
    by [] e = cc

-- a planned row may take its place
module _ (old now : List Node) (c : ℕ) (slots : List Slot) (row : List ℕ) (tree : IsTree old) (there : c < length old) (p : PlannedRow old now c slots row) where
  abbrev last : ℕ
  last = length (children_at old c) - 1

  one_free : (n : ℕ) → IsFrom old now c last n → IsFree now c 1 last n
  one_free n (inr f) = inl f.2
  one_free n (inl f) = inr (subst (λ l. is_in n (slice_range l 1 last) ≡ true) (sym (p.keeps.children c there)) (between_in (children_at old c) (place_at old n) n f.1 f.2 (tree.found n c f.0)))

  one_there : (n : ℕ) → IsFrom old now c last n → n < length now
  one_there n (inr f) = f.1
  one_there n (inl f) = omega (arith, (parent_there old tree n c f.0).0, p.keeps.len)

  no_root : (n : ℕ) → IsFrom old now c last n → n ≢ 0
  no_root n (inr f) e = omega (arith, f.0, e, tree.first)
  no_root n (inl f) e = let wrong : None ≡ Some c = sym tree.root_alone ∙ ap (parent_at old) (sym e) ∙ f.0 in cc

  none_over : (n : ℕ) → IsFrom old now c last n → IsOver now n c → ⊥
  none_over n (inr f) = over_no_old old now tree p.keeps n c f.0 there
  none_over n (inl f) = not_over_parent now p.tree n c (p.keeps.parent n (parent_there old tree n c f.0).0 ∙ f.0)

  pub may_join : CanJoin now c 1 last row
  may_join = record {
    in_tree = λ k h. one_there (slice_index row k) (p.from k h);
    not_root = λ k h. no_root (slice_index row k) (p.from k h);
    once = p.once;
    free = λ k h. one_free (slice_index row k) (p.from k h);
    not_over = λ k h. none_over (slice_index row k) (p.from k h);
  }

-- it has taken its place
pub takes_row : (old now new : List Node) (c : ℕ) (slots : List Slot) (row : List ℕ) → IsTree old → c < length old → PlannedRow old now c slots row → IsTree now → IsTree new → Splices now new c 1 (length (children_at old c) - 1) row → TakesRow old new c slots
takes_row old now new c slots row tree there p after done put = record {
  ready = now;
  row = row;
  prepared = record { keeps = p.keeps; tree = after };
  filled = p.filled;
  join = may_join old now c slots row tree there p;
  put = put;
  tree = done;
}

-- how many children there are when it has been planned, and that it may take its place
module _ (old now : List Node) (c : ℕ) (slots : List Slot) (row : List ℕ) (tree : IsTree old) (there : c < length old) (p : PlannedRow old now c slots row) (after : IsTree now) (count : ℕ) (counted : count ≡ length (children_at now c)) where
  same_count : count ≡ length (children_at old c)
  same_count = counted ∙ ap length (p.keeps.children c there)

  pub row_ready : (xs : List ℕ) → xs ≡ row → CanJoin now c 1 (count - 1) xs
  row_ready xs e =
      subst (λ l. CanJoin now c 1 (count - 1) l) (sym e) (subst (λ k. CanJoin now c 1 (k - 1) row) (sym same_count) (may_join old now c slots row tree there p))

  pub made_multiline : (new : List Node) → IsTree new → (xs : List ℕ) → xs ≡ row → Splices now new c 1 (count - 1) xs → slots ≡ on_lines (lines_for old c) old (between (children_at old c)) → IsTrue (has_brackets old c) → has_line_end old c ≡ false → MadeMultiline old new c
  made_multiline new done xs e put told whole none = record {
    brackets = whole;
    was = λ h. absurd (let wrong : false ≡ true = sym none ∙ h in cc);
    is = λ h. subst (TakesRow old new c) told (takes_row old now new c slots row tree there p after done (subst (λ k. Splices now new c 1 (k - 1) row) same_count (subst (λ l. Splices now new c 1 (count - 1) l) e put)));
  }
