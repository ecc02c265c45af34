-- What is removed before a comment of a sound document, and what stands before that.
use Rattle.std.proofs.Common.{◌≡◌, ℕ, zero, suc, ◌+◌, ◌-◌, ◌<◌, ◌≤◌, Bool, true, false, ◌||◌, cond, List, [], ◌∷◌, ◌++◌, length, get_or, map, take, drop, slice_index, slice_range, Some, IsTrue, inl, inr, refl, sym, ap, subst, ◌∙◌, arith}
use Rattle.std.proofs.lemmas.Bool.{cases_Bool}
use Rattle.std.proofs.lemmas.List.{append_assoc, append-nil, drop_more, take_more, take-append-drop}
use Rattle.std.proofs.lemmas.List.Edits.{get_or-between, length-between}
use Rattle.jsonc_text.specs.Options.{Options}
use Rattle.jsonc_tree.specs.Content.{Content}
use Rattle.jsonc_tree.specs.OrderedTree.{OrderedTree, none, more, own_leaf, leaves, ordered_tree, Shows, shows_none, shows_more}
use Rattle.jsonc_tree.specs.Tree.{Node, content_at, parent_at, children_at, place_at, IsTree}
use Rattle.jsonc_tree.proofs.Order.{parent_there}
use Rattle.jsonc_tree.proofs.OrderedTrees.{Shows-unique, leaves-followed_by}
use Rattle.jsonc_tree.proofs.Rows.{Shows-part}
use Rattle.jsonc_layout.specs.nodes.Kinds.{is_whitespace, is_newline, is_trivia, is_whitespace_at, is_newline_at, is_comment_at, is_trivia_at}
use Rattle.jsonc_sound.specs.Alone as alone
use Rattle.jsonc_sound.specs.Alone.{ValueAlone, PartAlone, RowAlone, PropertyAlone}
use Rattle.jsonc_sound.specs.Lines.{is_line_comment}
use Rattle.jsonc_sound.specs.Rows as rows
use Rattle.jsonc_sound.specs.Rows.{RowKind, Last}
use Rattle.jsonc_sound.specs.Shape as shape
use Rattle.jsonc_sound.specs.Shape.{IsLiteralBefore, IsNameBefore, Trivia}
use Rattle.jsonc_sound.specs.SoundTrees.{SoundTree}
use Rattle.jsonc_sound.proofs.NodesAlone.{document_alone}
use Rattle.jsonc_sound.proofs.Texts.{literal_leaf}
use Rattle.jsonc_edit.specs.Changes.{row_below}
use Rattle.jsonc_edit.specs.Comments.{blanks_from, newline_from, removed_from}
use Rattle.jsonc_edit.specs.SeamLaws.{AreWhitespace, EndInNoBlank, BlanksRemoved, before_block, on_line, with_newline}
use Rattle.jsonc_edit.specs.Seams.{StandsBetween, as_root, as_child}
use Rattle.jsonc_edit.proofs.BlanksBefore.{blanks_low, blanks_are}
use Rattle.jsonc_edit.proofs.ChangesUpward.{Shows-row_below}
use Rattle.jsonc_edit.proofs.LeafKinds.{comment_trivia}
use Rattle.jsonc_edit.proofs.LeavesAroundNodes as between
use Rattle.jsonc_edit.proofs.Removal.{between_trivia}
use Rattle.jsonc_edit.proofs.SeamsParting.{row_somewhere, row_whole}
use Rattle.jsonc_edit.proofs.WholeRows as whole
use Rattle.jsonc_edit.proofs.WholeRows.{IsWhole, Whole, whole_before, whole_behind, whole_within}

-- the last of the leaves is no trivia
abbrev pub Firm : List Content → Type 0
Firm ls = (front : List Content) × (content : Content) × (ls ≡ front ++ content ∷ []) × (is_trivia content ≡ false)

firm_behind : (first second : List Content) → Firm second → Firm (first ++ second)
firm_behind first second (front, content, is, h) = (first ++ front, content, ap (λ l. first ++ l) is ∙ sym (append_assoc first front (content ∷ [])), h)

-- the last of the leaves is neither whitespace nor a newline
abbrev Solid : List Content → Type 0
Solid ls = (front : List Content) × (content : Content) × (ls ≡ front ++ content ∷ []) × (is_whitespace content || is_newline content) ≡ false

solid_behind : (first second : List Content) → Solid second → Solid (first ++ second)
solid_behind first second (front, content, is, h) = (first ++ front, content, ap (λ l. first ++ l) is ∙ sym (append_assoc first front (content ∷ [])), h)

firm_solid : {ls : List Content} → Firm ls → Solid ls
firm_solid (front, content, is, h) = (front, content, is, by content h)
  where
    by : (content : Content) → is_trivia content ≡ false → (is_whitespace content || is_newline content) ≡ false
    by (Content.whitespace s) k = cc
    by (Content.newline n) k = cc
    by content k = refl

module _ (o : Options) where
  pub literal_firm : (content : Content) → IsLiteralBefore o content [] → is_trivia content ≡ false
  literal_firm (Content.string s) h = refl
  literal_firm (Content.number s) h = refl
  literal_firm (Content.boolean b) h = refl
  literal_firm Content.null h = refl
  literal_firm content h = absurd h

  row_firm : {kind : RowKind} {last : Last} {row : OrderedTree} → RowAlone o kind last row → Firm (leaves row)
  row_firm (alone.closes {kind = kind} m) = ([], Content.token (rows.closing kind), refl, refl)
  row_firm (alone.trivia {content = content} {after = after} h g) = firm_behind (own_leaf content) (leaves after) (row_firm g)
  row_firm (alone.element {content = content} {below = below} {after = after} m p g) = firm_behind (own_leaf content) (leaves below ++ leaves after) (firm_behind (leaves below) (leaves after) (row_firm g))
  row_firm (alone.comma {after = after} g) = firm_behind (Content.token 0x2C ∷ []) (leaves after) (row_firm g)

  value_firm : {content : Content} {below : OrderedTree} → ValueAlone o content below → Firm (own_leaf content ++ leaves below)
  value_firm (alone.literal {content = content} h) = subst (λ l. Firm (l ++ [])) (sym (literal_leaf o content [] h)) ([], content, refl, literal_firm content h)
  value_firm (alone.an_array {row = row} g) = firm_behind (Content.token 0x5B ∷ []) (leaves row) (row_firm g)
  value_firm (alone.an_object {row = row} g) = firm_behind (Content.token 0x7B ∷ []) (leaves row) (row_firm g)

  pub name_firm : (name : Content) → IsNameBefore o name [] → is_trivia name ≡ false
  name_firm (Content.string s) k = refl
  name_firm (Content.word s) k = refl
  name_firm name k = absurd k

  -- a node with nothing behind it
  pub alone_firm : (content : Content) (below : OrderedTree) → Firm (own_leaf content ++ leaves below) → Firm (leaves (more content below none))
  alone_firm content below h = subst (λ l. Firm (own_leaf content ++ l)) (sym (append-nil (leaves below))) h

  trivia_firm : {t r : OrderedTree} → Trivia o t r → Firm (leaves r) → Firm (leaves t)
  trivia_firm shape.nothing h = h
  trivia_firm (shape.trivia {content = content} {t = t} k g) h = firm_behind (own_leaf content) (leaves t) (trivia_firm g h)

  property_firm : {row : OrderedTree} → PropertyAlone o row → Firm (leaves row)
  property_firm (alone.named {name = name} {content = content} {below = below} {after = after} {u = u} n g h v) =
      firm_behind (own_leaf name) (leaves after) (trivia_firm g (firm_behind (Content.token 0x3A ∷ []) (leaves u) (trivia_firm h (alone_firm content below (value_firm v)))))

  pub part_firm : {kind : RowKind} {content : Content} {below : OrderedTree} → PartAlone o kind content below → Firm (own_leaf content ++ leaves below)
  part_firm (alone.a_value v) = value_firm v
  part_firm (alone.a_property p) = property_firm p

  alone_solid : (content : Content) (below : OrderedTree) → Solid (own_leaf content ++ leaves below) → Solid (leaves (more content below none))
  alone_solid content below h = subst (λ l. Solid (own_leaf content ++ l)) (sym (append-nil (leaves below))) h

  node_solid : {content : Content} {below : OrderedTree} → IsWhole o content below → (is_whitespace content || is_newline content) ≡ false → Solid (own_leaf content ++ leaves below)
  node_solid (whole.whole_leaf {content = content} l) h = subst (λ x. Solid (x ++ [])) (sym (ap (λ b. cond b [] (content ∷ [])) l)) ([], content, refl, h)
  node_solid (whole.whole_value v) h = firm_solid (value_firm v)
  node_solid (whole.whole_property p) h = firm_solid (property_firm p)

  -- below a node of a row no leaf of trivia is first
  literal_bare : {content : Content} {below : OrderedTree} (first : Content) (under after : OrderedTree) → IsWhole o content below → below ≡ more first under after → is_trivia first ≡ false
  literal_bare first under after (whole.whole_leaf l) e = cc
  literal_bare first under after (whole.whole_value (alone.literal h)) e = cc
  literal_bare first under after (whole.whole_value (alone.an_array g)) e = let same : Content.token 0x5B ≡ first = cc in ap is_trivia (sym same)
  literal_bare first under after (whole.whole_value (alone.an_object g)) e = let same : Content.token 0x7B ≡ first = cc in ap is_trivia (sym same)
  literal_bare first under after (whole.whole_property (alone.named {name = name} n g h v)) e = let same : name ≡ first = cc in ap is_trivia (sym same) ∙ name_firm name n

module _ (ns : List Node) where
  empty_row : {xs : List ℕ} {t : OrderedTree} → xs ≡ [] → Shows ns xs t → t ≡ none
  empty_row e shows_none = refl
  empty_row e (shows_more p q) = cc

  first_of : {xs : List ℕ} {t : OrderedTree} → 0 < length xs → Shows ns xs t → (under : OrderedTree) × (after : OrderedTree) × (t ≡ more (content_at ns (get_or xs 0 0)) under after)
  first_of h shows_none = absurd (omega (arith, h))
  first_of h (shows_more {below = below} {after = after} p q) = (below, after, refl)

  front_whole : {o : Options} {content : Content} {below after : OrderedTree} → Whole o (more content below after) → IsWhole o content below
  front_whole (whole.more_whole w r) = w

  one_solid : (o : Options) {k : ℕ} {t : OrderedTree} → Shows ns (k ∷ []) t → Whole o t → (is_whitespace (content_at ns k) || is_newline (content_at ns k)) ≡ false → Solid (leaves t)
  one_solid o (shows_more {n = k} {below = below} {after = after} p q) w h =
      subst (λ a. Solid (leaves (more (content_at ns k) below a))) (sym (empty_row refl q)) (alone_solid o (content_at ns k) below (node_solid o (front_whole w) h))

  -- a row whose last node is no blank
  taken_solid : (o : Options) (row : List ℕ) (j : ℕ) (t : OrderedTree) → j < length row → Shows ns (take (suc j) row) t → Whole o t → (is_whitespace_at ns (slice_index row j) || is_newline_at ns (slice_index row j)) ≡ false → Solid (leaves t)
  taken_solid o row j t low shows w h =
      let parts : take (suc j) row ≡ take j row ++ slice_index row j ∷ [] = ap (λ k. take k row) (let e : suc j ≡ j + 1 = omega arith in e) ∙ take_more row j 0 low in
      let two = Shows-part ns (take j row) (slice_index row j ∷ []) t (subst (λ (l : List ℕ). Shows ns l t) parts shows) in
      let last : Solid (leaves two.1) = one_solid o two.4 (whole_behind o two.0 two.1 (subst (Whole o) two.2 w)) h in
      subst Solid (sym (ap leaves two.2 ∙ leaves-followed_by two.0 two.1)) (solid_behind (leaves two.0) (leaves two.1) last)

  -- where blanks begin, none stands before
  blanks_stop : (row : List ℕ) (place b : ℕ) → blanks_from ns row place ≡ suc b → is_whitespace_at ns (slice_index row b) ≡ false
  blanks_stop row zero b e = cc
  blanks_stop row (suc place) b e =
      elim (cases_Bool (is_whitespace_at ns (slice_index row place))) [
        | inl h ↦ (let same : blanks_from ns row (suc place) ≡ blanks_from ns row place = rw h refl in blanks_stop row place b (sym same ∙ e))
        | inr h ↦ (let same : blanks_from ns row (suc place) ≡ suc place = rw h refl in let k : place ≡ b = omega (arith, same, e) in subst (λ x. is_whitespace_at ns (slice_index row x) ≡ false) k h)
      ]

  are_spaces : (xs : List ℕ) → ((k : ℕ) → k < length xs → is_whitespace_at ns (get_or xs k 0) ≡ true) → AreWhitespace (map (content_at ns) xs)
  are_spaces [] h = tt
  are_spaces (x ∷ xs) h = (h 0 (omega arith), are_spaces xs (λ k l. h (suc k) (omega (arith, l))))

  spaces_gone : (row : List ℕ) (place : ℕ) → place < length row → AreWhitespace (map (content_at ns) (slice_range row (blanks_from ns row place) place))
  spaces_gone row place inn =
      let b : ℕ = blanks_from ns row place in
      let le : b ≤ place = blanks_low ns row place in
      are_spaces (slice_range row b place) (λ k l.
      let size : length (slice_range row b place) ≡ place - b = length-between row b place (omega (arith, inn)) in
      let low : b + k < place = omega (arith, l, size, le) in
      let here : get_or (slice_range row b place) k 0 ≡ get_or row (b + k) 0 = get_or-between row b place k 0 (omega (arith, low)) in
      ap (is_whitespace_at ns) here ∙ blanks_are ns row place (b + k) (omega arith) low)

  neither : (b c : Bool) → b ≡ false → c ≡ false → (b || c) ≡ false
  neither false false h k = refl
  neither true c h k = cc
  neither false true h k = cc

-- a row of a sound document that begins with trivia is the root's
none_before : (ns : List Node) → IsTree ns → (o : Options) → SoundTree o (ordered_tree ns 0) → (c : ℕ) (g d : List Content) → StandsBetween ns c g d → (first : Content) (under after : OrderedTree)
    → row_below ns c ≡ more first under after → is_trivia first ≡ true → g ≡ []
none_before ns tree o sound _ _ _ as_root first under after e h = refl
none_before ns tree o sound c _ _ (as_child {c = p} {f = f} {b = b} {front = front} {back = back} said up fr bk) first under after e h =
    let s : StandsBetween ns c (f ++ leaves front) (leaves back ++ b) = as_child said up fr bk in
    let w = between.within ns tree c p (f ++ leaves front) (leaves back ++ b) said s in
    let own : IsWhole o (content_at ns c) (row_below ns c) = front_whole ns (whole_behind o w.front (more (content_at ns c) (row_below ns c) w.back) (row_whole ns tree o sound c p (f ++ leaves front) (leaves back ++ b) said s)) in
    let wrong : true ≡ false = sym h ∙ literal_bare o first under after own e in
    cc

-- a comment of a sound document
module _ (ns : List Node) (tree : IsTree ns) (n c : ℕ) (said : parent_at ns n ≡ Some c) (comment : IsTrue (is_comment_at ns n)) where
  abbrev row : List ℕ
  row = children_at ns c

  abbrev place : ℕ
  place = place_at ns n

  abbrev first : ℕ
  first = removed_from ns c n

  abbrev removed : List Content
  removed = map (content_at ns) (slice_range row first place)

  inn : place < length row
  inn = tree.within n c said

  module _ (o : Options) (sound : SoundTree o (ordered_tree ns 0)) (g d : List Content) (up : StandsBetween ns c g d) where
    below_whole : Whole o (row_below ns c)
    below_whole = whole_within o (document_alone o sound.shaped) (row_somewhere ns tree c g d up).within

    below_shown : Shows ns row (row_below ns c)
    below_shown = Shows-row_below ns tree c (parent_there ns tree n c said).1

    part_whole : (k : ℕ) (t : OrderedTree) → Shows ns (take k row) t → Whole o t
    part_whole k t shows =
        let two = Shows-part ns (take k row) (drop k row) (row_below ns c) (subst (λ (l : List ℕ). Shows ns l (row_below ns c)) (sym (take-append-drop k row)) below_shown) in
        let same : two.0 ≡ t = Shows-unique ns (take k row) two.0 t two.3 shows in
        subst (Whole o) same (whole_before o two.0 two.1 (subst (Whole o) two.2 below_whole))

    -- the first of the row is trivia, where it is removed
    first_trivia : first ≡ 0 → is_trivia_at ns (get_or row 0 0) ≡ true
    first_trivia e = by place refl
      where
        by : (p : ℕ) → place ≡ p → is_trivia_at ns (get_or row 0 0) ≡ true
        by zero is = subst (λ k. is_trivia_at ns k ≡ true) (sym (ap (slice_index row) (sym is) ∙ tree.found n c said)) (comment_trivia (content_at ns n) comment)
        by (suc p) is = between_trivia ns tree c n said 0 (omega (arith, e)) (omega (arith, is))

    none_ahead : first ≡ 0 → g ≡ []
    none_ahead e = let f = first_of ns (omega (arith, inn)) below_shown in none_before ns tree o sound c g d up (content_at ns (get_or row 0 0)) f.0 f.1 f.2 (first_trivia e)

    module _ (front : List Content) (t : OrderedTree) (shows : Shows ns (take first row) t) (is : front ≡ g ++ leaves t) where
      ends_so : (j : ℕ) → first ≡ j → first ≡ blanks_from ns row place → ((b : ℕ) → first ≡ suc b → is_newline_at ns (slice_index row b) ≡ false) → EndInNoBlank front
      ends_so zero e same none_there = inl (is ∙ ap (λ l. g ++ l) (ap leaves (empty_row ns (ap (λ k. take k row) e) shows)) ∙ append-nil g ∙ none_ahead e)
      ends_so (suc j) e same none_there =
          let space : is_whitespace_at ns (slice_index row j) ≡ false = blanks_stop ns row place j (sym same ∙ e) in
          let low : j < length row = omega (arith, e, same, blanks_low ns row place, inn) in
          let here : Shows ns (take (suc j) row) t = subst (λ k. Shows ns (take k row) t) e shows in
          let last = solid_behind g (leaves t) (taken_solid ns o row j t low here (part_whole first t shows) (neither ns (is_whitespace_at ns (slice_index row j)) (is_newline_at ns (slice_index row j)) space (none_there j e))) in
          inr (subst Solid (sym is) last)

      -- by the newline before the blanks
      removed_line : is_line_comment (content_at ns n) ≡ true → (b : ℕ) → blanks_from ns row place ≡ b → first ≡ newline_from ns row b → BlanksRemoved front (is_line_comment (content_at ns n)) removed
      removed_line line zero e from =
          on_line line (subst (λ k. AreWhitespace (map (content_at ns) (slice_range row k place))) (e ∙ sym from) (spaces_gone ns row place inn)) (ends_so 0 from (from ∙ sym e) (λ b wrong. absurd (omega (arith, wrong, from))))
      removed_line line (suc b) e from =
          elim (cases_Bool (is_newline_at ns (slice_index row b))) [
            | inl h ↦
                let there : first ≡ b = from ∙ ap (λ w. cond w b (suc b)) h in
                let low : b < place = omega (arith, e, blanks_low ns row place) in
                let inside : b < length row = omega (arith, low, inn) in
                let count : place - b ≡ suc (place - suc b) = omega (arith, low) in
                let rest : drop b row ≡ slice_index row b ∷ drop (suc b) row = drop_more row b 0 inside ∙ ap (λ k. slice_index row b ∷ drop k row) (let p : b + 1 ≡ suc b = omega arith in p) in
                let parts : slice_range row b place ≡ slice_index row b ∷ slice_range row (suc b) place = ap (λ l. take (place - b) l) rest ∙ ap (λ k. take k (slice_index row b ∷ drop (suc b) row)) count in
                let are : removed ≡ content_at ns (slice_index row b) ∷ map (content_at ns) (slice_range row (suc b) place) = ap (λ k. map (content_at ns) (slice_range row k place)) there ∙ ap (map (content_at ns)) parts in
                let spaces : AreWhitespace (map (content_at ns) (slice_range row (suc b) place)) = subst (λ k. AreWhitespace (map (content_at ns) (slice_range row k place))) e (spaces_gone ns row place inn) in
                subst (BlanksRemoved front (is_line_comment (content_at ns n))) (sym are) (with_newline (content_at ns (slice_index row b)) line h spaces)
            | inr h ↦
                let there : first ≡ suc b = from ∙ ap (λ w. cond w b (suc b)) h in
                on_line line (subst (λ k. AreWhitespace (map (content_at ns) (slice_range row k place))) (e ∙ sym there) (spaces_gone ns row place inn))
                (ends_so (suc b) there (there ∙ sym e) (λ k at. let same : b ≡ k = omega (arith, there, at) in subst (λ x. is_newline_at ns (slice_index row x) ≡ false) same h))
          ]

      -- what is removed before a comment
      pub blanks_removed : BlanksRemoved front (is_line_comment (content_at ns n)) removed
      blanks_removed =
          elim (cases_Bool (is_line_comment (content_at ns n))) [
            | inl line ↦ removed_line line (blanks_from ns row place) refl (ap (λ w. cond w (newline_from ns row (blanks_from ns row place)) place) line)
            | inr block ↦
                let there : first ≡ place = ap (λ w. cond w (newline_from ns row (blanks_from ns row place)) place) block in
                let nothing : slice_range row first place ≡ [] = ap (λ k. slice_range row k place) there ∙ (let z : place - place ≡ 0 = omega arith in ap (λ k. take k (drop place row)) z) in
                subst (λ (l : List ℕ). BlanksRemoved front (is_line_comment (content_at ns n)) (map (content_at ns) l)) (sym nothing) (before_block block)
          ]
