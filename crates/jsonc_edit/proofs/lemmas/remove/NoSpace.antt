-- In a sound document in which commas may not be missing no space is due where an element leaves.
use Rattle.std.proofs.Common.{◌≡◌, ◌∙◌, sym, ap, subst, refl, ℕ, ◌+◌, ◌<◌, Bool, true, false, ◌&&◌, cond, inl, inr, List, [], ◌∷◌, ◌++◌, length, reverse, take, drop, Option, Some, None, IsTrue, if◌then◌else◌, arith}
use Rattle.std.proofs.lemmas.Bool.{cases_Bool}
use Rattle.std.proofs.lemmas.List.{append_assoc, reverse-append, reverse-reverse}
use Rattle.std.proofs.lemmas.List.Folds.{find-append}
use Rattle.std.proofs.lemmas.Slice.Eq.{bytes_eq-Decides}
use Rattle.std.specs.Option.{option_or}
use Rattle.jsonc_text.specs.Options.{Options}
use Rattle.jsonc_tree.specs.Content.{Content, is_container, property, token}
use Rattle.jsonc_tree.specs.OrderedTree.{ordered_tree}
use Rattle.jsonc_tree.specs.Siblings.{siblings_before}
use Rattle.jsonc_tree.specs.Tree.{Node, children_at, content_at, is_container_at, parent_at, place_at, IsOver, IsTree}
use Rattle.jsonc_tree.specs.Values.{is_passed_over}
use Rattle.jsonc_tree.proofs.Order.{over_step, parent_there}
use Rattle.jsonc_layout.specs.nodes.Kinds.{is_element_at, is_property, is_comma, is_comma_at}
use Rattle.jsonc_layout.specs.lines.Kinds.{is_array_or_object}
use Rattle.jsonc_sound.specs.Alone.{PropertyAlone}
use Rattle.jsonc_sound.specs.Leaving.{AreInlineTrivia, IsRestOfLine}
use Rattle.jsonc_sound.specs.Rows.{RowKind, of_values, of_properties, closing, opening}
use Rattle.jsonc_sound.specs.SoundTrees.{SoundTree}
use Rattle.jsonc_sound.proofs.RowParts.{beside_trivia, rest_trivia}
use Rattle.jsonc_edit.specs.Changes.{row_below}
use Rattle.jsonc_edit.specs.Due.{begins_bare, space_needed_between, ends_bare, nearest, prints, prints_at, prints_within, seen_before, seen_behind}
use Rattle.jsonc_edit.specs.Paths.{IsAt, as_root, as_value, as_property, as_name, between}
use Rattle.jsonc_edit.specs.Put.{AreDue}
use Rattle.jsonc_edit.specs.remove.Leaving.{comma_gone, first_gone, last_gone}
use Rattle.jsonc_edit.specs.remove.Laws.{ElementWantsNone}
use Rattle.jsonc_edit.specs.remove.Removed.{comma_in, space_needed_at_comma, space_needed_at_stretch, space_needed_before_gap, space_needed_after_gap, is_next}
use Rattle.jsonc_edit.proofs.Printing.{unkept_prints}
use Rattle.jsonc_edit.proofs.ShapedPlaces.{all_stand}
use Rattle.jsonc_edit.proofs.Uniqueness.{element_parent}
use Rattle.jsonc_edit.proofs.ChangesUpward.{Shows-row_below, root_row}
use Rattle.jsonc_edit.proofs.lemmas.commas.Holders.{name_is, property_alone, value_at_path, Held}
use Rattle.jsonc_edit.proofs.lemmas.remove.Containers.{Brackets, brackets, held_at}
use Rattle.jsonc_edit.proofs.lemmas.remove.Contents.{no_commas}
use Rattle.jsonc_edit.proofs.lemmas.remove.RemovedStretches.{Edges, Going, going, is_end, with_before, with_behind, with_none}
use Rattle.jsonc_edit.proofs.lemmas.remove.Parted.{apart_behind, follows, no_bare_begin, no_bare_between, no_bare_end, none_reversed, root_parts, shown_apart, state, value_parts, Apart, Parts}
use Rattle.jsonc_edit.proofs.lemmas.remove.Places.{before_in, row_split}
use Rattle.jsonc_edit.proofs.lemmas.remove.Spaces.{due_parts}
use Rattle.jsonc_edit.proofs.lemmas.remove.Stretches.{contents, near_of, Near}
use Rattle.jsonc_edit.proofs.LeafKinds.{name_leaf}

none_if_first : (w a b : Bool) (x : Option ℕ) → a ≡ false → cond (w && (a && b)) x None ≡ None
none_if_first w true b x e = cc
none_if_first true false b x e = refl
none_if_first false false b x e = refl

pub none_if_second : (a b : Bool) (x : Option ℕ) → b ≡ false → cond (a && b) x None ≡ None
none_if_second a true x e = cc
none_if_second true false x e = refl
none_if_second false false x e = refl

none_either : (b : Bool) (x y : Option ℕ) → x ≡ None → y ≡ None → cond b x y ≡ None
none_either true x y e f = e
none_either false x y e f = f

pub comma_prints : (c : Content) → IsTrue (is_comma c) → prints c ≡ true
comma_prints (token k) h = unkept_prints (token k) refl
comma_prints c h = cc

pub opens_end : (kind : RowKind) → is_end (token (opening kind)) ≡ true
opens_end of_values = refl
opens_end of_properties = refl

pub closes_end : (kind : RowKind) → is_end (token (closing kind)) ≡ true
closes_end of_values = refl
closes_end of_properties = refl

neither_due : (a b : Option ℕ) → a ≡ None → b ≡ None → AreDue a b → ⊥
neither_due None None e f h = h
neither_due None (Some n) e f h = cc
neither_due (Some n) b e f h = cc

-- a row in which no element stands directly behind another, and an element that leaves it
module _ (ns : List Node) (tree : IsTree ns) (c n : ℕ) (said : parent_at ns n ≡ Some c) (element : IsTrue (is_element_at ns n)) (apart : Apart 0x2C ns false (children_at ns c)) where
  abbrev pre : List ℕ
  pre = take (place_at ns n) (children_at ns c)

  abbrev post : List ℕ
  post = drop (place_at ns n + 1) (children_at ns c)

  split : children_at ns c ≡ pre ++ n ∷ post
  split = row_split ns tree c n said

  around : Near ns pre n (first_gone ns n)
  around = subst (λ r. Near ns r n (first_gone ns n)) (ap (λ (l : List ℕ). reverse l) (before_in ns tree c pre post n split) ∙ reverse-reverse pre) (near_of ns n (siblings_before ns n))

  whole : children_at ns c ≡ around.away ++ (around.near ++ n ∷ post)
  whole = split ∙ ap (λ (l : List ℕ). l ++ n ∷ post) around.split ∙ append_assoc around.away around.near (n ∷ post)

  from_first : children_at ns c ≡ around.away ++ first_gone ns n ∷ (around.tail ++ post)
  from_first = whole ∙ ap (λ (l : List ℕ). around.away ++ l) (sym (append_assoc around.near (n ∷ []) post) ∙ ap (λ (l : List ℕ). l ++ post) around.first_is)

  none_before : ends_bare ns (seen_before ns (first_gone ns n)) ≡ false
  none_before =
      ap (λ (l : List ℕ). ends_bare ns (nearest ns l)) (before_in ns tree c around.away (around.tail ++ post) (first_gone ns n) from_first)
      ∙ no_bare_end 0x2C ns false around.away around.near post n (subst (Apart 0x2C ns false) whole apart) (beside_trivia (contents ns around.near) around.beside) element

  none_from : (to : ℕ) → space_needed_between ns (first_gone ns n) to ≡ None
  none_from to = none_if_first (prints_within ns (first_gone ns n) to) (ends_bare ns (seen_before ns (first_gone ns n))) (begins_bare ns (seen_behind ns to)) (seen_behind ns to) none_before

  abbrev NoneDue : ℕ → Option ℕ → Type 0
  NoneDue to g = (space_needed_at_comma ns (first_gone ns n) g ≡ None) × (space_needed_at_stretch ns (first_gone ns n) to g ≡ None)

  -- with a comma before it
  module _ (open_with last to k : ℕ) (away mid near line rest : List ℕ) (row : children_at ns c ≡ ((open_with ∷ away) ++ k ∷ mid) ++ ((near ++ n ∷ line) ++ (rest ++ last ∷ []))) (edges : Edges (near ++ n ∷ line) (first_gone ns n) to)
      (beside : AreInlineTrivia (contents ns near)) (free : IsTrue (no_commas (contents ns mid))) (comma : IsTrue (is_comma_at ns k)) (ended : IsRestOfLine (contents ns line)) (holds : IsTrue (is_array_or_object (content_at ns c))) where
    abbrev front : List ℕ
    front = open_with ∷ away

    abbrev back : List ℕ
    back = rest ++ last ∷ []

    inner : (near ++ n ∷ line) ++ back ≡ near ++ n ∷ (line ++ back)
    inner = append_assoc near (n ∷ line) back

    behind_comma : children_at ns c ≡ front ++ k ∷ (mid ++ (near ++ n ∷ (line ++ back)))
    behind_comma = row ∙ ap (λ (l : List ℕ). (front ++ k ∷ mid) ++ l) inner ∙ append_assoc front (k ∷ mid) (near ++ n ∷ (line ++ back))

    -- what stands behind all that leaves does not begin with a literal without quotes
    back_quiet : begins_bare ns (nearest ns back) ≡ false
    back_quiet =
        no_bare_begin 0x2C ns false ((front ++ k ∷ mid) ++ near) line back n
        (subst (Apart 0x2C ns false) (row ∙ ap (λ (l : List ℕ). (front ++ k ∷ mid) ++ l) inner ∙ sym (append_assoc (front ++ k ∷ mid) near (n ∷ (line ++ back)))) apart) element (rest_trivia (contents ns line) ended)

    to_last : children_at ns c ≡ ((front ++ k ∷ mid) ++ edges.init) ++ to ∷ back
    to_last =
        row ∙ ap (λ (l : List ℕ). (front ++ k ∷ mid) ++ (l ++ back)) edges.last_is ∙ ap (λ (l : List ℕ). (front ++ k ∷ mid) ++ l) (append_assoc edges.init (to ∷ []) back)
        ∙ sym (append_assoc (front ++ k ∷ mid) edges.init (to ∷ back))

    none_to : space_needed_between ns k to ≡ None
    none_to = elim (cases_Bool (prints_within ns k to)) [
      | inl e ↦
          due_parts ns tree c holds front (mid ++ (near ++ n ∷ (line ++ back))) ((front ++ k ∷ mid) ++ edges.init) back k to e behind_comma to_last
          ∙ none_if_second (ends_bare ns (nearest ns (reverse front))) (begins_bare ns (nearest ns back)) (nearest ns back) back_quiet
      | inr f ↦ ap (λ b. cond (b && (ends_bare ns (seen_before ns k) && begins_bare ns (seen_behind ns to))) (seen_behind ns to) None) f
    ]

    -- where something is printed between the comma and the element it begins with none
    none_between : (m : ℕ) → nearest ns mid ≡ Some m → space_needed_between ns k k ≡ None
    none_between m e =
        let rest_of : List ℕ = near ++ n ∷ (line ++ back) in
        let first : nearest ns (mid ++ rest_of) ≡ Some m = find-append (prints_at ns) mid rest_of ∙ ap (λ o. option_or o (nearest ns rest_of)) e in
        let from : Apart 0x2C ns (state 0x2C ns false front) (k ∷ (mid ++ rest_of)) = apart_behind 0x2C ns false front (k ∷ (mid ++ rest_of)) (subst (Apart 0x2C ns false) behind_comma apart) in
        let quiet : begins_bare ns (nearest ns (mid ++ rest_of)) ≡ false =
        ap (begins_bare ns) first ∙ no_bare_between ns (follows 0x2C (state 0x2C ns false front) (content_at ns k)) mid near (line ++ back) n m from.1 free (beside_trivia (contents ns near) beside) element e in
        elim (cases_Bool (prints_within ns k k)) [
          | inl p ↦
              due_parts ns tree c holds front (mid ++ rest_of) front (mid ++ rest_of) k k p behind_comma behind_comma
              ∙ none_if_second (ends_bare ns (nearest ns (reverse front))) (begins_bare ns (nearest ns (mid ++ rest_of))) (nearest ns (mid ++ rest_of)) quiet
          | inr f ↦ ap (λ b. cond (b && (ends_bare ns (seen_before ns k) && begins_bare ns (seen_behind ns k))) (seen_behind ns k) None) f
        ]

    -- and else the comma is what is seen before it
    seen_comma : nearest ns mid ≡ None → seen_before ns (first_gone ns n) ≡ Some k
    seen_comma e =
        let at : children_at ns c ≡ (front ++ k ∷ mid) ++ first_gone ns n ∷ (edges.tail ++ back) = row ∙ ap (λ (l : List ℕ). (front ++ k ∷ mid) ++ (l ++ back)) edges.first_is in
        let it : nearest ns (k ∷ []) ≡ Some k = ap (λ b. cond b (Some k) None) (comma_prints (content_at ns k) comma) in
        let here : nearest ns (reverse (k ∷ mid)) ≡ Some k =
        ap (nearest ns) (reverse-append (k ∷ []) mid) ∙ find-append (prints_at ns) (reverse mid) (k ∷ []) ∙ ap (λ o. option_or o (nearest ns (k ∷ []))) (none_reversed (prints_at ns) mid e) ∙ it in
        ap (nearest ns) (before_in ns tree c (front ++ k ∷ mid) (edges.tail ++ back) (first_gone ns n) at ∙ reverse-append front (k ∷ mid))
        ∙ find-append (prints_at ns) (reverse (k ∷ mid)) (reverse front) ∙ ap (λ o. option_or o (nearest ns (reverse front))) here

    none_at_comma : (o : Option ℕ) → nearest ns mid ≡ o → space_needed_at_comma ns (first_gone ns n) (Some k) ≡ None
    none_at_comma (Some m) e = none_either (is_next (seen_before ns (first_gone ns n)) (Some k)) None (space_needed_between ns k k) refl (none_between m e)
    none_at_comma None e =
        let next : is_next (seen_before ns (first_gone ns n)) (Some k) ≡ true = ap (λ o. is_next o (Some k)) (seen_comma e) ∙ (bytes_eq-Decides (k ∷ []) (k ∷ [])).1 refl in
        ap (λ b. cond b None (space_needed_between ns k k)) next

    none_with_comma : NoneDue to (Some k)
    none_with_comma = (none_at_comma (nearest ns mid) refl, none_either (is_next (seen_before ns (first_gone ns n)) (Some k)) (space_needed_between ns k to) (space_needed_between ns (first_gone ns n) to) none_to (none_from to))

  none_gone : IsTrue (is_array_or_object (content_at ns c)) → (open_with last to : ℕ) (g : Option ℕ) → Going ns c n open_with last (first_gone ns n) to g → NoneDue to g
  none_gone holds open_with last to _ (with_behind away near gap line rest k row edges beside apart2 comma behind) = (refl, none_from to)
  none_gone holds open_with last to _ (with_none away near line rest row edges beside apart2 free ended first) = (refl, none_from to)
  none_gone holds open_with last to _ (with_before away mid near line rest {k = k} row edges beside apart2 free comma ended first) = none_with_comma open_with last to k away mid near line rest row edges beside free comma ended holds

  -- a root
  none_bare : is_array_or_object (content_at ns c) ≡ false → AreDue (space_needed_before_gap ns c n) (space_needed_after_gap ns c n) → ⊥
  none_bare other h =
      let without : comma_in ns c n ≡ None = ap (λ b. if b then comma_gone ns n else None) other in
      let before : space_needed_before_gap ns c n ≡ None = ap (space_needed_at_comma ns (first_gone ns n)) without in
      let stretch : space_needed_at_stretch ns (first_gone ns n) (last_gone ns n) (comma_in ns c n) ≡ None = ap (space_needed_at_stretch ns (first_gone ns n) (last_gone ns n)) without ∙ none_from (last_gone ns n) in
      neither_due (space_needed_before_gap ns c n) (space_needed_after_gap ns c n) before (none_either (is_property (content_at ns c)) None (space_needed_at_stretch ns (first_gone ns n) (last_gone ns n) (comma_in ns c n)) refl stretch) h

  -- an array or object
  none_held : IsTrue (is_array_or_object (content_at ns c)) → (open_with last : ℕ) → Going ns c n open_with last (first_gone ns n) (last_gone ns n) (comma_gone ns n) → AreDue (space_needed_before_gap ns c n) (space_needed_after_gap ns c n) → ⊥
  none_held holds open_with last goes h =
      let with_it : comma_in ns c n ≡ comma_gone ns n = ap (λ b. if b then comma_gone ns n else None) holds in
      let both = none_gone holds open_with last (last_gone ns n) (comma_gone ns n) goes in
      let before : space_needed_before_gap ns c n ≡ None = ap (space_needed_at_comma ns (first_gone ns n)) with_it ∙ both.0 in
      let stretch : space_needed_at_stretch ns (first_gone ns n) (last_gone ns n) (comma_in ns c n) ≡ None = ap (space_needed_at_stretch ns (first_gone ns n) (last_gone ns n)) with_it ∙ both.1 in
      neither_due (space_needed_before_gap ns c n) (space_needed_after_gap ns c n) before (none_either (is_property (content_at ns c)) None (space_needed_at_stretch ns (first_gone ns n) (last_gone ns n) (comma_in ns c n)) refl stretch) h

no_container_passed : (c : Content) → IsTrue (is_passed_over c) → is_container c ≡ false
no_container_passed (Content.whitespace s) h = refl
no_container_passed (Content.newline k) h = refl
no_container_passed (Content.comment s) h = refl
no_container_passed (token k) h = refl
no_container_passed c h = cc

module _ (o : Options) (ns : List Node) (tree : IsTree ns) (sound : SoundTree o (ordered_tree ns 0)) (commas : o.missing_commas ≡ false) where
  row_apart : (c : ℕ) → c < length ns → Parts 0x2C false (row_below ns c) → Apart 0x2C ns false (children_at ns c)
  row_apart c low h = shown_apart 0x2C ns false (Shows-row_below ns tree c low) h

  over_parent : (n c : ℕ) → IsOver ns 0 n → parent_at ns n ≡ Some c → IsOver ns 0 c
  over_parent n c over said = over_step ns tree 0 n c over (λ e. let wrong : None ≡ Some c = sym tree.root_alone ∙ ap (parent_at ns) (sym e) ∙ said in cc) said

  no_leaf : (n c : ℕ) → parent_at ns n ≡ Some c → is_container_at ns c ≡ false → ⊥
  no_leaf n c said leaf = let low = tree.within n c said in absurd (omega (arith, low, ap length (tree.leaf c leaf)))

  -- where the children of a node of the document stand
  pub data StandsIn (c : ℕ) : Type 0 where
    in_root : c ≡ 0 → StandsIn c
    in_value : (path : List ℕ) → IsAt ns path c → StandsIn c
    in_property : PropertyAlone o (row_below ns c) → content_at ns c ≡ property → StandsIn c

  pub stands_in : (n c : ℕ) → IsOver ns 0 n → parent_at ns n ≡ Some c → StandsIn c
  stands_in n c over said =
      elim (all_stand o ns tree sound.shaped c (over_parent n c over said)) [
        | as_root e ↦ in_root e
        | as_value {path = path} at ↦ in_value path at
        | as_property {path = path} {p = p} i at outer element is ↦ in_property (property_alone o ns tree sound path p c at (ap is_array_or_object outer) (element_parent ns tree p i c element) is) is
        | as_name r is element ↦
            let up = over_parent c r (over_parent n c over said) (element_parent ns tree r 0 c element) in
            absurd (no_leaf n c said (name_leaf o (content_at ns c) (name_is o ns tree sound r c up is element)))
        | between h ↦ absurd (no_leaf n c said (no_container_passed (content_at ns c) h))
      ]

  pub root_apart : Apart 0x2C ns false (children_at ns 0)
  root_apart = row_apart 0 tree.first (root_parts o (root_row o ns tree sound))

  pub value_apart : (path : List ℕ) (n c : ℕ) → parent_at ns n ≡ Some c → IsAt ns path c → Apart 0x2C ns false (children_at ns c)
  value_apart path n c said at = row_apart c (parent_there ns tree n c said).1 (value_parts o commas (value_at_path o ns tree sound path c at))

  element_in : (n c : ℕ) → parent_at ns n ≡ Some c → IsTrue (is_element_at ns n) → StandsIn c → AreDue (space_needed_before_gap ns c n) (space_needed_after_gap ns c n) → ⊥
  element_in n c said element (in_root e) h =
      none_bare ns tree c n said element (subst (λ k. Apart 0x2C ns false (children_at ns k)) (sym e) root_apart) (ap is_array_or_object (ap (content_at ns) e ∙ tree.root_first)) h
  element_in n c said element (in_property alone is) h =
      let before : space_needed_before_gap ns c n ≡ None = ap (λ w. space_needed_at_comma ns (first_gone ns n) (if is_array_or_object w then comma_gone ns n else None)) is in
      let behind : space_needed_after_gap ns c n ≡ None = ap (λ w. if is_property w then None else space_needed_at_stretch ns (first_gone ns n) (last_gone ns n) (comma_in ns c n)) is in
      neither_due (space_needed_before_gap ns c n) (space_needed_after_gap ns c n) before behind h
  element_in n c said element (in_value path at) h =
      let apart : Apart 0x2C ns false (children_at ns c) = value_apart path n c said at in
      elim (cases_Bool (is_array_or_object (content_at ns c))) [
        | inr other ↦ none_bare ns tree c n said element apart other h
        | inl holds ↦
            let held : Held o (content_at ns c) (row_below ns c) = held_at o ns tree sound path c at holds in
            let b : Brackets o ns c held.kind held.row = brackets o ns tree c (parent_there ns tree n c said).1 held in
            none_held ns tree c n said element apart holds b.open_with b.last
            (going ns tree c n b.open_with b.last b.inner b.children said element (ap is_end b.opens ∙ opens_end held.kind) (ap is_end b.closes ∙ closes_end held.kind)) h
      ]

pub element_wants_none : (o : Options) (ns : List Node) (n : ℕ) → ElementWantsNone o ns n
element_wants_none o ns n tree sound commas over element (c, said, due) = element_in o ns tree sound commas n c said element (stands_in o ns tree sound commas n c over said) due
