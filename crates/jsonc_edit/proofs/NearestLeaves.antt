-- What stands nearest among the children of a row is what the leaves of the row print last, or first.
use Rattle.std.proofs.Common.{ℕ, ◌≡◌, ◌∙◌, sym, ap, subst, refl, Bool, true, false, cond, ◌||◌, ◌&&◌, List, [], ◌∷◌, ◌++◌, reverse, Option, Some, None, is_some, take, IsTrue, append-nil, if◌then◌else◌}
use Rattle.std.specs.Option.{option_or}
use Rattle.std.proofs.lemmas.List.{append_assoc, reverse-append}
use Rattle.std.proofs.lemmas.List.Folds.{find-append}
use Rattle.jsonc_text.specs.Options.{Options}
use Rattle.jsonc_text.specs.Text.{starts}
use Rattle.jsonc_tree.specs.Content.{Content, property, is_container}
use Rattle.jsonc_tree.specs.OrderedTree.{OrderedTree, none, more, own_leaf, leaves, Shows, shows_none, shows_more}
use Rattle.jsonc_tree.specs.Siblings.{first, row_of, siblings_after}
use Rattle.jsonc_tree.specs.Tree.{Node, content_at, children_at, place_at}
use Rattle.jsonc_sound.specs.Shape as shape
use Rattle.jsonc_sound.specs.Shape.{Trivia, IsLiteralBefore}
use Rattle.jsonc_sound.specs.Rows as rows
use Rattle.jsonc_sound.specs.Rows.{RowKind, closing, Last}
use Rattle.jsonc_sound.specs.Adjacent.{first_char, or_else, last_printed}
use Rattle.jsonc_sound.specs.Alone as alone
use Rattle.jsonc_sound.specs.Alone.{ValueAlone, RowAlone, PropertyAlone, StretchAlone}
use Rattle.jsonc_sound.specs.Spaces.{is_bare, is_bare_leaf, first_printed, meet}
use Rattle.jsonc_sound.proofs.Commas.{none_meet}
use Rattle.jsonc_sound.proofs.RowsWithin.{LeafPrints, literal_prints, name_prints, ends_print, opening_print, closing_print, row_ends}
use Rattle.jsonc_sound.proofs.Spaces.{own_last, first_append, last_append}
use Rattle.jsonc_sound.proofs.Texts.{literal_leaf, name_leaf}
use Rattle.jsonc_edit.specs.Due.{prints, prints_at, nearest, beginning_in, begins_bare, ends_bare, is_bare_at, seen_before, behind_holder, space_needed_between, prints_within}
use Rattle.jsonc_edit.proofs.WholeRows as whole
use Rattle.jsonc_edit.proofs.WholeRows.{IsWhole, Whole, row_whole, stretch_whole}

-- this leaf is printed there, bare or not
abbrev pub Printed : Option Content → Bool → Type 0
Printed x bare = (leaf : Content) × (x ≡ Some leaf) × (is_bare leaf ≡ bare)

-- a node was found where a leaf is printed, and tells whether it is bare
abbrev Agree : (Option ℕ → Bool) → Option Content → Option ℕ → Type 0
Agree bare x None = x ≡ None
Agree bare x (Some n) = Printed x (bare (Some n))

agree_either : (bare : Option ℕ → Bool) (x y : Option Content) (m n : Option ℕ) → Agree bare x m → Agree bare y n → Agree bare (or_else x y) (option_or m n)
agree_either bare x y None n h k = subst (λ z. Agree bare (or_else z y) n) (sym h) k
agree_either bare x y (Some m) n h k = (h.0, ap (λ z. or_else z y) h.1, h.2)

agree_bare : (bare : Option ℕ → Bool) → bare None ≡ false → (x : Option Content) (m : Option ℕ) → Agree bare x m → is_bare_leaf x ≡ bare m
agree_bare bare e x None h = ap is_bare_leaf h ∙ sym e
agree_bare bare e x (Some m) h = ap is_bare_leaf h.1 ∙ h.2

literal_no_container : (o : Options) (content : Content) → IsLiteralBefore o content [] → is_container content ≡ false
literal_no_container o (Content.string s) h = refl
literal_no_container o (Content.number s) h = refl
literal_no_container o (Content.boolean b) h = refl
literal_no_container o Content.null h = refl
literal_no_container o content h = absurd h

-- a leaf that does, alone and before others
own_printed : (content : Content) → LeafPrints content → own_last content ≡ Some content
own_printed content h = ap (λ b. if b then Some content else None) h

first_own : (content : Content) (rest : List Content) → LeafPrints content → first_printed (content ∷ rest) ≡ Some content
first_own content rest h = ap (λ b. if b then Some content else first_printed rest) h

-- what a row or two prints, by the second, or by the first
last_of_both : (a b : List Content) {bare : Bool} → Printed (last_printed b) bare → Printed (last_printed (a ++ b)) bare
last_of_both a b h = (h.0, last_append a b ∙ ap (λ x. or_else x (last_printed a)) h.1, h.2)

-- a row's last node
data EndsWith (content : Content) (below : OrderedTree) : OrderedTree → Type 0 where
  at_end : EndsWith content below (more content below none)
  behind : {other : Content} {x after : OrderedTree} → EndsWith content below after → EndsWith content below (more other x after)

module _ (o : Options) where
  -- containers begin and end with brackets, which are not bare
  row_last : {kind : RowKind} {last : Last} {row : OrderedTree} → RowAlone o kind last row → Printed (last_printed (leaves row)) false
  row_last (alone.closes {kind = kind} m) = (Content.token (closing kind), own_printed (Content.token (closing kind)) (closing_print o kind), refl)
  row_last (alone.trivia {content = content} {after = after} h g) = last_of_both (own_leaf content) (leaves after) (row_last g)
  row_last (alone.element {content = content} {below = below} {after = after} m p g) = last_of_both (own_leaf content) (leaves below ++ leaves after) (last_of_both (leaves below) (leaves after) (row_last g))
  row_last (alone.comma {after = after} g) = last_of_both (Content.token 0x2C ∷ []) (leaves after) (row_last g)

  pub value_last : {content : Content} {below : OrderedTree} → ValueAlone o content below → Printed (last_printed (own_leaf content ++ leaves below)) (is_bare content)
  value_last (alone.literal {content = content} h) =
      subst (λ l. Printed (last_printed (l ++ [])) (is_bare content)) (sym (literal_leaf o content [] h)) (content, own_printed content (literal_prints o content h), refl)
  value_last (alone.an_array {row = row} g) = last_of_both (Content.token 0x5B ∷ []) (leaves row) (row_last g)
  value_last (alone.an_object {row = row} g) = last_of_both (Content.token 0x7B ∷ []) (leaves row) (row_last g)

  pub value_first : {content : Content} {below : OrderedTree} → ValueAlone o content below → Printed (first_printed (own_leaf content ++ leaves below)) (is_bare content)
  value_first (alone.literal {content = content} h) =
      subst (λ l. Printed (first_printed (l ++ [])) (is_bare content)) (sym (literal_leaf o content [] h)) (content, first_own content [] (literal_prints o content h), refl)
  value_first (alone.an_array {row = row} g) = (Content.token 0x5B, first_own (Content.token 0x5B) (leaves row) (opening_print o rows.of_values), refl)
  value_first (alone.an_object {row = row} g) = (Content.token 0x7B, first_own (Content.token 0x7B) (leaves row) (opening_print o rows.of_properties), refl)

  -- a property ends with its value
  ends_last : {content : Content} {below row : OrderedTree} → ValueAlone o content below → EndsWith content below row → Printed (last_printed (leaves row)) (is_bare content)
  ends_last {content} {below} v at_end = subst (λ l. Printed (last_printed l) (is_bare content)) (append_assoc (own_leaf content) (leaves below) []) (subst (λ l. Printed (last_printed l) (is_bare content)) (sym (append-nil (own_leaf content ++ leaves below))) (value_last v))
  ends_last v (behind {other = other} {x = x} {after = after} e) = last_of_both (own_leaf other) (leaves x ++ leaves after) (last_of_both (leaves x) (leaves after) (ends_last v e))

  trivia_then : {t r : OrderedTree} {content : Content} {below : OrderedTree} → Trivia o t r → EndsWith content below r → EndsWith content below t
  trivia_then shape.nothing e = e
  trivia_then (shape.trivia h g) e = behind (trivia_then g e)

module _ (ns : List Node) where
  no_numbers : {xs : List ℕ} → Shows ns xs none → xs ≡ []
  no_numbers shows_none = refl

  -- the numbers of a row's first node and of its last
  first_shown : {xs : List ℕ} {content : Content} {below after : OrderedTree} → Shows ns xs (more content below after) → (m : ℕ) × (first xs ≡ Some m) × (content_at ns m ≡ content)
  first_shown (shows_more {n = n} s r) = (n, refl, refl)

  first_joined : (m : ℕ) (l k : List ℕ) → first l ≡ Some m → first (l ++ k) ≡ Some m
  first_joined m [] k e = cc
  first_joined m (x ∷ l) k e = e

  last_shown : {xs : List ℕ} {content : Content} {below row : OrderedTree} → Shows ns xs row → EndsWith content below row → (m : ℕ) × (first (reverse xs) ≡ Some m) × (content_at ns m ≡ content)
  last_shown shows_none e = elim e [ ]
  last_shown (shows_more {n = n} s r) at_end = (n, ap (λ l. first (reverse (n ∷ l))) (no_numbers r), refl)
  last_shown (shows_more {n = n} {rest = rest} s r) (behind e) =
      let last = last_shown r e in
      (last.0, ap first (reverse-append (n ∷ []) rest) ∙ first_joined last.0 (reverse rest) (n ∷ []) last.1, last.2)

  -- a node that prints something is found, any other passed over
  found : (bare : Option ℕ → Bool) (x : Option Content) (n : ℕ) → prints_at ns n ≡ true → Printed x (bare (Some n)) → Agree bare x (nearest ns (n ∷ []))
  found bare x n e h = subst (λ b. Agree bare x (cond b (Some n) None)) (sym e) h

  passed : (bare : Option ℕ → Bool) (x : Option Content) (n : ℕ) → prints_at ns n ≡ false → x ≡ None → Agree bare x (nearest ns (n ∷ []))
  passed bare x n e h = subst (λ b. Agree bare x (cond b (Some n) None)) (sym e) h

  -- a node that is no property begins and ends with itself
  abbrev Itself : Content → Type 0
  Itself content = (n : ℕ) (l : List ℕ) → beginning_in l n content ≡ Some n

  leaf_itself : (content : Content) → is_container content ≡ false → Itself content
  leaf_itself property e n l = cc
  leaf_itself content e n l = refl

  begins_itself : (n : ℕ) (content : Content) → content_at ns n ≡ content → Itself content → begins_bare ns (Some n) ≡ is_bare content
  begins_itself n content e k = ap (λ c. is_bare_at ns (beginning_in (children_at ns n) n c)) e ∙ ap (is_bare_at ns) (k n (children_at ns n)) ∙ ap is_bare e

  ends_itself : (n : ℕ) (content : Content) → content_at ns n ≡ content → Itself content → ends_bare ns (Some n) ≡ is_bare content
  ends_itself n content e k = ap (λ c. is_bare_at ns (beginning_in (reverse (children_at ns n)) n c)) e ∙ ap (is_bare_at ns) (k n (reverse (children_at ns n))) ∙ ap is_bare e

  -- a leaf
  leaf_prints_at : (n : ℕ) (content : Content) → content_at ns n ≡ content → is_container content ≡ false → prints_at ns n ≡ starts (λ c. true) (first_char content)
  leaf_prints_at n content e l = ap prints e ∙ ap (λ b. b || starts (λ c. true) (first_char content)) l

  leaf_agrees : (bare : Option ℕ → Bool) (n : ℕ) (content : Content) → content_at ns n ≡ content → is_container content ≡ false → bare (Some n) ≡ is_bare content → Agree bare (own_last content) (nearest ns (n ∷ []))
  leaf_agrees bare n content e l k = by (starts (λ c. true) (first_char content)) (leaf_prints_at n content e l)
    where
      by : (b : Bool) → prints_at ns n ≡ b → Agree bare (if b then Some content else None) (nearest ns (n ∷ []))
      by true p = found bare (Some content) n p (content, refl, sym k)
      by false p = passed bare None n p refl

  leaf_alone : (content : Content) → is_container content ≡ false → own_leaf content ≡ content ∷ []
  leaf_alone content l = ap (λ b. if b then [] else content ∷ []) l

  module _ (o : Options) where
    value_itself : {content : Content} {below : OrderedTree} → ValueAlone o content below → Itself content
    value_itself (alone.literal {content = content} h) = leaf_itself content (literal_no_container o content h)
    value_itself (alone.an_array g) = λ n l. refl
    value_itself (alone.an_object g) = λ n l. refl

    -- it prints something
    container_or_text : (content : Content) → LeafPrints content → prints content ≡ true
    container_or_text content h = by (is_container content)
      where
        by : (b : Bool) → b || starts (λ c. true) (first_char content) ≡ true
        by true = refl
        by false = h

    value_prints_at : {content : Content} {below : OrderedTree} → ValueAlone o content below → prints content ≡ true
    value_prints_at (alone.literal {content = content} h) = container_or_text content (literal_prints o content h)
    value_prints_at (alone.an_array g) = refl
    value_prints_at (alone.an_object g) = refl

    -- a property, by its first child and its last
    property_begins : (n : ℕ) {row : OrderedTree} → content_at ns n ≡ property → Shows ns (children_at ns n) row → PropertyAlone o row → Printed (first_printed (leaves row)) (begins_bare ns (Some n))
    property_begins n e s (alone.named {name = name} {after = after} k g h v) =
        let child = first_shown s in
        let bare : begins_bare ns (Some n) ≡ is_bare name = ap (λ c. is_bare_at ns (beginning_in (children_at ns n) n c)) e ∙ ap (is_bare_at ns) child.1 ∙ ap is_bare child.2 in (
          name,
          ap (λ l. first_printed (l ++ leaves after)) (name_leaf o name [] k) ∙ first_own name (leaves after) (name_prints o name k),
          sym bare,
        )

    property_ends : (n : ℕ) {row : OrderedTree} → content_at ns n ≡ property → Shows ns (children_at ns n) row → PropertyAlone o row → Printed (last_printed (leaves row)) (ends_bare ns (Some n))
    property_ends n e s (alone.named {name = name} {content = content} {below = below} {after = after} k g h v) =
        let ends : EndsWith content below (more name none after) = behind (trivia_then o g (behind (trivia_then o h at_end))) in
        let child = last_shown s ends in
        let bare : ends_bare ns (Some n) ≡ is_bare content = ap (λ c. is_bare_at ns (beginning_in (reverse (children_at ns n)) n c)) e ∙ ap (is_bare_at ns) child.1 ∙ ap is_bare child.2 in
        subst (Printed (last_printed (leaves (more name none after)))) (sym bare) (ends_last o v ends)

    -- each node of a row
    node_begins : (n : ℕ) {content : Content} {below : OrderedTree} → content_at ns n ≡ content → Shows ns (children_at ns n) below → IsWhole o content below → Agree (begins_bare ns) (first_printed (own_leaf content ++ leaves below)) (nearest ns (n ∷ []))
    node_begins n e s (whole.whole_leaf {content = content} l) =
        subst (λ x. Agree (begins_bare ns) (first_printed (x ++ [])) (nearest ns (n ∷ []))) (sym (leaf_alone content l)) (leaf_agrees (begins_bare ns) n content e l (begins_itself n content e (leaf_itself content l)))
    node_begins n e s (whole.whole_value {content = content} {below = below} v) =
        found (begins_bare ns) (first_printed (own_leaf content ++ leaves below)) n (ap prints e ∙ value_prints_at v) (subst (Printed (first_printed (own_leaf content ++ leaves below))) (sym (begins_itself n content e (value_itself v))) (value_first o v))
    node_begins n e s (whole.whole_property {below = below} p) = found (begins_bare ns) (first_printed (leaves below)) n (ap prints e) (property_begins n e s p)

    node_ends : (n : ℕ) {content : Content} {below : OrderedTree} → content_at ns n ≡ content → Shows ns (children_at ns n) below → IsWhole o content below → Agree (ends_bare ns) (last_printed (own_leaf content ++ leaves below)) (nearest ns (n ∷ []))
    node_ends n e s (whole.whole_leaf {content = content} l) =
        subst (λ x. Agree (ends_bare ns) (last_printed (x ++ [])) (nearest ns (n ∷ []))) (sym (leaf_alone content l)) (leaf_agrees (ends_bare ns) n content e l (ends_itself n content e (leaf_itself content l)))
    node_ends n e s (whole.whole_value {content = content} {below = below} v) =
        found (ends_bare ns) (last_printed (own_leaf content ++ leaves below)) n (ap prints e ∙ value_prints_at v) (subst (Printed (last_printed (own_leaf content ++ leaves below))) (sym (ends_itself n content e (value_itself v))) (value_last o v))
    node_ends n e s (whole.whole_property {below = below} p) = found (ends_bare ns) (last_printed (leaves below)) n (ap prints e) (property_ends n e s p)

    -- the row
    first_agrees : {xs : List ℕ} {t : OrderedTree} → Shows ns xs t → Whole o t → Agree (begins_bare ns) (first_printed (leaves t)) (nearest ns xs)
    first_agrees shows_none w = refl
    first_agrees (shows_more {n = n} {rest = rest} {below = below} {after = after} s r) (whole.more_whole k w) =
        let own : List Content = own_leaf (content_at ns n) ++ leaves below in
        let parted : first_printed (own_leaf (content_at ns n) ++ (leaves below ++ leaves after)) ≡ or_else (first_printed own) (first_printed (leaves after)) =
        ap first_printed (sym (append_assoc (own_leaf (content_at ns n)) (leaves below) (leaves after))) ∙ first_append own (leaves after) in
        subst (λ x. Agree (begins_bare ns) x (nearest ns (n ∷ rest))) (sym parted)
        (subst (Agree (begins_bare ns) (or_else (first_printed own) (first_printed (leaves after)))) (sym (find-append (prints_at ns) (n ∷ []) rest))
        (agree_either (begins_bare ns) (first_printed own) (first_printed (leaves after)) (nearest ns (n ∷ [])) (nearest ns rest) (node_begins n refl s k) (first_agrees r w)))

    last_agrees : {xs : List ℕ} {t : OrderedTree} → Shows ns xs t → Whole o t → Agree (ends_bare ns) (last_printed (leaves t)) (nearest ns (reverse xs))
    last_agrees shows_none w = refl
    last_agrees (shows_more {n = n} {rest = rest} {below = below} {after = after} s r) (whole.more_whole k w) =
        let own : List Content = own_leaf (content_at ns n) ++ leaves below in
        let parted : last_printed (own_leaf (content_at ns n) ++ (leaves below ++ leaves after)) ≡ or_else (last_printed (leaves after)) (last_printed own) =
        ap last_printed (sym (append_assoc (own_leaf (content_at ns n)) (leaves below) (leaves after))) ∙ last_append own (leaves after) in
        let turned : nearest ns (reverse (n ∷ rest)) ≡ option_or (nearest ns (reverse rest)) (nearest ns (n ∷ [])) =
        ap (nearest ns) (reverse-append (n ∷ []) rest) ∙ find-append (prints_at ns) (reverse rest) (n ∷ []) in
        subst (λ x. Agree (ends_bare ns) x (nearest ns (reverse (n ∷ rest)))) (sym parted)
        (subst (Agree (ends_bare ns) (or_else (last_printed (leaves after)) (last_printed own))) (sym turned)
        (agree_either (ends_bare ns) (last_printed (leaves after)) (last_printed own) (nearest ns (reverse rest)) (nearest ns (n ∷ [])) (last_agrees r w) (node_ends n refl s k)))

    -- the nearest child is bare at its end, or beginning, if the leaf is that the row prints last, or first
    pub front_bare : {xs : List ℕ} {t : OrderedTree} → Shows ns xs t → Whole o t → is_bare_leaf (last_printed (leaves t)) ≡ ends_bare ns (nearest ns (reverse xs))
    front_bare {xs} {t} s w = agree_bare (ends_bare ns) refl (last_printed (leaves t)) (nearest ns (reverse xs)) (last_agrees s w)

    pub back_bare : {xs : List ℕ} {t : OrderedTree} → Shows ns xs t → Whole o t → is_bare_leaf (first_printed (leaves t)) ≡ begins_bare ns (nearest ns xs)
    back_bare {xs} {t} s w = agree_bare (begins_bare ns) refl (first_printed (leaves t)) (nearest ns xs) (first_agrees s w)

    -- so the two meet where they are
    pub meet_bare : {xs ys : List ℕ} {t u : OrderedTree} → Shows ns xs t → Whole o t → Shows ns ys u → Whole o u → meet (leaves t) (leaves u) ≡ (ends_bare ns (nearest ns (reverse xs)) && begins_bare ns (nearest ns ys))
    meet_bare {xs} {ys} {t} {u} s w r v = ap (λ b. b && is_bare_leaf (first_printed (leaves u))) (front_bare s w) ∙ ap (λ b. ends_bare ns (nearest ns (reverse xs)) && b) (back_bare r v)

    -- and where none is found, none is printed
    pub nothing_printed_back : {xs : List ℕ} {t : OrderedTree} → Shows ns xs t → Whole o t → nearest ns xs ≡ None → first_printed (leaves t) ≡ None
    nothing_printed_back {xs} {t} s w e = subst (Agree (begins_bare ns) (first_printed (leaves t))) e (first_agrees s w)

    -- where commas may not be missing nothing is due in a row that goes on
    pub none_meet_in_row : o.missing_commas ≡ false → {kind : RowKind} {last mid : Last} {xs ys : List ℕ} {stretch rest : OrderedTree} → Shows ns xs stretch → StretchAlone o kind last stretch mid → Shows ns ys rest → RowAlone o kind mid rest
        → (ends_bare ns (nearest ns (reverse xs)) && begins_bare ns (nearest ns ys)) ≡ false
    none_meet_in_row commas {kind} {mid = mid} {stretch = stretch} {rest = rest} s g r h = sym (meet_bare s (stretch_whole o g) r (row_whole o h)) ∙ none_meet o kind commas mid stretch rest g h

    pub found_in_row : {kind : RowKind} {last : Last} {ys : List ℕ} {row : OrderedTree} → Shows ns ys row → RowAlone o kind last row → IsTrue (is_some (nearest ns ys))
    found_in_row {ys = ys} {row = row} s g = by (nearest ns ys) refl
      where
        by : (m : Option ℕ) → nearest ns ys ≡ m → IsTrue (is_some m)
        by None e = subst (λ x. IsTrue (is_some x)) (nothing_printed_back s (row_whole o g) e) (ends_print (row_ends o g))
        by (Some m) e = refl

    pub none_due : o.missing_commas ≡ false → (from to : ℕ) {kind : RowKind} {last mid : Last} {front back : OrderedTree} → Shows ns (take (place_at ns from) (row_of ns from)) front → StretchAlone o kind last front mid
        → Shows ns (siblings_after ns to) back → RowAlone o kind mid back → space_needed_between ns from to ≡ None
    none_due commas from to s g r h = by (nearest ns (siblings_after ns to)) (found_in_row r h) (none_meet_in_row commas s g r h)
      where
        none_there : (b : Bool) (x : Option ℕ) → b ≡ false → (if b then x else None) ≡ None
        none_there true x e = cc
        none_there false x e = refl

        none_within : (w b : Bool) (x : Option ℕ) → b ≡ false → (if w && b then x else None) ≡ None
        none_within true b x e = none_there b x e
        none_within false b x e = refl

        by : (m : Option ℕ) → IsTrue (is_some m) → (ends_bare ns (seen_before ns from) && begins_bare ns m) ≡ false
            → (if prints_within ns from to && (ends_bare ns (seen_before ns from) && begins_bare ns (or_else m (behind_holder ns to))) then or_else m (behind_holder ns to) else None) ≡ None
        by None k e = cc
        by (Some m) k e = none_within (prints_within ns from to) (ends_bare ns (seen_before ns from) && begins_bare ns (Some m)) (Some m) e
