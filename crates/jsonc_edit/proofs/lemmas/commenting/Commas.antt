-- Where no comma comes behind an entry of a sound document on its line, none comes among the leaves.
use Rattle.std.proofs.Common.{◌≡◌, ◌⊎◌, ◌∙◌, ℕ, ◌+◌, Bool, false, not, cond, inl, inr, List, [], ◌∷◌, ◌++◌, drop, Option, Some, None, IsTrue, refl, sym, ap, subst}
use Rattle.std.specs.List.{find}
use Rattle.std.proofs.lemmas.Bool.{cases_Bool, false≢true}
use Rattle.jsonc_text.specs.Options.{Options}
use Rattle.jsonc_tree.specs.Content.{Content, token}
use Rattle.jsonc_tree.specs.OrderedTree.{OrderedTree, none, more, followed_by, leaves, ordered_tree, Shows, shows_none, shows_more}
use Rattle.jsonc_tree.specs.Tree.{Node, content_at, children_at, parent_at, place_at, IsOver, IsTree}
use Rattle.jsonc_layout.specs.lines.Kinds.{is_array_or_object}
use Rattle.jsonc_layout.specs.nodes.Comments.{is_not_inline_trivia_at}
use Rattle.jsonc_layout.specs.nodes.Kinds.{is_comma, is_comma_at, is_element, is_inline_trivia, is_inline_trivia_at}
use Rattle.jsonc_sound.specs.Alone as alone
use Rattle.jsonc_sound.specs.Alone.{PartAlone, RootAlone, RowAlone, ValueAlone}
use Rattle.jsonc_sound.specs.Rows as rows
use Rattle.jsonc_sound.specs.Rows.{RowKind, closing, opening, Last}
use Rattle.jsonc_sound.specs.Shape.{token_then, IsLiteralBefore, IsNameBefore, IsTrivia}
use Rattle.jsonc_sound.specs.SoundTrees.{SoundTree}
use Rattle.jsonc_sound.proofs.NodesAlone.{document_alone}
use Rattle.jsonc_edit.specs.Changes.{row_below}
use Rattle.jsonc_edit.specs.Seams.{as_child, as_root, StandsBetween}
use Rattle.jsonc_edit.specs.commenting.Laws.{comma_follows, IsEntry}
use Rattle.jsonc_edit.proofs.LeavesAroundNodes.{within, Within}
use Rattle.jsonc_edit.proofs.SeamsAround.{row_around}
use Rattle.jsonc_edit.proofs.lemmas.commas.Holders.{holder_path, Held}
use Rattle.jsonc_edit.proofs.lemmas.commas.NoneLeft.{root_is}
use Rattle.jsonc_edit.proofs.lemmas.commenting.Rows.{container_is, container_over}
use Rattle.jsonc_edit.proofs.lemmas.remove.Containers.{held_at}

-- past whitespace and comments a comma comes, among nodes and in a row
abbrev pub comma_among : List Node → List ℕ → Bool
comma_among ns [] = false
comma_among ns (n ∷ rest) = cond (is_inline_trivia_at ns n) (comma_among ns rest) (is_comma_at ns n)

abbrev comma_in : OrderedTree → Bool
comma_in none = false
comma_in (more content below after) = cond (is_inline_trivia content) (comma_in after) (is_comma content)

comma_shown : (ns : List Node) (xs : List ℕ) (t : OrderedTree) → Shows ns xs t → comma_among ns xs ≡ comma_in t
comma_shown ns _ _ shows_none = refl
comma_shown ns _ _ (shows_more {n = n} {rest = rest} {after = after} p q) = ap (λ b. cond (is_inline_trivia_at ns n) b (is_comma_at ns n)) (comma_shown ns rest after q)

-- a search that finds no comma
module _ (ns : List Node) where
  abbrev found : List ℕ → Option ℕ
  found xs = find (is_not_inline_trivia_at ns) xs

  pub comma_none : (xs : List ℕ) → found xs ≡ None → comma_among ns xs ≡ false
  comma_none [] e = refl
  comma_none (x ∷ xs) e =
      elim (cases_Bool (is_inline_trivia_at ns x)) [
        | inl h ↦ ap (λ b. cond b (comma_among ns xs) (is_comma_at ns x)) h ∙ comma_none xs (sym (ap (λ b. cond (not b) (Some x) (found xs)) h) ∙ e)
        | inr h ↦ absurd (let wrong : Some x ≡ None = sym (ap (λ b. cond (not b) (Some x) (found xs)) h) ∙ e in cc)
      ]

  pub comma_other : (xs : List ℕ) (m : ℕ) → found xs ≡ Some m → is_comma (content_at ns m) ≡ false → comma_among ns xs ≡ false
  comma_other [] m e k = refl
  comma_other (x ∷ xs) m e k =
      elim (cases_Bool (is_inline_trivia_at ns x)) [
        | inl h ↦ ap (λ b. cond b (comma_among ns xs) (is_comma_at ns x)) h ∙ comma_other xs m (sym (ap (λ b. cond (not b) (Some x) (found xs)) h) ∙ e) k
        | inr h ↦ (let both : Some x ≡ Some m = sym (ap (λ b. cond (not b) (Some x) (found xs)) h) ∙ e in
            let same : x ≡ m = cc in
            ap (λ b. cond b (comma_among ns xs) (is_comma_at ns x)) h ∙ ap (is_comma_at ns) same ∙ k)
      ]

-- no element begins with a comma
module _ (o : Options) where
  literal_first : (content : Content) → IsLiteralBefore o content [] → (after : OrderedTree) (d : List Content) → comma_follows (leaves (more content none after) ++ d) ≡ false
  literal_first (Content.string s) h after d = refl
  literal_first (Content.number s) h after d = refl
  literal_first (Content.boolean b) h after d = refl
  literal_first Content.null h after d = refl
  literal_first content h after d = absurd h

  name_first : (content : Content) → IsNameBefore o content [] → (behind after : OrderedTree) (d : List Content) → comma_follows (leaves (more Content.property (more content none behind) after) ++ d) ≡ false
  name_first (Content.string s) h behind after d = refl
  name_first (Content.word s) h behind after d = refl
  name_first content h behind after d = absurd h

  value_first : {content : Content} {below : OrderedTree} → ValueAlone o content below → (after : OrderedTree) (d : List Content) → comma_follows (leaves (more content below after) ++ d) ≡ false
  value_first (alone.literal {content = content} h) after d = literal_first content h after d
  value_first (alone.an_array g) after d = refl
  value_first (alone.an_object g) after d = refl

  part_first : {kind : RowKind} {content : Content} {below : OrderedTree} → PartAlone o kind content below → (after : OrderedTree) (d : List Content) → comma_follows (leaves (more content below after) ++ d) ≡ false
  part_first (alone.a_value v) after d = value_first v after d
  part_first (alone.a_property (alone.named {name = name} {after = behind} n g h v)) after d = name_first name n behind after d

  trivia_first : (content : Content) → IsTrivia o content → (after : OrderedTree) (d : List Content) → comma_in (more content none after) ≡ false → (comma_in after ≡ false → comma_follows (leaves after ++ d) ≡ false)
      → comma_follows (leaves (more content none after) ++ d) ≡ false
  trivia_first (Content.whitespace s) h after d e f = f e
  trivia_first (Content.newline k) h after d e f = refl
  trivia_first (Content.comment s) h after d e f = f e
  trivia_first content h after d e f = absurd h

  closing_first : (kind : RowKind) (d : List Content) → comma_follows (leaves (token_then (closing kind) none) ++ d) ≡ false
  closing_first rows.of_values d = refl
  closing_first rows.of_properties d = refl

  -- the rest of a row, and of the root's
  row_first : {kind : RowKind} {last : Last} {row : OrderedTree} → RowAlone o kind last row → comma_in row ≡ false → (d : List Content) → comma_follows (leaves row ++ d) ≡ false
  row_first (alone.closes {kind = kind} m) e d = closing_first kind d
  row_first (alone.trivia {content = content} {after = after} h g) e d = trivia_first content h after d e (λ k. row_first g k d)
  row_first (alone.element {after = after} m p g) e d = part_first p after d
  row_first (alone.comma g) e d = absurd (false≢true (sym e))

  root_first : {stood : Bool} {row : OrderedTree} → RootAlone o stood row → comma_in row ≡ false → comma_follows (leaves row ++ []) ≡ false
  root_first alone.root_ends e = refl
  root_first (alone.root_trivia {content = content} {after = after} h g) e = trivia_first content h after [] e (root_first g)
  root_first (alone.root_value {after = after} v g) e = value_first v after []

  -- behind a part of a row
  no_token : (c : ℕ) (content : Content) → IsTrue (is_element content) → content ≡ token c → ⊥
  no_token c content h e = let wrong : IsTrue (is_element (token c)) = subst (λ w. IsTrue (is_element w)) e h in cc

  row_past : {kind : RowKind} {last : Last} {content : Content} {below after : OrderedTree} → RowAlone o kind last (more content below after) → (after ≡ none) ⊎ ((next : Last) × RowAlone o kind next after)
  row_past (alone.closes m) = inl refl
  row_past (alone.trivia h g) = inr (_, g)
  row_past (alone.element m p g) = inr (_, g)
  row_past (alone.comma g) = inr (_, g)

  root_past : {stood : Bool} {content : Content} {below after : OrderedTree} → RootAlone o stood (more content below after) → (next : Bool) × RootAlone o next after
  root_past (alone.root_trivia h g) = (_, g)
  root_past (alone.root_value v g) = (_, g)

  element_past : {kind : RowKind} {last : Last} {content : Content} {below after : OrderedTree} → IsTrue (is_element content) → RowAlone o kind last (more content below after) → (next : Last) × RowAlone o kind next after
  element_past h (alone.closes {kind = kind} m) = absurd (no_token (closing kind) (token (closing kind)) h refl)
  element_past h (alone.trivia k g) = (_, g)
  element_past h (alone.element m p g) = (_, g)
  element_past h (alone.comma g) = (_, g)

  module _ (content : Content) (below after : OrderedTree) (h : IsTrue (is_element content)) where
    abbrev from : OrderedTree
    from = more content below after

    some : (front : OrderedTree) → followed_by front from ≡ none → ⊥
    some none e = cc
    some (more first under rest) e = cc

    in_row : {kind : RowKind} (front : OrderedTree) (last : Last) → RowAlone o kind last (followed_by front from) → (next : Last) × RowAlone o kind next after
    in_row none last g = element_past h g
    in_row (more first under rest) last g = elim (row_past g) [ inl e ↦ absurd (some rest e) | inr t ↦ in_row rest t.0 t.1 ]

    in_held : (kind : RowKind) (row front : OrderedTree) → RowAlone o kind rows.nothing_yet row → token_then (opening kind) row ≡ followed_by front from → (next : Last) × RowAlone o kind next after
    in_held kind row none g e = absurd (no_token (opening kind) content h (let same : token (opening kind) ≡ content = cc in sym same))
    in_held kind row (more first under rest) g e = let same : row ≡ followed_by rest from = cc in in_row rest rows.nothing_yet (subst (RowAlone o kind rows.nothing_yet) same g)

    in_root : (front : OrderedTree) (stood : Bool) → RootAlone o stood (followed_by front from) → (next : Bool) × RootAlone o next after
    in_root none stood g = root_past g
    in_root (more first under rest) stood g = let p = root_past g in in_root rest p.0 p.1

-- nothing stands around the root
around_root : (ns : List Node) → IsTree ns → (c : ℕ) (g d : List Content) → StandsBetween ns c g d → c ≡ 0 → d ≡ []
around_root ns tree _ _ _ as_root e = refl
around_root ns tree c _ _ (as_child {c = p} said up f b) e = absurd (let wrong : Some p ≡ None = sym said ∙ ap (parent_at ns) e ∙ tree.root_alone in cc)

-- what stands between leaves is of the document
pub over_between : (ns : List Node) (n : ℕ) (f b : List Content) → StandsBetween ns n f b → IsOver ns 0 n
over_between ns _ _ _ as_root = IsOver.itself
over_between ns n _ _ (as_child {c = c} {f = f} {b = b} said up fr bk) = IsOver.above said (over_between ns c f b up)

-- behind an entry
module _ (ns : List Node) (tree : IsTree ns) (n : ℕ) (e : IsEntry ns n) (front back : List Content) (stands : StandsBetween ns n front back) where
  w : Within ns n e.container front back
  w = within ns tree n e.container front back e.parent stands

  around : row_below ns e.container ≡ followed_by w.front (more (content_at ns n) (row_below ns n) w.back)
  around = row_around ns tree n e.container w.front w.back e.parent w.before w.behind

  pub no_comma_follows : comma_among ns (drop (place_at ns n + 1) (children_at ns e.container)) ≡ false → (o : Options) → SoundTree o (ordered_tree ns 0) → comma_follows back ≡ false
  no_comma_follows lacks o sound = ap comma_follows w.last ∙ elim (container_is ns tree n e) [ inl is ↦ at_root is | inr holds ↦ inside holds ]
    where
      free : comma_in w.back ≡ false
      free = sym (comma_shown ns (drop (place_at ns n + 1) (children_at ns e.container)) w.back w.behind) ∙ lacks

      inside : IsTrue (is_array_or_object (content_at ns e.container)) → comma_follows (leaves w.back ++ w.d) ≡ false
      inside holds =
          let at = holder_path o ns tree sound e.container (container_over ns tree n e) holds in
          let held : Held o (content_at ns e.container) (row_below ns e.container) = held_at o ns tree sound at.0 e.container at.1 holds in
          row_first o (in_held o (content_at ns n) (row_below ns n) w.back e.element held.kind held.row w.front held.alone (sym held.under ∙ around)).1 free w.d

      at_root : e.container ≡ 0 → comma_follows (leaves w.back ++ w.d) ≡ false
      at_root is =
          let (row, same, g) = document_alone o sound.shaped in
          let row_is : row ≡ followed_by w.front (more (content_at ns n) (row_below ns n) w.back) = sym (root_is ns row same) ∙ ap (row_below ns) (sym is) ∙ around in
          subst (λ d. comma_follows (leaves w.back ++ d) ≡ false) (sym (around_root ns tree e.container w.g w.d w.up is))
          (root_first o (in_root o (content_at ns n) (row_below ns n) w.back e.element w.front false (subst (RootAlone o false) row_is g)).1 free)
