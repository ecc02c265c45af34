-- Of the rows that values stand in, the literal that is printed last is seen in the nearest child that prints something.
use Rattle.std.proofs.Common.{◌≡◌, ◌∙◌, ℕ, sym, ap, subst, refl, Bool, true, false, cond, ◌||◌, List, [], ◌∷◌, ◌++◌, reverse, Option, Some, None, if◌then◌else◌}
use Rattle.std.specs.Option.{option_or}
use Rattle.std.proofs.lemmas.Bool.{false≢true}
use Rattle.std.proofs.lemmas.List.{append_assoc, reverse-append}
use Rattle.std.proofs.lemmas.List.Folds.{find-append}
use Rattle.jsonc_text.specs.Options.{Options}
use Rattle.jsonc_text.specs.Text.{starts}
use Rattle.jsonc_tree.specs.Content.{Content, array, is_container}
use Rattle.jsonc_tree.specs.OrderedTree.{OrderedTree, none, more, own_leaf, leaves, followed_by, Shows, shows_none, shows_more}
use Rattle.jsonc_tree.specs.Tree.{Node, content_at}
use Rattle.jsonc_sound.specs.Shape as shape
use Rattle.jsonc_sound.specs.Shape.{IsTrivia, Trivia, IsLiteralBefore, IsNameBefore, token_then}
use Rattle.jsonc_sound.specs.Rows as rows
use Rattle.jsonc_sound.specs.Rows.{Last}
use Rattle.jsonc_sound.specs.Adjacent.{first_char, or_else, last_printed}
use Rattle.jsonc_sound.specs.Alone as alone
use Rattle.jsonc_sound.specs.Alone.{ValueAlone, RowAlone, PropertyAlone, RootAlone}
use Rattle.jsonc_sound.specs.Booleans.{is_hex_leaf}
use Rattle.jsonc_sound.specs.Spaces.{is_bare}
use Rattle.jsonc_sound.proofs.Spaces.{own_last, last_append}
use Rattle.jsonc_edit.specs.Due.{prints, prints_at, nearest}
use Rattle.jsonc_edit.proofs.NearestLeaves.{Printed, value_last}
use Rattle.jsonc_edit.specs.set.Booleans.{is_hex_at}

-- a leaf with nothing below it, or an array or object, which does not end with a literal without quotes
pub data FlatNode : Content → OrderedTree → Type 0 where
  a_leaf : {content : Content} → is_container content ≡ false → FlatNode content none
  a_box : {content : Content} {below : OrderedTree} → is_container content ≡ true → Printed (last_printed (own_leaf content ++ leaves below)) false → FlatNode content below

-- a row of such nodes
pub data Flat : OrderedTree → Type 0 where
  none_flat : Flat none
  more_flat : {content : Content} {below after : OrderedTree} → FlatNode content below → Flat after → Flat (more content below after)

flat_first : {content : Content} {below after : OrderedTree} → Flat (more content below after) → FlatNode content below
flat_first (more_flat w r) = w

flat_rest : {content : Content} {below after : OrderedTree} → Flat (more content below after) → Flat after
flat_rest (more_flat w r) = r

pub flat_before : (t u : OrderedTree) → Flat (followed_by t u) → Flat t
flat_before none u f = none_flat
flat_before (more content below after) u f = more_flat (flat_first f) (flat_before after u (flat_rest f))

module _ (o : Options) where
  trivia_no_container : (content : Content) → IsTrivia o content → is_container content ≡ false
  trivia_no_container (Content.whitespace s) h = refl
  trivia_no_container (Content.newline k) h = refl
  trivia_no_container (Content.comment s) h = refl
  trivia_no_container content h = absurd h

  name_no_container : (content : Content) → IsNameBefore o content [] → is_container content ≡ false
  name_no_container (Content.string s) h = refl
  name_no_container (Content.word s) h = refl
  name_no_container content h = absurd h

  literal_no_container : (content : Content) → IsLiteralBefore o content [] → is_container content ≡ false
  literal_no_container (Content.string s) h = refl
  literal_no_container (Content.number s) h = refl
  literal_no_container (Content.boolean b) h = refl
  literal_no_container Content.null h = refl
  literal_no_container content h = absurd h

  value_flat : {content : Content} {below : OrderedTree} → ValueAlone o content below → FlatNode content below
  value_flat (alone.literal {content = content} h) = a_leaf (literal_no_container content h)
  value_flat (alone.an_array g) = a_box refl (value_last o (alone.an_array g))
  value_flat (alone.an_object g) = a_box refl (value_last o (alone.an_object g))

  -- the rows of arrays, of properties and of the root are
  pub array_flat : {last : Last} {row : OrderedTree} → RowAlone o rows.of_values last row → Flat row
  array_flat (alone.closes m) = more_flat (a_leaf refl) none_flat
  array_flat (alone.trivia {content = content} h g) = more_flat (a_leaf (trivia_no_container content h)) (array_flat g)
  array_flat (alone.element m (alone.a_value v) g) = more_flat (value_flat v) (array_flat g)
  array_flat (alone.comma g) = more_flat (a_leaf refl) (array_flat g)

  trivia_flat : {t r : OrderedTree} → Trivia o t r → Flat r → Flat t
  trivia_flat shape.nothing f = f
  trivia_flat (shape.trivia {content = content} h g) f = more_flat (a_leaf (trivia_no_container content h)) (trivia_flat g f)

  pub property_flat : {row : OrderedTree} → PropertyAlone o row → Flat row
  property_flat (alone.named {name = name} n g h v) =
      more_flat (a_leaf (name_no_container name n)) (trivia_flat g (more_flat (a_leaf refl) (trivia_flat h (more_flat (value_flat v) none_flat))))

  pub root_flat : {stood : Bool} {row : OrderedTree} → RootAlone o stood row → Flat row
  root_flat alone.root_ends = none_flat
  root_flat (alone.root_trivia {content = content} h g) = more_flat (a_leaf (trivia_no_container content h)) (root_flat g)
  root_flat (alone.root_value v g) = more_flat (value_flat v) (root_flat g)

-- what is not without quotes is no number, and a container is none
quoted_no_hex : (content : Content) → is_bare content ≡ false → is_hex_leaf (Some content) ≡ false
quoted_no_hex (Content.number s) e = absurd (false≢true (sym e))
quoted_no_hex (Content.word s) e = absurd (false≢true (sym e))
quoted_no_hex content e = refl

box_no_hex : (content : Content) → is_container content ≡ true → is_hex_leaf (Some content) ≡ false
box_no_hex (Content.number s) e = absurd (false≢true e)
box_no_hex (Content.word s) e = absurd (false≢true e)
box_no_hex content e = refl

module _ (ns : List Node) where
  -- a node was found where a leaf is printed, and tells whether it is a hexadecimal number
  abbrev Tells : Option Content → Option ℕ → Type 0
  Tells x None = x ≡ None
  Tells x (Some n) = (leaf : Content) × (x ≡ Some leaf) × (is_hex_leaf (Some leaf) ≡ is_hex_leaf (Some (content_at ns n)))

  either_tells : (x y : Option Content) (m n : Option ℕ) → Tells x m → Tells y n → Tells (or_else x y) (option_or m n)
  either_tells x y None n h k = subst (λ z. Tells (or_else z y) n) (sym h) k
  either_tells x y (Some m) n h k = (h.0, ap (λ z. or_else z y) h.1, h.2)

  leaf_tells : (n : ℕ) (content : Content) → content_at ns n ≡ content → is_container content ≡ false → Tells (own_last content) (nearest ns (n ∷ []))
  leaf_tells n content e l = by (starts (λ c. true) (first_char content)) (ap prints e ∙ ap (λ b. b || starts (λ c. true) (first_char content)) l)
    where
      by : (b : Bool) → prints_at ns n ≡ b → Tells (if b then Some content else None) (nearest ns (n ∷ []))
      by true p = subst (λ b. Tells (Some content) (cond b (Some n) None)) (sym p) (content, refl, sym (ap (λ w. is_hex_leaf (Some w)) e))
      by false p = subst (λ b. Tells None (cond b (Some n) None)) (sym p) refl

  node_tells : (n : ℕ) {content : Content} {below : OrderedTree} → content_at ns n ≡ content → FlatNode content below → Tells (last_printed (own_leaf content ++ leaves below)) (nearest ns (n ∷ []))
  node_tells n e (a_leaf {content = content} l) =
      subst (λ x. Tells (last_printed (x ++ [])) (nearest ns (n ∷ []))) (sym (ap (λ b. if b then [] else content ∷ []) l)) (leaf_tells n content e l)
  node_tells n e (a_box {content = content} {below = below} l p) =
      let seen : prints_at ns n ≡ true = ap prints e ∙ ap (λ b. b || starts (λ c. true) (first_char content)) l in
      subst (λ b. Tells (last_printed (own_leaf content ++ leaves below)) (cond b (Some n) None)) (sym seen)
      (p.0, p.1, quoted_no_hex p.0 p.2 ∙ sym (ap (λ w. is_hex_leaf (Some w)) e ∙ box_no_hex content l))

  row_tells : {xs : List ℕ} {t : OrderedTree} → Shows ns xs t → Flat t → Tells (last_printed (leaves t)) (nearest ns (reverse xs))
  row_tells shows_none f = refl
  row_tells (shows_more {n = n} {rest = rest} {below = below} {after = after} s r) (more_flat k f) =
      let own : List Content = own_leaf (content_at ns n) ++ leaves below in
      let parted : last_printed (own_leaf (content_at ns n) ++ (leaves below ++ leaves after)) ≡ or_else (last_printed (leaves after)) (last_printed own) =
      ap last_printed (sym (append_assoc (own_leaf (content_at ns n)) (leaves below) (leaves after))) ∙ last_append own (leaves after) in
      let turned : nearest ns (reverse (n ∷ rest)) ≡ option_or (nearest ns (reverse rest)) (nearest ns (n ∷ [])) =
      ap (nearest ns) (reverse-append (n ∷ []) rest) ∙ find-append (prints_at ns) (reverse rest) (n ∷ []) in
      subst (λ x. Tells x (nearest ns (reverse (n ∷ rest)))) (sym parted)
      (subst (Tells (or_else (last_printed (leaves after)) (last_printed own))) (sym turned)
      (either_tells (last_printed (leaves after)) (last_printed own) (nearest ns (reverse rest)) (nearest ns (n ∷ [])) (row_tells r f) (node_tells n refl k)))

  told : (x : Option Content) (m : Option ℕ) → Tells x m → is_hex_leaf x ≡ is_hex_at ns m
  told x None h = ap is_hex_leaf h
  told x (Some n) h = ap is_hex_leaf h.1 ∙ h.2

  -- so the row prints a hexadecimal number last where the nearest of these children is one
  pub hex_seen : {xs : List ℕ} {t : OrderedTree} → Shows ns xs t → Flat t → is_hex_leaf (last_printed (leaves t)) ≡ is_hex_at ns (nearest ns (reverse xs))
  hex_seen {xs} {t} s f = told (last_printed (leaves t)) (nearest ns (reverse xs)) (row_tells s f)

-- the row of an array
pub array_row : (o : Options) {content : Content} {below : OrderedTree} → content ≡ array → ValueAlone o content below → (row : OrderedTree) × (below ≡ token_then 0x5B row) × RowAlone o rows.of_values rows.nothing_yet row
array_row o e (alone.literal {content = content} l) = absurd (subst (λ w. IsLiteralBefore o w []) e l)
array_row o e (alone.an_array {row = row} g) = (row, refl, g)
array_row o e (alone.an_object g) = cc
