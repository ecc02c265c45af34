-- In a property of the grammar's shape the element beside the name is the value.
use Rattle.std.proofs.Common.{◌≡◌, ℕ, true, false, cond, List, ◌∷◌, filter, slice_get, Some, refl, sym, ap, subst, ◌∙◌}
use Rattle.std.specs.List.{find}
use Rattle.jsonc_text.specs.Options.{Options}
use Rattle.jsonc_tree.specs.Content.{Content, property, token}
use Rattle.jsonc_tree.specs.Tree.{Node, content_at, children_at}
use Rattle.jsonc_tree.specs.OrderedTree.{OrderedTree, none, more, Shows, shows_none, shows_more}
use Rattle.jsonc_sound.specs.Shape.{IsTrivia, IsNameBefore, Trivia, PropertyShaped, token_then, printed_text}
use Rattle.jsonc_layout.specs.nodes.Kinds.{is_element, is_colon, is_element_at, is_colon_at}
use Rattle.jsonc_layout.specs.nodes.Properties.{is_name, is_name_at, behind_first, value_at}
use Rattle.jsonc_layout.proofs.lemmas.nodes.PropertyValues.{first_kept, held_in, value_is_held}
use Rattle.jsonc_edit.specs.Paths.{IsElementOf}
use Rattle.jsonc_edit.proofs.Elements.{taken, left}

record IsNameKind (content : Content) : Type 0 where
  name : is_name content ≡ true
  element : is_element content ≡ true

name_kind : (o : Options) (content : Content) (r : List ℕ) → IsNameBefore o content r → IsNameKind content
name_kind o (Content.string s) r h = record { name = refl; element = refl }
name_kind o (Content.word s) r h = record { name = refl; element = refl }
name_kind o Content.root r h = absurd h
name_kind o Content.object r h = absurd h
name_kind o Content.array r h = absurd h
name_kind o Content.property r h = absurd h
name_kind o (Content.number s) r h = absurd h
name_kind o (Content.boolean b) r h = absurd h
name_kind o Content.null r h = absurd h
name_kind o (Content.token c) r h = absurd h
name_kind o (Content.whitespace s) r h = absurd h
name_kind o (Content.newline k) r h = absurd h
name_kind o (Content.comment s) r h = absurd h

pub name_is_name : (o : Options) (content : Content) (r : List ℕ) → IsNameBefore o content r → is_name content ≡ true
name_is_name o content r h = (name_kind o content r h).name

record IsTriviaKind (content : Content) : Type 0 where
  colon : is_colon content ≡ false
  element : is_element content ≡ false

trivia_kind : (o : Options) (content : Content) → IsTrivia o content → IsTriviaKind content
trivia_kind o (Content.whitespace s) h = record { colon = refl; element = refl }
trivia_kind o (Content.newline k) h = record { colon = refl; element = refl }
trivia_kind o (Content.comment s) h = record { colon = refl; element = refl }
trivia_kind o Content.root h = absurd h
trivia_kind o Content.object h = absurd h
trivia_kind o Content.array h = absurd h
trivia_kind o Content.property h = absurd h
trivia_kind o (Content.string s) h = absurd h
trivia_kind o (Content.word s) h = absurd h
trivia_kind o (Content.number s) h = absurd h
trivia_kind o (Content.boolean b) h = absurd h
trivia_kind o Content.null h = absurd h
trivia_kind o (Content.token c) h = absurd h

content_same : (c d : Content) (x y a b : OrderedTree) → more c x a ≡ more d y b → c ≡ d
content_same c d x y a b e = cc

after_same : (c d : Content) (x y a b : OrderedTree) → more c x a ≡ more d y b → a ≡ b
after_same c d x y a b e = cc

module _ (ns : List Node) where
  -- the first of a row, and those behind it
  abbrev pub Parts : List ℕ → Content → OrderedTree → Type 0
  Parts xs c after = (n : ℕ) × (ys : List ℕ) × (xs ≡ n ∷ ys) × (content_at ns n ≡ c) × Shows ns ys after

  pub firsts : (xs : List ℕ) (t : OrderedTree) (c : Content) (below after : OrderedTree) → Shows ns xs t → t ≡ more c below after → Parts xs c after
  firsts _ _ c below after shows_none e = absurd (let wrong : none ≡ more c below after = e in cc)
  firsts _ _ c below after (shows_more {n = n} {rest = rest} {below = x} {after = a} p q) e =
      (n, rest, refl, content_same (content_at ns n) c x below a after e, subst (λ (t : OrderedTree). Shows ns rest t) (after_same (content_at ns n) c x below a after e) q)

  -- the first element of the row is the first behind its colon
  abbrev IsBehindColon : List ℕ → Type 0
  IsBehindColon xs = slice_get (filter (is_element_at ns) xs) 0 ≡ find (is_element_at ns) (behind_first (is_colon_at ns) xs)

  at_colon : (xs : List ℕ) (u : OrderedTree) → Shows ns xs (token_then 0x3A u) → IsBehindColon xs
  at_colon xs u shows =
      let parts = firsts xs (token_then 0x3A u) (token 0x3A) none u shows refl in
      subst IsBehindColon (sym parts.2) (
      ap (λ l. slice_get l 0) (left (is_element_at ns) parts.0 parts.1 (ap is_element parts.3)) ∙ first_kept (is_element_at ns) parts.1
      ∙ sym (ap (λ b. find (is_element_at ns) (cond b parts.1 (behind_first (is_colon_at ns) parts.1))) (ap is_colon parts.3))
      )

  before_colon : (o : Options) {t r : OrderedTree} → Trivia o t r → ((xs : List ℕ) → Shows ns xs r → IsBehindColon xs) → (xs : List ℕ) → Shows ns xs t → IsBehindColon xs
  before_colon o Trivia.nothing further = further
  before_colon o (Trivia.trivia {content = content} {t = t} is rest) further = λ xs shows.
      let parts = firsts xs (more content none t) content none t shows refl in
      let kind = trivia_kind o content is in
      subst IsBehindColon (sym parts.2) (
      ap (λ l. slice_get l 0) (left (is_element_at ns) parts.0 parts.1 (ap is_element parts.3 ∙ kind.element)) ∙ before_colon o rest further parts.1 parts.4
      ∙ sym (ap (λ b. find (is_element_at ns) (cond b parts.1 (behind_first (is_colon_at ns) parts.1))) (ap is_colon parts.3 ∙ kind.colon))
      )

  -- so behind a name the second element is the value
  pub second_is_held : (o : Options) (xs : List ℕ) (name : Content) (after u : OrderedTree) (r : List ℕ) → Shows ns xs (more name none after) → IsNameBefore o name r → Trivia o after (token_then 0x3A u) → held_in ns xs ≡ slice_get (filter (is_element_at ns) xs) 1
  second_is_held o xs name after u r shows is before =
      let parts = firsts xs (more name none after) name none after shows refl in
      let kind = name_kind o name r is in
      let behind : IsBehindColon parts.1 = before_colon o before (λ ys g. at_colon ys u g) parts.1 parts.4 in
      subst (λ (l : List ℕ). held_in ns l ≡ slice_get (filter (is_element_at ns) l) 1) (sym parts.2) (
      ap (λ b. find (is_element_at ns) (behind_first (is_colon_at ns) (cond b parts.1 (behind_first (is_name_at ns) parts.1)))) (ap is_name parts.3 ∙ kind.name)
      ∙ sym behind
      ∙ sym (ap (λ l. slice_get l 1) (taken (is_element_at ns) parts.0 parts.1 (ap is_element parts.3 ∙ kind.element)))
      )

  pub shaped_value : (o : Options) (r n : ℕ) (row : OrderedTree) (rest : List ℕ) → Shows ns (children_at ns r) row → PropertyShaped o row rest → content_at ns r ≡ property → IsElementOf ns r 1 n → value_at ns r ≡ Some n
  shaped_value o r n _ rest shows (PropertyShaped.named {name = name} {after = after} {u = u} named before between value) is second =
      value_is_held ns r is ∙ second_is_held o (children_at ns r) name after u (printed_text after) shows named before ∙ second
