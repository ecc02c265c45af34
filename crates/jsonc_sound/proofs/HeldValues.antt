-- The values that a document of the grammar's shape holds.
use Rattle.std.proofs.Common.{ℕ, ◌≡◌, subst, refl, Bool, true, false, List, arith}
use Rattle.jsonc_text.specs.Options.{Options}
use Rattle.jsonc_tree.specs.Content.{Content}
use Rattle.jsonc_tree.specs.OrderedTree.{OrderedTree, none, more, Top}
use Rattle.jsonc_sound.specs.Lines.{LinesEnd, DocumentLinesEnd}
use Rattle.jsonc_sound.specs.Shape as shape
use Rattle.jsonc_sound.specs.Shape.{ValueShaped, ElementsShaped, PropertiesShaped, PropertyShaped, DocumentShaped, printed_text}
use Rattle.jsonc_sound.specs.Sound.{Sound, IsValueBefore}
use Rattle.jsonc_sound.specs.ChangeLaws.{IsSoundValue}
use Rattle.jsonc_sound.specs.TreeChanges.{property_of, ElementChanged, this_element, passed, later_element, HeldChanged, ValueChanged, itself, in_array, in_object, DocumentChanged, in_root}
use Rattle.jsonc_sound.proofs.FirstNodes.{here, over, beyond, meets_first, none_changed, no_element, value_element, name_element}
use Rattle.jsonc_sound.proofs.ReadRows.{trivia_changed, token_changed, only_changed, separated_changed, closed_changed}

-- line comments of what is replaced
row_lines_held : {x y : Top} {i : ℕ} {row new : OrderedTree} (at_end : Bool) → ElementChanged x y i row new → LinesEnd at_end row → LinesEnd false x.below
row_lines_held at_end (this_element p q) l = l.1
row_lines_held at_end (passed p k) l = row_lines_held at_end k l.2
row_lines_held at_end (later_element p k) l = row_lines_held at_end k l.2

value_lines_held : {was now : Top} {path : List ℕ} {x y : Top} → ValueChanged was now path x y → LinesEnd false x.below → LinesEnd false was.below
value_lines_held itself l = l
value_lines_held (in_array e h) l = value_lines_held h (row_lines_held false e l)
value_lines_held (in_object e g h) l = value_lines_held h (row_lines_held false g (row_lines_held false e l))

document_lines_held : {was now : Top} {path : List ℕ} {t u : OrderedTree} → DocumentChanged was now path t u → DocumentLinesEnd t → LinesEnd false was.below
document_lines_held (in_root {row = row} e h) (below, same, l) =
    let first : below ≡ row = cc in
    value_lines_held h (row_lines_held true e (subst (LinesEnd true) first l))

module _ (o : Options) where
  abbrev pub IsSomeValue : Top → Type 0
  IsSomeValue x = (r : List ℕ) × IsValueBefore o x r

  this_value : {content : Content} {below : OrderedTree} {r : List ℕ} (x : Top) → content ≡ x.content → below ≡ x.below → ValueShaped o content below r → IsValueBefore o x r
  this_value {below = below} {r = r} x p b v = subst (λ t. ValueShaped o x.content t r) b (subst (λ c. ValueShaped o c below r) p v)

  element_held : {x y : Top} {row : OrderedTree} {i : ℕ} {new : OrderedTree} → ElementsShaped o row → ElementChanged x y i row new → IsSomeValue x
  element_held {x} (shape.last_element {content = content} {after = after} v c) e =
      elim (meets_first e) [
        | here a p b q g ↦ (printed_text after, this_value x p b v)
        | over q k g ↦ absurd (no_element content (value_element v) q)
        | beyond a q k g ↦ absurd (closed_changed o c k)
      ]
  element_held {x} (shape.element {content = content} {after = after} v s es) e =
      elim (meets_first e) [
        | here a p b q g ↦ (printed_text after, this_value x p b v)
        | over q k g ↦ absurd (no_element content (value_element v) q)
        | beyond a q k g ↦ element_held es (separated_changed o s k).2
      ]

  property_held : {held given row : OrderedTree} {i : ℕ} {new : OrderedTree} → PropertiesShaped o row → ElementChanged (property_of held) (property_of given) i row new → (r : List ℕ) × PropertyShaped o held r
  property_held (shape.last_property {after = after} p c) e =
      elim (meets_first e) [
        | here a h b q g ↦ (printed_text after, subst (λ t. PropertyShaped o t (printed_text after)) b p)
        | over q k g ↦ absurd (no_element Content.property refl q)
        | beyond a q k g ↦ absurd (closed_changed o c k)
      ]
  property_held (shape.property {after = after} p s es) e =
      elim (meets_first e) [
        | here a h b q g ↦ (printed_text after, subst (λ t. PropertyShaped o t (printed_text after)) b p)
        | over q k g ↦ absurd (no_element Content.property refl q)
        | beyond a q k g ↦ property_held es (separated_changed o s k).2
      ]

  value_of_held : {x y : Top} {held given : OrderedTree} {r : List ℕ} → PropertyShaped o held r → HeldChanged x y held given → IsSomeValue x
  value_of_held {x} {y} {r = r} (shape.named {name = name} {after = after} n g h v) e =
      elim (meets_first e) [
        | here a p b q k ↦ absurd (omega (arith, a))
        | over q k m ↦ absurd (no_element name (name_element o name (printed_text after) n) q)
        | beyond {j = j} {rest = rest} a q k m ↦
            let first : j ≡ 0 = omega (arith, a) in
            let token = token_changed o 0x3A (trivia_changed o g (subst (λ i. ElementChanged x y i after rest) first k)).changed in
            let only = only_changed o (value_element v) (trivia_changed o h token.2).changed in
            (r, this_value x only.top only.row v)
      ]

  array_held : {x y : Top} {i : ℕ} {row new : OrderedTree} {r : List ℕ} → ValueShaped o Content.array row r → ElementChanged x y i row new → IsSomeValue x
  array_held (shape.literal h) e = absurd h
  array_held (shape.empty_array g) e = absurd (none_changed (token_changed o 0x5D (trivia_changed o g (token_changed o 0x5B e).2).changed).2)
  array_held (shape.array g es) e = element_held es (trivia_changed o g (token_changed o 0x5B e).2).changed

  object_held : {x y : Top} {held given : OrderedTree} {i : ℕ} {row new : OrderedTree} {r : List ℕ} → ValueShaped o Content.object row r → ElementChanged (property_of held) (property_of given) i row new → HeldChanged x y held given → IsSomeValue x
  object_held (shape.literal h) e k = absurd h
  object_held (shape.empty_object g) e k = absurd (none_changed (token_changed o 0x7D (trivia_changed o g (token_changed o 0x7B e).2).changed).2)
  object_held (shape.object g ps) e k = value_of_held (property_held ps (trivia_changed o g (token_changed o 0x7B e).2).changed).1 k

  value_held : {was now : Top} {path : List ℕ} {x y : Top} → ValueChanged was now path x y → IsSomeValue x → IsSomeValue was
  value_held itself v = v
  value_held (in_array e h) v = value_held h (array_held v.1 e)
  value_held (in_object e g h) v = value_held h (object_held v.1 e g)

  root_held : {x y : Top} {row new : OrderedTree} → DocumentShaped o (more Content.root row none) → ElementChanged x y 0 row new → IsSomeValue x
  root_held (shape.no_value g) e = absurd (none_changed (trivia_changed o g e).changed)
  root_held {x} (shape.a_value {after = after} g v h) e =
      let only = only_changed o (value_element v) (trivia_changed o g e).changed in
      (printed_text after, this_value x only.top only.row v)

  pub document_held : {was now : Top} {path : List ℕ} {t u : OrderedTree} → DocumentChanged was now path t u → DocumentShaped o t → IsSomeValue was
  document_held (in_root e h) s = value_held h (root_held s e)

  pub sound_value : {was now : Top} {path : List ℕ} {t u : OrderedTree} → Sound o t → DocumentChanged was now path t u → IsSoundValue o was
  sound_value s d = let v = document_held d s.shaped in record { following = v.0; shaped = v.1; lines = document_lines_held d s.lines }
