-- A document node by node, in which a value is replaced by another.
use Rattle.std.proofs.Common.{ℕ, ◌≡◌, sym, subst, refl, Bool, false, List, [], ◌++◌, arith, None}
use Rattle.jsonc_text.specs.Options.{Options}
use Rattle.jsonc_tree.specs.Content.{Content}
use Rattle.jsonc_tree.specs.OrderedTree.{OrderedTree, none, leaves, Top}
use Rattle.jsonc_sound.specs.Lines.{LinesEnd}
use Rattle.jsonc_sound.specs.Shape as shape
use Rattle.jsonc_sound.specs.Shape.{Trivia, ValueShaped, DocumentShaped}
use Rattle.jsonc_sound.specs.ChangeLaws.{DiffersIn}
use Rattle.jsonc_sound.specs.Rows as rows
use Rattle.jsonc_sound.specs.Rows.{RowKind, closing, Last}
use Rattle.jsonc_sound.specs.Sound.{Sound}
use Rattle.jsonc_sound.specs.TreeChanges.{IsElement, leaves_of, ElementChanged, HeldChanged, property_of, ValueChanged, itself, in_array, in_object, DocumentChanged, in_root}
use Rattle.jsonc_sound.proofs.FirstNodes.{here, over, beyond, meets_first, none_changed, no_element, trivia_over, value_element, name_element}
use Rattle.jsonc_sound.proofs.Lines.{document_lines}
use Rattle.jsonc_sound.proofs.ReadRows.{trivia_changed, token_changed, only_changed}
use Rattle.jsonc_sound.specs.Adjacent.{follower, LeavesEnd, LastEnds}
use Rattle.jsonc_sound.specs.Alone as alone
use Rattle.jsonc_sound.specs.Alone.{ValueAlone, PartAlone, RowAlone, PropertyAlone, RootAlone, DocumentAlone}
use Rattle.jsonc_sound.proofs.NodesAlone.{document_alone, document_leaves, document_shaped}
use Rattle.jsonc_sound.proofs.Leaves.{seams_serve}

module _ (o : Options) where
  pub alone_element : {content : Content} {below : OrderedTree} → ValueAlone o content below → IsElement content
  alone_element (alone.literal {content = content} h) = let v : ValueShaped o content none [] = shape.literal h in value_element v
  alone_element (alone.an_array g) = refl
  alone_element (alone.an_object g) = refl

  pub part_element : {kind : RowKind} {content : Content} {below : OrderedTree} → PartAlone o kind content below → IsElement content
  part_element (alone.a_value v) = alone_element v
  part_element (alone.a_property p) = refl

  -- where the first is a value, so is the second
  abbrev Keeps : Top → Top → Type 0
  Keeps x y = ValueAlone o x.content x.below → ValueAlone o y.content y.below

  abbrev KeepsPart : RowKind → Top → Top → Type 0
  KeepsPart kind x y = PartAlone o kind x.content x.below → PartAlone o kind y.content y.below

  value_as : (x : Top) {content : Content} {below : OrderedTree} → content ≡ x.content → below ≡ x.below → ValueAlone o content below → ValueAlone o x.content x.below
  value_as x {below = below} p b v = subst (λ t. ValueAlone o x.content t) b (subst (λ c. ValueAlone o c below) p v)

  part_as : (x : Top) {kind : RowKind} {content : Content} {below : OrderedTree} → content ≡ x.content → below ≡ x.below → PartAlone o kind content below → PartAlone o kind x.content x.below
  part_as x {kind} {below = below} p b v = subst (λ t. PartAlone o kind x.content t) b (subst (λ c. PartAlone o kind c below) p v)

  row_changed : {x y : Top} {kind : RowKind} {last : Last} {row : OrderedTree} {i : ℕ} {new : OrderedTree} → KeepsPart kind x y → RowAlone o kind last row → ElementChanged x y i row new → RowAlone o kind last new
  row_changed {kind = kind} f (alone.closes m) e = absurd (none_changed (token_changed o (closing kind) e).2)
  row_changed {kind = kind} {last = last} f (alone.trivia {content = content} h g) e =
      elim (meets_first e) [
        | here a p b q k ↦ absurd (no_element content q (trivia_over o content h))
        | over {rest = rest} q k s ↦ subst (RowAlone o kind last) (sym s) (alone.trivia h (row_changed f g k))
        | beyond a q k s ↦ absurd (no_element content q (trivia_over o content h))
      ]
  row_changed {x} {kind = kind} {last = last} f (alone.element {content = content} m v g) e =
      elim (meets_first e) [
        | here a p b q s ↦ subst (RowAlone o kind last) (sym s) (alone.element m (f (part_as x p b v)) g)
        | over q k s ↦ absurd (no_element content (part_element v) q)
        | beyond {rest = rest} a q k s ↦ subst (RowAlone o kind last) (sym s) (alone.element m v (row_changed f g k))
      ]
  row_changed {kind = kind} f (alone.comma g) e =
      let k = token_changed o 0x2C e in
      subst (RowAlone o kind rows.an_element) (sym k.1) (alone.comma (row_changed f g k.2))

  property_changed : {x y : Top} {held given : OrderedTree} → Keeps x y → HeldChanged x y held given → PropertyAlone o held → PropertyAlone o given
  property_changed {x} {y} f e (alone.named {name = name} {content = content} {below = below} {after = after} {u = u} n g h v) =
      elim (meets_first e) [
        | here a p b q k ↦ absurd (omega (arith, a))
        | over q k m ↦ absurd (no_element name (name_element o name [] n) q)
        | beyond {j = j} {rest = rest} a q k m ↦
            let first : j ≡ 0 = omega (arith, a) in
            let colon = trivia_changed o g (subst (λ i. ElementChanged x y i after rest) first k) in
            let mark = token_changed o 0x3A colon.changed in
            let value = trivia_changed o h mark.2 in
            let only = only_changed o (alone_element v) value.changed in
            subst (PropertyAlone o) (sym m) (alone.named n (subst (Trivia o rest) mark.1 colon.trivia) (subst (Trivia o mark.0) only.made value.trivia) (f (value_as x only.top only.row v)))
      ]

  held_part : {held given : OrderedTree} → (PropertyAlone o held → PropertyAlone o given) → KeepsPart rows.of_properties (property_of held) (property_of given)
  held_part f (alone.a_property p) = alone.a_property (f p)

  value_part : {x y : Top} → Keeps x y → KeepsPart rows.of_values x y
  value_part f (alone.a_value v) = alone.a_value (f v)

  array_changed : {x y : Top} {i : ℕ} {row new : OrderedTree} → Keeps x y → ElementChanged x y i row new → ValueAlone o Content.array row → ValueAlone o Content.array new
  array_changed f e (alone.literal h) = absurd h
  array_changed f e (alone.an_array g) =
      let k = token_changed o 0x5B e in
      subst (ValueAlone o Content.array) (sym k.1) (alone.an_array (row_changed (value_part f) g k.2))

  object_changed : {held given : OrderedTree} {i : ℕ} {row new : OrderedTree} → (PropertyAlone o held → PropertyAlone o given) → ElementChanged (property_of held) (property_of given) i row new → ValueAlone o Content.object row → ValueAlone o Content.object new
  object_changed f e (alone.literal h) = absurd h
  object_changed f e (alone.an_object g) =
      let k = token_changed o 0x7B e in
      subst (ValueAlone o Content.object) (sym k.1) (alone.an_object (row_changed (held_part f) g k.2))

  value_changed : {was now : Top} {path : List ℕ} {x y : Top} → Keeps was now → ValueChanged was now path x y → Keeps x y
  value_changed f itself = f
  value_changed f (in_array e h) = array_changed (value_changed f h) e
  value_changed f (in_object e g h) = object_changed (property_changed (value_changed f h) g) e

  root_changed : {x y : Top} {stood : Bool} {row : OrderedTree} {i : ℕ} {new : OrderedTree} → Keeps x y → RootAlone o stood row → ElementChanged x y i row new → RootAlone o stood new
  root_changed f alone.root_ends e = absurd (none_changed e)
  root_changed {stood = stood} f (alone.root_trivia {content = content} h g) e =
      elim (meets_first e) [
        | here a p b q k ↦ absurd (no_element content q (trivia_over o content h))
        | over {rest = rest} q k s ↦ subst (RootAlone o stood) (sym s) (alone.root_trivia h (root_changed f g k))
        | beyond a q k s ↦ absurd (no_element content q (trivia_over o content h))
      ]
  root_changed {x} f (alone.root_value {content = content} v g) e =
      elim (meets_first e) [
        | here a p b q s ↦ subst (RootAlone o false) (sym s) (alone.root_value (f (value_as x p b v)) g)
        | over q k s ↦ absurd (no_element content (alone_element v) q)
        | beyond {rest = rest} a q k s ↦ subst (RootAlone o false) (sym s) (alone.root_value v (root_changed f g k))
      ]

  pub document_changed : {was now : Top} {path : List ℕ} {t u : OrderedTree} → Keeps was now → DocumentChanged was now path t u → DocumentAlone o t → DocumentAlone o u
  document_changed f (in_root {row = row} {new = new} e h) (below, same, g) =
      let first : below ≡ row = cc in
      (new, refl, root_changed (value_changed f h) (subst (RootAlone o false) first g) e)

  -- at the seams of a value
  pub shaped_at_seams : (t : OrderedTree) → DocumentShaped o t → (was now : Top) (path : List ℕ) (u : OrderedTree) → DocumentChanged was now path t u → ValueAlone o now.content now.below
      → (d : DiffersIn (leaves_of was) (leaves_of now) (leaves t) (leaves u)) → LastEnds o d.front (follower (leaves_of now ++ d.back) None) → LeavesEnd o (leaves_of now) (follower d.back None)
      → DocumentShaped o u
  shaped_at_seams t s was now path u c v d before behind =
      document_shaped o (document_changed (λ x. v) c (document_alone o s)) (seams_serve o (leaves_of was) (leaves_of now) (leaves t) (leaves u) (document_leaves o s) d before behind)

  pub sound_at_seams : (t : OrderedTree) → Sound o t → (was now : Top) (path : List ℕ) (u : OrderedTree) → DocumentChanged was now path t u → ValueAlone o now.content now.below → LinesEnd false now.below
      → (d : DiffersIn (leaves_of was) (leaves_of now) (leaves t) (leaves u)) → LastEnds o d.front (follower (leaves_of now ++ d.back) None) → LeavesEnd o (leaves_of now) (follower d.back None)
      → Sound o u
  sound_at_seams t s was now path u c v l d before behind = record { shaped = shaped_at_seams t s.shaped was now path u c v d before behind; lines = document_lines l c s.lines }
