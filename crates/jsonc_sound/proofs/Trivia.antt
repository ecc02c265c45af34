-- Trivia is replaced by trivia in a document node by node.
use Rattle.std.proofs.Common.{ℕ, ◌≡◌, sym, subst, refl, Bool, true, false, not, List, [], ◌∷◌, ◌++◌, Option, None, IsTrue, inl, inr}
use Rattle.jsonc_text.specs.Options.{Options}
use Rattle.jsonc_text.proofs.Basics.{clash}
use Rattle.jsonc_tree.specs.Content.{Content, token}
use Rattle.jsonc_tree.specs.OrderedTree.{OrderedTree, leaves, followed_by}
use Rattle.jsonc_layout.specs.nodes.Kinds.{is_trivia}
use Rattle.jsonc_sound.specs.Lines.{DocumentLinesEnd}
use Rattle.jsonc_sound.specs.Shape.{Trivia, DocumentShaped}
use Rattle.jsonc_sound.specs.ChangeLaws.{DiffersIn}
use Rattle.jsonc_sound.specs.Rows as rows
use Rattle.jsonc_sound.specs.Rows.{RowKind, closing, Last}
use Rattle.jsonc_sound.specs.Sound.{Sound}
use Rattle.jsonc_sound.specs.TriviaChanges.{AreTrivia, AreTriviaOf, leaves_then, LeavesChanged, StretchChanged, in_root, inside}
use Rattle.jsonc_sound.proofs.FirstNodes.{name_element}
use Rattle.jsonc_sound.proofs.Stretches.{Open, AtFront, Behind, later_on, below_it, Carried, none_changed, none_behind, none_open, at_front_or_behind, leaves_open, behind_solid, open_after, any_fits, solid_element, leaf_behind, only_node, trivia_passed, marked_passed}
use Rattle.jsonc_sound.specs.Adjacent.{follower, LeavesEnd, LastEnds}
use Rattle.jsonc_sound.specs.Alone as alone
use Rattle.jsonc_sound.specs.Alone.{ValueAlone, PartAlone, RowAlone, PropertyAlone, RootAlone, DocumentAlone}
use Rattle.jsonc_sound.proofs.NodesAlone.{document_alone, document_leaves, document_shaped, trivia_any}
use Rattle.jsonc_sound.proofs.Changed.{alone_element, part_element}
use Rattle.jsonc_sound.proofs.Leaves.{seams_serve}

abbrev Anything : OrderedTree → OrderedTree → Type 0
Anything x y = Unit {0}

anything : Carried Anything
anything = record { over_it = λ n. tt; under_it = λ n. tt }

solid_mark : (content : Content) → IsTrue (not (is_trivia content)) → IsTrue (is_trivia content) → ⊥
solid_mark content h k = clash (is_trivia content) h k

module _ (o : Options) (was now : List Content) (old : AreTrivia was) (allowed : AreTriviaOf o now) where
  -- leaves before a row
  row_put : {kind : RowKind} {last : Last} {row : OrderedTree} (cs : List Content) → AreTriviaOf o cs → RowAlone o kind last row → RowAlone o kind last (leaves_then cs row)
  row_put [] h g = g
  row_put (c ∷ cs) h g = alone.trivia h.0 (row_put cs h.1 g)

  row_taken : {kind : RowKind} {last : Last} {row : OrderedTree} (cs : List Content) (back : OrderedTree) → AreTrivia cs → RowAlone o kind last row → row ≡ leaves_then cs back → RowAlone o kind last back
  row_taken {kind} {last} [] back h g e = subst (RowAlone o kind last) e g
  row_taken (c ∷ cs) back h (alone.closes {kind = kind} m) e = let same : token (closing kind) ≡ c = cc in absurd (solid_mark c (subst (λ x. IsTrue (not (is_trivia x))) same refl) h.0)
  row_taken (c ∷ cs) back h (alone.trivia {after = after} t g) e = let same : after ≡ leaves_then cs back = cc in row_taken cs back h.1 g same
  row_taken (c ∷ cs) back h (alone.element {content = content} m p g) e = let same : content ≡ c = cc in absurd (solid_mark c (subst (λ x. IsTrue (not (is_trivia x))) same (solid_element content (part_element o p))) h.0)
  row_taken (c ∷ cs) back h (alone.comma g) e = let same : token 0x2C ≡ c = cc in absurd (solid_mark c (subst (λ x. IsTrue (not (is_trivia x))) same refl) h.0)

  front_kept : {at_end : Bool} {kind : RowKind} {last : Last} {row new : OrderedTree} → RowAlone o kind last row → AtFront was now at_end row new → RowAlone o kind last new
  front_kept {kind = kind} {last = last} g f = subst (RowAlone o kind last) (sym f.new_is) (row_put now allowed (row_taken was f.back old g f.old_is))

  mutual
    row_behind : {kind : RowKind} {last : Last} {row new : OrderedTree} → RowAlone o kind last row → Behind was now false row new → RowAlone o kind last new
    row_behind (alone.closes m) b = absurd (none_open (leaf_behind b).2)
    row_behind {kind} {last} (alone.trivia h g) b =
        let rest = leaf_behind b in
        subst (RowAlone o kind last) (sym rest.1) (alone.trivia h (elim (at_front_or_behind rest.2) [ inl f ↦ front_kept g f | inr k ↦ row_behind g k ]))
    row_behind (alone.element m p g) (later_on h) = alone.element m p (elim (at_front_or_behind h) [ inl f ↦ front_kept g f | inr k ↦ row_behind g k ])
    row_behind (alone.element m p g) (below_it h) = alone.element m (part_behind p h) g
    row_behind {kind} (alone.comma g) b =
        let rest = leaf_behind b in
        subst (RowAlone o kind rows.an_element) (sym rest.1) (alone.comma (elim (at_front_or_behind rest.2) [ inl f ↦ front_kept g f | inr k ↦ row_behind g k ]))

    part_behind : {kind : RowKind} {content : Content} {below new : OrderedTree} → PartAlone o kind content below → LeavesChanged was now below new → PartAlone o kind content new
    part_behind (alone.a_value v) h = alone.a_value (value_behind v h)
    part_behind (alone.a_property p) h = alone.a_property (property_behind p h)

    value_behind : {content : Content} {below new : OrderedTree} → ValueAlone o content below → LeavesChanged was now below new → ValueAlone o content new
    value_behind (alone.literal h) k = absurd (none_changed k)
    value_behind (alone.an_array g) k =
        let rest = leaf_behind (behind_solid old refl k) in
        subst (ValueAlone o Content.array) (sym rest.1) (alone.an_array (elim (at_front_or_behind rest.2) [ inl f ↦ front_kept g f | inr b ↦ row_behind g b ]))
    value_behind (alone.an_object g) k =
        let rest = leaf_behind (behind_solid old refl k) in
        subst (ValueAlone o Content.object) (sym rest.1) (alone.an_object (elim (at_front_or_behind rest.2) [ inl f ↦ front_kept g f | inr b ↦ row_behind g b ]))

    property_behind : {row new : OrderedTree} → PropertyAlone o row → LeavesChanged was now row new → PropertyAlone o new
    property_behind (alone.named {name = name} {content = content} {below = below} n g h v) k =
        let rest = leaf_behind (behind_solid old (solid_element name (name_element o name [] n)) k) in
        subst (PropertyAlone o) (sym rest.1)
        (elim (marked_passed o was now old allowed Anything anything g rest.2 tt) [
          | inl i ↦ alone.named n i h v
          | inr m ↦
              elim (trivia_passed o was now old allowed Anything anything h (solid_element content (alone_element o v)) m.2 tt) [
                | inl i ↦ alone.named n m.1 i v
                | inr l ↦ (let only = only_node l.2 in alone.named n m.1 (subst (Trivia o m.0) only.1 l.1) (value_behind v only.2))
              ]
        ])

  -- the root's row
  root_put : {stood : Bool} {row : OrderedTree} (cs : List Content) → AreTriviaOf o cs → RootAlone o stood row → RootAlone o stood (leaves_then cs row)
  root_put [] h g = g
  root_put (c ∷ cs) h g = alone.root_trivia h.0 (root_put cs h.1 g)

  root_taken : {stood : Bool} {row : OrderedTree} (cs : List Content) (back : OrderedTree) → AreTrivia cs → RootAlone o stood row → row ≡ leaves_then cs back → RootAlone o stood back
  root_taken {stood} [] back h g e = subst (RootAlone o stood) e g
  root_taken (c ∷ cs) back h alone.root_ends e = cc
  root_taken (c ∷ cs) back h (alone.root_trivia {after = after} t g) e = let same : after ≡ leaves_then cs back = cc in root_taken cs back h.1 g same
  root_taken (c ∷ cs) back h (alone.root_value {content = content} v g) e = let same : content ≡ c = cc in absurd (solid_mark c (subst (λ x. IsTrue (not (is_trivia x))) same (solid_element content (alone_element o v))) h.0)

  root_front : {at_end : Bool} {stood : Bool} {row new : OrderedTree} → RootAlone o stood row → AtFront was now at_end row new → RootAlone o stood new
  root_front {stood = stood} g f = subst (RootAlone o stood) (sym f.new_is) (root_put now allowed (root_taken was f.back old g f.old_is))

  root_behind : {stood : Bool} {row new : OrderedTree} → RootAlone o stood row → Behind was now true row new → RootAlone o stood new
  root_behind alone.root_ends b = absurd (none_behind b)
  root_behind {stood} (alone.root_trivia h g) b =
      let rest = leaf_behind b in
      subst (RootAlone o stood) (sym rest.1) (alone.root_trivia h (elim (at_front_or_behind rest.2) [ inl f ↦ root_front g f | inr k ↦ root_behind g k ]))
  root_behind (alone.root_value v g) (later_on h) = alone.root_value v (elim (at_front_or_behind h) [ inl f ↦ root_front g f | inr k ↦ root_behind g k ])
  root_behind (alone.root_value v g) (below_it h) = alone.root_value (value_behind v h) g

  root_kept : {row new : OrderedTree} → RootAlone o false row → Open was now true row new → RootAlone o false new
  root_kept g k = elim (at_front_or_behind k) [ inl f ↦ root_front g f | inr b ↦ root_behind g b ]

  pub nodes_kept : {t u : OrderedTree} → DocumentAlone o t → StretchChanged was now t u → DocumentAlone o u
  nodes_kept (below, same, g) (in_root front back) =
      let first : below ≡ followed_by front (leaves_then was back) = cc in
      (followed_by front (leaves_then now back), refl, root_kept (subst (RootAlone o false) first g) (open_after front back (any_fits was back)))
  nodes_kept (below, same, g) (inside {row = row} {new = new} k) =
      let first : below ≡ row = cc in
      (new, refl, root_kept (subst (RootAlone o false) first g) (leaves_open true k))

trivia_end : (o : Options) (cs : List Content) (n : Option ℕ) → AreTriviaOf o cs → LeavesEnd o cs n
trivia_end o [] n h = tt
trivia_end o (c ∷ cs) n h = (trivia_any o c (follower cs n) h.0, trivia_end o cs n h.1)

pub shaped_with_trivia : (o : Options) (t : OrderedTree) → DocumentShaped o t → (was now : List Content) (u : OrderedTree) → StretchChanged was now t u → AreTrivia was → AreTriviaOf o now
    → (d : DiffersIn was now (leaves t) (leaves u)) → LastEnds o d.front (follower (now ++ d.back) None) → DocumentShaped o u
shaped_with_trivia o t s was now u k old allowed d e =
    document_shaped o (nodes_kept o was now old allowed (document_alone o s) k) (seams_serve o was now (leaves t) (leaves u) (document_leaves o s) d e (trivia_end o now (follower d.back None) allowed))

pub sound_with_trivia : (o : Options) (t : OrderedTree) → Sound o t → (was now : List Content) (u : OrderedTree) → StretchChanged was now t u → AreTrivia was → AreTriviaOf o now → DocumentLinesEnd u
    → (d : DiffersIn was now (leaves t) (leaves u)) → LastEnds o d.front (follower (now ++ d.back) None) → Sound o u
sound_with_trivia o t s was now u k old allowed l d e = record { shaped = shaped_with_trivia o t s.shaped was now u k old allowed d e; lines = l }
