-- Where trailing commas leave a sound tree, they leave the text: behind each a gap leads to a last bracket.
use Rattle.std.proofs.Common.{ℕ, ◌≡◌, ◌∙◌, sym, ap, subst, refl, Bool, true, false, not, ◌&&◌, ◌||◌, List, [], ◌∷◌, ◌++◌, IsTrue}
use Rattle.std.proofs.lemmas.List.{append_assoc, append-nil}
use Rattle.std.proofs.lemmas.Str.{chars-nil}
use Rattle.jsonc_text.specs.Options.{Options}
use Rattle.jsonc_text.specs.Gaps.{Gap}
use Rattle.jsonc_run.specs.texts.Paths as places
use Rattle.jsonc_tree.specs.Content.{Content, token}
use Rattle.jsonc_tree.specs.OrderedTree.{OrderedTree, none, more, own_leaf, leaves}
use Rattle.jsonc_layout.specs.nodes.Kinds.{is_comma, is_token, is_trivia}
use Rattle.jsonc_sound.specs.Alone as alone
use Rattle.jsonc_sound.specs.Alone.{ValueAlone, PartAlone, RowAlone, PropertyAlone, RootAlone}
use Rattle.jsonc_sound.specs.Lines.{is_loose, LinesEndLoosely, DocumentLinesEndLoosely}
use Rattle.jsonc_sound.specs.Rows as rows
use Rattle.jsonc_sound.specs.Rows.{RowKind, of_values, of_properties, closing, Last}
use Rattle.jsonc_sound.specs.Shape as shape
use Rattle.jsonc_sound.specs.Shape.{IsNameBefore, IsTrivia, Trivia, token_then, printed_text}
use Rattle.jsonc_sound.specs.SoundTrees.{SoundTree}
use Rattle.jsonc_sound.specs.TreeChanges.{IsElement}
use Rattle.jsonc_sound.proofs.Changed.{alone_element, part_element}
use Rattle.jsonc_sound.proofs.LooseLines.{trivia_gap}
use Rattle.jsonc_sound.proofs.NodesAlone.{document_alone}
use Rattle.jsonc_sound.proofs.Texts.{AllUtf8}
use Rattle.jsonc_edit.specs.commas.Laws as losing
use Rattle.jsonc_edit.specs.commas.Laws.{LosesCommas, closes_next}
use Rattle.jsonc_run.specs.promise.PlaceLaws.{text_of_leaves}
use Rattle.jsonc_run.specs.texts.Edits as texts
use Rattle.jsonc_run.specs.texts.Edits.{LosesTrailing}
use Rattle.jsonc_run.proofs.lemmas.promise.Leaves.{document_utf8, text_joined, utf8_first, utf8_second}
use Rattle.jsonc_run.proofs.lemmas.promise.LooseRows.{kind_of_row}
use Rattle.jsonc_sound.proofs.ShapeValues.{close_bracket_mark, close_brace_mark, closing_text}
use Rattle.jsonc_run.proofs.lemmas.promise.RemovedTexts.{comma_text}

-- what has become of a row
data Lost (content : Content) (below after new : OrderedTree) : Type 0 where
  kept : (under rest : OrderedTree) → new ≡ more content under rest → LosesCommas below under → LosesCommas after rest → Lost content below after new
  gone : content ≡ token 0x2C → IsTrue (closes_next after) → LosesCommas after new → Lost content below after new

lost : {content : Content} {below after new : OrderedTree} → LosesCommas (more content below after) new → Lost content below after new
lost (losing.stayed {under = under} {rest = rest} p q) = kept under rest refl p q
lost (losing.left p e q) = gone refl e q

none_lost : {new : OrderedTree} → LosesCommas none new → new ≡ none
none_lost losing.ended = refl

no_comma_closes : (kind : RowKind) → token (closing kind) ≡ token 0x2C → ⊥
no_comma_closes of_values e = let wrong : false ≡ true = ap is_comma e in cc
no_comma_closes of_properties e = let wrong : false ≡ true = ap is_comma e in cc

no_comma_is : (c : ℕ) → is_comma (token c) ≡ false → token c ≡ token 0x2C → ⊥
no_comma_is c h e = let wrong : false ≡ true = sym h ∙ ap is_comma e in cc

no_comma_part : (content : Content) → IsElement content → content ≡ token 0x2C → ⊥
no_comma_part content h e = let wrong : IsElement (token 0x2C) = subst IsElement e h in cc

closed_end : (kind : RowKind) (z : List ℕ) → printed_text (token_then (closing kind) none) ++ z ≡ places.closing (kind_of_row kind) ∷ z
closed_end of_values z = closing_text close_bracket_mark z
closed_end of_properties z = closing_text close_brace_mark z

module _ (o : Options) where
  same_first : (s : List ℕ) {x y : List ℕ} → LosesTrailing o x y → LosesTrailing o (s ++ x) (s ++ y)
  same_first [] h = h
  same_first (c ∷ s) h = texts.keeps (same_first s h)

  pub none_leave : (s : List ℕ) → LosesTrailing o s s
  none_leave [] = texts.no_more
  none_leave (c ∷ s) = texts.keeps (none_leave s)

  -- behind a comma where the row closes stands trivia alone before the bracket
  not_last : (content : Content) (below : OrderedTree) → IsElement content → (after : OrderedTree) → IsTrue (closes_next (more content below after)) → ⊥
  not_last content below h none e = by content h e
    where
      by : (c : Content) → IsElement c → IsTrue (is_token c && not (is_comma c)) → ⊥
      by (token c) k f = cc
      by c k f = cc
  not_last content below h (more c b a) e = by content h e
    where
      by : (d : Content) → IsElement d → IsTrue ((is_trivia d || is_comma d) && closes_next (more c b a)) → ⊥
      by (Content.whitespace s) k f = cc
      by (Content.newline s) k f = cc
      by (Content.comment s) k f = cc
      by (token d) k f = cc
      by d k f = cc

  later_closes : (content : Content) (after : OrderedTree) → IsTrivia o content → IsTrue (closes_next (more content none after)) → IsTrue (closes_next after)
  later_closes (Content.whitespace s) none h e = cc
  later_closes (Content.newline s) none h e = cc
  later_closes (Content.comment s) none h e = cc
  later_closes (Content.whitespace s) (more c b a) h e = e
  later_closes (Content.newline s) (more c b a) h e = e
  later_closes (Content.comment s) (more c b a) h e = e
  later_closes content after h e = absurd h

  closes_behind : {kind : RowKind} {last : Last} {row : OrderedTree} → RowAlone o kind last row → last ≡ rows.a_comma → IsTrue (closes_next row) → Trivia o row (token_then (closing kind) none)
  closes_behind (alone.closes m) e h = shape.nothing
  closes_behind (alone.trivia {content = content} {after = after} t g) e h = shape.trivia t (closes_behind g e (later_closes content after t h))
  closes_behind (alone.element {content = content} {below = below} {after = after} m p g) e h = absurd (not_last content below (part_element o p) after h)
  closes_behind (alone.comma g) e h = cc

  -- a node, and what stands behind it
  leaf_text : (content : Content) (after : OrderedTree) (z : List ℕ) → AllUtf8 (own_leaf content ++ leaves after) → text_of_leaves (leaves (more content none after)) ++ z ≡ text_of_leaves (own_leaf content) ++ (text_of_leaves (leaves after) ++ z)
  leaf_text content after z u = ap (λ l. l ++ z) (text_joined (own_leaf content) (leaves after) (utf8_first (own_leaf content) (leaves after) u)) ∙ append_assoc (text_of_leaves (own_leaf content)) (text_of_leaves (leaves after)) z

  -- the leaves that have stayed are characters too
  utf8_kept : {t u : OrderedTree} → LosesCommas t u → AllUtf8 (leaves t) → AllUtf8 (leaves u)
  utf8_kept losing.ended h = h
  utf8_kept (losing.stayed {content = content} {below = below} {under = under} {after = after} {rest = rest} p q) h =
      let first = utf8_first (own_leaf content) (leaves below ++ leaves after) h in
      let others = utf8_second (own_leaf content) (leaves below ++ leaves after) h in
      joined (own_leaf content) (leaves under ++ leaves rest) first (joined (leaves under) (leaves rest) (utf8_kept p (utf8_first (leaves below) (leaves after) others)) (utf8_kept q (utf8_second (leaves below) (leaves after) others)))
    where
      joined : (a b : List Content) → AllUtf8 a → AllUtf8 b → AllUtf8 (a ++ b)
      joined [] b u v = v
      joined (c ∷ a) b u v = (u.0, joined a b u.1 v)
  utf8_kept (losing.left {below = below} {after = after} p e q) h = utf8_kept q (utf8_second (leaves below) (leaves after) h.1)

  -- a leaf that stays
  leaf_stays : (content : Content) (z w : List ℕ) {after rest : OrderedTree} → AllUtf8 (own_leaf content ++ leaves after) → LosesCommas after rest → LosesTrailing o (text_of_leaves (leaves after) ++ z) (text_of_leaves (leaves rest) ++ w)
      → {new under : OrderedTree} → new ≡ more content under rest → under ≡ none → LosesTrailing o (text_of_leaves (leaves (more content none after)) ++ z) (text_of_leaves (leaves new) ++ w)
  leaf_stays content z w {after} {rest} u q h {new} {under} e f =
      let first = utf8_first (own_leaf content) (leaves after) u in
      let was = leaf_text content after z u in
      let now : text_of_leaves (leaves new) ++ w ≡ text_of_leaves (own_leaf content) ++ (text_of_leaves (leaves rest) ++ w) =
      ap (λ t. text_of_leaves (leaves t) ++ w) e ∙ ap (λ t. text_of_leaves (leaves (more content t rest)) ++ w) f ∙ ap (λ l. l ++ w) (text_joined (own_leaf content) (leaves rest) first) ∙ append_assoc (text_of_leaves (own_leaf content)) (text_of_leaves (leaves rest)) w in
      subst (λ x. LosesTrailing o x (text_of_leaves (leaves new) ++ w)) (sym was) (subst (LosesTrailing o (text_of_leaves (own_leaf content) ++ (text_of_leaves (leaves after) ++ z))) (sym now) (same_first (text_of_leaves (own_leaf content)) h))

  -- a node with what is below it
  abbrev node_text : Content → OrderedTree → List ℕ
  node_text content below = text_of_leaves (own_leaf content ++ leaves below)

  node_split : (content : Content) (below after : OrderedTree) (z : List ℕ) → AllUtf8 (own_leaf content ++ (leaves below ++ leaves after)) → text_of_leaves (leaves (more content below after)) ++ z ≡ node_text content below ++ (text_of_leaves (leaves after) ++ z)
  node_split content below after z u =
      let v : AllUtf8 ((own_leaf content ++ leaves below) ++ leaves after) = subst AllUtf8 (sym (append_assoc (own_leaf content) (leaves below) (leaves after))) u in
      ap (λ l. text_of_leaves l ++ z) (sym (append_assoc (own_leaf content) (leaves below) (leaves after)))
      ∙ ap (λ l. l ++ z) (text_joined (own_leaf content ++ leaves below) (leaves after) (utf8_first (own_leaf content ++ leaves below) (leaves after) v))
      ∙ append_assoc (node_text content below) (text_of_leaves (leaves after)) z

  node_utf8 : (content : Content) (below after : OrderedTree) → AllUtf8 (own_leaf content ++ (leaves below ++ leaves after)) → AllUtf8 (own_leaf content ++ leaves below)
  node_utf8 content below after u = utf8_first (own_leaf content ++ leaves below) (leaves after) (subst AllUtf8 (sym (append_assoc (own_leaf content) (leaves below) (leaves after))) u)

  after_utf8 : (content : Content) (below after : OrderedTree) → AllUtf8 (own_leaf content ++ (leaves below ++ leaves after)) → AllUtf8 (leaves after)
  after_utf8 content below after u = utf8_second (leaves below) (leaves after) (utf8_second (own_leaf content) (leaves below ++ leaves after) u)

  node_stays : (content : Content) (below : OrderedTree) (z w : List ℕ) {after under rest new : OrderedTree} → AllUtf8 (own_leaf content ++ (leaves below ++ leaves after)) → LosesCommas below under → LosesCommas after rest → new ≡ more content under rest
      → LosesTrailing o (node_text content below ++ (text_of_leaves (leaves after) ++ z)) (node_text content under ++ (text_of_leaves (leaves rest) ++ w))
      → LosesTrailing o (text_of_leaves (leaves (more content below after)) ++ z) (text_of_leaves (leaves new) ++ w)
  node_stays content below z w {after} {under} {rest} {new} u p q e h =
      let v : AllUtf8 (leaves (more content under rest)) = utf8_kept (losing.stayed {content = content} p q) u in
      subst (λ x. LosesTrailing o x (text_of_leaves (leaves new) ++ w)) (sym (node_split content below after z u))
      (subst (λ t. LosesTrailing o (node_text content below ++ (text_of_leaves (leaves after) ++ z)) (text_of_leaves (leaves t) ++ w)) (sym e)
      (subst (LosesTrailing o (node_text content below ++ (text_of_leaves (leaves after) ++ z))) (sym (node_split content under rest w v)) h))

  abbrev Goes : OrderedTree → OrderedTree → List ℕ → List ℕ → Type 0
  Goes t u z w = LosesTrailing o (text_of_leaves (leaves t) ++ z) (text_of_leaves (leaves u) ++ w)

  -- trivia stays, and behind it goes what goes there
  trivia_without : (loose at_end : Bool) (z w : List ℕ) {t r : OrderedTree} → Trivia o t r → LinesEndLoosely loose at_end t → AllUtf8 (leaves t) → {new : OrderedTree} → LosesCommas t new
      → ((next : OrderedTree) → LinesEndLoosely loose at_end r → AllUtf8 (leaves r) → LosesCommas r next → Goes r next z w) → Goes t new z w
  trivia_without loose at_end z w shape.nothing l u {new} h f = f new l u h
  trivia_without loose at_end z w (shape.trivia {content = content} {t = t} k g) l u h f =
      elim (lost h) [
        | kept under rest e p q ↦ leaf_stays content z w u q (trivia_without loose at_end z w g l.2 (utf8_second (own_leaf content) (leaves t) u) q f) e (none_lost p)
        | gone e c q ↦ absurd (subst (IsTrivia o) e k)
      ]

  mutual
    value_without : {content : Content} {below under : OrderedTree} {z w : List ℕ} → ValueAlone o content below → LinesEndLoosely (is_loose content) false below → AllUtf8 (own_leaf content ++ leaves below) → LosesCommas below under → LosesTrailing o z w
        → LosesTrailing o (node_text content below ++ z) (node_text content under ++ w)
    value_without {z = z} {w = w} (alone.literal {content = content} h) l u p k =
        subst (λ t. LosesTrailing o (node_text content none ++ z) (node_text content t ++ w)) (sym (none_lost p)) (same_first (node_text content none) k)
    value_without {z = z} {w = w} (alone.an_array {row = row} g) l u p k =
        elim (lost p) [
          | kept under rest e q r ↦ leaf_stays (token 0x5B) z w {after = row} u r (row_without g l.2 u.1 r k) e (none_lost q)
          | gone e c q ↦ absurd (no_comma_is 0x5B refl e)
        ]
    value_without {z = z} {w = w} (alone.an_object {row = row} g) l u p k =
        elim (lost p) [
          | kept under rest e q r ↦ leaf_stays (token 0x7B) z w {after = row} u r (row_without g l.2 u.1 r k) e (none_lost q)
          | gone e c q ↦ absurd (no_comma_is 0x7B refl e)
        ]

    part_without : {kind : RowKind} {content : Content} {below under : OrderedTree} {z w : List ℕ} → PartAlone o kind content below → LinesEndLoosely (is_loose content) false below → AllUtf8 (own_leaf content ++ leaves below) → LosesCommas below under → LosesTrailing o z w
        → LosesTrailing o (node_text content below ++ z) (node_text content under ++ w)
    part_without (alone.a_value v) l u p k = value_without v l u p k
    part_without (alone.a_property v) l u p k = property_without v l u p k

    row_without : {kind : RowKind} {last : Last} {row new : OrderedTree} {z w : List ℕ} → RowAlone o kind last row → LinesEndLoosely true false row → AllUtf8 (leaves row) → LosesCommas row new → LosesTrailing o z w → Goes row new z w
    row_without {kind} {z = z} {w = w} (alone.closes m) l u p k =
        elim (lost p) [
          | kept under rest e q r ↦ leaf_stays (token (closing kind)) z w {after = none} u r (subst (λ t. LosesTrailing o (text_of_leaves [] ++ z) (text_of_leaves (leaves t) ++ w)) (sym (none_lost r)) (same_first (text_of_leaves []) k)) e (none_lost q)
          | gone e c q ↦ absurd (no_comma_closes kind e)
        ]
    row_without {z = z} {w = w} (alone.trivia {content = content} {after = after} h g) l u p k =
        elim (lost p) [
          | kept under rest e q r ↦ leaf_stays content z w u r (row_without g l.2 (utf8_second (own_leaf content) (leaves after) u) r k) e (none_lost q)
          | gone e c q ↦ absurd (subst (IsTrivia o) e h)
        ]
    row_without {z = z} {w = w} (alone.element {content = content} {below = below} {after = after} m v g) l u p k =
        elim (lost p) [
          | kept under rest e q r ↦ node_stays content below z w u q r e (part_without v l.1 (node_utf8 content below after u) q (row_without g l.2 (after_utf8 content below after u) r k))
          | gone e c q ↦ absurd (no_comma_part content (part_element o v) e)
        ]
    row_without {kind} {new = new} {z = z} {w = w} (alone.comma {after = after} g) l u p k =
        elim (lost p) [
          | kept under rest e q r ↦ leaf_stays (token 0x2C) z w {after = after} u r (row_without g l.2 u.1 r k) e (none_lost q)
          | gone e c q ↦ (
              let trivia = closes_behind g refl c in
              let gap = subst (Gap o (printed_text after ++ z)) (closed_end kind z) (trivia_gap o z true false (λ e. cc) tt trivia l.2).0 in
              let was : text_of_leaves (leaves (token_then 0x2C after)) ++ z ≡ 0x2C ∷ (text_of_leaves (leaves after) ++ z) = leaf_text (token 0x2C) after z u ∙ ap (λ l. l ++ (text_of_leaves (leaves after) ++ z)) comma_text in
              subst (λ x. LosesTrailing o x (text_of_leaves (leaves new) ++ w)) (sym was) (texts.loses (kind_of_row kind) gap (row_without g l.2 u.1 q k)))
        ]

    property_without : {row under : OrderedTree} {z w : List ℕ} → PropertyAlone o row → LinesEndLoosely false false row → AllUtf8 (leaves row) → LosesCommas row under → LosesTrailing o z w → Goes row under z w
    property_without {z = z} {w = w} (alone.named {name = name} {content = content} {below = below} {after = after} {u = inner} n g h v) l u p k =
        elim (lost p) [
          | kept under rest e q r ↦ leaf_stays name z w u r
              (trivia_without false false z w g l.2 (utf8_second (own_leaf name) (leaves after) u) r (λ next l1 u1 p1.
              elim (lost p1) [
                | kept under1 rest1 e1 q1 r1 ↦ leaf_stays (token 0x3A) z w {after = inner} u1 r1
                    (trivia_without false false z w h l1.2 u1.1 r1 (λ next2 l2 u2 p2.
                    elim (lost p2) [
                      | kept under2 rest2 e2 q2 r2 ↦ node_stays content below z w {after = none} u2 q2 r2 e2
                          (value_without v l2.1 (node_utf8 content below none u2) q2 (subst (λ t. LosesTrailing o (text_of_leaves [] ++ z) (text_of_leaves (leaves t) ++ w)) (sym (none_lost r2)) (same_first (text_of_leaves []) k)))
                      | gone e2 c2 q2 ↦ absurd (no_comma_part content (alone_element o v) e2)
                    ])) e1 (none_lost q1)
                | gone e1 c1 q1 ↦ absurd (no_comma_is 0x3A refl e1)
              ])) e (none_lost q)
          | gone e c q ↦ absurd (subst (λ x. IsNameBefore o x []) e n)
        ]

  root_without : {stood : Bool} {row new : OrderedTree} {z w : List ℕ} → RootAlone o stood row → LinesEndLoosely false true row → AllUtf8 (leaves row) → LosesCommas row new → LosesTrailing o z w → Goes row new z w
  root_without {z = z} {w = w} alone.root_ends l u p k = subst (λ t. LosesTrailing o (text_of_leaves [] ++ z) (text_of_leaves (leaves t) ++ w)) (sym (none_lost p)) (same_first (text_of_leaves []) k)
  root_without {z = z} {w = w} (alone.root_trivia {content = content} {after = after} h g) l u p k =
      elim (lost p) [
        | kept under rest e q r ↦ leaf_stays content z w u r (root_without g l.2 (utf8_second (own_leaf content) (leaves after) u) r k) e (none_lost q)
        | gone e c q ↦ absurd (subst (IsTrivia o) e h)
      ]
  root_without {z = z} {w = w} (alone.root_value {content = content} {below = below} {after = after} v g) l u p k =
      elim (lost p) [
        | kept under rest e q r ↦ node_stays content below z w u q r e (value_without v l.1 (node_utf8 content below after u) q (root_without g l.2 (after_utf8 content below after u) r k))
        | gone e c q ↦ absurd (no_comma_part content (alone_element o v) e)
      ]

  root_lines : (row : OrderedTree) → DocumentLinesEndLoosely (more Content.root row none) → LinesEndLoosely false true row
  root_lines row (row2, e, l) = let same : row2 ≡ row = cc in subst (LinesEndLoosely false true) same l

  nothing_left : {t : OrderedTree} → t ≡ none → text_of_leaves (leaves t) ++ [] ≡ []
  nothing_left {t} e = append-nil (text_of_leaves (leaves t)) ∙ ap (λ x. text_of_leaves (leaves x)) e ∙ chars-nil

  -- so in the text of a document
  pub loses_trailing : {t u : OrderedTree} → SoundTree o t → LosesCommas t u → LosesTrailing o (printed_text t) (printed_text u)
  loses_trailing {t} {u} s h =
      let a = document_alone o s.shaped in
      let row : OrderedTree = a.0 in
      let t_is : t ≡ more Content.root row none = a.1 in
      let lines = root_lines row (subst DocumentLinesEndLoosely t_is s.lines) in
      let utf8 = subst (λ x. AllUtf8 (leaves x)) t_is (document_utf8 o s.shaped) in
      elim (lost (subst (λ x. LosesCommas x u) t_is h)) [
        | kept under rest e p q ↦ (
            let rest_is = none_lost q in
            let inner = root_without a.2 lines (utf8_first (leaves row) [] utf8) p texts.no_more in
            let was : text_of_leaves (leaves row) ++ [] ≡ printed_text t = append-nil (text_of_leaves (leaves row)) ∙ sym (ap text_of_leaves (append-nil (leaves row))) ∙ sym (ap printed_text t_is) in
            let now : text_of_leaves (leaves under) ++ [] ≡ printed_text u = append-nil (text_of_leaves (leaves under)) ∙ sym (ap text_of_leaves (append-nil (leaves under))) ∙ sym (ap printed_text e ∙ ap (λ r. printed_text (more Content.root under r)) rest_is) in
            subst (LosesTrailing o (printed_text t)) now (subst (λ x. LosesTrailing o x (text_of_leaves (leaves under) ++ [])) was inner))
        | gone e c q ↦ absurd (no_root e)
      ]
    where
      no_root : Content.root ≡ token 0x2C → ⊥
      no_root e = cc
