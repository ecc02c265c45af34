-- Where an entry leaves a sound tree, it leaves the text so.
use Rattle.std.proofs.Common.{ℕ, ◌+◌, ◌≡◌, ◌∙◌, sym, ap, subst, refl, Bool, true, false, List, [], ◌∷◌, ◌++◌, Option, chars, arith, encode_utf8}
use Rattle.std.proofs.lemmas.List.{append_assoc, append-nil}
use Rattle.jsonc_text.specs.Options.{Options}
use Rattle.jsonc_text.specs.Plain.{Plain}
use Rattle.jsonc_tree.specs.Content.{Content, token}
use Rattle.jsonc_tree.specs.OrderedTree.{OrderedTree, none, leaves, Top}
use Rattle.jsonc_sound.specs.Shape as shape
use Rattle.jsonc_sound.specs.Shape.{ValueShaped, token_then, printed_text}
use Rattle.jsonc_sound.specs.Leaving.{AreInlineTrivia, IsRestOfLine, LeavesBehind}
use Rattle.jsonc_sound.specs.Rows.{RowKind, of_values, of_properties, container_of}
use Rattle.jsonc_sound.specs.SoundTrees.{SoundTree}
use Rattle.jsonc_sound.specs.TreeChanges.{IsElement, leaves_of, property_of, ElementChanged, DocumentChanged}
use Rattle.jsonc_sound.proofs.Texts.{AllUtf8}
use Rattle.jsonc_run.specs.texts.Paths.{Entry}
use Rattle.jsonc_run.specs.texts.Stretches.{Parted}
use Rattle.jsonc_run.specs.promise.PlaceLaws.{text_of_leaves}
use Rattle.jsonc_run.proofs.lemmas.promise.Entries.{value_stands_in, property_stands_in}
use Rattle.jsonc_run.proofs.lemmas.promise.Leaves.{row_back, back_of, text_joined, utf8_first, utf8_second, document_utf8}
use Rattle.jsonc_run.proofs.lemmas.promise.StretchElements.{Reached, past_comma, property_top}
use Rattle.jsonc_sound.specs.Documents.{document_of}
use Rattle.jsonc_sound.proofs.ShapeValues.{comma_mark}
use Rattle.jsonc_run.proofs.lemmas.promise.Stretches.{Begins, beside_begins, marks_in, parted, property_begins, value_begins}
pub use Rattle.jsonc_run.proofs.lemmas.promise.Stretches.{pieces_first, pieces_second}
use Rattle.jsonc_sound.proofs.FirstNodes.{none_changed}
use Rattle.jsonc_run.proofs.lemmas.promise.Values.{top_same, array_place, object_place, past_trivia, past_token, node_leaves, at_the_place}

-- the comma, and what it prints
pub comma_text : text_of_leaves (token 0x2C ∷ []) ≡ 0x2C ∷ []
comma_text = ap chars (append-nil (encode_utf8 0x2C) ∙ comma_mark.bytes) ∙ comma_mark.text

pub text_cons : (a b : List Content) {x : List ℕ} → AllUtf8 (a ++ b) → text_of_leaves b ≡ x → text_of_leaves (a ++ b) ≡ text_of_leaves a ++ x
text_cons a b u e = text_joined a b (utf8_first a b u) ∙ ap (λ l. text_of_leaves a ++ l) e

-- the comma that leaves, if one does, and what stands behind the entry
pub data Commas : Bool → List Content → List Content → List Content → Type 0 where
  behind_it : {between line : List Content} → LeavesBehind between line → Commas true [] [] (between ++ (token 0x2C ∷ line))
  ahead_of_it : {line : List Content} (mid : List Content) → IsRestOfLine line → Commas false (token 0x2C ∷ []) mid line
  nowhere : {line : List Content} → IsRestOfLine line → Commas false [] [] line

pub none_more : (n : ℕ) → n + 0 ≡ n
none_more n = omega arith

-- what these print
module _ (o : Options) where
  pub comma_then : (rest : List Content) → AllUtf8 (token 0x2C ∷ rest) → text_of_leaves (token 0x2C ∷ rest) ≡ 0x2C ∷ text_of_leaves rest
  comma_then rest u = text_joined (token 0x2C ∷ []) rest (u.0, tt) ∙ ap (λ l. l ++ text_of_leaves rest) comma_text

  -- an element of an object is a property
  is_property : {x y : Top} {row : OrderedTree} {r : List ℕ} → ValueShaped o Content.object (token_then 0x7B row) r → {i : ℕ} {new : OrderedTree} → ElementChanged x y i row new → x.content ≡ Content.property
  is_property (shape.empty_object g) e = absurd (none_changed (past_token o 0x7D (past_trivia o g e).changed).changed)
  is_property (shape.object g ps) e = property_top o ps (past_trivia o g e).changed

  property_is : (x : Top) → x.content ≡ Content.property → property_of x.below ≡ x
  property_is x e = top_same (property_of x.below) x (sym e) refl

  -- the entry stands at its place
  pub entry_there : (kind : RowKind) {top : Top} {i : ℕ} {row new : OrderedTree} {path : List ℕ} {t u : OrderedTree} {rest : List Content} → SoundTree o t → (d : DocumentChanged (container_of kind row) (container_of kind new) path t u)
      → ((y : Top) → IsElement y.content → Reached top y i row rest)
      → Entry (path ++ i ∷ []) o (printed_text t) (text_of_leaves (leaves_of top) ++ (text_of_leaves rest ++ text_of_leaves (back_of d))) (text_of_leaves rest ++ text_of_leaves (back_of d))
  entry_there of_values {top} {i} {path = path} {t = t} {rest = rest} s d reach =
      let r = past_comma 0x5B (reach (record { content = Content.null; below = none }) refl) in
      subst (λ l. Entry (path ++ i ∷ []) o (printed_text t) (text_of_leaves (leaves_of top) ++ (text_of_leaves l ++ text_of_leaves (back_of d))) (text_of_leaves l ++ text_of_leaves (back_of d))) r.same
      (subst (λ w. Entry (path ++ i ∷ []) o (printed_text t) (w ++ (text_of_leaves (row_back r.changed) ++ text_of_leaves (back_of d))) (text_of_leaves (row_back r.changed) ++ text_of_leaves (back_of d))) (node_leaves o top) (value_stands_in o s d r.changed))
  entry_there of_properties {top} {i} {row} {path = path} {t = t} {rest = rest} s d reach =
      let here = (at_the_place o s d).2 in
      let first = reach (record { content = Content.null; below = none }) refl in
      let same : top ≡ property_of top.below = sym (property_is top (is_property here.shaped first.changed)) in
      let r = past_comma 0x7B (subst (λ x. Reached x (property_of none) i row rest) same (reach (property_of none) refl)) in
      subst (λ l. Entry (path ++ i ∷ []) o (printed_text t) (text_of_leaves (leaves_of top) ++ (text_of_leaves l ++ text_of_leaves (back_of d))) (text_of_leaves l ++ text_of_leaves (back_of d))) r.same
      (subst (λ w. Entry (path ++ i ∷ []) o (printed_text t) (w ++ (text_of_leaves (row_back r.changed) ++ text_of_leaves (back_of d))) (text_of_leaves (row_back r.changed) ++ text_of_leaves (back_of d))) (node_leaves o (property_of top.below) ∙ ap (λ x. text_of_leaves (leaves_of x)) (sym same)) (property_stands_in o s d r.changed))

  -- the text of the rest, one piece behind the other
  pub rest_pieces : (trail rest around back : List Content) → back ≡ rest ++ around → AllUtf8 (trail ++ back) → text_of_leaves (trail ++ rest) ++ text_of_leaves around ≡ text_of_leaves trail ++ text_of_leaves back
  rest_pieces trail rest around back e u =
      let trail_utf8 = utf8_first trail back u in
      let rest_utf8 : AllUtf8 rest = utf8_first rest around (subst AllUtf8 e (utf8_second trail back u)) in
      ap (λ l. l ++ text_of_leaves around) (text_joined trail rest trail_utf8)
      ∙ append_assoc (text_of_leaves trail) (text_of_leaves rest) (text_of_leaves around)
      ∙ ap (λ l. text_of_leaves trail ++ l) (sym (text_joined rest around rest_utf8) ∙ ap text_of_leaves (sym e))

  -- before it on its line stands nothing but whitespace
  pub entry_begins : (kind : RowKind) {top : Top} {i : ℕ} {row new : OrderedTree} {path : List ℕ} {t u : OrderedTree} {rest : List Content} → SoundTree o t → (d : DocumentChanged (container_of kind row) (container_of kind new) path t u)
      → ((y : Top) → IsElement y.content → Reached top y i row rest) → (behind : List Content) → Begins (leaves_of top ++ behind)
  entry_begins of_values s d reach behind =
      let r = past_comma 0x5B (reach (record { content = Content.null; below = none }) refl) in
      value_begins o behind (array_place o (text_of_leaves (back_of d)) r.changed (at_the_place o s d).2).0.shaped
  entry_begins of_properties {top} {i} {row} {rest = rest} s d reach behind =
      let here = (at_the_place o s d).2 in
      let first = reach (record { content = Content.null; below = none }) refl in
      let same : top ≡ property_of top.below = sym (property_is top (is_property here.shaped first.changed)) in
      let r = past_comma 0x7B (subst (λ x. Reached x (property_of none) i row rest) same (reach (property_of none) refl)) in
      subst (λ (x : Top). Begins (leaves_of x ++ behind)) (sym same) (property_begins o behind (object_place o (text_of_leaves (back_of d)) r.changed here).0.shaped)

  -- the marks of what leaves with an element: of what stands directly before it, its own, and of what stands behind it
  pub gone_parted : {t : OrderedTree} → SoundTree o t → (w : Option Plain) (front lead own trail tail back : List Content) (text : List ℕ) → leaves t ≡ front ++ (lead ++ (own ++ (trail ++ (tail ++ back)))) → AreInlineTrivia lead
      → Begins (own ++ (trail ++ (tail ++ back))) → text_of_leaves tail ≡ text
      → Parted (document_of o t w) (text_of_leaves lead ++ (text_of_leaves own ++ (text_of_leaves trail ++ (text ++ text_of_leaves back)))) (text_of_leaves back) (marks_in front) (marks_in (lead ++ (own ++ (trail ++ tail)))) (marks_in back)
  gone_parted s w front lead own trail tail back text parts beside begins e =
      let whole : List Content = lead ++ (own ++ (trail ++ (tail ++ back))) in
      let same : whole ≡ (lead ++ (own ++ (trail ++ tail))) ++ back = regroup lead own trail tail back in
      let u0 = utf8_second front whole (subst AllUtf8 parts (document_utf8 o s.shaped)) in
      let u1 = utf8_second lead (own ++ (trail ++ (tail ++ back))) u0 in
      let u2 = utf8_second own (trail ++ (tail ++ back)) u1 in
      let u3 = utf8_second trail (tail ++ back) u2 in
      let all = text_cons lead (own ++ (trail ++ (tail ++ back))) u0 (text_cons own (trail ++ (tail ++ back)) u1 (text_cons trail (tail ++ back) u2 (text_joined tail back (utf8_first tail back u3) ∙ ap (λ l. l ++ text_of_leaves back) e))) in
      parted o s w front (lead ++ (own ++ (trail ++ tail))) back (parts ∙ ap (λ l. front ++ l) same) (subst Begins same (beside_begins lead (own ++ (trail ++ (tail ++ back))) beside begins)) (ap text_of_leaves (sym same) ∙ all) refl
    where
      regroup : (a b c d e : List Content) → a ++ (b ++ (c ++ (d ++ e))) ≡ (a ++ (b ++ (c ++ d))) ++ e
      regroup a b c d e = simp (append_assoc) refl

-- the comma that leaves has no mark
pub comma_unmarked : {b : Bool} {c m line : List Content} → Commas b c m line → marks_in c ≡ []
comma_unmarked (behind_it h) = refl
comma_unmarked (ahead_of_it m h) = refl
comma_unmarked (nowhere h) = refl
