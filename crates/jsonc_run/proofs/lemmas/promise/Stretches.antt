-- The marks of a stretch of a sound tree's leaves are those of the stretch of its text.
use Rattle.std.proofs.Common.{ℕ, ◌≡◌, ◌∙◌, sym, ap, subst, refl, Bool, true, false, List, [], ◌∷◌, ◌++◌, Option, None, IsTrue}
use Rattle.std.proofs.lemmas.List.{append_assoc, append-nil}
use Rattle.std.proofs.lemmas.Str.{chars-nil}
use Rattle.jsonc_text.specs.Options.{Options}
use Rattle.jsonc_text.specs.Text.{next, no}
use Rattle.jsonc_text.specs.Gaps.{is_in_line}
use Rattle.jsonc_text.specs.Plain.{Plain, Items, no_items, item, Members, no_members, member}
use Rattle.jsonc_text.specs.Marks.{Mark, MarksTo, literals_of, literals_of_items, literals_of_members}
use Rattle.jsonc_text.specs.Spelling.{spelled}
use Rattle.jsonc_text.specs.Documents.{Document}
use Rattle.jsonc_run.specs.texts.Stretches.{Parted}
use Rattle.jsonc_tree.specs.Content.{Content}
use Rattle.jsonc_tree.specs.OrderedTree.{OrderedTree, own_leaf, leaves}
use Rattle.jsonc_sound.specs.Shape as shape
use Rattle.jsonc_sound.specs.Shape.{ValueShaped, PropertyShaped, IsNameBefore, IsLiteralBefore, printed_text}
use Rattle.jsonc_sound.specs.Documents.{all_marks, document_of}
use Rattle.jsonc_sound.specs.Leaving.{AreInlineTrivia}
use Rattle.jsonc_sound.specs.Marks.{marks_of}
use Rattle.jsonc_sound.specs.SoundTrees.{SoundTree}
use Rattle.jsonc_sound.specs.TreeChanges.{leaves_of, property_of}
use Rattle.jsonc_sound.specs.Written as trees
use Rattle.jsonc_sound.specs.MarkChanges.{AreBlanks}
use Rattle.jsonc_sound.proofs.ReplacedStretches.{blanks_unmarked, marks_join}
use Rattle.jsonc_layout.specs.from_input.Laid.{laid, laid_property}
use Rattle.jsonc_layout.specs.from_input.Layout.{Layout}
use Rattle.jsonc_layout.specs.from_input.Texts.{IsCharacters, IsOfTexts}
use Rattle.jsonc_sound.proofs.Laid.{laid_as_written, laid_as_written_named}
use Rattle.jsonc_sound.proofs.Pieces.{Pieces, LinesFlat, ends_line, document_pieces, document_flat}
use Rattle.jsonc_sound.proofs.NodesAlone.{document_alone, document_leaves}
use Rattle.jsonc_sound.proofs.ShapeTexts.{newline_no_line, trivia_utf8}
use Rattle.jsonc_sound.proofs.Texts.{AllUtf8}
use Rattle.jsonc_sound.specs.Adjacent.{LeavesEnd}
use Rattle.jsonc_sound.proofs.Printed.{EndsAtOnce, leaves_marks, prints_first_marks, prints_last_marks}
use Rattle.jsonc_edit.specs.Seams.{space_if}
use Rattle.jsonc_run.specs.promise.PlaceLaws.{text_of_leaves}
use Rattle.jsonc_run.proofs.lemmas.promise.MarkLists.{joined, marks_to}
use Rattle.jsonc_run.proofs.lemmas.promise.CommentTexts.{blanks_text}
use Rattle.jsonc_run.proofs.lemmas.promise.Leaves.{document_utf8, text_joined, utf8_first, utf8_second}
use Rattle.jsonc_run.proofs.lemmas.promise.Trivia.{first_text}

-- these leaves begin on their line with more than whitespace
abbrev pub Begins : List Content → Type 0
Begins contents = ends_line contents ≡ false

no_line_open : (contents : List Content) → Begins contents → EndsAtOnce contents
no_line_open contents e h = let wrong : false ≡ true = sym e ∙ h in cc

-- a value does, a property, and what stands beside either
module _ (o : Options) where
  literal_begins : (content : Content) (r : List ℕ) (behind : List Content) → IsLiteralBefore o content r → Begins ((own_leaf content ++ []) ++ behind)
  literal_begins (Content.string s) r behind h = refl
  literal_begins (Content.number s) r behind h = refl
  literal_begins (Content.boolean b) r behind h = refl
  literal_begins Content.null r behind h = refl
  literal_begins content r behind h = absurd h

  pub value_begins : {content : Content} {below : OrderedTree} {r : List ℕ} (behind : List Content) → ValueShaped o content below r → Begins ((own_leaf content ++ leaves below) ++ behind)
  value_begins behind (shape.literal {content = content} {r = r} h) = literal_begins content r behind h
  value_begins behind (shape.empty_array g) = refl
  value_begins behind (shape.array g h) = refl
  value_begins behind (shape.empty_object g) = refl
  value_begins behind (shape.object g h) = refl

  name_begins : (name : Content) (r : List ℕ) (behind : List Content) → IsNameBefore o name r → Begins (own_leaf name ++ behind)
  name_begins (Content.string s) r behind h = refl
  name_begins (Content.word s) r behind h = refl
  name_begins name r behind h = absurd h

  pub property_begins : {held : OrderedTree} {r : List ℕ} (behind : List Content) → PropertyShaped o held r → Begins (leaves_of (property_of held) ++ behind)
  property_begins behind (shape.named {name = name} {after = after} n g h v) = subst Begins (sym (append_assoc (own_leaf name) (leaves after) behind)) (name_begins name (printed_text after) (leaves after ++ behind) n)

pub beside_begins : (lead rest : List Content) → AreInlineTrivia lead → Begins rest → Begins (lead ++ rest)
beside_begins [] rest h e = e
beside_begins (Content.whitespace s ∷ lead) rest h e = beside_begins lead rest h.1 e
beside_begins (Content.comment s ∷ lead) rest h e = refl
beside_begins (content ∷ lead) rest h e = cc

-- the marks of leaves, in the words of texts
abbrev pub marks_in : List Content → List Mark
marks_in contents = all_marks (marks_of contents)

pub marks_in_both : (first second : List Content) → marks_in (first ++ second) ≡ marks_in first ++ marks_in second
marks_in_both first second = ap all_marks (marks_join first second) ∙ joined (marks_of first) (marks_of second)

-- a space has none
pub space_unmarked : (b : Bool) (rest : List Content) → marks_in (space_if b ++ rest) ≡ marks_in rest
space_unmarked true rest = refl
space_unmarked false rest = refl

pub seam_unmarked : (quiet : List Content) (b : Bool) (rest : List Content) → marks_in (quiet ++ (space_if b ++ rest)) ≡ marks_in (quiet ++ rest)
seam_unmarked quiet b rest = marks_in_both quiet (space_if b ++ rest) ∙ ap (λ l. marks_in quiet ++ l) (space_unmarked b rest) ∙ sym (marks_in_both quiet rest)

pub space_behind_unmarked : (front : List Content) (b : Bool) → marks_in (front ++ space_if b) ≡ marks_in front
space_behind_unmarked front b = ap (λ l. marks_in (front ++ l)) (sym (append-nil (space_if b))) ∙ seam_unmarked front b [] ∙ ap marks_in (append-nil front)

-- nor have blanks
pub blanks_behind_unmarked : (front blanks : List Content) → AreBlanks blanks → marks_in (front ++ blanks) ≡ marks_in front
blanks_behind_unmarked front blanks h = marks_in_both front blanks ∙ ap (λ l. marks_in front ++ all_marks l) (blanks_unmarked blanks h) ∙ append-nil (marks_in front)

pub pieces_first : (o : Options) (a b : List Content) → Pieces o (a ++ b) → Pieces o a
pieces_first o [] b p = tt
pieces_first o (c ∷ a) b p = (p.0, pieces_first o a b p.1)

pub pieces_second : (o : Options) (a b : List Content) → Pieces o (a ++ b) → Pieces o b
pieces_second o [] b p = p
pieces_second o (c ∷ a) b p = pieces_second o a b p.1

ends_second : (o : Options) (a b : List Content) → LeavesEnd o (a ++ b) None → LeavesEnd o b None
ends_second o [] b p = p
ends_second o (c ∷ a) b p = ends_second o a b p.1

flat_second : (a b : List Content) → LinesFlat (a ++ b) → LinesFlat b
flat_second [] b p = p
flat_second (c ∷ a) b p = flat_second a b p.1

-- whitespace first, and then no line that is open goes on
record Ahead (o : Options) (back : List Content) : Type 0 where
  blanks : List Content
  rest : List Content
  split : back ≡ blanks ++ rest
  are : AreBlanks blanks
  at_once : EndsAtOnce rest

ahead : (o : Options) (back : List Content) → Ahead o back
ahead o [] = record { blanks = []; rest = []; split = refl; are = tt; at_once = λ h. subst (λ x. IsTrue (no is_in_line (next x))) (sym chars-nil) refl }
ahead o (Content.whitespace s ∷ back) =
    let m = ahead o back in
    record { blanks = Content.whitespace s ∷ m.blanks; rest = m.rest; split = ap (λ l. Content.whitespace s ∷ l) m.split; are = (refl, m.are); at_once = m.at_once }
ahead o (Content.newline k ∷ back) =
    record {
      blanks = [];
      rest = Content.newline k ∷ back;
      split = refl;
      are = tt;
      at_once = λ h. subst (λ x. IsTrue (no is_in_line (next x))) (sym (first_text (Content.newline k) back (trivia_utf8 o (Content.newline k) tt))) (newline_no_line k (text_of_leaves back));
    }
ahead o (content ∷ back) = record { blanks = []; rest = content ∷ back; split = refl; are = tt; at_once = λ h. cc }

-- a stretch's own marks reach through it, or past blanks behind it
record Through (o : Options) (own back : List Content) : Type 0 where
  blanks : List Content
  rest : List Content
  text : text_of_leaves back ≡ text_of_leaves blanks ++ text_of_leaves rest
  are : AreBlanks blanks
  pieces : Pieces o (blanks ++ rest)
  marks : MarksTo o (text_of_leaves rest) (text_of_leaves (own ++ back)) (marks_in own)

through : (o : Options) {t : OrderedTree} → SoundTree o t → (front own back : List Content) → leaves t ≡ front ++ (own ++ back) → Through o own back
through o {t} s front own back parts =
    let m = ahead o back in
    let same : own ++ back ≡ (own ++ m.blanks) ++ m.rest = ap (λ l. own ++ l) m.split ∙ sym (append_assoc own m.blanks m.rest) in
    let whole : leaves t ≡ front ++ ((own ++ m.blanks) ++ m.rest) = parts ∙ ap (λ l. front ++ l) same in
    let p = pieces_second o front ((own ++ m.blanks) ++ m.rest) (subst (Pieces o) whole (document_pieces o (document_alone o s.shaped))) in
    let e = ends_second o front ((own ++ m.blanks) ++ m.rest) (subst (λ ls. LeavesEnd o ls None) whole (document_leaves o s.shaped)) in
    let l = flat_second front ((own ++ m.blanks) ++ m.rest) (subst LinesFlat whole (document_flat o (document_alone o s.shaped) s.lines)) in
    let found = marks_to (leaves_marks o m.rest m.at_once (own ++ m.blanks) p e l) in
    let utf8 = utf8_second (own ++ m.blanks) m.rest (utf8_second front ((own ++ m.blanks) ++ m.rest) (subst AllUtf8 whole (document_utf8 o s.shaped))) in
    let own_pieces = pieces_second o own (m.blanks ++ m.rest) (subst (Pieces o) (append_assoc own m.blanks m.rest) p) in
    let own_utf8 = utf8_second own (m.blanks ++ m.rest) (subst AllUtf8 (append_assoc own m.blanks m.rest) (utf8_second front ((own ++ m.blanks) ++ m.rest) (subst AllUtf8 whole (document_utf8 o s.shaped)))) in
    record {
      blanks = m.blanks;
      rest = m.rest;
      text = ap text_of_leaves m.split ∙ text_joined m.blanks m.rest (utf8_first m.blanks m.rest own_utf8);
      are = m.are;
      pieces = own_pieces;
      marks = subst (λ x. MarksTo o (text_of_leaves m.rest) (text_of_leaves x) (marks_in own)) (sym same) (subst (MarksTo o (text_of_leaves m.rest) (text_of_leaves ((own ++ m.blanks) ++ m.rest))) (blanks_behind_unmarked own m.blanks m.are) found);
    }

-- of a sound tree's marks some stand before a stretch of its text, some in it and the rest behind it
pub parted : (o : Options) {t : OrderedTree} → SoundTree o t → (w : Option Plain) (front own back : List Content) → leaves t ≡ front ++ (own ++ back) → Begins (own ++ back)
    → {from to : List ℕ} → text_of_leaves (own ++ back) ≡ from → text_of_leaves back ≡ to → Parted (document_of o t w) from to (marks_in front) (marks_in own) (marks_in back)
parted o {t} s w front own back parts begins {from} {to} e f =
    let k = through o s front own back parts in
    record {
      all = ap marks_in parts ∙ marks_in_both front (own ++ back) ∙ ap (λ l. marks_in front ++ l) (marks_in_both own back);
      before = subst (λ z. MarksTo o z (printed_text t) (marks_in front)) e (marks_to (prints_first_marks o t s front (own ++ back) parts (no_line_open (own ++ back) begins)));
      through = (text_of_leaves k.blanks, text_of_leaves k.rest, sym f ∙ k.text, blanks_text o k.blanks k.are (pieces_first o k.blanks k.rest k.pieces), subst (λ z. MarksTo o (text_of_leaves k.rest) z (marks_in own)) e k.marks);
      after = subst (λ z. MarksTo o [] z (marks_in back)) f (marks_to (prints_last_marks o t s (front ++ own) back (parts ∙ sym (append_assoc front own back))));
    }

-- with the same marks by other lists
pub parted_as : {d : Document} {from to : List ℕ} {a b x y c z : List Mark} → a ≡ b → x ≡ y → c ≡ z → Parted d from to a x c → Parted d from to b y z
parted_as {d} {from} {to} {a} {b} {x} {y} {c} {z} e f g p = subst (λ l. Parted d from to l y z) e (subst (λ l. Parted d from to a l z) f (subst (λ l. Parted d from to a x l) g p))

-- the literals that are written for a value
mutual
  pub same_literals : (v : Plain) → all_marks (trees.written v) ≡ literals_of v
  same_literals Plain.null = refl
  same_literals (Plain.boolean b) = refl
  same_literals (Plain.number s) = refl
  same_literals (Plain.string s) = refl
  same_literals (Plain.array vs) = same_items vs
  same_literals (Plain.object ms) = same_members ms

  same_items : (vs : Items) → all_marks (trees.items_written vs) ≡ literals_of_items vs
  same_items no_items = refl
  same_items (item v vs) = joined (trees.written v) (trees.items_written vs) ∙ ap (λ l. l ++ all_marks (trees.items_written vs)) (same_literals v) ∙ ap (λ l. literals_of v ++ l) (same_items vs)

  same_members : (ms : Members) → all_marks (trees.members_written ms) ≡ literals_of_members ms
  same_members no_members = refl
  same_members (member name v ms) =
      ap (λ l. Mark.literal (spelled name) ∷ l) (joined (trees.written v) (trees.members_written ms) ∙ ap (λ l. l ++ all_marks (trees.members_written ms)) (same_literals v) ∙ ap (λ l. literals_of v ++ l) (same_members ms))

pub laid_literals : (layout : Layout) (v : Plain) → IsOfTexts v → marks_in (leaves_of (laid layout v)) ≡ literals_of v
laid_literals layout v texts = ap all_marks (laid_as_written layout v texts) ∙ same_literals v

pub laid_property_literals : (layout : Layout) (name : List ℕ) (v : Plain) → IsCharacters name → IsOfTexts v → marks_in (leaves_of (laid_property layout name v)) ≡ Mark.literal (spelled name) ∷ literals_of v
laid_property_literals layout name v characters texts = ap all_marks (laid_as_written_named layout name v characters texts) ∙ ap (λ l. Mark.literal (spelled name) ∷ l) (same_literals v)
