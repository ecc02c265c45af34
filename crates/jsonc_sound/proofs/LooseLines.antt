-- Trivia is a gap where its line comments end with their lines, perhaps behind whitespace.
use Rattle.std.proofs.Common.{ℕ, ◌≡◌, ◌∙◌, sym, ap, subst, refl, Bool, true, false, inl, inr, List, [], ◌++◌, IsTrue, chars}
use Rattle.std.proofs.lemmas.List.{append_assoc}
use Rattle.std.proofs.lemmas.Str.{chars-nil}
use Rattle.jsonc_text.specs.Options.{Options}
use Rattle.jsonc_text.specs.Text.{next, no, Many, stop, step}
use Rattle.jsonc_text.specs.Gaps as gaps
use Rattle.jsonc_text.specs.Gaps.{Gap, is_blank, is_in_line, LineComment, line, IsComment}
use Rattle.jsonc_text.specs.Lexemes.{block_comment}
use Rattle.jsonc_text.proofs.LexemesAlone.{scanned_before}
use Rattle.jsonc_text.proofs.Basics.{and_both}
use Rattle.jsonc_text.proofs.BlockComments.{block_inside}
use Rattle.jsonc_text.proofs.CharacterSteps.{many_append}
use Rattle.jsonc_text.proofs.UniqueWords.{many_more}
use Rattle.jsonc_tree.specs.Content.{Content, text_of}
use Rattle.jsonc_tree.specs.OrderedTree.{OrderedTree, none, more}
use Rattle.jsonc_text.proofs.Gaps.{gap_append}
use Rattle.jsonc_sound.specs.Leaves.{is_inner_blank}
use Rattle.jsonc_sound.specs.Lines.{is_line_comment, ends_line, LinesEnd, DocumentLinesEnd, is_loose, ends_loosely, LinesEndLoosely, DocumentLinesEndLoosely}
use Rattle.jsonc_sound.specs.Shape as shape
use Rattle.jsonc_sound.specs.Shape.{IsTrivia, IsLiteralBefore, Trivia, ValueShaped, ElementsShaped, PropertiesShaped, printed_text}
use Rattle.jsonc_sound.proofs.ShapeTexts.{text_leaf, trivia_utf8, leaf_gap, newline_no_line}

-- what ends a line directly ends it
first_loosens : (loose at_end : Bool) (row : OrderedTree) → IsTrue (ends_line at_end row) → IsTrue (ends_loosely loose at_end row)
first_loosens loose at_end none h = h
first_loosens loose at_end (more (Content.newline k) below after) h = refl
first_loosens loose at_end (more content below after) h = cc

pub loosens : (loose at_end : Bool) (row : OrderedTree) → LinesEnd at_end row → LinesEndLoosely loose at_end row
loosens loose at_end none l = tt
loosens loose at_end (more content below after) l = (λ h. first_loosens loose at_end after (l.0 h), loosens (is_loose content) false below l.1, loosens loose at_end after l.2)

pub document_loosens : {tree : OrderedTree} → DocumentLinesEnd tree → DocumentLinesEndLoosely tree
document_loosens (row, e, l) = (row, e, loosens false true row l)

-- the row is empty, or its first node is neither whitespace nor a newline
abbrev pub Stops : OrderedTree → Type 0
Stops none = Unit {0}
Stops (more (Content.whitespace s) below after) = ⊥
Stops (more (Content.newline k) below after) = ⊥
Stops (more _ below after) = Unit {0}

-- or it is the end of a line
abbrev pub Halts : OrderedTree → Type 0
Halts (more (Content.newline k) none after) = Unit {0}
Halts row = Stops row

pub stops_halts : (row : OrderedTree) → Stops row → Halts row
stops_halts none s = s
stops_halts (more (Content.newline k) below after) s = absurd s
stops_halts (more (Content.whitespace w) below after) s = absurd s
stops_halts (more content below after) s = s

literal_stops : (o : Options) (content : Content) (r : List ℕ) (below after : OrderedTree) → IsLiteralBefore o content r → Stops (more content below after)
literal_stops o (Content.whitespace s) r below after h = absurd h
literal_stops o (Content.newline k) r below after h = absurd h
literal_stops o content r below after h = tt

pub value_stops : {o : Options} {content : Content} {below : OrderedTree} {r : List ℕ} (after : OrderedTree) → ValueShaped o content below r → Stops (more content below after)
value_stops {o} {r = r} after (shape.literal {content = content} h) = literal_stops o content r none after h
value_stops after (shape.empty_array g) = tt
value_stops after (shape.array g e) = tt
value_stops after (shape.empty_object g) = tt
value_stops after (shape.object g p) = tt

pub elements_stop : {o : Options} {row : OrderedTree} → ElementsShaped o row → Stops row
elements_stop (shape.last_element {after = after} v c) = value_stops after v
elements_stop (shape.element {after = after} v s e) = value_stops after v

pub properties_stop : {o : Options} {row : OrderedTree} → PropertiesShaped o row → Stops row
properties_stop (shape.last_property p c) = tt
properties_stop (shape.property p s e) = tt

pub inner_blanks : {t r : List ℕ} → Many is_inner_blank t r → Many is_in_line t r
inner_blanks stop = stop
inner_blanks (step {c = c} h g) = step (and_both (is_blank c) _ h).1 (inner_blanks g)

-- a comment of one line takes blanks behind it up to the line's end
pub comment_takes : (s blanks rest : List ℕ) → LineComment s [] → Many is_in_line blanks [] → IsTrue (no is_in_line (next rest)) → LineComment (s ++ (blanks ++ rest)) rest
comment_takes _ blanks rest (line {t = x} m n) b e = line (many_append (many_more m (blanks ++ rest)) (many_more b rest)) e

-- blanks of t up to a line's end, from which on it is a gap
record Skipped (o : Options) (t r : List ℕ) : Type 0 where
  blanks : List ℕ
  rest : List ℕ
  split : t ≡ blanks ++ rest
  in_line : Many is_in_line blanks []
  ends : IsTrue (no is_in_line (next rest))
  gap : Gap o rest r

module _ (o : Options) (z : List ℕ) where
  pub leaf_then : (content : Content) (t : OrderedTree) → IsTrivia o content → printed_text (more content none t) ++ z ≡ chars (text_of content) ++ (printed_text t ++ z)
  leaf_then content t h = ap (λ x. x ++ z) (text_leaf content t (trivia_utf8 o content h)) ∙ append_assoc (chars (text_of content)) (printed_text t) z

  line_gap : (s : List ℕ) (t r : List ℕ) → IsTrue o.comments → IsComment (chars s) [] → Gap o t r → Skipped o t r → Gap o (chars s ++ t) r
  line_gap s t r c (inl l) g k = gaps.comment c (inl (subst (λ x. LineComment (chars s ++ x) k.rest) (sym k.split) (comment_takes (chars s) k.blanks k.rest l k.in_line k.ends))) k.gap
  line_gap s t r c (inr b) g k =
      let inside = block_inside b in
      gaps.comment c (inr (scanned_before o (block_comment inside.0) (chars s) t (b, inside.1) tt).0) g

  at_the_end : (loose at_end : Bool) (r : OrderedTree) → (at_end ≡ true → z ≡ []) → Halts r → IsTrue (ends_loosely loose at_end r) → Skipped o (printed_text r ++ z) (printed_text r ++ z)
  at_the_end loose at_end none f s h = record { blanks = []; rest = printed_text none ++ z; split = refl; in_line = stop; ends = subst (λ x. IsTrue (no is_in_line (next x))) (sym (ap (λ x. x ++ z) chars-nil ∙ f h)) refl; gap = gaps.none }
  at_the_end loose at_end (more (Content.newline k) none after) f s h = record {
    blanks = [];
    rest = printed_text (more (Content.newline k) none after) ++ z;
    split = refl;
    in_line = stop;
    ends = subst (λ x. IsTrue (no is_in_line (next x))) (sym (leaf_then (Content.newline k) after tt)) (newline_no_line k (printed_text after ++ z));
    gap = gaps.none;
  }
  at_the_end loose at_end (more (Content.newline k) (more c b a) after) f s h = absurd s
  at_the_end loose at_end (more (Content.whitespace k) below after) f s h = absurd s
  at_the_end loose at_end (more content below after) f s h = cc

  comment_gap : (s t r : List ℕ) → IsTrivia o (Content.comment s) → Gap o t r → (IsTrue (is_line_comment (Content.comment s)) → Skipped o t r) → Gap o (chars s ++ t) r
  comment_gap s t r h g f = by (is_line_comment (Content.comment s)) refl
    where
      by : (b : Bool) → is_line_comment (Content.comment s) ≡ b → Gap o (chars s ++ t) r
      by true e = line_gap s t r h.0 h.1.1 g (f e)
      by false e = gap_append (leaf_gap o (Content.comment s) t h (λ k. (let wrong : false ≡ true = sym e ∙ k in cc))) g

  mutual
    pub loose_gap : (loose at_end : Bool) {t r : OrderedTree} → (at_end ≡ true → z ≡ []) → Halts r → Trivia o t r → LinesEndLoosely loose at_end t → Gap o (printed_text t ++ z) (printed_text r ++ z)
    loose_gap loose at_end f s shape.nothing l = gaps.none
    loose_gap loose at_end {r = r} f s (shape.trivia {content = Content.comment c} {t = t} h g) l =
        subst (λ x. Gap o x (printed_text r ++ z)) (sym (leaf_then (Content.comment c) t h)) (comment_gap c (printed_text t ++ z) (printed_text r ++ z) h (loose_gap loose at_end f s g l.2) (λ k. skip loose at_end f s g l.2 (l.0 k)))
    loose_gap loose at_end {r = r} f s (shape.trivia {content = content} {t = t} h g) l =
        subst (λ x. Gap o x (printed_text r ++ z)) (sym (leaf_then content t h)) (gap_append (leaf_gap o content (printed_text t ++ z) h (λ k. cc)) (loose_gap loose at_end f s g l.2))

    skip : (loose at_end : Bool) {t r : OrderedTree} → (at_end ≡ true → z ≡ []) → Halts r → Trivia o t r → LinesEndLoosely loose at_end t → IsTrue (ends_loosely loose at_end t) → Skipped o (printed_text t ++ z) (printed_text r ++ z)
    skip loose at_end {r = r} f s shape.nothing l e = at_the_end loose at_end r f s e
    skip loose at_end {r = r} f s (shape.trivia {content = Content.newline k} {t = t} h g) l e =
        record {
          blanks = [];
          rest = printed_text (more (Content.newline k) none t) ++ z;
          split = refl;
          in_line = stop;
          ends = subst (λ x. IsTrue (no is_in_line (next x))) (sym (leaf_then (Content.newline k) t h)) (newline_no_line k (printed_text t ++ z));
          gap = subst (λ x. Gap o x (printed_text r ++ z)) (sym (leaf_then (Content.newline k) t h)) (gap_append (leaf_gap o (Content.newline k) (printed_text t ++ z) h (λ k. cc)) (loose_gap loose at_end f s g l.2));
        }
    skip loose at_end f s (shape.trivia {content = Content.whitespace w} {t = t} h g) l e =
        let k = skip loose at_end f s g l.2 (and_both loose (ends_loosely loose at_end t) e).1 in
        record {
          blanks = chars w ++ k.blanks;
          rest = k.rest;
          split = leaf_then (Content.whitespace w) t h ∙ ap (λ x. chars w ++ x) k.split ∙ sym (append_assoc (chars w) k.blanks k.rest);
          in_line = many_append (many_more (inner_blanks h.1) k.blanks) k.in_line;
          ends = k.ends;
          gap = k.gap;
        }
    skip loose at_end f s (shape.trivia h g) l e = cc

  lines_behind : (loose at_end : Bool) {t r : OrderedTree} → Trivia o t r → LinesEndLoosely loose at_end t → LinesEndLoosely loose at_end r
  lines_behind loose at_end shape.nothing l = l
  lines_behind loose at_end (shape.trivia h g) l = lines_behind loose at_end g l.2

  -- so trivia is a gap, up to a line's end too, and the line comments behind it end as they did
  pub trivia_gap : (loose at_end : Bool) {t r : OrderedTree} → (at_end ≡ true → z ≡ []) → Stops r → Trivia o t r → LinesEndLoosely loose at_end t → Gap o (printed_text t ++ z) (printed_text r ++ z) × LinesEndLoosely loose at_end r
  trivia_gap loose at_end {r = r} f s g l = (loose_gap loose at_end f (stops_halts r s) g l, lines_behind loose at_end g l)
