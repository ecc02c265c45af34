-- A value in a layout has no character but those of its literals, of punctuation and of the layout.
use Rattle.std.proofs.Common.{ℕ, sym, subst, refl, Bool, true, false, List, [], ◌∷◌, ◌++◌, IsTrue, None, if◌then◌else◌}
use Rattle.std.proofs.lemmas.Bool.{cond_both}
use Rattle.jsonc_text.specs.Options.{Options}
use Rattle.jsonc_text.specs.Words.{Keyword, keyword_text}
use Rattle.jsonc_text.specs.Plain.{Plain, Items, no_items, item, Members, no_members, member}
use Rattle.jsonc_text.specs.Spelling.{spelled}
use Rattle.jsonc_text.specs.Marks.{Mark, literals_of, literals_of_items, literals_of_members}
use Rattle.jsonc_tree.specs.OrderedTree.{OrderedTree}
use Rattle.jsonc_layout.specs.from_input.Texts.{IsOfTexts}
use Rattle.jsonc_sound.specs.Documents.{document_of}
use Rattle.jsonc_sound.specs.Shape.{printed_text}
use Rattle.jsonc_sound.specs.SoundTrees.{SoundTree}
use Rattle.jsonc_insert.specs.named.Values.{ReplacesValue}
use Rattle.jsonc_run.specs.texts.Edits.{Anything, Puts, is_odd_blank, text_of_marks}
use Rattle.jsonc_run.specs.texts.Paths.{Value}
use Rattle.jsonc_run.specs.texts.Layout.{Layout, deeper, holds_filled, laid_items, laid_members, laid_text, named, on_lines, on_one_line, spread}
use Rattle.jsonc_run.proofs.lemmas.promise.BlanksCome.{Lacks, differs, lacks_both, lacks_first, lacks_second, text_lacks}
use Rattle.jsonc_run.proofs.lemmas.promise.LaidTexts.{in_text, laid_prints}
use Rattle.jsonc_run.proofs.lemmas.promise.Replacing.{puts_with_seams}
use Rattle.jsonc_run.proofs.lemmas.promise.Stretches.{laid_literals}

module _ (c : ℕ) where
  marks_first : (a b : List Mark) → Lacks c (text_of_marks (a ++ b)) → Lacks c (text_of_marks a)
  marks_first [] b h = tt
  marks_first (Mark.literal s ∷ a) b h = lacks_both c s (text_of_marks a) (lacks_first c s (text_of_marks (a ++ b)) h) (marks_first a b (lacks_second c s (text_of_marks (a ++ b)) h))
  marks_first (Mark.comment s ∷ a) b h = lacks_both c s (text_of_marks a) (lacks_first c s (text_of_marks (a ++ b)) h) (marks_first a b (lacks_second c s (text_of_marks (a ++ b)) h))

  marks_second : (a b : List Mark) → Lacks c (text_of_marks (a ++ b)) → Lacks c (text_of_marks b)
  marks_second [] b h = h
  marks_second (Mark.literal s ∷ a) b h = marks_second a b (lacks_second c s (text_of_marks (a ++ b)) h)
  marks_second (Mark.comment s ∷ a) b h = marks_second a b (lacks_second c s (text_of_marks (a ++ b)) h)

  -- the layout has it nowhere
  pub record LayoutLacks (l : Layout) : Type 0 where
    pub line_end : Lacks c l.line_end
    pub indent : Lacks c l.indent
    pub level : Lacks c l.level

  deeper_lacks : (l : Layout) → LayoutLacks l → LayoutLacks (deeper l)
  deeper_lacks l h = record { line_end = h.line_end; indent = lacks_both c l.indent l.level h.indent h.level; level = h.level }

  abbrev AllLack : List (List ℕ) → Type 0
  AllLack [] = Unit {0}
  AllLack (s ∷ ss) = Lacks c s × AllLack ss

module _ (c : ℕ) (odd : IsTrue (is_odd_blank c)) where
  one_line_lacks : (ss : List (List ℕ)) → AllLack c ss → Lacks c (on_one_line ss)
  one_line_lacks [] h = tt
  one_line_lacks (s ∷ []) h = h.0
  one_line_lacks (s ∷ t ∷ ss) h = lacks_both c s (0x2C ∷ 0x20 ∷ on_one_line (t ∷ ss)) h.0 (differs c odd 0x2C refl, (differs c odd 0x20 refl, one_line_lacks (t ∷ ss) h.1))

  comma_lacks : (b : Bool) → Lacks c (if b then 0x2C ∷ [] else [])
  comma_lacks true = (differs c odd 0x2C refl, tt)
  comma_lacks false = tt

  lines_lack : (l : Layout) → LayoutLacks c l → (ss : List (List ℕ)) → AllLack c ss → Lacks c (on_lines l ss)
  lines_lack l h [] k = tt
  lines_lack l h (s ∷ []) k =
      let rest : List ℕ = if l.comma then 0x2C ∷ [] else [] in
      lacks_both c l.line_end (l.indent ++ (s ++ rest)) h.line_end (lacks_both c l.indent (s ++ rest) h.indent (lacks_both c s rest k.0 (comma_lacks l.comma)))
  lines_lack l h (s ∷ t ∷ ss) k =
      let rest : List ℕ = 0x2C ∷ on_lines l (t ∷ ss) in
      lacks_both c l.line_end (l.indent ++ (s ++ rest)) h.line_end (lacks_both c l.indent (s ++ rest) h.indent (lacks_both c s rest k.0 (differs c odd 0x2C refl, lines_lack l h (t ∷ ss) k.1)))

  spread_lacks : (l : Layout) → LayoutLacks c l → (ss : List (List ℕ)) → AllLack c ss → Lacks c (spread l ss)
  spread_lacks l h [] k = tt
  spread_lacks l h (s ∷ ss) k = lacks_both c (on_lines (deeper l) (s ∷ ss)) (l.line_end ++ l.indent) (lines_lack (deeper l) (deeper_lacks c l h) (s ∷ ss) k) (lacks_both c l.line_end l.indent h.line_end h.indent)

  pub named_lacks : (name s : List ℕ) → Lacks c (spelled name) → Lacks c s → Lacks c (named name s)
  named_lacks name s h k = lacks_both c (spelled name) (0x3A ∷ 0x20 ∷ s) h (differs c odd 0x3A refl, (differs c odd 0x20 refl, k))

  mutual
    pub laid_lacks : (l : Layout) → LayoutLacks c l → (v : Plain) → Lacks c (text_of_marks (literals_of v)) → Lacks c (laid_text l v)
    laid_lacks l h Plain.null w = lacks_first c (keyword_text Keyword.null) [] w
    laid_lacks l h (Plain.boolean b) w = lacks_first c (keyword_text (Keyword.boolean b)) [] w
    laid_lacks l h (Plain.number s) w = lacks_first c s [] w
    laid_lacks l h (Plain.string s) w = lacks_first c (spelled s) [] w
    laid_lacks l h (Plain.array vs) w =
        let inner : List ℕ = if holds_filled vs then spread l (laid_items (deeper l) vs) else on_one_line (laid_items l vs) in
        let held : Lacks c inner =
        cond_both (holds_filled vs) (spread l (laid_items (deeper l) vs)) (on_one_line (laid_items l vs)) (Lacks c) (λ e. spread_lacks l h (laid_items (deeper l) vs) (items_lack (deeper l) (deeper_lacks c l h) vs w)) (λ e. one_line_lacks (laid_items l vs) (items_lack l h vs w)) in
        (differs c odd 0x5B refl, lacks_both c inner (0x5D ∷ []) held (differs c odd 0x5D refl, tt))
    laid_lacks l h (Plain.object ms) w =
        let inner : List ℕ = spread l (laid_members (deeper l) ms) in
        (differs c odd 0x7B refl, lacks_both c inner (0x7D ∷ []) (spread_lacks l h (laid_members (deeper l) ms) (members_lack (deeper l) (deeper_lacks c l h) ms w)) (differs c odd 0x7D refl, tt))

    items_lack : (l : Layout) → LayoutLacks c l → (vs : Items) → Lacks c (text_of_marks (literals_of_items vs)) → AllLack c (laid_items l vs)
    items_lack l h no_items w = tt
    items_lack l h (item v vs) w = (laid_lacks l h v (marks_first c (literals_of v) (literals_of_items vs) w), items_lack l h vs (marks_second c (literals_of v) (literals_of_items vs) w))

    members_lack : (l : Layout) → LayoutLacks c l → (ms : Members) → Lacks c (text_of_marks (literals_of_members ms)) → AllLack c (laid_members l ms)
    members_lack l h no_members w = tt
    members_lack l h (member name v ms) w =
        let rest = lacks_second c (spelled name) (text_of_marks (literals_of v ++ literals_of_members ms)) w in (
          named_lacks name (laid_text l v) (lacks_first c (spelled name) (text_of_marks (literals_of v ++ literals_of_members ms)) w) (laid_lacks l h v (marks_first c (literals_of v) (literals_of_members ms) rest)),
          members_lack l h ms (marks_second c (literals_of v) (literals_of_members ms) rest),
        )

  -- a value that takes the place of another
  pub value_lacks : (o : Options) {t u : OrderedTree} → SoundTree o t → SoundTree o u → (path : List ℕ) (v : Plain) → IsOfTexts v → (given : ReplacesValue path v t u) → LayoutLacks c (in_text given.layout) → Lacks c (printed_text t) → Lacks c (text_of_marks (literals_of v)) → Lacks c (printed_text u)
  value_lacks o {t} {u} s r path v texts given told h w =
      let puts : Puts Anything (Value path) (Lacks c) (literals_of v) (document_of o t None) (document_of o u None) =
      puts_with_seams o s r given.seams None None (literals_of v) (laid_literals given.layout v texts) (λ pieces utf8. subst (Lacks c) (sym (laid_prints given.layout v texts utf8)) (laid_lacks (in_text given.layout) told v w)) tt in
      text_lacks c odd puts.6 puts.8 h
