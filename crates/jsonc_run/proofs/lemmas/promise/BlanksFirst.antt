-- A first value brings no blank.
use Rattle.std.proofs.Common.{ℕ, ◌≡◌, ◌∙◌, ap, sym, subst, List, ◌++◌, None, IsTrue}
use Rattle.std.proofs.lemmas.List.{append-nil}
use Rattle.jsonc_text.specs.Options.{Options}
use Rattle.jsonc_text.specs.Plain.{Plain}
use Rattle.jsonc_text.specs.Marks.{literals_of}
use Rattle.jsonc_tree.specs.Content.{Content, newline}
use Rattle.jsonc_tree.specs.OrderedTree.{OrderedTree, Top, none, more, leaves, ordered_tree}
use Rattle.jsonc_tree.specs.Tree.{Node, IsTree, IsOver}
use Rattle.jsonc_layout.specs.from_input.Laid.{laid}
use Rattle.jsonc_layout.specs.from_input.Layout.{Layout}
use Rattle.jsonc_layout.specs.from_input.Texts.{IsOfTexts}
use Rattle.jsonc_layout.specs.lines.Breadth.{newline_kind_of}
use Rattle.jsonc_layout.specs.nodes.Properties.{value_at}
use Rattle.jsonc_sound.specs.Shape.{printed_text}
use Rattle.jsonc_sound.specs.SoundTrees.{SoundTree}
use Rattle.jsonc_sound.specs.TreeChanges.{leaves_of}
use Rattle.jsonc_sound.specs.TriviaChanges.{AreTrivia, leaves_then}
use Rattle.jsonc_sound.proofs.Texts.{AllUtf8}
use Rattle.jsonc_sound.proofs.RootRows.{joined_trivia, line_ends_trivia}
use Rattle.jsonc_sound.proofs.TriviaLeaves.{front_leaves}
use Rattle.jsonc_edit.specs.Changes.{row_below}
use Rattle.jsonc_edit.specs.Reading.{layout_for}
use Rattle.jsonc_edit.specs.set.RootSet.{FirstValue, line_end_if}
use Rattle.jsonc_edit.proofs.LayoutTold.{Each, each_both, each_first, each_second}
use Rattle.jsonc_edit.proofs.lemmas.set.FirstRow.{line_ends}
use Rattle.jsonc_edit.proofs.lemmas.set.FirstValueRows.{parts_of_first}
use Rattle.jsonc_run.specs.Written.{PrintsNoBlank}
use Rattle.jsonc_run.specs.texts.Edits as texts
use Rattle.jsonc_run.specs.texts.Edits.{is_odd_blank, text_of_marks}
use Rattle.jsonc_run.proofs.Roots.{root_is}
use Rattle.jsonc_run.proofs.lemmas.promise.BlanksCome.{Lacks}
use Rattle.jsonc_run.proofs.lemmas.promise.BlanksLaid.{laid_lacks}
use Rattle.jsonc_run.proofs.lemmas.promise.BlanksLeaves.{TextLacks, each_led, each_more, each_then, line_ends_so, more_utf8, prints_no_blank, texts_lack}
use Rattle.jsonc_run.proofs.lemmas.promise.BlanksTold.{layout_told, line_end_of_lacks, told_lacks}
use Rattle.jsonc_run.proofs.lemmas.promise.LaidTexts.{in_text, laid_prints}
use Rattle.jsonc_run.proofs.lemmas.promise.Leaves.{document_utf8, utf8_second}

-- the leaves of a root's row
row_leaves : (ns : List Node) → IsTree ns → leaves (ordered_tree ns 0) ≡ leaves (row_below ns 0)
row_leaves ns tree = subst (λ (t : OrderedTree). leaves t ≡ leaves (row_below ns 0)) (sym (root_is ns tree)) (append-nil (leaves (row_below ns 0)))

module _ (c : ℕ) (odd : IsTrue (is_odd_blank c)) where
  module _ (o : Options) (old new : List Node) (v : Plain) (m : ℕ) (tree : IsTree old) (s : SoundTree o (ordered_tree old 0)) (r : SoundTree o (ordered_tree new 0)) (ofs : IsOfTexts v) (e : value_at old 0 ≡ None) (f : FirstValue old new v m)
      (h : Lacks c (printed_text (ordered_tree old 0))) (all : Each (TextLacks c) (leaves (ordered_tree old 0))) (w : Lacks c (text_of_marks (literals_of v))) where
    abbrev layout : Layout
    layout = layout_for old 0 0

    abbrev top : Top
    top = laid layout v

    first_lacks : Each (TextLacks c) (leaves (ordered_tree new 0))
    first_lacks =
        let p = parts_of_first o old new v m tree s e f in
        let before : List Content = line_end_if p.leads (newline_kind_of old) in
        let behind : List Content = line_end_if p.ends (newline_kind_of old) in
        let rest : OrderedTree = leaves_then (behind ++ p.back) none in
        let next : OrderedTree = more top.content top.below rest in
        let t_before : AreTrivia before = line_ends_trivia before (line_ends p.leads (newline_kind_of old)) in
        let t_behind : AreTrivia behind = line_ends_trivia behind (line_ends p.ends (newline_kind_of old)) in
        let t_front : AreTrivia (p.front ++ before) = joined_trivia p.front before p.front_trivia t_before in
        let is : leaves (ordered_tree new 0) ≡ leaves (leaves_then (p.front ++ before) next) = row_leaves new f.tree ∙ ap leaves p.is in
        let utf8 : AllUtf8 ((p.front ++ before) ++ leaves next) = subst AllUtf8 (is ∙ front_leaves (p.front ++ before) next t_front) (document_utf8 o r.shaped) in
        let own_utf8 : AllUtf8 (leaves_of top) = (more_utf8 top rest (utf8_second (p.front ++ before) (leaves next) utf8)).0 in
        let old_leaves : Each (TextLacks c) (leaves (leaves_then (p.front ++ p.back) none)) = subst (Each (TextLacks c)) (row_leaves old tree ∙ ap leaves p.was) all in
        let both : Each (TextLacks c) (p.front ++ p.back) = (each_led (TextLacks c) (p.front ++ p.back) none (joined_trivia p.front p.back p.front_trivia p.back_trivia) old_leaves).0 in
        let line : TextLacks c (newline (newline_kind_of old)) = line_end_of_lacks c odd o old tree s h in
        let told = told_lacks c odd (ordered_tree old 0) layout (layout_told o old tree s 0 0 IsOver.itself) h in
        let own : Each (TextLacks c) (leaves_of top) = texts_lack c (leaves_of top) own_utf8 (subst (Lacks c) (sym (laid_prints layout v ofs own_utf8)) (laid_lacks c odd (in_text layout) told v w)) in
        let end : Each (TextLacks c) (leaves rest) =
        each_then (TextLacks c) (behind ++ p.back) none (joined_trivia behind p.back t_behind p.back_trivia) (each_both (TextLacks c) behind p.back (line_ends_so (TextLacks c) p.ends (newline_kind_of old) line) (each_second (TextLacks c) p.front p.back both)) tt in
        subst (Each (TextLacks c)) (sym is)
        (each_then (TextLacks c) (p.front ++ before) next t_front (each_both (TextLacks c) p.front before (each_first (TextLacks c) p.front p.back both) (line_ends_so (TextLacks c) p.leads (newline_kind_of old) line)) (each_more (TextLacks c) top rest own end))

pub first_brings_none : (o : Options) (old new : List Node) (v : Plain) (m : ℕ) → IsTree old → SoundTree o (ordered_tree old 0) → SoundTree o (ordered_tree new 0) → IsOfTexts v → value_at old 0 ≡ None → FirstValue old new v m
    → PrintsNoBlank (texts.come_first v) (ordered_tree old 0) (ordered_tree new 0)
first_brings_none o old new v m tree s r ofs e f = prints_no_blank o (ordered_tree old 0) (ordered_tree new 0) (texts.come_first v) s r (λ c odd h all w. first_lacks c odd o old new v m tree s r ofs e f h all w)
