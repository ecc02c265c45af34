-- An object at a path of a sound document: its brackets, and its row spread out.
use Rattle.std.proofs.Common.{◌≡◌, ◌∙◌, ◌<◌, ℕ, List, cond, length, ap}
use Rattle.jsonc_text.specs.Options.{Options}
use Rattle.jsonc_text.specs.Plain.{Plain}
use Rattle.jsonc_text.specs.declared.edit.EditError.TheVariants.{OutOfMemory, MissingBrackets}
use Rattle.jsonc_tree.specs.Content.{object}
use Rattle.jsonc_tree.specs.OrderedTree.{ordered_tree}
use Rattle.jsonc_tree.specs.Tree.{Node, content_at, IsTree, IsOver}
use Rattle.jsonc_sound.specs.Rows.{of_properties}
use Rattle.jsonc_sound.specs.SoundTrees.{SoundTree}
use Rattle.jsonc_edit.specs.Paths.{IsAt}
use Rattle.jsonc_edit.specs.multiline.Slots.{row_in}
use Rattle.jsonc_edit.proofs.Standing.{standing}
use Rattle.jsonc_edit.proofs.lemmas.multiline.BracketedRows.{last_there, open_there, top_is, BracketedRow}
use Rattle.jsonc_edit.proofs.lemmas.multiline.FilledRows.{filled_shown}
use Rattle.jsonc_insert.specs.members.Laws.{IsSpreadFirst, SpreadsFirst, OnlyOutOfMemory}
use Rattle.jsonc_insert.specs.members.Opened.{IsOpened}
use Rattle.jsonc_insert.proofs.lemmas.elements.Containers as containers
use Rattle.jsonc_insert.proofs.lemmas.elements.Opened as opened

module _ (o : Options) (old : List Node) (path : List ℕ) (c : ℕ) (tree : IsTree old) (sound : SoundTree o (ordered_tree old 0)) (at : IsAt old path c) (is : content_at old c ≡ object) where
  over : IsOver old 0 c
  over = containers.over o of_properties old path c tree sound at is

  there : c < length old
  there = containers.there o of_properties old path c tree sound at is

  a : BracketedRow old c of_properties
  a = containers.container_row o of_properties old path c tree sound at is

  spread_first : (lined : List Node) (lines : List ℕ) → IsOpened old lined c lines → IsSpreadFirst old lined c lines
  spread_first lined lines p = record {
    open_with = a.open_with;
    inner = opened.lined_inner o of_properties old c tree sound.shaped over a lined lines p.filled;
    last = a.last;
    are = opened.lines_are o of_properties old c tree sound.shaped over a lined lines p.filled;
    opens = p.prepared.keeps.content a.open_with (open_there old tree c there a) ∙ a.opens;
    closes = p.prepared.keeps.content a.last (last_there old tree c there a) ∙ a.closes;
    row = standing old a.inner;
    spread = row_in old (opened.inside o of_properties old c tree sound.shaped over a);
    was = top_is old tree c there a;
    shown = filled_shown old lined tree p.prepared (opened.inner_fills o of_properties old c tree sound.shaped over a lined lines p.filled) (opened.inside_fit o of_properties old c tree sound.shaped over a);
    spreads = opened.spreads o of_properties old c tree sound.shaped over a;
  }

pub spreads_first : (o : Options) (old new : List Node) (path : List ℕ) (c i : ℕ) (name : List ℕ) (v : Plain) (m : ℕ) → SpreadsFirst o old new path c i name v m
spreads_first o old new path c i name v m tree sound at is e = spread_first o old path c tree sound at is e.lined e.before.lines e.before.opens

pub wants_memory_alone : (o : Options) (ns : List Node) (path : List ℕ) (c : ℕ) → OnlyOutOfMemory o ns path c
wants_memory_alone o ns path c tree sound at is = let h = containers.has o of_properties ns path c tree sound at is in (h, ap (λ w. cond w OutOfMemory MissingBrackets) h)
