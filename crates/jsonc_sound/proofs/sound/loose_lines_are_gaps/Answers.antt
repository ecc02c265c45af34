use Rattle.std.proofs.Common.{false}
use Rattle.jsonc_tree.specs.Content.{Content}
use Rattle.jsonc_tree.specs.OrderedTree.{OrderedTree, none, more}
use Rattle.jsonc_sound.proofs.LooseLines.{Stops, stops_halts, loose_gap}
use Rattle.jsonc_sound.specs.LooseLines.{StartsNoTrivia}
use Rattle.jsonc_sound.proofs.LooseChanges.{document_loose, parted_loosely, joined_loosely}
use Rattle.jsonc_sound.proofs.sound.loose_lines_are_gaps.Goals as goal

stops : (r : OrderedTree) → StartsNoTrivia r → Stops r
stops none s = tt
stops (more (Content.whitespace k) below after) s = cc
stops (more (Content.newline k) below after) s = cc
stops (more content below after) s = tt

pub returns-clause-gaps : goal.returns-clause-gaps
returns-clause-gaps c = λ o loose t r g s l z. loose_gap o z loose false (λ e. cc) (stops_halts r (stops r s)) g l

pub returns-clause-changed : goal.returns-clause-changed
returns-clause-changed c = λ t l was now path u d n. document_loose n d l

pub returns-clause-apart : goal.returns-clause-apart
returns-clause-apart c = λ loose at_end first second. (parted_loosely loose at_end first second, λ l. joined_loosely loose at_end first second l.0 l.1)
