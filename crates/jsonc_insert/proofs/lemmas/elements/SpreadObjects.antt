-- The row of an object that is put on several lines.
use Rattle.std.proofs.Common.{◌≡◌}
use Rattle.jsonc_text.specs.Options.{Options}
use Rattle.jsonc_text.specs.Plain.{Members}
use Rattle.jsonc_tree.specs.OrderedTree.{OrderedTree}
use Rattle.jsonc_tree.specs.Values.{MembersOf}
use Rattle.jsonc_sound.specs.Marks.{marks}
use Rattle.jsonc_sound.specs.Rows.{RowKind}
use Rattle.jsonc_edit.specs.multiline.Laws.{solid_nodes}
use Rattle.jsonc_edit.specs.multiline.Reflows.{SpreadsOut}
use Rattle.jsonc_edit.proofs.lemmas.multiline.Reflow.{marks_reflow, members_reflow}
use Rattle.jsonc_edit.proofs.lemmas.multiline.SameDocument.{all_reflows, reflowed_row, solid_reflow}
use Rattle.jsonc_edit.proofs.lemmas.multiline.SoundRows.{IsRow}

pub spread_row : (o : Options) (kind : RowKind) {row spread : OrderedTree} → SpreadsOut row spread → IsRow o kind row → IsRow o kind spread
spread_row o kind {row} {spread} s r = reflowed_row o kind row spread (all_reflows s) r

pub spread_members : (o : Options) {row spread : OrderedTree} {ms : Members} → SpreadsOut row spread → MembersOf o row ms → MembersOf o spread ms
spread_members o s g = members_reflow o (all_reflows s) g

pub spread_marks : (o : Options) {row spread : OrderedTree} → SpreadsOut row spread → marks spread ≡ marks row
spread_marks o s = marks_reflow o (all_reflows s)

pub spread_solid : {row spread : OrderedTree} → SpreadsOut row spread → solid_nodes spread ≡ solid_nodes row
spread_solid s = solid_reflow (all_reflows s)
