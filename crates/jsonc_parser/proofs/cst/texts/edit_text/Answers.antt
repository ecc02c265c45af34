use Rattle.std.proofs.Common.{◌≡◌, chars, inl, inr, length, rules, sym, string_bytes}
use Rattle.jsonc_text.specs.OptionsOf.{parse_options}
use Rattle.jsonc_cst.specs.Document.{tree_of}
use Rattle.jsonc_parser.proofs.Promise.{text_edited, text_stops, text_wants_memory}
use Rattle.jsonc_parser.proofs.cst.texts.edit_text.Goals as goal

pub returns-in-Err-run-clause-refused : goal.returns-in-Err-run-clause-refused
returns-in-Err-run-clause-refused g c =
    let stopped = c.in-Err-run.ensures.stopped in
    text_stops (parse_options c.args.options.now) (chars c.args.text.now) (tree_of c.in-Ok.doc) c.args.edits.items (tree_of c.run.new.doc) c.in-Err-run.made c.in-Err-run.why c.in-Ok.ensures.document stopped.is_next stopped.edited

pub returns-in-Ok-text-clause-edited : goal.returns-in-Ok-text-clause-edited
returns-in-Ok-text-clause-edited g c =
    text_edited (parse_options c.args.options.now) (chars c.args.text.now) (tree_of c.in-Ok.doc) c.args.edits.items (tree_of c.run.new.doc) (string_bytes c.in-Ok-text.edited) c.in-Ok.ensures.within c.in-Ok.ensures.document
    c.in_default.ensures.made.edited (sym c.in-Ok-text.ensures.printed)

pub returns-in-Ok-text-clause-made : goal.returns-in-Ok-text-clause-made
returns-in-Ok-text-clause-made g c = (c.in-Ok.doc, c.run.new.doc, c.in-Ok.ensures.document, c.in_default.ensures.made, sym c.in-Ok-text.ensures.printed, c.in-Ok.ensures.laid)

pub returns-clause-refused : goal.returns-clause-refused
returns-clause-refused g c =
    let all : c.len-count.result ≡ length c.args.edits.items = search rules in
    text_wants_memory (parse_options c.args.options.now) (chars c.args.text.now) (tree_of c.in-Ok.doc) c.args.edits.items c.len-count.result c.in-Err-text.why c.in-Ok.ensures.document all
    c.in-Err-text.ensures.memory

pub returns-in-Err-run-clause-stopped : goal.returns-in-Err-run-clause-stopped
returns-in-Err-run-clause-stopped g c = (c.in-Ok.doc, c.run.new.doc, c.in-Ok.ensures.document, c.in-Ok.ensures.laid, inr c.in-Err-run.ensures.stopped)

pub returns-clause-stopped : goal.returns-clause-stopped
returns-clause-stopped g c =
    let all : c.len-count.result ≡ length c.args.edits.items = search rules in
    (c.in-Ok.doc, c.run.new.doc, c.in-Ok.ensures.document, c.in-Ok.ensures.laid, inl (all, c.in-Err-text.ensures.memory))
