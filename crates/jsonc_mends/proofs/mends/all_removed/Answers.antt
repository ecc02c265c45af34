use Rattle.std.proofs.Common.{refl, length}
use Rattle.jsonc_text.specs.OptionsOf.{parse_options}
use Rattle.jsonc_mends.proofs.Telling.{one_removed, removed_mended}
use Rattle.jsonc_mends.proofs.mends.all_removed.Goals as goal

pub returns : goal.returns
returns g c =
    removed_mended (parse_options c.args.options.now) c.args.text.now c.args.first _ refl c.utf8.text c.requires.told c.requires.first c.new-3.ensures.bytes
    (one_removed c.args.first c.new-list.result.items _ c.new.result c.new-2.result (length c.args.text.now) c.new-list.ensures.items c.in_ok-push.ensures.items
    c.new.ensures.start c.new.ensures.end c.new-2.ensures.start c.new-2.ensures.end)
