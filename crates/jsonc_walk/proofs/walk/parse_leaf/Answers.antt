use Rattle.std.proofs.Common.{ap, sym, refl, ◌∙◌, None, option_map, inr}
use Rattle.jsonc_walk.specs.Located.{leaf_at}
use Rattle.jsonc_walk.proofs.lemmas.MovedTokens.{kept_self, last_same}
use Rattle.jsonc_scan.specs.Scanner.{start_of, end_of}
use Rattle.jsonc_walk.specs.Context.{last}
use Rattle.jsonc_walk.specs.Scanned.{unexpected_kind}
use Rattle.jsonc_walk.proofs.lemmas.NoValues.{no_literal_here}
use Rattle.jsonc_walk.proofs.lemmas.Stopping.{is_unexpected}
use Rattle.jsonc_walk.proofs.lemmas.Leaves.{leaf_reads}
use Rattle.jsonc_walk.proofs.lemmas.Scans.{failure, fault_before, starved, told_anyhow}
use Rattle.jsonc_walk.proofs.walk.parse_leaf.Goals as goal

pub returns-in_default-found-clause-refused : goal.returns-in_default-found-clause-refused
returns-in_default-found-clause-refused g c =
    let old = c.args.context.now in
    let t = last old c.args.token in
    let none = rw c.in_default-found.is at c.in-Ok.ensures.none in
    inr (no_literal_here old t None c.range-range.result c.requires.token refl (ap (option_map (leaf_at c.range-range.result)) (sym none)))

pub returns-in_default-found-clause-error : goal.returns-in_default-found-clause-error
returns-in_default-found-clause-error g c = λ opens.
    let old = c.args.context.now in
    let t = last old c.args.token in
    let none = rw c.in_default-found.is at c.in-Ok.ensures.none in
    let stays = rw c.in_default-found.is at c.in-Ok.ensures.stays in
    inr (is_unexpected old t c.stop_unexpected.new.self.fault opens none
    (c.stop_unexpected.ensures.kind ∙ ap unexpected_kind (last_same old c.leaf.new.context c.args.token c.leaf.ensures.gives.scanner stays))
    (c.stop_unexpected.ensures.range ∙ ap (λ s. record { start = start_of s; end = end_of s }) c.leaf.ensures.gives.scanner))

pub returns-clause-found : goal.returns-clause-found
returns-clause-found g c =
    let old = c.args.context.now in
    let made = rw c.in-Some.is at c.in-Ok.ensures.made in
    leaf_reads old (last old c.args.token) (g.R.Receiver.makes c.args.to.now c.leaf.new.to c.in-Some.value) c.range-range.result c.requires.token made c.range-range.ensures

pub returns-in_default-clause-fault : goal.returns-in_default-clause-fault
returns-in_default-clause-fault g c =
    let old = c.args.context.now in
    starved old c.leaf.new.context _ (kept_self old c.leaf.new.context c.leaf.ensures.gives) c.stop_for_memory.ensures.fault (inr (failure _ c.in_default.not-Ok))

pub returns-in_default-found-clause-fault : goal.returns-in_default-found-clause-fault
returns-in_default-found-clause-fault g c =
    let old = c.args.context.now in
    fault_before old c.leaf.new.context _ (kept_self old c.leaf.new.context c.leaf.ensures.gives) (told_anyhow c.stop_unexpected.ensures.fault)
