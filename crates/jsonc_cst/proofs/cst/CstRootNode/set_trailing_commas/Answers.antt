use Rattle.jsonc_cst.proofs.lemmas.typed.Steps.{err_then, ok_then}
use Rattle.jsonc_cst.proofs.cst.CstRootNode.set_trailing_commas.Goals as goal

pub returns : goal.returns
returns g c =
    let first = c.root-root.ensures.first in
    let made = c.set_commas_of.ensures in
    record {
      set = rw first at made.set;
      said = rw first at made.said;
      part = rw first at made.part;
      all_set = λ o. rw first at (made.all_set o);
      once = λ o. rw first at (made.once o);
      step = ok_then c.set_commas_of.result (λ step. step tt) (rw first at made.step);
      begun = err_then c.set_commas_of.result (λ step. step tt) (rw first at made.begun);
      detached = rw first at made.detached;
      oom_only_if = made.oom_only_if;
      needed = rw first at made.needed;
      memory = made.memory;
      handles = made.handles;
    }
