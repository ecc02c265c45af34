-- Behind the last property all numbers do the same.
use Rattle.std.proofs.Common.{ℕ, List, length, Some, ap, arith}
use Rattle.jsonc_text.specs.Plain.{Plain}
use Rattle.jsonc_tree.specs.Tree.{Node}
use Rattle.jsonc_insert.specs.members.Laws.{PastTheEnd}
use Rattle.jsonc_insert.proofs.PastTheEnd.{made_past}
use Rattle.jsonc_insert.proofs.lemmas.members.Numbering.{was_elements}

pub past_the_end : (old new : List Node) (c i j : ℕ) (name : List ℕ) (v : Plain) (m : ℕ) → PastTheEnd old new c i j name v m
past_the_end old new c i j name v m tree there brackets h k e =
    let all = ap length (was_elements old new c i name v m tree there e brackets) in
    record {
      lined = e.lined;
      was = e.was;
      before = e.before;
      ready = e.ready;
      row = e.row;
      prepared = e.prepared;
      made = made_past e.lined e.ready c e.was i j (Some name) v m e.row (omega (arith, all, h)) (omega (arith, all, k)) e.made;
      join = e.join;
      put = e.put;
      tree = e.tree;
    }
