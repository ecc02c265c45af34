use Rattle.std.proofs.Common.{OnOk, IfErr, subst}
use Rattle.jsonc_parser.specs.Lists.{RunOk, RunErr}
use Rattle.jsonc_parser.proofs.cst.lists.run.Goals as goal

pub returns-clause-made : goal.returns-clause-made
returns-clause-made g c =
    subst (λ l. OnOk c.make_all.result (RunOk g.C.Fn c.args.compare.now g.D.DocumentArg.same c.args.doc.now l c.make_all.new.doc)) c.deref.ensures.value c.make_all.ensures.made

pub returns-clause-stopped : goal.returns-clause-stopped
returns-clause-stopped g c =
    subst (λ l. IfErr c.make_all.result (λ e. RunErr g.C.Fn c.args.compare.now g.D.DocumentArg.same c.args.doc.now l e.0 e.1 c.make_all.new.doc)) c.deref.ensures.value c.make_all.ensures.stopped
