use Rattle.std.proofs.Common.{[], ◌++◌, refl, sym, ap, subst, append-nil, append_assoc, ◌∙◌}
use Rattle.std.specs.List.{concat}
use Rattle.std.specs.Io.KnownBytes.{Appends}
use Rattle.std.proofs.KnownBytes.{Appends-nil, Appends-trans, Appends-kept}
use Rattle.jsonc_engine.specs.Calls.{one_more}
use Rattle.jsonc_engine.specs.Parser.{printed_of}
use Rattle.jsonc_engine.proofs.Changes.{err_so, ok_so}
use Rattle.jsonc_engine.proofs.engine.write_document.Goals as goal

pub loop-piece-init : goal.loop-piece-init
loop-piece-init g c = record {
  written = ([], Appends-nil _, ap concat c.into_iter-piece-iterator.ensures.into_iter_gives ∙ c.pieces-piece-items.ensures.joined);
  kept = refl;
}

pub loop-piece-preserved : goal.loop-piece-preserved
loop-piece-preserved g c =
    let so_far = c.loop-piece.invariant.written in
    record {
      written = (
        so_far.0 ++ c.in-Some.piece.now,
        Appends-trans _ _ _ _ _ so_far.1 c.in-Ok.ensures.bytes,
        append_assoc so_far.0 c.in-Some.piece.now (concat c.next.new.self) ∙ ap (λ l. so_far.0 ++ concat l) (sym c.in-Some.ensures.steps) ∙ so_far.2,
      );
      kept = c.in-Ok.ensures.counted ∙ c.loop-piece.invariant.kept;
    }

pub returns-in_default-clause-failed : goal.returns-in_default-clause-failed
returns-in_default-clause-failed g c = c.in_default.ensures.counted ∙ ap one_more c.loop-piece.invariant.kept

pub returns-clause-written : goal.returns-clause-written
returns-clause-written g c =
    let so_far = c.loop-piece.invariant.written in
    let all : Appends (g.K.Sink.contents c.args.sink.now) (g.K.Sink.contents c.loop-piece.sink) (printed_of c.args.document.now) =
    subst (Appends (g.K.Sink.contents c.args.sink.now) (g.K.Sink.contents c.loop-piece.sink))
    (sym (append-nil so_far.0) ∙ ap (λ l. so_far.0 ++ concat l) (sym c.in-None.ensures.steps.0) ∙ so_far.2) so_far.1 in
    ok_so c.finish.result (λ kept. Appends-kept _ _ _ _ all kept) c.finish.ensures.bytes

pub returns-clause-kept : goal.returns-clause-kept
returns-clause-kept g c = ok_so c.finish.result (λ same. same ∙ c.loop-piece.invariant.kept) c.finish.ensures.kept

pub returns-clause-failed : goal.returns-clause-failed
returns-clause-failed g c = err_so c.finish.result (λ failed. failed ∙ ap one_more c.loop-piece.invariant.kept) c.finish.ensures.failed
