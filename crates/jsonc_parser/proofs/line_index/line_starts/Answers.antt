use Rattle.std.proofs.Common.{◌≡◌, ◌∙◌, ◌+◌, ◌∷◌, ◌++◌, [], ap, chars, subst, sym, ℕ, List, true, false}
use Rattle.std.proofs.lemmas.Str.{IsCharBoundary-start}
use Rattle.jsonc_text.specs.Chars.{Steps}
use Rattle.jsonc_text.specs.Places.{ends_line}
use Rattle.jsonc_text.specs.Text.{rest}
use Rattle.jsonc_parser.proofs.LineIndexing.{HasFound, found_all, found_line, found_run, found_start, found_step}
use Rattle.jsonc_parser.proofs.line_index.line_starts.Goals as goal

pub stop_place-at-requires-clause-boundary : goal.stop_place-at-requires-clause-boundary
stop_place-at-requires-clause-boundary g c = IsCharBoundary-start c.args.text.now c.utf8.text

pub loop-c-init : goal.loop-c-init
loop-c-init g c =
    let begun : c.push.new.self.items ≡ 0 ∷ [] = c.in_ok-push.ensures.items ∙ ap (λ (l : List ℕ). l ++ 0 ∷ []) c.new-starts.ensures.items in
    let run = c.stop_place-at.ensures.passed in
    record {
      boundary = run.boundary;
      found = found_run (chars c.args.text.now) (chars c.args.text.now) (rest c.args.text.now c.stop_place-at.result) c.push.new.self.items run.piece (found_start (chars c.args.text.now) c.push.new.self.items begun);
    }

pub loop-c-preserved-in-Continue-branch-2 : goal.loop-c-preserved-in-Continue-branch-2
loop-c-preserved-in-Continue-branch-2 g c =
    let text = c.args.text.now in
    let next = c.loop-c.at + c.len_utf8.result in
    let one : Steps text c.loop-c.at c.in-Some.c next = rw (sym c.len_utf8.ensures.value) at c.in-Some.ensures.some in
    let run = c.stop_place-at-in-Some.ensures.passed in
    let ends : ends_line c.in-Some.c (rest text next) ≡ true = ap (λ b. ends_line c.in-Some.c (chars b)) (sym c.range_from.ensures.value) ∙ sym c.ends_line.ensures ∙ c.if-ends_line.true in
    record {
      boundary = run.boundary;
      found = found_run (chars text) (rest text next) (rest text c.stop_place-at-in-Some.result) c.push-then-ends_line.new.self.items run.piece
          (found_line text c.loop-c.at next c.in-Some.c c.loop-c.starts.items c.push-then-ends_line.new.self.items c.utf8.text one c.loop-c.invariant.found ends c.in_ok-push-2.ensures.items);
    }

pub loop-c-preserved : goal.loop-c-preserved
loop-c-preserved g c =
    let text = c.args.text.now in
    let next = c.loop-c.at + c.len_utf8.result in
    let one : Steps text c.loop-c.at c.in-Some.c next = rw (sym c.len_utf8.ensures.value) at c.in-Some.ensures.some in
    let run = c.stop_place-at-in-Some.ensures.passed in
    let ends : ends_line c.in-Some.c (rest text next) ≡ false = ap (λ b. ends_line c.in-Some.c (chars b)) (sym c.range_from.ensures.value) ∙ sym c.ends_line.ensures ∙ c.if-ends_line.false in
    record {
      boundary = run.boundary;
      found = found_run (chars text) (rest text next) (rest text c.stop_place-at-in-Some.result) c.loop-c.starts.items run.piece
          (found_step text c.loop-c.at next c.in-Some.c c.loop-c.starts.items one c.loop-c.invariant.found ends);
    }

pub returns : goal.returns
returns g c = found_all _ _ (subst (λ t. HasFound (chars c.args.text.now) t c.loop-c.starts.items) c.in_default.ensures.none c.loop-c.invariant.found)
