use Rattle.std.proofs.Common.{sym, ◌∙◌, arith}
use Rattle.jsonc_text.specs.Text.{stop}
use Rattle.jsonc_text.specs.Words.{is_in_word}
use Rattle.jsonc_text.proofs.CharacterSteps.{many_push}
use Rattle.jsonc_scan.proofs.word.word_chars_end.Goals as goal

pub loop-c-init : goal.loop-c-init
loop-c-init c = record { boundary = c.requires; order = omega arith; chars = stop }

pub loop-c-preserved : goal.loop-c-preserved
loop-c-preserved c =
    let held = c.loop-c.invariant in
    let one = rw (← c.len_utf8-place.ensures.value) at c.in-Some.ensures.some in
    record {
      boundary = one.1;
      order = omega (arith, held.order);
      chars = many_push is_in_word _ _ _ _ _ held.chars (sym c.is_in_word.ensures ∙ c.if-not-is_in_word.false) one;
    }
