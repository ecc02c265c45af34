use Rattle.std.proofs.Common.{◌-◌, ◌≡◌, ◌<◌, length, get_or}
use Rattle.jsonc_text.proofs.BlockCloses.{NoCloseBy}
use Rattle.jsonc_text.proofs.comment.block_close.Given as goal

abbrev pub invariant-loop-slash : goal.invariant-loop-slash
invariant-loop-slash l = (l.bytes ≡ l.text) × NoCloseBy l.text l.start l.slash × (l.slash < length l.text → get_or l.text l.slash 0 ≡ 0x2F)

abbrev pub decreases-loop-slash : goal.decreases-loop-slash
decreases-loop-slash l = length l.bytes - l.slash
