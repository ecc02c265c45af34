use Rattle.std.proofs.Common.{◌≡◌, ℕ, suc, ◌+◌, ◌-◌, ◌++◌, ap, sym, ◌∙◌, arith, string_bytes}
use Rattle.std.proofs.lemmas.List.{append_assoc}
use Rattle.jsonc_layout.specs.lines.Indents.{repeated}
use Rattle.jsonc_layout.proofs.lines.indents.followed_by.Goals as goal

pub loop-time-preserved : goal.loop-time-preserved
loop-time-preserved g c =
    let single = c.args.single.now in
    let left : ℕ = c.args.count - (c.loop-time._time + 1) in
    let more : c.args.count - c.loop-time._time ≡ suc left = omega arith in
    c.loop-time.invariant
    ∙ ap (λ k. string_bytes c.loop-time.text ++ repeated k single) more
    ∙ sym (append_assoc (string_bytes c.loop-time.text) single (repeated left single))
    ∙ ap (λ s. s ++ repeated left single) (sym c.in_ok-push_str.ensures.bytes)
