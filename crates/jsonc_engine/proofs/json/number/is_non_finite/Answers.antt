use Rattle.std.proofs.Common.{codes, inl, inr, sym, true≢false, ◌∙◌, ◌≡◌}
use Rattle.std.proofs.lemmas.Slice.Eq.{bytes_eq-Decides}
use Rattle.jsonc_engine.proofs.NumberForms.{non_finite_is, non_finite_only}
use Rattle.jsonc_engine.proofs.json.number.is_non_finite.Goals as goal

pub returns-then-eq : goal.returns-then-eq
returns-then-eq c =
    let split = c.split_sign-negative in
    let name = split.result.1.now in
    let is = (bytes_eq-Decides name (codes "Infinity")).0 (sym c.eq.ensures ∙ c.if-eq.true) in
    (λ e. non_finite_is c.args.number.now name split.result.0 split.ensures.sign (inl is), λ h. c.if-eq.true)

pub returns-else-eq : goal.returns-else-eq
returns-else-eq c =
    let split = c.split_sign-negative in
    let name = split.result.1.now in
    let tells = bytes_eq-Decides name (codes "NaN") in
    let other = λ (e : name ≡ codes "Infinity"). true≢false (sym ((bytes_eq-Decides name (codes "Infinity")).1 e) ∙ sym c.eq.ensures ∙ c.if-eq.false) in (
      λ e. non_finite_is c.args.number.now name split.result.0 split.ensures.sign (inr (tells.0 (sym c.eq-else-eq.ensures ∙ e))),
      λ h. c.eq-else-eq.ensures ∙ tells.1 (elim (non_finite_only c.args.number.now name split.result.0 c.utf8.number split.ensures.only h) [ inl e ↦ absurd (other e) | inr e ↦ e ]),
    )
