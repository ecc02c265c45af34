-- Which calls tell of a fault.
use Rattle.std.proofs.Common.{◌≡◌, ℕ, ap, refl, subst, sym, ◌∙◌}
use Rattle.jsonc_c.specs.Told.{TellsOfEdits, TellsOfTexts, no_fault}
use Rattle.jsonc_c.specs.declared.fault.JsoncFault.{JsoncFault}

-- nothing is told
pub tells_none : (status : ℕ) (f : JsoncFault) → f ≡ no_fault → TellsOfTexts status f
tells_none status f none = record { nothing = λ four five seven. none; no_edits = ap (λ (g : JsoncFault). g.made) none }

-- of a text alone, and of no edits
pub tells_of : (status : ℕ) (old new : JsoncFault) → old ≡ no_fault → (¬ (status ≡ 4) → ¬ (status ≡ 5) → ¬ (status ≡ 7) → new ≡ old) → new.made ≡ old.made → TellsOfTexts status new
tells_of status old new none untold made = record {
  nothing = λ four five seven. untold four five seven ∙ none;
  no_edits = made ∙ ap (λ (g : JsoncFault). g.made) none;
}

-- of the text that is read
pub tells_text : (status : ℕ) (old new : JsoncFault) → old ≡ no_fault → (¬ (status ≡ 4) → new ≡ old) → new.made ≡ old.made → TellsOfTexts status new
tells_text status old new none untold made = tells_of status old new none (λ four five seven. untold four) made

-- a list of edits was made
pub tells_no_edits : (status : ℕ) (f : JsoncFault) → f ≡ no_fault → TellsOfEdits status f
tells_no_edits status f none = record {
  nothing = λ zero. none;
  number = λ four seven. subst (λ (g : JsoncFault). g ≡ record no_fault { made = g.made }) (sym none) refl;
}
