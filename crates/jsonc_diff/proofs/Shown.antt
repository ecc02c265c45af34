-- Hunks, one step or one hunk at a time.
use Rattle.std.proofs.Common.{◌≡◌, ◌∙◌, ◌+◌, ◌-◌, ◌<◌, ◌≤◌, ◌++◌, ◌∷◌, ℕ, List, [], length, take, drop, get_or, refl, sym, ap, subst, arith, append_assoc}
use Rattle.std.specs.List.{All}
use Rattle.std.proofs.lemmas.List.{drop_more, append-nil, take-append-drop, drop-drop, length-take-le}
use Rattle.jsonc_diff.specs.Diffs.{AreShown, IsKept, hunk_text, passed, shown, step_text, steps_text}
use Rattle.jsonc_diff.specs.Scripts.{old_of, new_of}
use Rattle.jsonc_diff.specs.Going.{GoesOn}
use Rattle.jsonc_diff.specs.declared.hunks.Place.{Place}
use Rattle.jsonc_diff.specs.declared.script.Step.{Step}
use Rattle.jsonc_diff.specs.declared.script.Step.TheVariants.{Kept, Removed, Added}

old_first : (step : Step) (steps : List Step) → length (old_of (step ∷ steps)) ≡ length (old_of (step ∷ [])) + length (old_of steps)
old_first (Kept line) steps = omega arith
old_first (Removed line) steps = omega arith
old_first (Added line) steps = omega arith

new_first : (step : Step) (steps : List Step) → length (new_of (step ∷ steps)) ≡ length (new_of (step ∷ [])) + length (new_of steps)
new_first (Kept line) steps = omega arith
new_first (Removed line) steps = omega arith
new_first (Added line) steps = omega arith

-- one more step is counted
pub old_counted : (steps : List Step) (at count more total : ℕ) (d : Step) → at < length steps → more ≡ length (old_of (get_or steps at d ∷ [])) → count + length (old_of (drop at steps)) ≡ total
    → (count + more) + length (old_of (drop (at + 1) steps)) ≡ total
old_counted steps at count more total d inside e sum =
    let whole : length (old_of (drop at steps)) ≡ length (old_of (get_or steps at d ∷ [])) + length (old_of (drop (at + 1) steps)) =
    ap (λ l. length (old_of l)) (drop_more steps at d inside) ∙ old_first (get_or steps at d) (drop (at + 1) steps) in
    omega (arith, whole, e, sum)

pub new_counted : (steps : List Step) (at count more total : ℕ) (d : Step) → at < length steps → more ≡ length (new_of (get_or steps at d ∷ [])) → count + length (new_of (drop at steps)) ≡ total
    → (count + more) + length (new_of (drop (at + 1) steps)) ≡ total
new_counted steps at count more total d inside e sum =
    let whole : length (new_of (drop at steps)) ≡ length (new_of (get_or steps at d ∷ [])) + length (new_of (drop (at + 1) steps)) =
    ap (λ l. length (new_of l)) (drop_more steps at d inside) ∙ new_first (get_or steps at d) (drop (at + 1) steps) in
    omega (arith, whole, e, sum)

-- one more step is written
pub written_one : (before after total : List ℕ) (steps : List Step) (at : ℕ) (d : Step) → at < length steps → after ≡ before ++ step_text (get_or steps at d) → before ++ steps_text (drop at steps) ≡ total
    → after ++ steps_text (drop (at + 1) steps) ≡ total
written_one before after total steps at d inside pushed e =
    ap (λ l. l ++ steps_text (drop (at + 1) steps)) pushed ∙ append_assoc before (step_text (get_or steps at d)) (steps_text (drop (at + 1) steps))
    ∙ sym (ap (λ l. before ++ steps_text l) (drop_more steps at d inside)) ∙ e

-- so many lines are passed over, and behind them a hunk has so many steps
pub one_hunk : (old new gap size : ℕ) (steps hunk rest : List Step) (text : List ℕ) → All IsKept (take gap steps) → gap ≤ length steps → hunk ≡ take size (drop gap steps)
    → rest ≡ drop size (drop gap steps) → length (take gap steps) ≡ gap
    → AreShown (old + gap + length (old_of hunk)) (new + gap + length (new_of hunk)) rest text → AreShown old new steps (hunk_text (old + gap) (new + gap) hunk ++ text)
one_hunk old new gap size steps hunk rest text kept within e f long h =
    let P : ℕ → Type 0 = λ n. AreShown (old + n + length (old_of hunk)) (new + n + length (new_of hunk)) rest text in
    let Q : ℕ → Type 0 = λ n. AreShown old new (take gap steps ++ (hunk ++ rest)) (hunk_text (old + n) (new + n) hunk ++ text) in
    let made = subst Q long (shown old new (take gap steps) hunk rest text kept (subst P (sym long) h)) in
    let whole : take gap steps ++ (hunk ++ rest) ≡ steps =
    ap (λ l. take gap steps ++ (l ++ rest)) e ∙ ap (λ l. take gap steps ++ (take size (drop gap steps) ++ l)) f ∙ ap (λ l. take gap steps ++ l) (take-append-drop size (drop gap steps)) ∙ take-append-drop gap steps in
    subst (λ l. AreShown old new l (hunk_text (old + gap) (new + gap) hunk ++ text)) whole made

pub goes_on : (here next : Place) (rest behind hunk : List Step) (gap count : ℕ) (before after : List ℕ) → All IsKept (take gap rest) → gap < length rest → behind ≡ drop gap rest → hunk ≡ take count behind
    → next.steps ≡ here.steps + gap + count → next.old ≡ here.old + gap + length (old_of hunk) → next.new ≡ here.new + gap + length (new_of hunk)
    → after ≡ before ++ hunk_text (here.old + gap) (here.new + gap) hunk → GoesOn here next rest before after
goes_on here next rest behind hunk gap count before after kept within e f steps old new written = λ more h.
    let written_hunk = hunk_text (here.old + gap) (here.new + gap) hunk in
    let left : drop (next.steps - here.steps) rest ≡ drop count (drop gap rest) = ap (λ n. drop n rest) (omega (arith, steps)) ∙ sym (drop-drop count gap rest) in
    let k : AreShown (here.old + gap + length (old_of hunk)) (here.new + gap + length (new_of hunk)) (drop count (drop gap rest)) more =
    subst (λ n. AreShown n (here.new + gap + length (new_of hunk)) (drop count (drop gap rest)) more) old
    (subst (λ n. AreShown next.old n (drop count (drop gap rest)) more) new (subst (λ l. AreShown next.old next.new l more) left h)) in (
      written_hunk ++ more,
      one_hunk here.old here.new gap count rest hunk (drop count (drop gap rest)) more kept (omega (arith, within)) (f ∙ ap (take count) e) refl (length-take-le gap rest (omega (arith, within))) k,
      sym (ap (λ l. l ++ more) written ∙ append_assoc before written_hunk more),
    )

-- whatever shows the steps from the next place on shows, behind all that was written, all steps
pub shown_on : (here next : Place) (steps rest : List Step) (before after : List ℕ) → rest ≡ drop here.steps steps → here.steps < next.steps → GoesOn here next rest before after
    → ((more : List ℕ) → AreShown here.old here.new (drop here.steps steps) more → AreShown 0 0 steps (before ++ more))
    → (more : List ℕ) → AreShown next.old next.new (drop next.steps steps) more → AreShown 0 0 steps (after ++ more)
shown_on here next steps rest before after e less on so_far = λ more h.
    let left : drop (next.steps - here.steps) rest ≡ drop next.steps steps =
    ap (drop (next.steps - here.steps)) e ∙ drop-drop (next.steps - here.steps) here.steps steps ∙ ap (λ n. drop n steps) (omega (arith, less)) in
    let wide = on more (subst (λ l. AreShown next.old next.new l more) (sym left) h) in
    subst (AreShown 0 0 steps) wide.2 (so_far wide.0 (subst (λ l. AreShown here.old here.new l wide.0) e wide.1))

-- all lines that are left stay
pub shown_all : (here : Place) (steps rest : List Step) (text : List ℕ) → rest ≡ drop here.steps steps → All IsKept rest
    → ((more : List ℕ) → AreShown here.old here.new (drop here.steps steps) more → AreShown 0 0 steps (text ++ more)) → AreShown 0 0 steps text
shown_all here steps rest text e kept so_far =
    subst (AreShown 0 0 steps) (append-nil text) (so_far [] (passed here.old here.new (drop here.steps steps) (subst (All IsKept) e kept)))
