-- Steps that are added, and what is left of lines.
use Rattle.std.proofs.Common.{◌≡◌, ◌∙◌, ◌+◌, ◌<◌, ◌≤◌, ◌++◌, ◌∷◌, ℕ, suc, Bor, List, [], length, map, take, drop, get_or, refl, sym, ap, arith, append_assoc, add-one}
use Rattle.std.proofs.Math.Seq.{take-suc}
use Rattle.std.proofs.lemmas.List.{map-append, drop_more, drop_all, append-nil, get_or_default, take-append-drop, take-take, drop-take}
use Rattle.jsonc_diff.specs.Scripts.{old_of, new_of}
use Rattle.jsonc_diff.specs.declared.script.Step.{Step}
use Rattle.jsonc_diff.specs.declared.script.Step.TheVariants.{Kept, Removed, Added}

abbrev pub texts : List (Bor (List ℕ)) → List (List ℕ)
texts lines = map (λ line. line.now) lines

pub old_push : (steps : List Step) (step : Step) → old_of (steps ++ step ∷ []) ≡ old_of steps ++ old_of (step ∷ [])
old_push [] step = refl
old_push (Kept line ∷ steps) step = ap (λ l. line.now ∷ l) (old_push steps step)
old_push (Removed line ∷ steps) step = ap (λ l. line.now ∷ l) (old_push steps step)
old_push (Added line ∷ steps) step = old_push steps step

pub new_push : (steps : List Step) (step : Step) → new_of (steps ++ step ∷ []) ≡ new_of steps ++ new_of (step ∷ [])
new_push [] step = refl
new_push (Kept line ∷ steps) step = ap (λ l. line.now ∷ l) (new_push steps step)
new_push (Removed line ∷ steps) step = new_push steps step
new_push (Added line ∷ steps) step = ap (λ l. line.now ∷ l) (new_push steps step)

get_or-get_or : (lines : List (Bor (List ℕ))) (at : ℕ) (d : Bor (List ℕ)) → at < length lines → get_or lines at d ≡ get_or lines at (get_or lines at d)
get_or-get_or lines at d inside = get_or_default lines at d (get_or lines at d) inside

-- a line of those that are left is taken over by a step
pub taken_over : (lines_of : List Step → List (List ℕ)) (steps : List Step) (step : Step) (total : List (List ℕ)) (lines : List (Bor (List ℕ))) (at : ℕ) (line : Bor (List ℕ))
    → lines_of (steps ++ step ∷ []) ≡ lines_of steps ++ line.now ∷ [] → at < length lines → line.now ≡ (get_or lines at line).now → lines_of steps ++ texts (drop at lines) ≡ total
    → lines_of (steps ++ step ∷ []) ++ texts (drop (at + 1) lines) ≡ total
taken_over lines_of steps step total lines at line pushed inside same e =
    ap (λ l. l ++ texts (drop (at + 1) lines)) pushed ∙ append_assoc (lines_of steps) (line.now ∷ []) (texts (drop (at + 1) lines))
    ∙ ap (λ b. lines_of steps ++ (b ∷ texts (drop (at + 1) lines))) same
    ∙ sym (ap (λ l. lines_of steps ++ texts l) (drop_more lines at line inside)) ∙ e

pub old_taken : (steps : List Step) (step : Step) (total : List (List ℕ)) (lines : List (Bor (List ℕ))) (at : ℕ) (d : Bor (List ℕ)) → old_of (step ∷ []) ≡ (get_or lines at d).now ∷ [] → at < length lines
    → old_of steps ++ texts (drop at lines) ≡ total → old_of (steps ++ step ∷ []) ++ texts (drop (at + 1) lines) ≡ total
old_taken steps step total lines at d e inside =
    taken_over old_of steps step total lines at (get_or lines at d) (old_push steps step ∙ ap (λ l. old_of steps ++ l) e) inside (ap (λ b. b.now) (get_or-get_or lines at d inside))

pub new_taken : (steps : List Step) (step : Step) (total : List (List ℕ)) (lines : List (Bor (List ℕ))) (at : ℕ) (d : Bor (List ℕ)) → new_of (step ∷ []) ≡ (get_or lines at d).now ∷ [] → at < length lines
    → new_of steps ++ texts (drop at lines) ≡ total → new_of (steps ++ step ∷ []) ++ texts (drop (at + 1) lines) ≡ total
new_taken steps step total lines at d e inside =
    taken_over new_of steps step total lines at (get_or lines at d) (new_push steps step ∙ ap (λ l. new_of steps ++ l) e) inside (ap (λ b. b.now) (get_or-get_or lines at d inside))

-- no line is left
pub all_taken : (taken total : List (List ℕ)) (lines : List (Bor (List ℕ))) (at : ℕ) → length lines ≤ at → taken ++ texts (drop at lines) ≡ total → taken ≡ total
all_taken taken total lines at over e = sym (append-nil taken) ∙ sym (ap (λ l. taken ++ texts l) (drop_all at lines over)) ∙ e

-- a step that is no line of the old text, or of the new one
pub old_stays : (steps : List Step) (step : Step) → old_of (step ∷ []) ≡ [] → old_of (steps ++ step ∷ []) ≡ old_of steps
old_stays steps step e = old_push steps step ∙ ap (λ l. old_of steps ++ l) e ∙ append-nil (old_of steps)

pub new_stays : (steps : List Step) (step : Step) → new_of (step ∷ []) ≡ [] → new_of (steps ++ step ∷ []) ≡ new_of steps
new_stays steps step e = new_push steps step ∙ ap (λ l. new_of steps ++ l) e ∙ append-nil (new_of steps)

-- lines that are the same at the front of both, and one more
pub same_more : (old new : List (Bor (List ℕ))) (count : ℕ) (d e : Bor (List ℕ)) → count < length old → count < length new → texts (take count old) ≡ texts (take count new)
    → (get_or old count d).now ≡ (get_or new count e).now → texts (take (count + 1) old) ≡ texts (take (count + 1) new)
same_more old new count d e a b h s =
    ap (λ n. texts (take n old)) (add-one count) ∙ ap texts (take-suc old count d a) ∙ map-append (λ line. line.now) (take count old) (get_or old count d ∷ [])
    ∙ ap (λ l. l ++ (get_or old count d).now ∷ []) h ∙ ap (λ t. texts (take count new) ++ t ∷ []) s
    ∙ sym (ap (λ n. texts (take n new)) (add-one count) ∙ ap texts (take-suc new count e b) ∙ map-append (λ line. line.now) (take count new) (get_or new count e ∷ []))

take_both : (m n : ℕ) (lines : List (Bor (List ℕ))) → take (m + n) lines ≡ take m lines ++ take n (drop m lines)
take_both m n lines =
    sym (take-append-drop m (take (m + n) lines)) ∙ ap (λ l. l ++ drop m (take (m + n) lines)) (take-take m (m + n) lines (omega arith)) ∙ ap (λ l. take m lines ++ l) (drop-take m n lines)

-- lines at the front, and more behind them
pub two_parts : (all before after : List (List ℕ)) (lines rest : List (Bor (List ℕ))) (m n : ℕ) → rest ≡ drop m lines → before ≡ all ++ texts (take m lines) → after ≡ before ++ texts (take n rest)
    → after ≡ all ++ texts (take (m + n) lines)
two_parts all before after lines rest m n e f g =
    g ∙ ap (λ b. b ++ texts (take n rest)) f ∙ append_assoc all (texts (take m lines)) (texts (take n rest))
    ∙ ap (λ l. all ++ l) (ap (λ r. texts (take m lines) ++ texts (take n r)) e ∙ sym (map-append (λ line. line.now) (take m lines) (take n (drop m lines))) ∙ ap texts (sym (take_both m n lines)))

-- lines that are the same in both, and kept as those of the first
pub same_texts : (all after : List (List ℕ)) (front old new : List (Bor (List ℕ))) (n : ℕ) → front ≡ take n old → texts (take n old) ≡ texts (take n new) → after ≡ all ++ texts front → after ≡ all ++ texts (take n new)
same_texts all after front old new n e f g = g ∙ ap (λ l. all ++ texts l) e ∙ ap (λ l. all ++ l) f

-- all lines are taken, once those that are left are
pub stretch : (taken next : List (List ℕ)) (lines rest : List (Bor (List ℕ))) (at n : ℕ) → rest ≡ drop at lines → next ≡ taken ++ texts (take n rest) → taken ≡ texts (take at lines)
    → next ≡ texts (take (at + n) lines)
stretch taken next lines rest at n e f g =
    f ∙ ap (λ b. b ++ texts (take n rest)) g ∙ ap (λ r. texts (take at lines) ++ texts (take n r)) e ∙ sym (map-append (λ line. line.now) (take at lines) (take n (drop at lines))) ∙ ap texts (sym (take_both at n lines))
