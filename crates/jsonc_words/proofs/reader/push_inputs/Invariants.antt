use Rattle.std.proofs.Common.{ℕ, List, map, take, ◌++◌}
use Rattle.jsonc_words.specs.Inputs.{AreInputs}
use Rattle.jsonc_words.proofs.reader.push_inputs.Given as goal

-- the words so far name the inputs that were added
abbrev pub invariant-loop-word : goal.invariant-loop-word
invariant-loop-word l = (before : List (List ℕ)) → AreInputs before l.fn.files.items
    → AreInputs (before ++ map (λ word. word.now) (take l.word-index l.words)) l.files.items
