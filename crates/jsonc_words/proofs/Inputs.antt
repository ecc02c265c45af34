-- Inputs that are added one after another.
use Rattle.std.proofs.Common.{◌≡◌, ℕ, ◌+◌, ◌<◌, ◌≤◌, List, [], ◌∷◌, ◌++◌, length, get_or, map, take, append_assoc, append-nil, refl, ap, Option, Some, None, option_map}
use Rattle.std.proofs.lemmas.List.{map-append, map_more, take_all}
use Rattle.std.proofs.lemmas.List.Elements.{All-nil, All-push}
use Rattle.std.specs.Borrow.{Bor}
use Rattle.jsonc_words.specs.Inputs.{AreInputs, IsInput, IsNamed, word_of}
use Rattle.std.specs.Option.{option_map_or}
use Rattle.clap.specs.Matches.{raw_values}
use Rattle.clap.specs.declared.parser.matches.MatchedArg.{MatchedArg}
use Rattle.jsonc_words.specs.Reading.{option_list}
use Rattle.jsonc_words.specs.declared.call.Input.{Input}

pub inputs_push : (before : List (List ℕ)) (words : List (Bor (List ℕ))) (files : List Input) (i : ℕ) (d : Bor (List ℕ))
    (input : Input) → i < length words → AreInputs (before ++ map (λ word. word.now) (take i words)) files
    → IsInput (get_or words i d).now input
    → AreInputs (before ++ map (λ word. word.now) (take (i + 1) words)) (files ++ input ∷ [])
inputs_push before words files i d input lt are is = record {
  written = rw (map-append word_of files (input ∷ []), are.written, is.written, map_more (λ word. word.now) words i d lt) (append_assoc before (map (λ word. word.now) (take i words)) ((get_or words i d).now ∷ []));
  named = All-push IsNamed files input are.named is.named;
}

pub inputs_all : (before : List (List ℕ)) (words : List (Bor (List ℕ))) (files : List Input) (i : ℕ) → length words ≤ i
    → AreInputs (before ++ map (λ word. word.now) (take i words)) files
    → AreInputs (before ++ map (λ word. word.now) words) files
inputs_all before words files i le are = rw (take_all i words le) at are

pub inputs_one : (moved : Option (List ℕ)) (word : List ℕ) (input : Input) → moved ≡ Some word → IsInput word input
    → AreInputs (option_list moved) (input ∷ [])
inputs_one moved word input e is = rw e (record {
  written = ap (λ w. w ∷ []) is.written;
  named = All-push IsNamed [] input (All-nil IsNamed) is.named;
})

pub inputs_none : (moved : Option (List ℕ)) → moved ≡ None → AreInputs (option_list moved) []
inputs_none moved e = rw e (record { written = refl; named = All-nil IsNamed })

pub inputs_of_files : (before : List (List ℕ)) (found : Option MatchedArg) (words : List (Bor (List ℕ))) (files : List Input)
    → Some (map (λ word. word.now) words) ≡ option_map raw_values found
    → AreInputs (before ++ map (λ word. word.now) words) files
    → AreInputs (before ++ option_map_or raw_values found []) files
inputs_of_files before None words files e are = cc
inputs_of_files before (Some matched) words files e are =
    let same : map (λ word. word.now) words ≡ raw_values matched = cc in rw same at are

pub inputs_of_no_files : (before : List (List ℕ)) (found : Option MatchedArg) (files : List Input)
    → None ≡ option_map raw_values found → AreInputs before files
    → AreInputs (before ++ option_map_or raw_values found []) files
inputs_of_no_files before None files e are = rw (append-nil before) are
inputs_of_no_files before (Some matched) files e are = cc
