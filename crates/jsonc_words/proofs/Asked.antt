-- What the words after the program's name ask for.
use Rattle.std.proofs.Common.{◌≡◌, ◌∙◌, ◌≤◌, ◌-◌, ℕ, List, [], ◌∷◌, Some, map, drop, take, length, ap, refl, arith, length-drop}
use Rattle.std.specs.Prelude.{slice_get}
use Rattle.std.specs.Borrow.{Bor}
use Rattle.std.proofs.lemmas.List.{take_all}
use Rattle.jsonc_words.specs.Names.{text_of}
use Rattle.jsonc_words.specs.Reading.{IsAskedBy, IsReadFrom}
use Rattle.jsonc_words.specs.declared.call.Call.{Call}
use Rattle.jsonc_words.specs.declared.name.CommandName.{CommandName}

second_word : (words : List (Bor (List ℕ))) (word : Bor (List ℕ)) → Some word ≡ slice_get (drop 1 words) 0
    → slice_get (map (λ word. word.now) words) 1 ≡ Some word.now
second_word [] word e = cc
second_word (x ∷ []) word e = cc
second_word (x ∷ (y ∷ rest)) word e = let same : y ≡ word = cc in rw same refl

rest_words : (words : List (Bor (List ℕ))) → drop 1 (map (λ word. word.now) words) ≡ map (λ word. word.now) (drop 1 words)
rest_words [] = refl
rest_words (x ∷ rest) = refl

pub whole_rest : (words : List (Bor (List ℕ))) → take (length words - 1) (drop 1 words) ≡ drop 1 words
whole_rest words =
    let le : length (drop 1 words) ≤ length words - 1 = rw (length-drop 1 words) (omega arith) in
    take_all (length words - 1) (drop 1 words) le

pub asked : (words rest : List (Bor (List ℕ))) (word : Bor (List ℕ)) (name : CommandName) (call : Call) → rest ≡ drop 1 words
    → Some word ≡ slice_get rest 0 → word.now ≡ text_of name → IsReadFrom name (map (λ word. word.now) rest) call
    → IsAskedBy (map (λ word. word.now) words) call
asked words rest word name call whole e n read = record {
  name = name;
  word = second_word words word (rw whole at e) ∙ ap Some n;
  rest = rw (rest_words words, ← whole) read;
}
