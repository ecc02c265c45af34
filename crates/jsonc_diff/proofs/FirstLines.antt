-- The first line of a text, by the place of its line feed.
use Rattle.std.proofs.Common.{◌≡◌, ◌≢◌, ◌∙◌, ◌+◌, ◌<◌, ◌≤◌, ◌++◌, ◌∷◌, ℕ, suc, List, [], length, take, drop, get_or, ◌==◌, false, true, refl, sym, ap, subst, arith, add-one}
use Rattle.std.specs.List.{All}
use Rattle.std.proofs.Math.Seq.{take-suc}
use Rattle.std.proofs.lemmas.List.{take-append-drop, get_or-take, length-take-le}
use Rattle.std.proofs.lemmas.List.Elements.{All-from_get_or}
use Rattle.std.proofs.lemmas.Bool.{false≢true}
use Rattle.jsonc_diff.specs.Lines.{IsFirstLine, ended, last}

pub first_ended : (text line rest : List ℕ) (at : ℕ) → at < length text → get_or text at 0 ≡ 0x0A → ((i : ℕ) → i < at → get_or text i 0 ≢ 0x0A) → line ≡ take (at + 1) text → rest ≡ drop (at + 1) text
    → IsFirstLine line rest text
first_ended text line rest at inside feed before front back =
    let short : length (take at text) ≡ at = length-take-le at text (omega (arith, inside)) in
    ended (take at text)
    (All-from_get_or (λ b. b ≢ 0x0A) (take at text) 0 (λ i h. subst (λ b. b ≢ 0x0A) (sym (get_or-take at text i 0 (omega (arith, h, short)))) (before i (omega (arith, h, short)))))
    (front ∙ ap (λ n. take n text) (add-one at) ∙ take-suc text at 0 inside ∙ ap (λ b. take at text ++ b ∷ []) feed)
    (sym (ap (λ l. l ++ rest) front ∙ ap (λ l. take (at + 1) text ++ l) back ∙ take-append-drop (at + 1) text))

pub last_line : (text : List ℕ) → ((i : ℕ) → i < length text → get_or text i 0 ≢ 0x0A) → text ≢ [] → IsFirstLine text [] text
last_line text none some = last (All-from_get_or (λ b. b ≢ 0x0A) text 0 none) some refl refl

pub not_empty : (text : List ℕ) → (length text == 0) ≡ false → text ≢ []
not_empty [] e = λ h. false≢true (sym e)
not_empty (c ∷ text) e = λ h. grind arith
