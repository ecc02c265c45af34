-- What is kept of open containers, one less or one more.
use Rattle.std.proofs.Common.{ℕ, ◌≡◌, ◌∙◌, ◌+◌, ◌-◌, ◌<◌, ◌≤◌, sym, ap, subst, refl, Bool, true, false, not, ◌||◌, List, [], ◌∷◌, ◌++◌, length, take, drop, set, get_or, map, reverse, Option, Some, None, append_assoc, arith}
use Rattle.std.specs.Option.{option_to_list}
use Rattle.std.proofs.lemmas.List.{take-append-drop, take-set, drop-set, take_more, reverse-append}
use Rattle.jsonc_format.specs.declared.plan.Pending.{Pending}
use Rattle.jsonc_format.specs.declared.state.Frame as code
use Rattle.jsonc_format.specs.Format.{shift, indent}
use Rattle.jsonc_format.specs.Plans.{marked, AreOrdered, closed_flat, closed_open}
use Rattle.jsonc_format.specs.Writing.{frame_of}

set_is : (xs : List Bool) (i : ℕ) (y : Bool) → i < length xs → set xs i y ≡ take i xs ++ y ∷ drop (i + 1) xs
set_is xs i y h = sym (take-append-drop i (set xs i y)) ∙ ap (λ s. s ++ drop i (set xs i y)) (take-set xs i y) ∙ ap (λ s. take i xs ++ s) (drop-set xs i y h)

pub closed_flag : (bare : Bool) (flat : List Bool) (inner : Option Pending) (outer : List Pending) (closed : Pending) → inner ≡ Some closed → AreOrdered flat (option_to_list inner ++ reverse outer)
    → set flat closed.number (bare || not closed.broken) ≡ closed_flat bare flat (option_to_list inner ++ reverse outer)
closed_flag bare flat inner outer closed e h =
    let o : AreOrdered flat (closed ∷ reverse outer) = subst (λ i. AreOrdered flat (option_to_list i ++ reverse outer)) e h in
    set_is flat closed.number (bare || not closed.broken) o.0 ∙ sym (ap (λ i. closed_flat bare flat (option_to_list i ++ reverse outer)) e)

-- where no line ends, what is known of open containers stays
pub not_marked : (broken : Bool) (ps : List Pending) → broken ≡ false → marked broken ps ≡ ps
not_marked true ps h = cc
not_marked false [] h = refl
not_marked false (o ∷ os) h = ap (λ b. record { number = o.number; broken = b } ∷ os) (stays o.broken)
  where
    stays : (b : Bool) → b || false ≡ b
    stays true = refl
    stays false = refl

back_one : (next : Option Pending) → reverse (option_to_list next) ≡ option_to_list next
back_one None = refl
back_one (Some p) = refl

pub closed_rest : (inner next : Option Pending) (outer rest now : List Pending) (closed : Pending) → inner ≡ Some closed → outer ≡ rest ++ option_to_list next → now ≡ marked closed.broken (option_to_list next ++ reverse rest)
    → now ≡ closed_open (option_to_list inner ++ reverse outer)
closed_rest inner next outer rest now closed e f n =
    n ∙ ap (λ s. marked closed.broken (s ++ reverse rest)) (sym (back_one next)) ∙ ap (marked closed.broken) (sym (reverse-append rest (option_to_list next))) ∙ ap (λ s. marked closed.broken (reverse s)) (sym f)
    ∙ sym (ap (λ i. closed_open (option_to_list i ++ reverse outer)) e)

-- the indent of one frame more is written
levels_step : (level : List ℕ) (xs : List code.Frame) (k : ℕ) (d : code.Frame) (x : Bool) (old new all : List ℕ) → k < length xs → x ≡ (get_or xs k d).shifted → new ≡ old ++ (shift level x ++ level)
    → old ++ indent level (map frame_of (reverse (take (k + 1) xs))) ≡ all → new ++ indent level (map frame_of (reverse (take k xs))) ≡ all
levels_step level xs k d x old new all h e n f =
    let y = get_or xs k d in
    let rest = indent level (map frame_of (reverse (take k xs))) in
    let more : reverse (take (k + 1) xs) ≡ y ∷ reverse (take k xs) = ap reverse (take_more xs k d h) ∙ reverse-append (take k xs) (y ∷ []) in
    ap (λ s. s ++ rest) n ∙ append_assoc old (shift level x ++ level) rest ∙ ap (λ s. old ++ s) (append_assoc (shift level x) level rest)
    ∙ ap (λ b. old ++ (shift level b ++ (level ++ rest))) e ∙ sym (ap (λ fs. old ++ indent level (map frame_of fs)) more) ∙ f

pub levels_next : (level : List ℕ) (xs : List code.Frame) (n : ℕ) (d : code.Frame) (x : Bool) (old new all : List ℕ) → 0 < n → n ≤ length xs → x ≡ (get_or xs (n - 1) d).shifted → new ≡ old ++ (shift level x ++ level)
    → old ++ indent level (map frame_of (reverse (take n xs))) ≡ all → (n - 1 ≤ length xs) × (new ++ indent level (map frame_of (reverse (take (n - 1) xs))) ≡ all)
levels_next level xs n d x old new all p h e w f =
    let same : n ≡ n - 1 + 1 = omega (arith, p) in
    (omega (arith, h), levels_step level xs (n - 1) d x old new all (omega (arith, p, h)) e w (ap (λ m. old ++ indent level (map frame_of (reverse (take m xs)))) (sym same) ∙ f))
