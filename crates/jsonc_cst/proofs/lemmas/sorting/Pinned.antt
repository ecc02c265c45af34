-- Comments that a rule pins, element by element.
use Rattle.std.proofs.Common.{◌≡◌, ◌++◌, [], ◌∷◌, ℕ, suc, ◌+◌, ◌-◌, ◌<◌, ◌≤◌, List, Option, Some, drop, take, length, get_or, min, refl, sym, ap, subst, ◌∙◌, arith, inl, inr, append-nil, append_assoc}
use Rattle.std.proofs.lemmas.Bool.{cases_lt}
use Rattle.std.proofs.lemmas.List.{drop-drop, drop_all, drop_more, get_or_default, length-drop, take_all}
use Rattle.std.proofs.Math.Nat.{min-eq_left, min-eq_right}
use denote.Ref.{Bor}
use denote.Param.Members.{Shared}
use Rattle.jsonc_sort.specs.ordering.Order.{node_in}
use Rattle.jsonc_sort.specs.declared.above.LeadRead.{LeadRead}
use Rattle.jsonc_cst.specs.declared.cst.node.CstComment.{CstComment}
use Rattle.jsonc_cst.specs.sorting.Pins.{ArePins, IsPin}

module _ {X : Type 0} (n : ℕ) (xs : List X) where
  pub take_least : take (min n (length xs)) xs ≡ take n xs
  take_least = elim (cases_lt n (length xs)) [
    | inl h ↦ ap (λ k. take k xs) (min-eq_left (omega (arith, h)))
    | inr h ↦ ap (λ k. take k xs) (min-eq_right h) ∙ take_all (length xs) xs (omega arith) ∙ sym (take_all n xs h)
  ]

  pub drop_least : drop (min n (length xs)) xs ≡ drop n xs
  drop_least = elim (cases_lt n (length xs)) [
    | inl h ↦ ap (λ k. drop k xs) (min-eq_left (omega (arith, h)))
    | inr h ↦ ap (λ k. drop k xs) (min-eq_right h) ∙ drop_all (length xs) xs (omega arith) ∙ sym (drop_all n xs h)
  ]

module _ {F D N : Type 0} (g : Shared F (Bor D × (N × (Bor (List CstComment) × Unit {0}))) ℕ) (rule : F) (doc : D) where
  -- what the rule has answered of a node above which there are comments
  pub asked_pin : (there : Option N) (x : N) (comments : List CstComment) (count : ℕ) → there ≡ Some x → (length comments ≡ 0 → ⊥)
      → (d : Bor D) → d.now ≡ doc → (above : Bor (List CstComment)) → above.now ≡ comments → g.post rule (d, (x, (above, tt))) count → IsPin g rule doc there comments (Some count)
  asked_pin there x [] count is some d same above all told = absurd (some refl)
  asked_pin there x (c ∷ comments) count is some d same above all told =
      subst (λ (o : Option N). IsPin g rule doc o (c ∷ comments) (Some count)) (sym is) (count, refl, d, above, same, all, told)

  -- one more pin
  pub one_pin : (nodes : List (Option N)) (place : ℕ) (leads : List LeadRead) (lead : LeadRead) (comments : List CstComment) (pin : Option ℕ) (more : List (Option ℕ))
      → place < length leads → lead ≡ get_or leads place lead → (count : ℕ) → count ≡ min lead.comments (length comments) → IsPin g rule doc (node_in nodes place) (take count comments) pin
      → ArePins g rule doc nodes (place + 1) (drop (place + 1) leads) (drop count comments) more → ArePins g rule doc nodes place (drop place leads) comments (pin ∷ more)
  one_pin nodes place leads lead comments pin more within is count least pinned rest =
      let here : take count comments ≡ take lead.comments comments = ap (λ k. take k comments) least ∙ take_least lead.comments comments in
      let there : drop count comments ≡ drop lead.comments comments = ap (λ k. drop k comments) least ∙ drop_least lead.comments comments in
      let split : drop place leads ≡ lead ∷ drop (place + 1) leads = drop_more leads place lead within ∙ ap (λ (l : LeadRead). l ∷ drop (place + 1) leads) (sym is) in
      let next : place + 1 ≡ suc place = omega arith in
      subst (λ (ls : List LeadRead). ArePins g rule doc nodes place ls comments (pin ∷ more)) (sym split) (
        subst (λ (cs : List CstComment). IsPin g rule doc (node_in nodes place) cs pin) here pinned,
        subst (λ (p : ℕ). ArePins g rule doc nodes p (drop (place + 1) leads) (drop lead.comments comments) more) next
            (subst (λ (cs : List CstComment). ArePins g rule doc nodes (place + 1) (drop (place + 1) leads) cs more) there rest),
      )

  pub next_pins : (nodes : List (Option N)) (leads : List LeadRead) (comments : List CstComment) (pins now : List (Option ℕ)) (pin : Option ℕ) (place from m : ℕ) (d : LeadRead) (node : Option N) (slice : List CstComment)
      → ((more : List (Option ℕ)) → ArePins g rule doc nodes place (drop place leads) (drop from comments) more → ArePins g rule doc nodes 0 leads comments (pins ++ more))
      → place < length leads → m ≡ min (get_or leads place d).comments (length comments - from) → slice ≡ take m (drop from comments) → node ≡ node_in nodes place → IsPin g rule doc node slice pin → now ≡ pins ++ pin ∷ []
      → (more : List (Option ℕ)) → ArePins g rule doc nodes (place + 1) (drop (place + 1) leads) (drop (from + m) comments) more → ArePins g rule doc nodes 0 leads comments (now ++ more)
  next_pins nodes leads comments pins now pin place from m d node slice before within least cut at pinned pushed more rest =
      let lead : LeadRead = get_or leads place d in
      let left : List CstComment = drop from comments in
      let count : m ≡ min lead.comments (length left) = least ∙ ap (λ k. min lead.comments k) (sym (length-drop from comments)) in
      let step = one_pin nodes place leads lead left pin more within (get_or_default leads place d lead within) m count
      (subst (λ (o : Option N). IsPin g rule doc o (take m left) pin) at (subst (λ (cs : List CstComment). IsPin g rule doc node cs pin) cut pinned))
      (subst (λ (cs : List CstComment). ArePins g rule doc nodes (place + 1) (drop (place + 1) leads) cs more) (sym (drop-drop m from comments)) rest) in
      subst (λ (ps : List (Option ℕ)). ArePins g rule doc nodes 0 leads comments ps) (sym (ap (λ (ps : List (Option ℕ)). ps ++ more) pushed ∙ append_assoc pins (pin ∷ []) more)) (before (pin ∷ more) step)

  pub all_pins : (nodes : List (Option N)) (leads : List LeadRead) (comments : List CstComment) (pins : List (Option ℕ)) (place from : ℕ)
      → ((more : List (Option ℕ)) → ArePins g rule doc nodes place (drop place leads) (drop from comments) more → ArePins g rule doc nodes 0 leads comments (pins ++ more)) → length leads ≤ place → ArePins g rule doc nodes 0 leads comments pins
  all_pins nodes leads comments pins place from before end =
      subst (λ (ps : List (Option ℕ)). ArePins g rule doc nodes 0 leads comments ps) (append-nil pins)
      (before [] (subst (λ (ls : List LeadRead). ArePins g rule doc nodes place ls (drop from comments) []) (sym (drop_all place leads end)) refl))
