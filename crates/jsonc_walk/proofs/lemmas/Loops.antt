-- A parser among the items of a container.
use Rattle.jsonc_text.specs.Lexemes.{Scanned}
use Rattle.std.proofs.Common.{ℕ, Bool, true, false, ◌+◌, ◌-◌, ◌≤◌, ◌≡◌, sym, subst, refl, arith, List, [], ◌∷◌, ◌++◌, Option, Some, None, IsUtf8, IsCharBoundary}
use Rattle.std.proofs.lemmas.Str.{IsUtf8-from_is_utf8}
use Rattle.jsonc_text.specs.declared.common.Range.{Range}
use Rattle.jsonc_text.specs.Text.{Spans}
use Rattle.jsonc_text.specs.Gaps.{Gap}
use Rattle.jsonc_text.specs.Grammar.{Separates, Closes}
use Rattle.jsonc_text.specs.Plain.{array, no_items}
use Rattle.jsonc_walk.specs.declared.context.Context.{Context}
use Rattle.jsonc_walk.specs.Context.{text_in, options_in, token_start, token_end, Keeps, IsBracket, Leads, IsToken}
use Rattle.jsonc_walk.specs.Located.{Located, array_at, value_at, items_at, Between, One, Ends, Brackets, IsLocated, AreItems, items_of}
use Rattle.jsonc_walk.specs.Reached.{size, least}
use Rattle.jsonc_walk.specs.Reads.{Reads}
use Rattle.jsonc_walk.proofs.lemmas.Elements as elements
use Rattle.jsonc_walk.proofs.lemmas.Scans.{moved, one_byte, kept_on}

-- the two brackets of a container
pub brackets : (bytes : List ℕ) (a b : ℕ) (r : Range) (p q s e : ℕ) → r.start ≡ p → r.end ≡ e → p + 1 ≡ q → s + 1 ≡ e → q ≤ s → Between bytes (One a) p q → Between bytes (One b) s e → Brackets bytes a b r
brackets bytes a b r p q s e first last opening closing order opens closes =
    let after : q ≡ r.start + 1 = omega arith in
    let before : s ≡ r.end - 1 = omega arith in
    record {
      opens = subst (λ k. Between bytes (One a) k (r.start + 1)) (sym first) (subst (λ k. Between bytes (One a) p k) after opens);
      closes = subst (λ k. Between bytes (One b) k r.end) before (subst (λ k. Between bytes (One b) s k) (sym last) closes);
      order = omega arith;
    }

empty_size : (whole : Bool) → size whole (array no_items) ≡ least whole
empty_size true = refl
empty_size false = refl

module _ {A : Type 0} where
  -- the token that an item begins with, or the closing bracket
  abbrev pub AtHand : ℕ → Context A → Option Scanned → Type 0
  AtHand bracket c None = IsBracket bracket c
  AtHand bracket c (Some t) = IsToken c t

  pub leads_hand : (P C : List ℕ → List ℕ → Type 0) (bracket : ℕ) (old new : Context A) (n : Option Scanned) → Leads P C bracket old new n → AtHand bracket new n
  leads_hand P C bracket old new None h = h.1
  leads_hand P C bracket old new (Some t) h = h.1

  pub leads_on : (P C : List ℕ → List ℕ → Type 0) (bracket : ℕ) (old new : Context A) (n : Option Scanned) → Leads P C bracket old new n → token_end old ≤ token_start new
  leads_on P C bracket old new None h = h.2
  leads_on P C bracket old new (Some t) h = h.0.spans.order

  -- the place where a container began, and the end of the last token
  pub start_spans : (old now : Context A) (start : ℕ) → start ≡ token_start old → Keeps old now → token_end old ≤ token_end now → Spans (text_in now) start (token_end now)
  start_spans old now start e kept on = record {
    from = subst (λ i. IsCharBoundary (text_in now) i) (sym e) (subst (λ b. IsCharBoundary b (token_start old)) (sym kept.text) old.scanner.starts_at_place);
    to = now.scanner.at_place;
    order = omega (arith, e, old.scanner.order, on);
  }

  abbrev pub ElementsSoFar : Context A → Context A → List Located → Option Scanned → Type 0
  ElementsSoFar old now xs None = elements.Whole (options_in old) (text_in old) (token_end old) xs (token_end now)
  ElementsSoFar old now xs (Some t) = elements.Open (options_in old) (text_in old) (token_end old) xs (token_start now)

  -- an array's elements so far, inside of so many of what counts
  pub record Elements (whole : Bool) (old now : Context A) (next : Option Scanned) (xs : List Located) (count : ℕ) : Type 0 where
    pub kept : Keeps old now
    pub hand : AtHand 0x5D now next
    pub on : token_end old ≤ token_start now
    pub so_far : ElementsSoFar old now xs next
    pub within : size whole (array (items_at (items_of xs))) + count ≤ 512

  start_so_far : (old now : Context A) (next : Option Scanned) → Leads (Gap (options_in old)) (Ends (options_in old) 0x5D) 0x5D old now next → ElementsSoFar old now [] next
  start_so_far old now None h = h.0
  start_so_far old now (Some t) h = elements.first_open (options_in old) (text_in old) (token_end old) (token_start now) h.0

  pub elements_start : (whole : Bool) (old now : Context A) (next : Option Scanned) (xs : List Located) (count : ℕ) → xs ≡ [] → Keeps old now → Leads (Gap (options_in old)) (Ends (options_in old) 0x5D) 0x5D old now next → count + least whole ≤ 512 → Elements whole old now next xs count
  elements_start whole old now next xs count e kept h small = subst (λ l. Elements whole old now next l count) (sym e) (record {
    kept = kept;
    hand = leads_hand _ _ 0x5D old now next h;
    on = leads_on _ _ 0x5D old now next h;
    so_far = start_so_far old now next h;
    within = let none = empty_size whole in omega (arith, none, small);
  })

  module _ (old now mid new : Context A) (x : Located) (xs : List Located) (kept : Keeps old now) (read : Reads now mid x) (kept_mid : Keeps now mid) where
    value_old : IsLocated (options_in old) (text_in old) x
    value_old = moved (λ p b. IsLocated p b x) kept.options kept.text read.value

    turn_so_far : (next : Option Scanned) → elements.Open (options_in old) (text_in old) (token_end old) xs (token_start now)
        → Leads (Separates (options_in mid)) (Closes (options_in mid) 0x5D) 0x5D mid new next → ElementsSoFar old new (xs ++ x ∷ []) next
    turn_so_far None held h =
        let both = kept_on old now mid kept kept_mid in
        elements.next_whole (options_in old) (text_in old) (token_end old) (token_start now) (token_end mid) xs x held read.starts value_old read.ends (token_end new)
        (moved (λ p b. Between b (Closes p 0x5D) (token_end mid) (token_end new)) both.options both.text h.0)
    turn_so_far (Some t) held h =
        let both = kept_on old now mid kept kept_mid in
        elements.next_open (options_in old) (text_in old) (token_end old) (token_start now) (token_end mid) xs x held read.starts value_old read.ends (token_start new)
        (moved (λ p b. Between b (Separates p) (token_end mid) (token_start new)) both.options both.text h.0)

  -- one more element
  pub elements_turn : (whole : Bool) (old now mid new : Context A) (n next : Option Scanned) (t : Scanned) (x : Located) (xs ys : List Located) (count : ℕ) → Elements whole old now n xs count → n ≡ Some t
      → Keeps now mid → Reads now mid x → Keeps mid new → Leads (Separates (options_in mid)) (Closes (options_in mid) 0x5D) 0x5D mid new next
      → ys ≡ xs ++ x ∷ [] → size whole (value_at x) + (count + 1) ≤ 512 → Elements whole old new next ys count
  elements_turn whole old now mid new n next t x xs ys count inv is kept read further h grown small =
      let held = subst (ElementsSoFar old now xs) is inv.so_far in
      let most = elements.push_size whole xs x in
      let on : token_end mid ≤ token_start new = leads_on _ _ 0x5D mid new next h in
      subst (λ l. Elements whole old new next l count) (sym grown) (record {
        kept = kept_on old now new inv.kept (kept_on now mid new kept further);
        hand = leads_hand _ _ 0x5D mid new next h;
        on = omega (arith, inv.on, now.scanner.order, read.on, on);
        so_far = turn_so_far old now mid new x xs inv.kept read kept next held h;
        within = omega (arith, most, inv.within, small);
      })

  -- the whole array
  pub elements_whole : (whole : Bool) (old now : Context A) (n : Option Scanned) (xs : List Located) (count : ℕ) (r : Range) → Elements whole old now n xs count → n ≡ None → IsBracket 0x5B old → r.start ≡ token_start old → r.end ≡ token_end now
      → Reads old now (array_at r (items_of xs))
  elements_whole whole old now n xs count r inv is opening first last =
      let bytes = text_in old in
      let utf8 : IsUtf8 bytes = IsUtf8-from_is_utf8 bytes old.utf8 in
      let closing : Between bytes (One 0x5D) (token_start now) (token_end now) = subst (λ b. Between b (One 0x5D) (token_start now) (token_end now)) inv.kept.text (subst (AtHand 0x5D now) is inv.hand) in
      let one : token_start old + 1 ≡ token_end old = one_byte bytes 0x5B _ _ utf8 (omega arith) opening in
      let other : token_start now + 1 ≡ token_end now = one_byte bytes 0x5D _ _ utf8 (omega arith) closing in
      let after : token_end old ≡ r.start + 1 = omega (arith, one, first) in
      record {
        value = (
          brackets bytes 0x5B 0x5D r (token_start old) (token_end old) (token_start now) (token_end now) first last one other inv.on opening closing,
          subst (λ i. AreItems (options_in old) bytes i (items_of xs) r.end) after (subst (λ j. AreItems (options_in old) bytes (token_end old) (items_of xs) j) (sym last) (subst (ElementsSoFar old now xs) is inv.so_far)),
        );
        starts = first;
        ends = last;
        on = omega (arith, inv.on, now.scanner.order);
      }
