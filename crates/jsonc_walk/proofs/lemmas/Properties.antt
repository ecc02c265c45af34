-- A parser among the properties of an object.
use Rattle.jsonc_text.specs.Lexemes.{Scanned}
use Rattle.std.proofs.Common.{ℕ, Bool, true, false, ◌+◌, ◌≤◌, ◌≡◌, sym, subst, refl, arith, List, [], ◌∷◌, ◌++◌, Option, Some, None, IsUtf8}
use Rattle.std.proofs.lemmas.Str.{IsUtf8-from_is_utf8}
use Rattle.jsonc_text.specs.declared.common.Range.{Range}
use Rattle.jsonc_text.specs.Gaps.{Gap}
use Rattle.jsonc_text.specs.Grammar.{Separates, Closes}
use Rattle.jsonc_text.specs.Plain.{object, no_members}
use Rattle.jsonc_walk.specs.declared.context.Context.{Context}
use Rattle.jsonc_walk.specs.Context.{text_in, options_in, token_start, token_end, Keeps, IsBracket, Leads}
use Rattle.jsonc_walk.specs.Located.{object_at, range_at, value_at, members_at, Between, One, Ends, IsLocated, IsNamed, AreMembers, members_of, LocatedMember}
use Rattle.jsonc_walk.specs.Reached.{size, per_property, least}
use Rattle.jsonc_walk.specs.Reads.{Reads, ReadsMember}
use Rattle.jsonc_walk.proofs.lemmas.Members as members
use Rattle.jsonc_walk.proofs.lemmas.Loops.{brackets, AtHand, leads_hand, leads_on}
use Rattle.jsonc_walk.proofs.lemmas.Scans.{moved, one_byte, kept_on}

empty_size : (whole : Bool) → size whole (object no_members) ≡ least whole
empty_size true = refl
empty_size false = refl

module _ {A : Type 0} where
  abbrev pub PropertiesSoFar : Context A → Context A → List LocatedMember → Option Scanned → Type 0
  PropertiesSoFar old now xs None = members.Whole (options_in old) (text_in old) (token_end old) xs (token_end now)
  PropertiesSoFar old now xs (Some t) = members.Open (options_in old) (text_in old) (token_end old) xs (token_start now)

  -- an object's properties so far, inside of so many of what counts
  pub record Properties (whole : Bool) (old now : Context A) (next : Option Scanned) (xs : List LocatedMember) (count : ℕ) : Type 0 where
    pub kept : Keeps old now
    pub hand : AtHand 0x7D now next
    pub on : token_end old ≤ token_start now
    pub so_far : PropertiesSoFar old now xs next
    pub within : size whole (object (members_at (members_of xs))) + count ≤ 512

  start_properties : (old now : Context A) (next : Option Scanned) → Leads (Gap (options_in old)) (Ends (options_in old) 0x7D) 0x7D old now next → PropertiesSoFar old now [] next
  start_properties old now None h = h.0
  start_properties old now (Some t) h = members.first_open (options_in old) (text_in old) (token_end old) (token_start now) h.0

  pub properties_start : (whole : Bool) (old now : Context A) (next : Option Scanned) (xs : List LocatedMember) (count : ℕ) → xs ≡ [] → Keeps old now → Leads (Gap (options_in old)) (Ends (options_in old) 0x7D) 0x7D old now next → count + least whole ≤ 512 → Properties whole old now next xs count
  properties_start whole old now next xs count e kept h small = subst (λ l. Properties whole old now next l count) (sym e) (record {
    kept = kept;
    hand = leads_hand _ _ 0x7D old now next h;
    on = leads_on _ _ 0x7D old now next h;
    so_far = start_properties old now next h;
    within = let none = empty_size whole in omega (arith, none, small);
  })

  module _ (old now mid new : Context A) (x : LocatedMember) (xs : List LocatedMember) (kept : Keeps old now) (read : ReadsMember now mid x) (kept_mid : Keeps now mid) where
    property_old : members.IsProperty (options_in old) (text_in old) x
    property_old = record {
      named = moved (λ p b. IsNamed p b x.name x.range (range_at x.value)) kept.options kept.text read.named;
      value = moved (λ p b. IsLocated p b x.value) kept.options kept.text read.value;
    }

    turn_properties : (next : Option Scanned) → members.Open (options_in old) (text_in old) (token_end old) xs (token_start now)
        → Leads (Separates (options_in mid)) (Closes (options_in mid) 0x7D) 0x7D mid new next → PropertiesSoFar old new (xs ++ x ∷ []) next
    turn_properties None held h =
        let both = kept_on old now mid kept kept_mid in
        members.next_whole (options_in old) (text_in old) (token_end old) (token_start now) (token_end mid) xs x held read.starts property_old read.ends (token_end new)
        (moved (λ p b. Between b (Closes p 0x7D) (token_end mid) (token_end new)) both.options both.text h.0)
    turn_properties (Some t) held h =
        let both = kept_on old now mid kept kept_mid in
        members.next_open (options_in old) (text_in old) (token_end old) (token_start now) (token_end mid) xs x held read.starts property_old read.ends (token_start new)
        (moved (λ p b. Between b (Separates p) (token_end mid) (token_start new)) both.options both.text h.0)

  -- one more property
  pub properties_turn : (whole : Bool) (old now mid new : Context A) (n next : Option Scanned) (t : Scanned) (x : LocatedMember) (xs ys : List LocatedMember) (count : ℕ) → Properties whole old now n xs count → n ≡ Some t
      → Keeps now mid → ReadsMember now mid x → Keeps mid new → Leads (Separates (options_in mid)) (Closes (options_in mid) 0x7D) 0x7D mid new next
      → ys ≡ xs ++ x ∷ [] → size whole (value_at x.value) + (count + 1 + per_property whole) ≤ 512 → Properties whole old new next ys count
  properties_turn whole old now mid new n next t x xs ys count inv is kept read further h grown small =
      let held = subst (PropertiesSoFar old now xs) is inv.so_far in
      let most = members.push_size whole xs x in
      let on : token_end mid ≤ token_start new = leads_on _ _ 0x7D mid new next h in
      subst (λ l. Properties whole old new next l count) (sym grown) (record {
        kept = kept_on old now new inv.kept (kept_on now mid new kept further);
        hand = leads_hand _ _ 0x7D mid new next h;
        on = omega (arith, inv.on, now.scanner.order, read.on, on);
        so_far = turn_properties old now mid new x xs inv.kept read kept next held h;
        within = omega (arith, most, inv.within, small);
      })

  -- the whole object
  pub properties_whole : (whole : Bool) (old now : Context A) (n : Option Scanned) (xs : List LocatedMember) (count : ℕ) (r : Range) → Properties whole old now n xs count → n ≡ None → IsBracket 0x7B old → r.start ≡ token_start old → r.end ≡ token_end now
      → Reads old now (object_at r (members_of xs))
  properties_whole whole old now n xs count r inv is opening first last =
      let bytes = text_in old in
      let utf8 : IsUtf8 bytes = IsUtf8-from_is_utf8 bytes old.utf8 in
      let closing : Between bytes (One 0x7D) (token_start now) (token_end now) = subst (λ b. Between b (One 0x7D) (token_start now) (token_end now)) inv.kept.text (subst (AtHand 0x7D now) is inv.hand) in
      let one : token_start old + 1 ≡ token_end old = one_byte bytes 0x7B _ _ utf8 (omega arith) opening in
      let other : token_start now + 1 ≡ token_end now = one_byte bytes 0x7D _ _ utf8 (omega arith) closing in
      let after : token_end old ≡ r.start + 1 = omega (arith, one, first) in
      record {
        value = (
          brackets bytes 0x7B 0x7D r (token_start old) (token_end old) (token_start now) (token_end now) first last one other inv.on opening closing,
          subst (λ i. AreMembers (options_in old) bytes i (members_of xs) r.end) after (subst (λ j. AreMembers (options_in old) bytes (token_end old) (members_of xs) j) (sym last) (subst (PropertiesSoFar old now xs) is inv.so_far)),
        );
        starts = first;
        ends = last;
        on = omega (arith, inv.on, now.scanner.order);
      }
