-- A walk among the items of a container. Nothing here knows a receiver: what is held of the items so far is any family.
use Rattle.jsonc_text.specs.Lexemes.{Scanned}
use Rattle.std.proofs.Common.{ℕ, Bool, true, false, ◌+◌, ◌-◌, ◌≤◌, ◌<◌, ◌≡◌, ◌∙◌, sym, ap, subst, arith, refl, inl, inr, List, [], Option, Some, None, IfSome, length}
use Rattle.jsonc_text.specs.declared.common.Range.{Range}
use Rattle.jsonc_text.specs.declared.errors.ParseError.{ParseError}
use Rattle.jsonc_text.specs.declared.errors.ParseErrorKind.TheVariants.{NestingDepthExceeded}
use Rattle.jsonc_text.specs.Faults.{kind_of, range_of, IsFault, IsOutOfMemory}
use Rattle.jsonc_text.specs.Gaps.{Gap}
use Rattle.jsonc_text.specs.Grammar.{IsName}
use Rattle.jsonc_text.specs.Text.{rest, Spans}
use Rattle.jsonc_walk.specs.Located.{Located, LocatedName, range_at, Between, In, Colon, IsNamed, IsLocated, LocatedMember}
use Rattle.jsonc_walk.specs.declared.container.Container.{Container}
use Rattle.jsonc_walk.specs.declared.container.Container.TheVariants.{Array, Object}
use Rattle.jsonc_walk.specs.declared.context.Context.{Context}
use Rattle.jsonc_scan.specs.declared.found.TokenKind.{TokenKind}
use Rattle.jsonc_walk.specs.Collected.{Collects}
use Rattle.jsonc_walk.specs.Context.{text_in, options_in, token_start, token_end, token_range, Keeps, IsToken, IsBracket, IsNameHere, IsNoComment, Finds, PassesColon, Passes, found_in}
use Rattle.jsonc_walk.specs.Faults.{IsFrom, StopsAtContainer, StopsAtItem, StopsAtValue}
use Rattle.jsonc_walk.specs.Handed.{Source, source_of, IsUnexpectedHere}
use Rattle.jsonc_walk.specs.Containers.{opening}
use Rattle.jsonc_walk.specs.Refusals.{here, NoPropertyHere, NoValueHere, IsAllocationFailure}
use Rattle.jsonc_walk.specs.Reached.{count, per_property, least}
use Rattle.jsonc_walk.specs.Reads.{Reads, ReadsMember}
use Rattle.jsonc_walk.specs.Walked.{IsRefused}
use Rattle.jsonc_walk.specs.Written.{IsLentHere}
use Rattle.jsonc_walk.proofs.lemmas.Following.{ItemFollows}
use Rattle.jsonc_walk.proofs.lemmas.Loops.{Elements, start_spans}
use Rattle.jsonc_walk.proofs.lemmas.NoValues.{ElementsLeft, PropertiesLeft, nesting_in_property, nesting_refused}
use Rattle.jsonc_walk.proofs.lemmas.OpenContainers.{GoesOn, deep_container_stops, deep_property_stops, deep_stops, leaf_stops}
use Rattle.jsonc_walk.proofs.lemmas.Properties.{Properties}
use Rattle.jsonc_walk.proofs.lemmas.Scans.{moved, kept_on, starved}

module _ {A : Type 0} where
  -- an array's elements so far, what is held of them, and what is left of it
  pub record ElementsGoOn (source : Source) (old now : Context A) (whole : Bool) (next : Option TokenKind) (n : ℕ) (is_held : List Located → Type 0) (is_reached : ℕ → Type 0) : Type 0 where
    pub elements : List Located
    pub held : is_held elements
    pub same : source ≡ source_of old
    pub so_far : Elements whole old now (found_in now next) elements n
    pub left : ElementsLeft whole old now (found_in now next) n
    pub collects : Collects old now
    pub reading : GoesOn whole Array old now (found_in now next) n
    pub lent : IsLentHere now next
    pub follows : ItemFollows source is_reached now (found_in now next)

  -- an object's properties
  pub record PropertiesGoOn (source : Source) (old now : Context A) (whole : Bool) (next : Option TokenKind) (n : ℕ) (is_held : List LocatedMember → Type 0) (is_reached : ℕ → Type 0) : Type 0 where
    pub properties : List LocatedMember
    pub held : is_held properties
    pub same : source ≡ source_of old
    pub so_far : Properties whole old now (found_in now next) properties n
    pub left : PropertiesLeft whole old now (found_in now next) n
    pub collects : Collects old now
    pub reading : GoesOn whole Object old now (found_in now next) n
    pub lent : IsLentHere now next
    pub follows : ItemFollows source is_reached now (found_in now next)

-- where an item may stand, and what counts in it may as well
pub item_fits : (whole : Bool) (n : ℕ) → n + per_property whole ≤ 512 → n + least whole ≤ 512 → n + 1 ≤ 512
item_fits true n h l = h
item_fits false n h l = l

module _ {A : Type 0} where
  -- a leaf's fault, or an allocation failure
  pub leaf_told : (whole : Bool) (c : Context A) (t : Scanned) (e : ParseError) (n : ℕ) → IsToken c t → n ≤ 512 → IsUnexpectedHere c t e → StopsAtValue c t whole n e
  leaf_told whole c t e n at small (inl w) = λ q d s many h. inl w
  leaf_told whole c t e n at small (inr u) = leaf_stops whole c t e n at small u

  -- the place that a container's fault is told from
  pub from_spans : (old now : Context A) (start : ℕ) (from : Option ℕ) → IfSome from (λ i. i ≡ start) → start ≡ token_start old → Keeps old now → token_end old ≤ token_end now → IfSome from (λ i. Spans (text_in now) i (token_end now))
  from_spans old now start None is first kept on = tt
  from_spans old now start (Some i) is first kept on = start_spans old now i (is ∙ first) kept on

  -- allocation failed, which is told alike wherever
  pub no_memory : {X has_failed : Type 0} {tells : ParseError → Type 0} (old now : Context A) (e : ParseError) → Keeps old now → IsFault (text_in now) e → IsOutOfMemory e → has_failed → (IsAllocationFailure e → tells e)
      → IsRefused old has_failed X tells e
  no_memory old now e kept fault memory failed tell = record { refused = inl memory.kind; fault = starved old now e kept fault (inr failed); error = tell memory.kind }

  -- behind an item less of the text is left
  pub less_left : (now mid new : Context A) (t : Scanned) → IsToken now t → Keeps now mid → token_end now ≤ token_end mid → Keeps mid new → token_end mid ≤ token_start new → length (text_in new) - token_start new < length (text_in now) - token_start now
  less_left now mid new t here kept on kept_on later =
      let same = ap length (kept_on.text ∙ kept.text) in
      omega (arith, same, here.0, on, later, new.scanner.starts_at_place.0)

  pub from_here : (old : Context A) (start : ℕ) (from : Option ℕ) → IfSome from (λ i. i ≡ start) → start ≡ token_start old → IsFrom (text_in old) from (here old)
  from_here old start None is first = tt
  from_here old start (Some i) is first = ap (rest (text_in old)) (sym (is ∙ first))

  pub from_start : (old : Context A) (start : ℕ) (from : Option ℕ) → IfSome from (λ i. i ≡ start) → start ≡ token_start old → IfSome from (λ i. i ≡ token_start old)
  from_start old start None is first = tt
  from_start old start (Some i) is first = is ∙ first

  -- a name, a colon and a value are a property
  module _ (old mid at new : Context A) (n : LocatedName) (r : Range) (x : Located) (name : IsNameHere old n) (place : n.range ≡ token_range old) (kept : Keeps old mid) (colon : PassesColon old mid)
      (kept_at : Keeps mid at) (gap : Passes (Gap (options_in mid)) mid at) (read : Reads at new x) (first : r.start ≡ token_start old) (last : r.end ≡ token_end new) where
    both : Keeps old at
    both = kept_on old mid at kept kept_at

    gap_old : Between (text_in old) (Gap (options_in old)) (token_end mid) (token_start at)
    gap_old = moved (λ o b. Between b (Gap o) (token_end mid) (token_start at)) kept.options kept.text gap

    between : Between (text_in old) (Colon (options_in old)) (token_end old) (token_start at)
    between = record {
      spans = record { from = colon.spans.from; to = gap_old.spans.to; order = omega (arith, colon.spans.order, gap_old.spans.order) };
      stands = (rest (text_in old) (token_end mid), colon.stands, gap_old.stands);
    }

    named : IsNamed (options_in old) (text_in old) n r (range_at x)
    named = record {
      begins = ap (λ q. q.start) place ∙ sym first;
      name = subst (In (text_in old) (λ t u. IsName (options_in old) t n.name u)) (sym place) name;
      colon = subst (λ i. Between (text_in old) (Colon (options_in old)) i (range_at x).start) (sym (ap (λ q. q.end) place))
          (subst (λ j. Between (text_in old) (Colon (options_in old)) (token_end old) j) (sym read.starts) between);
      ends = read.ends ∙ sym last;
    }

    pub member_reads : ReadsMember old new (record { range = r; name = n; value = x })
    member_reads = record {
      named = named;
      value = moved (λ o b. IsLocated o b x) both.options both.text read.value;
      starts = first;
      ends = last;
      on = omega (arith, colon.spans.order, gap_old.spans.order, at.scanner.order, read.on);
    }

module _ {A : Type 0} (whole : Bool) where
  -- a container that is one too many, where containers alone count
  pub opening_stops : (k : Container) (c : Context A) (start n : ℕ) (e : ParseError) → whole ≡ false → IsBracket (opening k) c → start ≡ token_start c → 512 < n + least whole
      → kind_of e ≡ NestingDepthExceeded → range_of e ≡ record { start = start; end = token_end c } → StopsAtContainer c whole n e
  opening_stops k c start n e apart bracket first deep kind range =
      let past : 512 < n + 1 = subst (λ w. 512 < n + least w) apart deep in
      subst (λ w. StopsAtContainer c w n e) (sym apart) (deep_container_stops k c n e bracket past kind (range ∙ ap (λ i. record { start = i; end = token_end c }) first))

  -- an element, or a property's value, that too many containers and properties are around
  pub element_deep : (old now : Context A) (t : Scanned) (n : ℕ) → whole ≡ true → ElementsLeft whole old now (Some t) n → 512 < n + 1 → NoValueHere old whole n
  element_deep old now t n is left deep =
      subst (λ w. NoValueHere old w n) (sym is) (nesting_refused old now t n (subst (λ w. ElementsLeft w old now (Some t) n) is left) deep)

  pub element_deep_stops : (old now : Context A) (t : Scanned) (start n : ℕ) (e : ParseError) → whole ≡ true → Keeps old now → IsToken now t → start ≡ token_start old → 512 < n + 1
      → kind_of e ≡ NestingDepthExceeded → range_of e ≡ record { start = start; end = token_end now } → GoesOn whole Array old now (Some t) n → StopsAtContainer old whole n e
  element_deep_stops old now t start n e is kept there first deep kind range reading =
      subst (λ w. StopsAtContainer old w n e) (sym is)
      (λ q d s many starts. deep_stops old now t start n q d s e kept there first many deep kind range (subst (λ w. GoesOn w Array old now (Some t) n) is reading q d s many starts))

  pub property_deep : (c : Context A) (n : ℕ) → whole ≡ true → 512 < n + 1 → NoPropertyHere c whole n
  property_deep c n is deep = subst (λ w. NoPropertyHere c w n) (sym is) (nesting_in_property c n deep)

  pub property_deep_stops : (old : Context A) (t : Scanned) (there : IsToken old t) (n : LocatedName) (name : IsNameHere old n) (mid : Context A) (kept : Keeps old mid) (passed : PassesColon old mid)
      (new : Context A) (f : Option Scanned) (kept_on_new : Keeps mid new) (found : Finds (Gap (options_in mid)) mid new f) (no_comment : IsNoComment f)
      → (count : ℕ) (e : ParseError) (start : ℕ) → whole ≡ true → start ≡ token_start old → 512 < count + 1 → kind_of e ≡ NestingDepthExceeded → range_of e ≡ record { start = start; end = token_end new } → StopsAtItem Object old t whole count e
  property_deep_stops old t there n name mid kept passed new f kept_on_new found no_comment count e start is first deep kind range =
      subst (λ w. StopsAtItem Object old t w count e) (sym is)
      (λ q d s many starts. deep_property_stops old t q d s there starts n name mid kept passed new f kept_on_new found no_comment e start first (omega (arith, many, deep)) kind range)

-- where nothing is open, nothing counts
pub root_counts : (whole : Bool) → count whole [] ≡ 0
root_counts true = refl
root_counts false = refl

pub root_fits : (whole : Bool) (n : ℕ) → n + 0 ≤ 512 → n + count whole [] ≤ 512
root_fits true n h = omega (arith, h)
root_fits false n h = omega (arith, h)
