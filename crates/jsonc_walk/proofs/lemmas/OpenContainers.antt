-- Reading on in a container.
use Rattle.std.proofs.Common.{ℕ, suc, ◌+◌, ◌<◌, ◌≤◌, ◌≡◌, ◌≢◌, ◌∙◌, sym, ap, subst, refl, Bool, true, false, List, [], ◌∷◌, length, Option, Some, None, IfSome, ◌⊎◌, inl, inr, arith, IsTrue, nat_lt}
use Rattle.jsonc_text.specs.declared.errors.ParseError.{ParseError}
use Rattle.jsonc_text.specs.declared.errors.ParseErrorKind.TheVariants.{NestingDepthExceeded, ExpectedObjectValue, MultipleRootJsonValues}
use Rattle.jsonc_text.specs.Faults.{kind_of, range_of}
use Rattle.jsonc_text.specs.Gaps.{Gap}
use Rattle.jsonc_text.specs.Grammar.{IsValue, IsProperty, Separates}
use Rattle.jsonc_text.specs.Lexemes.{Scanned, LexemeKind, lexeme, punctuation, Lexeme, IsScanned}
use Rattle.jsonc_text.specs.Options.{Options}
use Rattle.jsonc_text.specs.Plain.{Plain}
use Rattle.jsonc_text.specs.Text.{rest}
use Rattle.jsonc_walk.specs.Located.{LocatedName}
use Rattle.jsonc_walk.specs.declared.container.Container.{Container}
use Rattle.jsonc_walk.specs.declared.container.Container.TheVariants.{Array, Object}
use Rattle.jsonc_walk.specs.declared.context.Context.{Context}
use Rattle.jsonc_walk.specs.Containers.{opening, closing}
use Rattle.jsonc_walk.specs.Context.{text_in, options_in, token_start, token_end, token_range, Keeps, IsToken, IsBracket, LeadsToFirst, LeadsToNext, IsNameHere, PassesColon, Finds, IsNoComment, ClosesNone, Comes}
use Rattle.jsonc_walk.specs.Refusals.{IsAllocationFailure, after, here}
use Rattle.jsonc_walk.specs.Scanned.{begins_value, unexpected_kind}
use Rattle.jsonc_walk.specs.Reached.{Opened, container, property, Due, document, end, first, further, comma, colon, value, Place, at, first_item, further_item, without_comma, ValueMayCome, of_text, of_array, of_property, Step, opens, takes_comma, takes_name, takes_colon, ComesTo, containers, count, size, per_property, least, is_opening, is_deep}
use Rattle.jsonc_walk.specs.Faults.{fault, wrong_lexeme, wrong_ending, wrong, wrong_end, wrong_value, wrong_item, StopsAnyhow, is_mark, HasFaultFrom, fault_in, IsFrom, StopsAfter, StopsFrom, StopsAtItem, StopsAtValue, ItemStarts, ValueStarts, ContainerStarts, IsUnexpected, ParseFault}
use Rattle.jsonc_walk.specs.Handed.{IsWrongNameHere}
use Rattle.jsonc_walk.proofs.lemmas.Gaps.{stands}
use Rattle.jsonc_walk.proofs.lemmas.ReadsValues.{leads_on, one_step, not_past, value_reads, property_reads}
use Rattle.jsonc_walk.proofs.lemmas.Scans.{moved, kept_on}
use Rattle.jsonc_walk.proofs.lemmas.Stopping.{no_mark, fault_at, lexeme_stops, gap_to_end, rest_nothing, at_end}
use Rattle.jsonc_walk.proofs.lemmas.Tokens.{lexeme_found, lexeme_same}
use Rattle.jsonc_text.proofs.CharacterSteps.{rest_end}

-- a container may begin where so many of what is open count
abbrev pub Room : Bool → Container → ℕ → Type 0
Room whole k n = (q : List Opened) → count whole q ≡ n → is_deep whole q (punctuation (opening k)) ≡ false

pub has_room : (whole : Bool) (k : Container) (n : ℕ) → n + least whole ≤ 512 → Room whole k n
has_room true k n h q many = not_past 512 (length q) (omega (arith, many, h))
has_room false Array n h q many = not_past 511 (containers q) (omega (arith, many, h))
has_room false Object n h q many = not_past 511 (containers q) (omega (arith, many, h))

pub count_container : (whole : Bool) (k : Container) (a : List ℕ) (q : List Opened) → count whole (container k a ∷ q) ≡ count whole q + 1
count_container true k a q = omega arith
count_container false k a q = omega arith

pub count_property : (whole : Bool) (a : List ℕ) (q : List Opened) → count whole (property a ∷ q) ≡ count whole q + per_property whole
count_property true a q = omega arith
count_property false a q = omega arith

open_step : (o : Options) (whole : Bool) (k : Container) {q : List Opened} {d : Due} {s u : List ℕ} (r : List ℕ) → u ≡ opening k ∷ r → ValueMayCome o d → is_deep whole q (punctuation (opening k)) ≡ false → Gap o s u → Step o whole (at q d s) (at (container k u ∷ q) (first k) r)
open_step o whole k {q} {d} {s} r e m n g = subst (λ x. Step o whole (at q d s) (at (container k x ∷ q) (first k) r)) (sym e) (opens k m n (subst (Gap o s) e g))

past_many : (m n : ℕ) → m < n → nat_lt m n ≡ true
past_many m n h = grind arith

-- what must begin there
first_must : (o : Options) (whole : Bool) (q : List Opened) (k : Container) (l : LexemeKind) (u r : List ℕ) → is_mark (closing k) l ≡ false → wrong o whole q (first k) l u r ≡ wrong_item o whole k q l u r
first_must o whole q k l u r a = rw a refl

further_must : (o : Options) (whole : Bool) (q : List Opened) (k : Container) (c : List ℕ) (l : LexemeKind) (u r : List ℕ) → is_mark (closing k) l ≡ false → wrong o whole q (further k c) l u r ≡ wrong_item o whole k q l u r
further_must o whole q k c l u r a = rw a refl

comma_must : (o : Options) (whole : Bool) (q : List Opened) (k : Container) (e : List ℕ) (l : LexemeKind) (u r : List ℕ) → is_mark (closing k) l ≡ false → is_mark 0x2C l ≡ false → IsTrue o.missing_commas → wrong o whole q (comma k e) l u r ≡ wrong_item o whole k q l u r
comma_must o whole q k e l u r a b f = rw (a, b, f) refl

opening_must : (o : Options) (whole : Bool) (q : List Opened) (k : Container) {d : Due} (u r : List ℕ) → ValueMayCome o d → wrong o whole q d (punctuation (opening k)) u r ≡ wrong_value whole q (punctuation (opening k)) u r
opening_must o whole q k u r of_text = refl
opening_must o whole q Array u r (of_array first_item) = refl
opening_must o whole q Object u r (of_array first_item) = refl
opening_must o whole q Array u r (of_array further_item) = refl
opening_must o whole q Object u r (of_array further_item) = refl
opening_must o whole q Array u r (of_array (without_comma f)) = rw f refl
opening_must o whole q Object u r (of_array (without_comma f)) = rw f refl
opening_must o whole q k u r of_property = refl

opening_lexeme : (o : Options) (k : Container) (r : List ℕ) → Lexeme o (punctuation (opening k)) (opening k ∷ r) r
opening_lexeme o Array r = (refl, refl)
opening_lexeme o Object r = (refl, refl)

deep_opening : (q : List Opened) (k : Container) (u r : List ℕ) → 511 < containers q → wrong_value false q (punctuation (opening k)) u r ≡ Some (fault NestingDepthExceeded u r)
deep_opening q Array u r h = rw (past_many 511 (containers q) h) refl
deep_opening q Object u r h = rw (past_many 511 (containers q) h) refl

deep_value : (q : List Opened) (l : LexemeKind) (a u r : List ℕ) → 512 < suc (length q) → wrong_value true (container Array a ∷ q) l u r ≡ Some (fault NestingDepthExceeded a r)
deep_value q l a u r h = rw (past_many 512 (suc (length q)) h) refl

opens_no : (l : LexemeKind) → begins_value (lexeme l) ≡ false → is_opening l ≡ false
opens_no (LexemeKind.string s) e = refl
opens_no (LexemeKind.number s) e = refl
opens_no (LexemeKind.word s) e = refl
opens_no (LexemeKind.keyword s) e = refl
opens_no (LexemeKind.punctuation d) e = e

plain_value : (whole : Bool) (q : List Opened) (l : LexemeKind) (u r : List ℕ) → count whole q ≤ 512 → begins_value (lexeme l) ≡ false → wrong_value whole q l u r ≡ Some (fault (unexpected_kind (lexeme l)) u r)
plain_value true q l u r h b = rw (not_past 512 (length q) h, b) refl
plain_value false q l u r h b = rw (opens_no l b, b) refl

deep_property_value : (q : List Opened) (l : LexemeKind) (a u r : List ℕ) → 512 < suc (length q) → wrong_value true (property a ∷ q) l u r ≡ Some (fault NestingDepthExceeded a r)
deep_property_value q l a u r h = rw (past_many 512 (suc (length q)) h) refl

deep_end : (q : List Opened) (a : List ℕ) → 512 < suc (length q) → wrong_end true (property a ∷ q) value ≡ Some (fault NestingDepthExceeded a [])
deep_end q a h = rw (past_many 512 (suc (length q)) h) refl

plain_end : (whole : Bool) (q : List Opened) (a : List ℕ) → count whole (property a ∷ q) ≤ 512 → wrong_end whole (property a ∷ q) value ≡ Some (fault ExpectedObjectValue [] [])
plain_end true q a h = rw (not_past 512 (suc (length q)) h) refl
plain_end false q a h = refl

no_close : (k : Container) (t : Scanned) → ClosesNone k t → (l : LexemeKind) → t ≡ lexeme l → is_mark (closing k) l ≡ false
no_close k t other l mark = no_mark (closing k) l (λ e. other.2 (lexeme_same other.0 l (sym other.1 ∙ mark) ∙ e))

module _ {A : Type 0} (whole : Bool) where
  stops_on : (c : Context A) (p n : Place) (e : ParseError) → ComesTo (options_in c) whole p n → StopsFrom c whole n e → StopsFrom c whole p e
  stops_on c p n e x (inl m) = inl m
  stops_on c p n e x (inr h) = inr (h.0, leads_on x h.1, h.2)

  stops_before : (old now : Context A) (p : Place) (e : ParseError) → Keeps old now → StopsFrom now whole p e → StopsFrom old whole p e
  stops_before old now p e kept h = moved (λ o b. IsAllocationFailure e ⊎ HasFaultFrom o whole p (fault_in b e)) kept.options kept.text h

  comes_before : (old now : Context A) (p n : Place) → Keeps old now → ComesTo (options_in now) whole p n → ComesTo (options_in old) whole p n
  comes_before old now p n kept x = subst (λ o. ComesTo o whole p n) kept.options x

  module _ (k : Container) where
    -- reading has come to the token at hand, with which an item must begin
    pub record Standing (old now : Context A) (t : Scanned) (q : List Opened) (d : Due) (s : List ℕ) : Type 0 where
      pub due : Due
      pub from : List ℕ
      pub comes : ComesTo (options_in old) whole (at q d s) (at (container k (here old) ∷ q) due from)
      pub item : ItemStarts k now t whole (container k (here old) ∷ q) due from

    -- it has wherever the container begins
    abbrev pub GoesOn : Context A → Context A → Option Scanned → ℕ → Type 0
    GoesOn old now next n = (q : List Opened) (d : Due) (s : List ℕ) → count whole q ≡ n → ContainerStarts old d s → IfSome next (λ t. Standing old now t q d s)

    opened : (old : Context A) (n : ℕ) (q : List Opened) (d : Due) (s : List ℕ) → IsBracket (opening k) old → Room whole k n → count whole q ≡ n → ContainerStarts old d s → Step (options_in old) whole (at q d s) (at (container k (here old) ∷ q) (first k) (after old))
    opened old n q d s opening room many h = open_step (options_in old) whole k (after old) opening.stands h.0 (room q many) h.1

    gap_moved : (old new : Context A) (t : List ℕ) → Keeps old new → Gap (options_in old) t (rest (text_in old) (token_start new)) → Gap (options_in new) t (here new)
    gap_moved old new t kept g = moved (λ o b. Gap o t (rest b (token_start new))) (sym kept.options) (sym kept.text) g

    pub goes_first : (old new : Context A) (next : Option Scanned) (n : ℕ) → IsBracket (opening k) old → Room whole k n → Keeps old new → LeadsToFirst k old new next → IfSome next (ClosesNone k) → GoesOn old new next n
    goes_first old new None n opening room kept h other q d s many starts = tt
    goes_first old new (Some t) n opening room kept h other q d s many starts = record {
      due = first k;
      from = after old;
      comes = one_step (opened old n q d s opening room many starts);
      item = record {
        may = first_item;
        gap = gap_moved old new (after old) kept h.0.stands;
        lexeme_here = (other.0, other.1);
        must = λ l u r mark. first_must (options_in new) whole (container k (here old) ∷ q) k l u r (no_close k t other l mark);
      };
    }

    -- the text ends, or a token is wrong, before the first
    pub first_stops : (old : Context A) (n : ℕ) (q : List Opened) (d : Due) (s : List ℕ) (e : ParseError) → IsBracket (opening k) old → Room whole k n → count whole q ≡ n → ContainerStarts old d s
        → ((q : List Opened) → StopsAfter old whole (container k (here old) ∷ q) (first k) e) → StopsFrom old whole (at q d s) e
    first_stops old n q d s e opening room many starts h = stops_on old _ _ e (one_step (opened old n q d s opening room many starts)) (h q)

    -- a fault of an item
    pub item_stops : (old now : Context A) (t : Scanned) (q : List Opened) (d : Due) (s : List ℕ) (e : ParseError) → Keeps old now → (h : Standing old now t q d s) → StopsFrom now whole (at (container k (here old) ∷ q) h.due h.from) e → StopsFrom old whole (at q d s) e
    item_stops old now t q d s e kept h told = stops_on old _ _ e h.comes (stops_before old now _ e kept told)

    module _ (old now mid : Context A) (kept : Keeps old now) (kept_mid : Keeps now mid) (t : Scanned) (q : List Opened) (d : Due) (s : List ℕ) (standing : Standing old now t q d s)
        (read : ComesTo (options_in now) whole (at (container k (here old) ∷ q) standing.due standing.from) (at (container k (here old) ∷ q) (comma k (after mid)) (after mid))) where
      past_item : ComesTo (options_in old) whole (at q d s) (at (container k (here old) ∷ q) (comma k (after mid)) (after mid))
      past_item = leads_on standing.comes (comes_before old now _ _ kept read)

      both : Keeps old mid
      both = kept_on old now mid kept kept_mid

      -- what is wrong after an item
      pub next_stops : (e : ParseError) → ((q : List Opened) → StopsAfter mid whole (container k (here old) ∷ q) (comma k (after mid)) e) → StopsFrom old whole (at q d s) e
      next_stops e h = stops_on old _ _ e past_item (stops_before old mid _ e both (h q))

      module _ (new : Context A) (further_kept : Keeps mid new) (u : Scanned) (other : ClosesNone k u) where
        with_comma : {w : List ℕ} → Gap (options_in mid) (after mid) (0x2C ∷ w) → Gap (options_in mid) w (rest (text_in mid) (token_start new)) → Standing old new u q d s
        with_comma {w} g h = record {
          due = further k (0x2C ∷ w);
          from = w;
          comes = leads_on past_item (one_step (takes_comma k (subst (λ o. Gap o (after mid) (0x2C ∷ w)) both.options g)));
          item = record {
            may = further_item;
            gap = gap_moved mid new w further_kept h;
            lexeme_here = (other.0, other.1);
            must = λ l u r mark. further_must (options_in new) whole (container k (here old) ∷ q) k (0x2C ∷ w) l u r (no_close k _ other l mark);
          };
        }

        no_comma_there : IsTrue (options_in mid).missing_commas → Gap (options_in mid) (after mid) (rest (text_in mid) (token_start new)) → (u ≢ lexeme (punctuation 0x2C)) → Standing old new u q d s
        no_comma_there f g n =
            let on_new : IsTrue (options_in new).missing_commas = ap (λ p. p.missing_commas) further_kept.options ∙ f in record {
              due = comma k (after mid);
              from = after mid;
              comes = past_item;
              item = record {
                may = without_comma on_new;
                gap = gap_moved mid new (after mid) further_kept g;
                lexeme_here = (other.0, other.1);
                must = λ l v r mark. comma_must (options_in new) whole (container k (here old) ∷ q) k (after mid) l v r (no_close k _ other l mark) (no_mark 0x2C l (λ e. n (mark ∙ ap lexeme e))) on_new;
              };
            }

        pub goes_turn : Separates (options_in mid) (after mid) (rest (text_in mid) (token_start new)) → Comes mid new u → Standing old new u q d s
        goes_turn (Separates.comma g h) comes = with_comma g h
        goes_turn (Separates.no_comma f g) (inl c) = with_comma c.stands.1 c.stands.2
        goes_turn (Separates.no_comma f g) (inr c) = no_comma_there f g c.1

  -- an element
  pub element_stops : (old now : Context A) (t : Scanned) (n : ℕ) (q : List Opened) (d : Due) (s : List ℕ) (e : ParseError) → Keeps old now → Standing Array old now t q d s → count whole q ≡ n → StopsAtValue now t whole (n + 1) e → StopsFrom old whole (at q d s) e
  element_stops old now t n q d s e kept h many told =
      let more = count_container whole Array (here old) q in
      item_stops Array old now t q d s e kept h (told (container Array (here old) ∷ q) h.due h.from (omega (arith, more, many)) (record { may = of_array h.item.may; gap = h.item.gap; lexeme_here = h.item.lexeme_here; must = h.item.must }))

  pub element_comes : (old now mid : Context A) (t : Scanned) (q : List Opened) (d : Due) (s : List ℕ) (v : Plain) (n : ℕ) (h : Standing Array old now t q d s) → Keeps now mid → IsValue (options_in now) (here now) v (rest (text_in now) (token_end mid)) → count whole q ≡ n → size whole v + (n + 1) ≤ 512
      → ComesTo (options_in now) whole (at (container Array (here old) ∷ q) h.due h.from) (at (container Array (here old) ∷ q) (comma Array (after mid)) (after mid))
  element_comes old now mid t q d s v n h kept read many small =
      let more = count_container whole Array (here old) q in
      subst (λ b. ComesTo (options_in now) whole (at (container Array (here old) ∷ q) h.due h.from) (at (container Array (here old) ∷ q) (comma Array (rest b (token_end mid))) (rest b (token_end mid)))) (sym kept.text)
      (value_reads (options_in now) whole (of_array h.item.may) h.item.gap read (omega (arith, more, many, small)))

  pub elements_go_on : (old now : Context A) → Keeps old now → (t : Scanned) (mid : Context A) (v : Plain) (n : ℕ) → GoesOn Array old now (Some t) n → Keeps now mid → IsValue (options_in now) (here now) v (rest (text_in now) (token_end mid)) → size whole v + (n + 1) ≤ 512
      → (new : Context A) (next : Option Scanned) → Keeps mid new → LeadsToNext Array mid new next → IfSome next (ClosesNone Array) → IfSome next (Comes mid new) → GoesOn Array old new next n
  elements_go_on old now kept t mid v n reading kept_mid read small new None further_kept found other comes q d s many starts = tt
  elements_go_on old now kept t mid v n reading kept_mid read small new (Some u) further_kept found other comes q d s many starts =
      let h = reading q d s many starts in
      goes_turn Array old now mid kept kept_mid t q d s h (element_comes old now mid t q d s v n h kept_mid read many small) new further_kept u other found.0.stands comes

  -- a property
  pub property_stops : (old now : Context A) (t : Scanned) (n : ℕ) (q : List Opened) (d : Due) (s : List ℕ) (e : ParseError) → Keeps old now → Standing Object old now t q d s → count whole q ≡ n → StopsAtItem Object now t whole (n + 1) e → StopsFrom old whole (at q d s) e
  property_stops old now t n q d s e kept h many told =
      let more = count_container whole Object (here old) q in
      item_stops Object old now t q d s e kept h (told (container Object (here old) ∷ q) h.due h.from (omega (arith, more, many)) h.item)

  pub property_comes : (old now mid : Context A) (t : Scanned) (q : List Opened) (d : Due) (s : List ℕ) (name : List ℕ) (v : Plain) (n : ℕ) (h : Standing Object old now t q d s) → Keeps now mid → IsProperty (options_in now) (here now) name v (rest (text_in now) (token_end mid)) → count whole q ≡ n
      → size whole v + (n + 1 + per_property whole) ≤ 512
      → ComesTo (options_in now) whole (at (container Object (here old) ∷ q) h.due h.from) (at (container Object (here old) ∷ q) (comma Object (after mid)) (after mid))
  property_comes old now mid t q d s name v n h kept read many small =
      let more = count_container whole Object (here old) q in
      let one = count_property whole (here now) (container Object (here old) ∷ q) in
      subst (λ b. ComesTo (options_in now) whole (at (container Object (here old) ∷ q) h.due h.from) (at (container Object (here old) ∷ q) (comma Object (rest b (token_end mid))) (rest b (token_end mid)))) (sym kept.text)
      (property_reads (options_in now) whole h.item.may h.item.gap read (omega (arith, one, more, many, small)))

  pub properties_go_on : (old now : Context A) → Keeps old now → (t : Scanned) (mid : Context A) (name : List ℕ) (v : Plain) (n : ℕ) → GoesOn Object old now (Some t) n → Keeps now mid → IsProperty (options_in now) (here now) name v (rest (text_in now) (token_end mid)) → size whole v + (n + 1 + per_property whole) ≤ 512
      → (new : Context A) (next : Option Scanned) → Keeps mid new → LeadsToNext Object mid new next → IfSome next (ClosesNone Object) → IfSome next (Comes mid new) → GoesOn Object old new next n
  properties_go_on old now kept t mid name v n reading kept_mid read small new None further_kept found other comes q d s many starts = tt
  properties_go_on old now kept t mid name v n reading kept_mid read small new (Some u) further_kept found other comes q d s many starts =
      let h = reading q d s many starts in
      goes_turn Object old now mid kept kept_mid t q d s h (property_comes old now mid t q d s name v n h kept_mid read many small) new further_kept u other found.0.stands comes

  -- a lexeme that is no value
  pub leaf_stops : (c : Context A) (t : Scanned) (e : ParseError) (n : ℕ) → IsToken c t → n ≤ 512 → IsUnexpected c t e → StopsAtValue c t whole n e
  leaf_stops c t e n there small none q d s many h =
      let l = h.lexeme_here.0 in
      let mark = h.lexeme_here.1 in
      let wrong_here = none l mark in
      inr (
        at q d s,
        ComesTo.here,
        wrong_lexeme l (after c) h.gap (subst (λ w. IsScanned (options_in c) w (here c) (after c)) mark (stands (text_in c) (options_in c) c.scanner t refl refl there).stands)
            (h.must l (here c) (after c) mark ∙ plain_value whole q l (here c) (after c) (omega (arith, many, small)) wrong_here.0 ∙ ap Some wrong_here.1),
      )

  -- in a property
  module _ (old : Context A) (t : Scanned) (q : List Opened) (d : Due) (s : List ℕ) (there : IsToken old t) (starts : ItemStarts Object old t whole q d s) where
    pub name_stops : (e : ParseError) → IsWrongNameHere old t e → StopsFrom old whole (at q d s) e
    name_stops e (inl m) = inl m
    name_stops e (inr h) =
        let l = starts.lexeme_here.0 in
        let mark = starts.lexeme_here.1 in
        inr (
          at q d s,
          ComesTo.here,
          wrong_lexeme l (after old) starts.gap (subst (λ w. IsScanned (options_in old) w (here old) (after old)) mark (stands (text_in old) (options_in old) old.scanner t refl refl there).stands)
              (starts.must l (here old) (after old) mark ∙ h l mark),
        )

    module _ (n : LocatedName) (name : IsNameHere old n) where
      to_colon : ComesTo (options_in old) whole (at q d s) (at (property (here old) ∷ q) colon (after old))
      to_colon = one_step (takes_name starts.may starts.gap name.stands)

      pub colon_missing_stops : (e : ParseError) → StopsAfter old whole (property (here old) ∷ q) colon e → StopsFrom old whole (at q d s) e
      colon_missing_stops e h = stops_on old _ _ e to_colon h

      module _ (mid : Context A) (kept : Keeps old mid) (passed : PassesColon old mid) where
        to_value : ComesTo (options_in old) whole (at q d s) (at (property (here old) ∷ q) value (after mid))
        to_value = leads_on to_colon (one_step (takes_colon (subst (λ b. Gap (options_in old) (after old) (0x3A ∷ rest b (token_end mid))) (sym kept.text) passed.stands)))

        pub at_value : (e : ParseError) → StopsFrom mid whole (at (property (here old) ∷ q) value (after mid)) e → StopsFrom old whole (at q d s) e
        at_value e h = stops_on old _ _ e to_value (stops_before old mid _ e kept h)

        pub no_token_stops : (e : ParseError) → StopsAnyhow mid e → StopsFrom old whole (at q d s) e
        no_token_stops e (inl m) = inl m
        no_token_stops e (inr h) = at_value e (inr (_, ComesTo.here, h whole (property (here old) ∷ q) value))

        module _ (new : Context A) (f : Option Scanned) (kept_on_new : Keeps mid new) (found : Finds (Gap (options_in mid)) mid new f) (no_comment : IsNoComment f) where
          pub end_nothing : f ≡ None → [] ≡ rest (text_in mid) (token_end new)
          end_nothing is = sym (ap (rest (text_in mid)) (at_end mid new f kept_on_new found no_comment is).1 ∙ rest_end (text_in mid) (length (text_in mid)) (omega arith))

          pub no_value_stops : f ≡ None → (e : ParseError) → count whole (property (here old) ∷ q) ≤ 512 → kind_of e ≡ ExpectedObjectValue → range_of e ≡ token_range new → StopsFrom old whole (at q d s) e
          no_value_stops is e small kind range =
              at_value e (inr (
                _,
                ComesTo.here,
                wrong_ending (gap_to_end mid new f kept_on_new found no_comment is)
                    (plain_end whole q (here old) small ∙ ap Some (ap (λ x. fault ExpectedObjectValue x []) (sym (rest_nothing mid new f kept_on_new found no_comment is)) ∙ ap (λ x. fault ExpectedObjectValue (rest (text_in mid) (token_start new)) x) (end_nothing is) ∙ fault_at (text_in mid) e ExpectedObjectValue (token_range new) kind range)),
              ))

          pub value_told_stops : (u : Scanned) → f ≡ Some u → (e : ParseError) (n : ℕ) → count whole (property (here old) ∷ q) ≡ n → StopsAtValue new u whole n e → StopsFrom old whole (at q d s) e
          value_told_stops u is e n many told =
              let l = lexeme_found mid new f kept_on_new found no_comment u is in
              at_value e (stops_before mid new _ e kept_on_new (told (property (here old) ∷ q) value (after mid) many (record {
                may = of_property;
                gap = moved (λ o b. Gap o (after mid) (rest b (token_start new))) (sym kept_on_new.options) (sym kept_on_new.text) found.0.stands;
                lexeme_here = l;
                must = λ l u r mark. refl;
              })))

  -- in the text
  module _ (c d : Context A) (f : Option Scanned) (kept : Keeps c d) (found : Finds (Gap (options_in c)) c d f) (no_comment : IsNoComment f) (t : Scanned) (is : f ≡ Some t) where
    value_first : ValueStarts d t whole [] document (after c)
    value_first = record {
      may = of_text;
      gap = moved (λ o b. Gap o (after c) (rest b (token_start d))) (sym kept.options) (sym kept.text) found.0.stands;
      lexeme_here = lexeme_found c d f kept found no_comment t is;
      must = λ l u r mark. refl;
    }

    pub root_stops : (e : ParseError) → count whole [] ≡ 0 → StopsAtValue d t whole 0 e → StopsFrom c whole (at [] document (after c)) e
    root_stops e none told = stops_before c d _ e kept (told [] document (after c) none value_first)

    module _ (m : Context A) (v : Plain) (kept_value : Keeps d m) (read : IsValue (options_in d) (here d) v (rest (text_in d) (token_end m))) (small : size whole v + count whole [] ≤ 512) where
      to_end : ComesTo (options_in d) whole (at [] document (after c)) (at [] end (after m))
      to_end = subst (λ b. ComesTo (options_in d) whole (at [] document (after c)) (at [] end (rest b (token_end m)))) (sym kept_value.text) (value_reads (options_in d) whole of_text value_first.gap read small)

      at_end_of_value : (e : ParseError) → StopsFrom m whole (at [] end (after m)) e → StopsFrom c whole (at [] document (after c)) e
      at_end_of_value e h = stops_before c d _ e kept (stops_on d _ _ e to_end (stops_before d m _ e kept_value h))

      pub end_stops : (e : ParseError) → StopsAnyhow m e → StopsFrom c whole (at [] document (after c)) e
      end_stops e (inl w) = inl w
      end_stops e (inr h) = at_end_of_value e (inr (_, ComesTo.here, h whole [] end))

      pub second_stops : (new : Context A) (g : Option Scanned) → Keeps m new → Finds (Gap (options_in m)) m new g → IsNoComment g → (g ≡ None → ⊥) → (e : ParseError) → kind_of e ≡ MultipleRootJsonValues → range_of e ≡ token_range new → StopsFrom c whole (at [] document (after c)) e
      second_stops new g kept_new found_new none some e kind range = go g refl
        where
          go : (h : Option Scanned) → g ≡ h → StopsFrom c whole (at [] document (after c)) e
          go None was = absurd (some was)
          go (Some u) was =
              let l = lexeme_found m new g kept_new found_new none u was in
              at_end_of_value e (lexeme_stops m new g kept_new found_new none u was l.0 l.1 e whole [] end (ap Some (fault_at (text_in m) e MultipleRootJsonValues (token_range new) kind range)))

  pub text_stops : (c : Context A) (o : Options) (bytes : List ℕ) (e : ParseError) → text_in c ≡ bytes → options_in c ≡ o → token_end c ≡ 0 → StopsFrom c whole (at [] document (after c)) e → ParseFault o bytes whole e
  text_stops c o bytes e text options zero h =
      moved (λ p b. ParseFault p b whole e) options text at_zero
    where
      at_zero : ParseFault (options_in c) (text_in c) whole e
      at_zero = subst (λ i. IsAllocationFailure e ⊎ HasFaultFrom (options_in c) whole (at [] document (rest (text_in c) i)) (fault_in (text_in c) e)) zero h

module _ {A : Type 0} where
  -- a container that is one too many, where containers alone count
  pub deep_container_stops : (k : Container) (c : Context A) (n : ℕ) (e : ParseError) → IsBracket (opening k) c → 512 < n + 1 → kind_of e ≡ NestingDepthExceeded → range_of e ≡ token_range c → (q : List Opened) (d : Due) (s : List ℕ) → count false q ≡ n → ContainerStarts c d s → StopsFrom c false (at q d s) e
  deep_container_stops k c n e bracket deep kind range q d s many starts =
      inr (
        at q d s,
        ComesTo.here,
        wrong_lexeme (punctuation (opening k)) (after c) starts.1 (subst (λ x. Lexeme (options_in c) (punctuation (opening k)) x (after c)) (sym bracket.stands) (opening_lexeme (options_in c) k (after c)))
            (opening_must (options_in c) false q k (here c) (after c) starts.0 ∙ deep_opening q k (here c) (after c) (omega (arith, many, deep)) ∙ ap Some (fault_at (text_in c) e NestingDepthExceeded (token_range c) kind range)),
      )

  -- an element that is, where all count
  pub deep_stops : (old now : Context A) (t : Scanned) (start n : ℕ) (q : List Opened) (d : Due) (s : List ℕ) (e : ParseError) → Keeps old now → IsToken now t → start ≡ token_start old → length q ≡ n → 512 < n + 1
      → kind_of e ≡ NestingDepthExceeded → range_of e ≡ record { start = start; end = token_end now } → Standing true Array old now t q d s → StopsFrom old true (at q d s) e
  deep_stops old now t start n q d s e kept there at_start many deep kind range h =
      item_stops true Array old now t q d s e kept h (inr (
        _,
        ComesTo.here,
        wrong_lexeme l (after now) h.item.gap one
            (h.item.must l (here now) (after now) mark ∙ deep_value q l (here old) (here now) (after now) (omega (arith, many, deep)) ∙ ap Some (ap (λ x. fault NestingDepthExceeded x (after now)) from_start ∙ fault_at (text_in now) e NestingDepthExceeded (record { start = start; end = token_end now }) kind range)),
      ))
    where
      l : LexemeKind
      l = h.item.lexeme_here.0

      mark : t ≡ lexeme l
      mark = h.item.lexeme_here.1

      one : Lexeme (options_in now) l (here now) (after now)
      one = subst (λ w. IsScanned (options_in now) w (here now) (after now)) mark (stands (text_in now) (options_in now) now.scanner t refl refl there).stands

      from_start : here old ≡ rest (text_in now) start
      from_start = ap (rest (text_in old)) (sym at_start) ∙ ap (λ b. rest b start) (sym kept.text)

  -- a property
  pub deep_property_stops : (old : Context A) (t : Scanned) (q : List Opened) (d : Due) (s : List ℕ) (there : IsToken old t) (starts : ItemStarts Object old t true q d s) (n : LocatedName) (name : IsNameHere old n) (mid : Context A) (kept : Keeps old mid) (passed : PassesColon old mid)
      (new : Context A) (f : Option Scanned) (kept_on_new : Keeps mid new) (found : Finds (Gap (options_in mid)) mid new f) (no_comment : IsNoComment f)
      → (e : ParseError) (start : ℕ) → start ≡ token_start old → 512 < suc (length q) → kind_of e ≡ NestingDepthExceeded → range_of e ≡ record { start = start; end = token_end new } → StopsFrom old true (at q d s) e
  deep_property_stops old t q d s there starts n name mid kept passed new f kept_on_new found no_comment e start at_start deep kind range = at_value true old t q d s there starts n name mid kept passed e (go f refl)
    where
      is_fault : fault NestingDepthExceeded (here old) (rest (text_in mid) (token_end new)) ≡ fault_in (text_in mid) e
      is_fault = ap (λ x. fault NestingDepthExceeded x (rest (text_in mid) (token_end new))) (ap (rest (text_in old)) (sym at_start) ∙ ap (λ b. rest b start) (sym kept.text)) ∙ fault_at (text_in mid) e NestingDepthExceeded (record { start = start; end = token_end new }) kind range

      go : (g : Option Scanned) → f ≡ g → StopsFrom mid true (at (property (here old) ∷ q) value (after mid)) e
      go None is = inr (_, ComesTo.here, wrong_ending (gap_to_end mid new f kept_on_new found no_comment is) (deep_end q (here old) deep ∙ ap Some (ap (λ x. fault NestingDepthExceeded (here old) x) (end_nothing true old t q d s there starts n name mid kept passed new f kept_on_new found no_comment is) ∙ is_fault)))
      go (Some u) is =
          let l = lexeme_found mid new f kept_on_new found no_comment u is in
          lexeme_stops mid new f kept_on_new found no_comment u is l.0 l.1 e true (property (here old) ∷ q) value (deep_property_value q l.0 (here old) (rest (text_in mid) (token_start new)) (rest (text_in mid) (token_end new)) deep ∙ ap Some is_fault)

  -- the place that a container's fault is told from
  pub from_old : (old mid : Context A) (start : Option ℕ) → IfSome start (λ i. i ≡ token_start old) → Keeps old mid → IsFrom (text_in mid) start (here old)
  from_old old mid None at_start kept = tt
  from_old old mid (Some start) at_start kept = ap (rest (text_in old)) (sym at_start) ∙ ap (λ b. rest b start) (sym kept.text)
