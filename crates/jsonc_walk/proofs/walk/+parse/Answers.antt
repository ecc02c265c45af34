use Rattle.std.proofs.Common.{◌+◌, ◌-◌, ◌≤◌, ◌≢◌, ◌∙◌, ◌++◌, ◌∷◌, [], ap, sym, subst, refl, arith, inl, inr, Some}
use Rattle.jsonc_text.specs.Lexemes.{lexeme, punctuation}
use Rattle.jsonc_text.specs.Plain.{string, number}
use Rattle.jsonc_walk.specs.Scanned.{leaf_value}
use Rattle.jsonc_walk.proofs.lemmas.Leaves.{element_put, gives_nothing}
use Rattle.jsonc_walk.specs.Located.{value_at, array_at, object_at, items_of, members_of}
use Rattle.jsonc_walk.specs.Context.{last, found_in, GivesAway}
use Rattle.jsonc_walk.specs.Reached.{size}
use Rattle.jsonc_walk.specs.Refusals.{here}
use Rattle.jsonc_walk.specs.declared.container.Container.TheVariants.{Array, Object}
use Rattle.jsonc_walk.proofs.lemmas.MovedTokens.{is_bracket, is_brace, kept_self, collects_self, collects_given, reads_self, kept_given, colon_given, no_colon_given, stops_given}
use Rattle.jsonc_walk.proofs.lemmas.Following.{behind_in, first_follows, follows_in, next_follows, opened_reached, source_later, source_on}
use Rattle.jsonc_walk.proofs.lemmas.Scans.{failure, fault_before, kept_on, kept_same, told_anyhow}
use Rattle.jsonc_walk.proofs.lemmas.Collecting.{collects_turn}
use Rattle.jsonc_walk.proofs.lemmas.Loops.{AtHand, elements_start, elements_turn, elements_whole, leads_on}
use Rattle.jsonc_walk.proofs.lemmas.Properties.{properties_start, properties_turn, properties_whole}
use Rattle.jsonc_walk.proofs.lemmas.NoValues.{value_read, property_read, ElementsLeft, PropertiesLeft, elements_left_start, elements_left_turn, properties_left_start, properties_left_turn, leaf_nowhere, nothing_in_array, nothing_in_object, element_refused, array_deep, object_deep, next_element_refused, property_refused, next_property_refused, name_missing, colon_missing, no_token_for_value, end_for_value, value_refused}
use Rattle.jsonc_walk.proofs.lemmas.Refusals.{stop_all, on_err, ok_all, still}
use Rattle.jsonc_walk.proofs.lemmas.OpenContainers.{GoesOn, count_property, goes_first, elements_go_on, first_stops, next_stops, element_comes, element_stops, properties_go_on, property_comes, property_stops, name_stops, colon_missing_stops, no_token_stops, no_value_stops, value_told_stops, has_room, from_old}
use Rattle.jsonc_walk.proofs.lemmas.Walks.{element_deep, element_deep_stops, from_here, from_spans, from_start, leaf_told, less_left, member_reads, no_memory, opening_stops, property_deep, property_deep_stops}
use Rattle.jsonc_walk.proofs.lemmas.Handing.{number_here, number_means, plain_here, plain_inside, plain_means, string_here, utf8_there}
use Rattle.std.specs.Cow.{cow_str_bytes}
use Rattle.std.specs.Prelude.{chars}
use Rattle.jsonc_walk.specs.Handed.{chars_between, Covers}
use Rattle.jsonc_scan.specs.Scanner.{IsThere, end_of}
use Rattle.jsonc_walk.specs.Written.{IsLentHere}
use Rattle.jsonc_walk.proofs.walk.+parse.Goals as goal

pub parse_array-loop-next-init : goal.parse_array-loop-next-init
parse_array-loop-next-init g t c =
    let whole = g.R.Receiver.whole in
    let old = c.args.context.now in
    let now = c.first_item.new.self in
    let found = found_in now c.in_ok-next.next in
    let read = c.in_ok-next.ensures in record {
      elements = [];
      held = read.held.elements c.args.to.now _ c.token_start-start.result [] c.in-Ok.ensures.held;
      lent = read.lent;
      collects = read.collects;
      same = read.source ∙ c.in-Ok.ensures.kept ∙ c.requires.source;
      follows = first_follows Array old now (g.R.Receiver.source c.first_item.new.to) (g.R.Receiver.reached c.first_item.new.to) found read.found (follows_in (read.source ∙ c.in-Ok.ensures.kept ∙ c.requires.source) refl read.follows);
      so_far = elements_start whole old now found [] c.args.count refl c.in_ok-next.ensures.kept read.found (c.opens_too_deep.ensures.within c.if-opens_too_deep.false);
      left = elements_left_start whole old now found c.args.count c.requires.token c.in_ok-next.ensures.kept read.only;
      reading = goes_first whole Array old now found c.args.count c.requires.token (has_room whole Array c.args.count (c.opens_too_deep.ensures.within c.if-opens_too_deep.false)) c.in_ok-next.ensures.kept read.found read.stands;
    }

pub parse_object-loop-next-init : goal.parse_object-loop-next-init
parse_object-loop-next-init g t c =
    let whole = g.R.Receiver.whole in
    let old = c.args.context.now in
    let now = c.first_item.new.self in
    let found = found_in now c.in_ok-next.next in
    let read = c.in_ok-next.ensures in record {
      properties = [];
      held = read.held.properties c.args.to.now _ c.token_start-start.result [] c.in-Ok.ensures.held;
      lent = read.lent;
      collects = read.collects;
      same = read.source ∙ c.in-Ok.ensures.kept ∙ c.requires.source;
      follows = first_follows Object old now (g.R.Receiver.source c.first_item.new.to) (g.R.Receiver.reached c.first_item.new.to) found read.found (follows_in (read.source ∙ c.in-Ok.ensures.kept ∙ c.requires.source) refl read.follows);
      so_far = properties_start whole old now found [] c.args.count refl c.in_ok-next.ensures.kept read.found (c.opens_too_deep.ensures.within c.if-opens_too_deep.false);
      left = properties_left_start whole old now found c.args.count c.requires.token c.in_ok-next.ensures.kept read.only;
      reading = goes_first whole Object old now found c.args.count c.requires.token (has_room whole Object c.args.count (c.opens_too_deep.ensures.within c.if-opens_too_deep.false)) c.in_ok-next.ensures.kept read.found read.stands;
    }

pub parse_array-loop-next-preserved : goal.parse_array-loop-next-preserved
parse_array-loop-next-preserved g t c =
    let whole = g.R.Receiver.whole in
    let old = c.args.context.now in
    let now = c.loop-next.context in
    let mid = c.parse_element.new.context in
    let new = c.next_item.new.self in
    let next = found_in new c.in_ok-next-2.next in
    let t = last now c.in-Some.token in
    let is = ap (found_in now) c.in-Some.is in
    let kept = c.in_ok-parse_element.ensures.read.kept in
    let read = c.in_ok-parse_element.ensures.read.found c.args.to.now c.token_start-start.result in
    let further = c.in_ok-next-2.ensures in
    let inv = c.loop-next.invariant in record {
      elements = inv.elements ++ read.element ∷ [];
      held = further.held.elements c.args.to.now c.parse_element.new.elements c.token_start-start.result (inv.elements ++ read.element ∷ []) (read.put inv.elements inv.held);
      lent = further.lent;
      collects = collects_turn old now mid new inv.so_far.kept inv.collects kept c.in_ok-parse_element.ensures.read.collects further.collects;
      same = further.source ∙ c.in_ok-parse_element.ensures.read.source ∙ inv.same;
      follows = next_follows Array mid new (g.R.Receiver.source c.next_item.new.to) (g.R.Receiver.reached c.next_item.new.to) next further.found (follows_in (further.source ∙ source_on old mid _ (kept_on old now mid inv.so_far.kept kept) (c.in_ok-parse_element.ensures.read.source ∙ inv.same)) refl further.follows);
      so_far = elements_turn whole old now mid new (found_in now c.loop-next.next) next t read.element inv.elements (inv.elements ++ read.element ∷ []) c.args.count inv.so_far is kept read.reads c.in_ok-next-2.ensures.kept further.found refl read.within;
      left = elements_left_turn whole old now inv.so_far.kept t c.args.count (subst (λ n. ElementsLeft whole old now n c.args.count) is inv.left) mid read.element kept read.reads new next c.in_ok-next-2.ensures.kept further.only;
      reading = elements_go_on whole old now inv.so_far.kept t mid (value_at read.element) c.args.count (subst (λ n. GoesOn whole Array old now n c.args.count) is inv.reading) kept (value_read now mid read.element read.reads) read.within
          new next c.in_ok-next-2.ensures.kept further.found further.stands further.comes;
    }

pub parse_object-loop-next-preserved : goal.parse_object-loop-next-preserved
parse_object-loop-next-preserved g t c =
    let whole = g.R.Receiver.whole in
    let old = c.args.context.now in
    let now = c.loop-next.context in
    let mid = c.parse_property.new.context in
    let new = c.next_item.new.self in
    let next = found_in new c.in_ok-next-2.next in
    let t = last now c.in-Some.token in
    let is = ap (found_in now) c.in-Some.is in
    let kept = c.in_ok-parse_property.ensures.read.kept in
    let read = c.in_ok-parse_property.ensures.read.found c.args.to.now c.token_start-start.result in
    let m = read.member in
    let further = c.in_ok-next-2.ensures in
    let inv = c.loop-next.invariant in record {
      properties = inv.properties ++ m ∷ [];
      held = further.held.properties c.args.to.now c.parse_property.new.properties c.token_start-start.result (inv.properties ++ m ∷ []) (read.put inv.properties inv.held);
      lent = further.lent;
      collects = collects_turn old now mid new inv.so_far.kept inv.collects kept c.in_ok-parse_property.ensures.read.collects further.collects;
      same = further.source ∙ c.in_ok-parse_property.ensures.read.source ∙ inv.same;
      follows = next_follows Object mid new (g.R.Receiver.source c.next_item.new.to) (g.R.Receiver.reached c.next_item.new.to) next further.found (follows_in (further.source ∙ source_on old mid _ (kept_on old now mid inv.so_far.kept kept) (c.in_ok-parse_property.ensures.read.source ∙ inv.same)) refl further.follows);
      so_far = properties_turn whole old now mid new (found_in now c.loop-next.next) next t m inv.properties (inv.properties ++ m ∷ []) c.args.count inv.so_far is kept read.reads c.in_ok-next-2.ensures.kept further.found refl read.within;
      left = properties_left_turn whole old now inv.so_far.kept t c.args.count (subst (λ n. PropertiesLeft whole old now n c.args.count) is inv.left) mid m kept read.reads new next c.in_ok-next-2.ensures.kept further.only;
      reading = properties_go_on whole old now inv.so_far.kept t mid m.name.name (value_at m.value) c.args.count (subst (λ n. GoesOn whole Object old now n c.args.count) is inv.reading) kept (property_read now mid m read.reads) read.within
          new next c.in_ok-next-2.ensures.kept further.found further.stands further.comes;
    }

pub parse_array-returns-clause-read : goal.parse_array-returns-clause-read
parse_array-returns-clause-read g t c =
    let whole = g.R.Receiver.whole in
    let old = c.args.context.now in
    let now = c.loop-next.context in
    let inv = c.loop-next.invariant in
    let none = ap (found_in now) c.in_default-next.is in
    record {
      source = c.in-Ok-close_array.ensures.kept ∙ c.loop-next.invariant.same ∙ sym c.requires.source;
      reached = subst (g.R.Receiver.reached c.close_array.new.self) (c.new-range.ensures.end ∙ c.token_end.ensures) c.in-Ok-close_array.ensures.reached;
      kept = c.loop-next.invariant.so_far.kept;
      collects = c.loop-next.invariant.collects;
      found = record {
        value = array_at c.new-range.result (items_of inv.elements);
        reads = elements_whole whole old now (found_in now c.loop-next.next) inv.elements c.args.count c.new-range.result inv.so_far none c.requires.token
            (c.new-range.ensures.start ∙ c.token_start-start.ensures) (c.new-range.ensures.end ∙ c.token_end.ensures);
        within = inv.so_far.within;
        made = c.in-Ok-close_array.ensures.made c.args.to.now inv.elements (subst (λ i. g.R.Receiver.holds_elements c.args.to.now c.loop-next.to c.loop-next.elements i inv.elements) (sym c.new-range.ensures.start) inv.held);
      };
    }

pub parse_object-returns-clause-read : goal.parse_object-returns-clause-read
parse_object-returns-clause-read g t c =
    let whole = g.R.Receiver.whole in
    let old = c.args.context.now in
    let now = c.loop-next.context in
    let inv = c.loop-next.invariant in
    let none = ap (found_in now) c.in_default-next.is in
    record {
      source = c.in-Ok-close_object.ensures.kept ∙ c.loop-next.invariant.same ∙ sym c.requires.source;
      reached = subst (g.R.Receiver.reached c.close_object.new.self) (c.new-range.ensures.end ∙ c.token_end.ensures) c.in-Ok-close_object.ensures.reached;
      kept = c.loop-next.invariant.so_far.kept;
      collects = c.loop-next.invariant.collects;
      found = record {
        value = object_at c.new-range.result (members_of inv.properties);
        reads = properties_whole whole old now (found_in now c.loop-next.next) inv.properties c.args.count c.new-range.result inv.so_far none c.requires.token
            (c.new-range.ensures.start ∙ c.token_start-start.ensures) (c.new-range.ensures.end ∙ c.token_end.ensures);
        within = inv.so_far.within;
        made = c.in-Ok-close_object.ensures.made c.args.to.now inv.properties (subst (λ i. g.R.Receiver.holds_properties c.args.to.now c.loop-next.to c.loop-next.properties i inv.properties) (sym c.new-range.ensures.start) inv.held);
      };
    }

pub parse_array-returns-in_err-next-clause-refused : goal.parse_array-returns-in_err-next-clause-refused
parse_array-returns-in_err-next-clause-refused g t c =
    let whole = g.R.Receiver.whole in
    let old = c.args.context.now in
    let e = c.first_item.new.self.fault in
    on_err c.from_residual.result (record {
      refused = still (nothing_in_array whole c.args.context.now c.args.count c.requires.token) c.in_err-next.ensures.refused;
      fault = c.in_err-next.ensures.fault;
      error = λ q d s many starts. first_stops whole Array old c.args.count q d s e c.requires.token (has_room whole Array c.args.count (c.opens_too_deep.ensures.within c.if-opens_too_deep.false)) many starts (λ q. rw c.told_from-from.ensures.some at (c.in_err-next.ensures.error q _ (from_here old c.token_start-start.result c.told_from-from.result c.told_from-from.ensures.place c.token_start-start.ensures)));
    })

pub parse_array-returns-in_err-parse_element-clause-refused : goal.parse_array-returns-in_err-parse_element-clause-refused
parse_array-returns-in_err-parse_element-clause-refused g t c =
    let whole = g.R.Receiver.whole in
    let old = c.args.context.now in
    let now = c.loop-next.context in
    let inv = c.loop-next.invariant in
    let left = subst (λ n. ElementsLeft whole old now n c.args.count) (ap (found_in c.loop-next.context) c.in-Some.is) inv.left in
    let e = c.parse_element.new.context.fault in
    let reading = subst (λ n. GoesOn whole Array old now n c.args.count) (ap (found_in c.loop-next.context) c.in-Some.is) inv.reading in
    on_err c.from_residual-in_err-parse_element.result (record {
      refused = still (element_refused whole old now inv.so_far.kept (last c.loop-next.context c.in-Some.token) c.args.count left) c.in_err-parse_element.ensures.refused.refused;
      fault = fault_before c.args.context.now c.loop-next.context _ c.loop-next.invariant.so_far.kept c.in_err-parse_element.ensures.refused.fault;
      error = λ q d s many starts. element_stops whole old now (last c.loop-next.context c.in-Some.token) c.args.count q d s e inv.so_far.kept (reading q d s many starts) many c.in_err-parse_element.ensures.refused.error;
    })

pub parse_array-returns-in_err-next-2-clause-refused : goal.parse_array-returns-in_err-next-2-clause-refused
parse_array-returns-in_err-next-2-clause-refused g t c =
    let whole = g.R.Receiver.whole in
    let old = c.args.context.now in
    let now = c.loop-next.context in
    let inv = c.loop-next.invariant in
    let left = subst (λ n. ElementsLeft whole old now n c.args.count) (ap (found_in c.loop-next.context) c.in-Some.is) inv.left in
    let mid = c.parse_element.new.context in
    let read = c.in_ok-parse_element.ensures.read in
    let made = read.found c.args.to.now c.token_start-start.result in
    let e = c.next_item.new.self.fault in
    let kept = kept_on c.args.context.now c.loop-next.context c.parse_element.new.context c.loop-next.invariant.so_far.kept c.in_ok-parse_element.ensures.read.kept in
    let reading = subst (λ n. GoesOn whole Array old now n c.args.count) (ap (found_in c.loop-next.context) c.in-Some.is) inv.reading in
    let x = made.element in
    on_err c.from_residual-in_err-next-2.result (record {
      refused = still (next_element_refused whole old now inv.so_far.kept (last c.loop-next.context c.in-Some.token) c.args.count left mid (made.element) read.kept made.reads) c.in_err-next-2.ensures.refused;
      fault = fault_before c.args.context.now c.parse_element.new.context _ kept c.in_err-next-2.ensures.fault;
      error = λ q d s many starts. let h = reading q d s many starts in next_stops whole Array old now mid inv.so_far.kept read.kept (last c.loop-next.context c.in-Some.token) q d s h (element_comes whole old now mid (last c.loop-next.context c.in-Some.token) q d s (value_at x) c.args.count h read.kept (value_read now mid x made.reads) many made.within) e (λ q. rw c.told_from-from.ensures.some at (c.in_err-next-2.ensures.error q _ (from_old old mid c.told_from-from.result (from_start old c.token_start-start.result c.told_from-from.result c.told_from-from.ensures.place c.token_start-start.ensures) (kept_on old now mid inv.so_far.kept read.kept))));
    })

pub parse_object-returns-in_err-next-clause-refused : goal.parse_object-returns-in_err-next-clause-refused
parse_object-returns-in_err-next-clause-refused g t c =
    let whole = g.R.Receiver.whole in
    let old = c.args.context.now in
    let e = c.first_item.new.self.fault in
    on_err c.from_residual.result (record {
      refused = still (nothing_in_object whole c.args.context.now c.args.count c.requires.token) c.in_err-next.ensures.refused;
      fault = c.in_err-next.ensures.fault;
      error = λ q d s many starts. first_stops whole Object old c.args.count q d s e c.requires.token (has_room whole Object c.args.count (c.opens_too_deep.ensures.within c.if-opens_too_deep.false)) many starts (λ q. rw c.told_from-from.ensures.some at (c.in_err-next.ensures.error q _ (from_here old c.token_start-start.result c.told_from-from.result c.told_from-from.ensures.place c.token_start-start.ensures)));
    })

pub parse_object-returns-in_err-parse_property-clause-refused : goal.parse_object-returns-in_err-parse_property-clause-refused
parse_object-returns-in_err-parse_property-clause-refused g t c =
    let whole = g.R.Receiver.whole in
    let old = c.args.context.now in
    let now = c.loop-next.context in
    let inv = c.loop-next.invariant in
    let left = subst (λ n. PropertiesLeft whole old now n c.args.count) (ap (found_in c.loop-next.context) c.in-Some.is) inv.left in
    let e = c.parse_property.new.context.fault in
    let reading = subst (λ n. GoesOn whole Object old now n c.args.count) (ap (found_in c.loop-next.context) c.in-Some.is) inv.reading in
    on_err c.from_residual-in_err-parse_property.result (record {
      refused = still (property_refused whole old now inv.so_far.kept (last c.loop-next.context c.in-Some.token) c.args.count left) c.in_err-parse_property.ensures.refused.refused;
      fault = fault_before c.args.context.now c.loop-next.context _ c.loop-next.invariant.so_far.kept c.in_err-parse_property.ensures.refused.fault;
      error = λ q d s many starts. property_stops whole old now (last c.loop-next.context c.in-Some.token) c.args.count q d s e inv.so_far.kept (reading q d s many starts) many c.in_err-parse_property.ensures.refused.error;
    })

pub parse_object-returns-in_err-next-2-clause-refused : goal.parse_object-returns-in_err-next-2-clause-refused
parse_object-returns-in_err-next-2-clause-refused g t c =
    let whole = g.R.Receiver.whole in
    let old = c.args.context.now in
    let now = c.loop-next.context in
    let inv = c.loop-next.invariant in
    let left = subst (λ n. PropertiesLeft whole old now n c.args.count) (ap (found_in c.loop-next.context) c.in-Some.is) inv.left in
    let mid = c.parse_property.new.context in
    let read = c.in_ok-parse_property.ensures.read in
    let made = read.found c.args.to.now c.token_start-start.result in
    let e = c.next_item.new.self.fault in
    let kept = kept_on c.args.context.now c.loop-next.context c.parse_property.new.context c.loop-next.invariant.so_far.kept c.in_ok-parse_property.ensures.read.kept in
    let reading = subst (λ n. GoesOn whole Object old now n c.args.count) (ap (found_in c.loop-next.context) c.in-Some.is) inv.reading in
    let m = made.member in
    on_err c.from_residual-in_err-next-2.result (record {
      refused = still (next_property_refused whole old now inv.so_far.kept (last c.loop-next.context c.in-Some.token) c.args.count left mid made.member read.kept made.reads) c.in_err-next-2.ensures.refused;
      fault = fault_before c.args.context.now c.parse_property.new.context _ kept c.in_err-next-2.ensures.fault;
      error = λ q d s many starts. let h = reading q d s many starts in next_stops whole Object old now mid inv.so_far.kept read.kept (last c.loop-next.context c.in-Some.token) q d s h (property_comes whole old now mid (last c.loop-next.context c.in-Some.token) q d s m.name.name (value_at m.value) c.args.count h read.kept (property_read now mid m made.reads) many made.within) e (λ q. rw c.told_from-from.ensures.some at (c.in_err-next-2.ensures.error q _ (from_old old mid c.told_from-from.result (from_start old c.token_start-start.result c.told_from-from.result c.told_from-from.ensures.place c.token_start-start.ensures) (kept_on old now mid inv.so_far.kept read.kept))));
    })

pub parse_property-returns-in_err-named-clause-refused : goal.parse_property-returns-in_err-named-clause-refused
parse_property-returns-in_err-named-clause-refused g t c =
    let whole = g.R.Receiver.whole in
    let old = c.args.context.now in
    let e = c.parse_name.new.context.fault in
    on_err c.from_residual.result (record {
      refused = still (name_missing whole c.args.context.now c.args.count) c.in_err-named.ensures.refused;
      fault = c.in_err-named.ensures.fault;
      error = λ q d s many starts. name_stops whole old (last c.args.context.now c.args.token) q d s c.requires.token starts e c.in_err-named.ensures.error;
    })

pub parse_property-returns-in_err-pass_colon-clause-refused : goal.parse_property-returns-in_err-pass_colon-clause-refused
parse_property-returns-in_err-pass_colon-clause-refused g t c =
    let whole = g.R.Receiver.whole in
    let old = c.args.context.now in
    let e = c.pass_colon.new.self.fault in
    on_err c.from_residual-in_err-pass_colon.result (record {
      refused = still (λ n. colon_missing whole c.args.context.now c.in_ok-named.ensures.named.name c.args.count c.in_ok-named.ensures.named.stands (no_colon_given c.args.context.now c.parse_name.new.context c.in_ok-named.ensures.gives n)) c.in_err-pass_colon.ensures.refused;
      fault = fault_before c.args.context.now c.parse_name.new.context _ (kept_self c.args.context.now c.parse_name.new.context c.in_ok-named.ensures.gives) c.in_err-pass_colon.ensures.fault;
      error = λ q d s many starts. colon_missing_stops whole old (last c.args.context.now c.args.token) q d s c.requires.token starts c.in_ok-named.ensures.named.name c.in_ok-named.ensures.named.stands e (stops_given c.args.context.now c.parse_name.new.context e c.in_ok-named.ensures.gives c.in_err-pass_colon.ensures.error whole _);
    })

pub parse_property-returns-in_err-found-clause-refused : goal.parse_property-returns-in_err-found-clause-refused
parse_property-returns-in_err-found-clause-refused g t c =
    let whole = g.R.Receiver.whole in
    let old = c.args.context.now in
    let mid = c.pass_colon.new.self in
    let name = c.in_ok-named.ensures.named.stands in
    let e = c.scan.new.self.fault in
    let kept_mid = kept_given c.args.context.now c.parse_name.new.context c.pass_colon.new.self c.in_ok-named.ensures.gives c.in_ok-pass_colon.ensures.kept in
    on_err c.from_residual-in_err-found.result (record {
      refused = still (no_token_for_value whole old mid c.in_ok-named.ensures.named.name c.args.count name (kept_given c.args.context.now c.parse_name.new.context c.pass_colon.new.self c.in_ok-named.ensures.gives c.in_ok-pass_colon.ensures.kept) (colon_given c.args.context.now c.parse_name.new.context c.pass_colon.new.self c.in_ok-named.ensures.gives c.in_ok-pass_colon.ensures.found)) c.in_err-found.ensures.refused;
      fault = fault_before c.args.context.now c.pass_colon.new.self _ kept_mid c.in_err-found.ensures.fault;
      error = λ q d s many starts. no_token_stops whole old (last c.args.context.now c.args.token) q d s c.requires.token starts c.in_ok-named.ensures.named.name c.in_ok-named.ensures.named.stands c.pass_colon.new.self (kept_given c.args.context.now c.parse_name.new.context c.pass_colon.new.self c.in_ok-named.ensures.gives c.in_ok-pass_colon.ensures.kept) (colon_given c.args.context.now c.parse_name.new.context c.pass_colon.new.self c.in_ok-named.ensures.gives c.in_ok-pass_colon.ensures.found) e c.in_err-found.ensures.error;
    })

pub parse_property-returns-in_err-value-clause-refused : goal.parse_property-returns-in_err-value-clause-refused
parse_property-returns-in_err-value-clause-refused g t c =
    let whole = g.R.Receiver.whole in
    let old = c.args.context.now in
    let mid = c.pass_colon.new.self in
    let name = c.in_ok-named.ensures.named.stands in
    let found = c.in_ok-found.ensures in
    let at = c.scan.new.self in
    let e = c.parse_value.new.context.fault in
    let kept_mid = kept_given c.args.context.now c.parse_name.new.context c.pass_colon.new.self c.in_ok-named.ensures.gives c.in_ok-pass_colon.ensures.kept in
    let kept_at = kept_on c.args.context.now c.pass_colon.new.self c.scan.new.self kept_mid c.in_ok-found.ensures.kept in
    on_err c.from_residual-in_err-value.result (record {
      refused = still (value_refused whole old mid c.in_ok-named.ensures.named.name c.args.count name (kept_given c.args.context.now c.parse_name.new.context c.pass_colon.new.self c.in_ok-named.ensures.gives c.in_ok-pass_colon.ensures.kept) (colon_given c.args.context.now c.parse_name.new.context c.pass_colon.new.self c.in_ok-named.ensures.gives c.in_ok-pass_colon.ensures.found) at (found_in c.scan.new.self c.in_ok-found.found) found.kept found.found found.lexeme) (rw c.around_value-around.ensures at c.in_err-value.ensures.refused.refused);
      fault = fault_before c.args.context.now c.scan.new.self _ kept_at c.in_err-value.ensures.refused.fault;
      error = λ q d s many starts. value_told_stops whole old (last c.args.context.now c.args.token) q d s c.requires.token starts c.in_ok-named.ensures.named.name c.in_ok-named.ensures.named.stands c.pass_colon.new.self (kept_given c.args.context.now c.parse_name.new.context c.pass_colon.new.self c.in_ok-named.ensures.gives c.in_ok-pass_colon.ensures.kept) (colon_given c.args.context.now c.parse_name.new.context c.pass_colon.new.self c.in_ok-named.ensures.gives c.in_ok-pass_colon.ensures.found) c.scan.new.self (found_in c.scan.new.self c.in_ok-found.found) found.kept found.found found.lexeme (last c.scan.new.self c.in-Some.token) (ap (found_in c.scan.new.self) c.in-Some.is) e c.around_value-around.result (let one = count_property whole (here old) q in omega (arith, one, many, c.around_value-around.ensures)) c.in_err-value.ensures.refused.error;
    })

pub parse_property-returns-in_default-clause-refused : goal.parse_property-returns-in_default-clause-refused
parse_property-returns-in_default-clause-refused g t c =
    let whole = g.R.Receiver.whole in
    let old = c.args.context.now in
    let mid = c.pass_colon.new.self in
    let name = c.in_ok-named.ensures.named.stands in
    let found = c.in_ok-found.ensures in
    let kept_mid = kept_given c.args.context.now c.parse_name.new.context c.pass_colon.new.self c.in_ok-named.ensures.gives c.in_ok-pass_colon.ensures.kept in
    let kept_at = kept_on c.args.context.now c.pass_colon.new.self c.scan.new.self kept_mid c.in_ok-found.ensures.kept in
    record {
      refused = inr (end_for_value whole old mid c.in_ok-named.ensures.named.name c.args.count name (kept_given c.args.context.now c.parse_name.new.context c.pass_colon.new.self c.in_ok-named.ensures.gives c.in_ok-pass_colon.ensures.kept) (colon_given c.args.context.now c.parse_name.new.context c.pass_colon.new.self c.in_ok-named.ensures.gives c.in_ok-pass_colon.ensures.found) c.scan.new.self (found_in c.scan.new.self c.in_ok-found.found) found.kept found.found found.lexeme (ap (found_in c.scan.new.self) c.in_default.is));
      fault = fault_before c.args.context.now c.scan.new.self _ kept_at (told_anyhow c.stop_without_value.ensures.fault);
      error = λ q d s many starts. let whole = g.R.Receiver.whole in let old = c.args.context.now in let found = c.in_ok-found.ensures in let small = c.holds_too_deep.ensures.within c.if-holds_too_deep.false in no_value_stops whole old (last c.args.context.now c.args.token) q d s c.requires.token starts c.in_ok-named.ensures.named.name c.in_ok-named.ensures.named.stands c.pass_colon.new.self (kept_given c.args.context.now c.parse_name.new.context c.pass_colon.new.self c.in_ok-named.ensures.gives c.in_ok-pass_colon.ensures.kept) (colon_given c.args.context.now c.parse_name.new.context c.pass_colon.new.self c.in_ok-named.ensures.gives c.in_ok-pass_colon.ensures.found) c.scan.new.self (found_in c.scan.new.self c.in_ok-found.found) found.kept found.found found.lexeme (ap (found_in c.scan.new.self) c.in_default.is) c.stop_without_value.new.self.fault (let one = count_property whole (here old) q in omega (arith, one, many, small)) c.stop_without_value.ensures.kind c.stop_without_value.ensures.range;
    }

pub parse_value-returns-in-Err-clause-refused : goal.parse_value-returns-in-Err-clause-refused
parse_value-returns-in-Err-clause-refused g t c =
    let told = c.in-Err.ensures.refused in
    record { refused = told.refused; fault = told.fault; error = λ q d s many starts. told.error q d s many (starts.may, starts.gap) }

pub parse_value-returns-in-Err-parse_object-clause-refused : goal.parse_value-returns-in-Err-parse_object-clause-refused
parse_value-returns-in-Err-parse_object-clause-refused g t c =
    let told = c.in-Err-parse_object.ensures.refused in
    record { refused = told.refused; fault = told.fault; error = λ q d s many starts. told.error q d s many (starts.may, starts.gap) }

pub parse_array-returns-then-opens_too_deep-clause-refused : goal.parse_array-returns-then-opens_too_deep-clause-refused
parse_array-returns-then-opens_too_deep-clause-refused g t c =
    record {
      refused = inr (array_deep g.R.Receiver.whole c.args.context.now c.args.count c.requires.token (c.opens_too_deep.ensures.deep c.if-opens_too_deep.true));
      fault = told_anyhow c.stop_too_deep.ensures.fault;
      error = opening_stops g.R.Receiver.whole Array c.args.context.now c.token_start-start.result c.args.count c.stop_too_deep.new.self.fault (c.opens_too_deep.ensures.apart c.if-opens_too_deep.true) c.requires.token c.token_start-start.ensures (c.opens_too_deep.ensures.deep c.if-opens_too_deep.true) c.stop_too_deep.ensures.kind c.stop_too_deep.ensures.range;
    }

pub parse_object-returns-then-opens_too_deep-clause-refused : goal.parse_object-returns-then-opens_too_deep-clause-refused
parse_object-returns-then-opens_too_deep-clause-refused g t c =
    record {
      refused = inr (object_deep g.R.Receiver.whole c.args.context.now c.args.count c.requires.token (c.opens_too_deep.ensures.deep c.if-opens_too_deep.true));
      fault = told_anyhow c.stop_too_deep.ensures.fault;
      error = opening_stops g.R.Receiver.whole Object c.args.context.now c.token_start-start.result c.args.count c.stop_too_deep.new.self.fault (c.opens_too_deep.ensures.apart c.if-opens_too_deep.true) c.requires.token c.token_start-start.ensures (c.opens_too_deep.ensures.deep c.if-opens_too_deep.true) c.stop_too_deep.ensures.kind c.stop_too_deep.ensures.range;
    }

pub parse_array-returns-then-holds_too_deep-clause-refused : goal.parse_array-returns-then-holds_too_deep-clause-refused
parse_array-returns-then-holds_too_deep-clause-refused g t c =
    let whole = g.R.Receiver.whole in
    let old = c.args.context.now in
    let now = c.loop-next.context in
    let left = subst (λ n. ElementsLeft whole old now n c.args.count) (ap (found_in now) c.in-Some.is) c.loop-next.invariant.left in
    let inv = c.loop-next.invariant in
    let is = ap (found_in now) c.in-Some.is in
    let reading = subst (λ n. GoesOn whole Array old now n c.args.count) is inv.reading in
    record {
      refused = inr (element_deep whole old now (last now c.in-Some.token) c.args.count (c.holds_too_deep.ensures.whole c.if-holds_too_deep.true) left (c.holds_too_deep.ensures.deep c.if-holds_too_deep.true));
      fault = fault_before c.args.context.now c.loop-next.context _ c.loop-next.invariant.so_far.kept (told_anyhow c.stop_too_deep-then-holds_too_deep.ensures.fault);
      error = element_deep_stops whole old now (last now c.in-Some.token) c.token_start-start.result c.args.count c.stop_too_deep-then-holds_too_deep.new.self.fault (c.holds_too_deep.ensures.whole c.if-holds_too_deep.true) inv.so_far.kept (subst (AtHand 0x5D now) is inv.so_far.hand) c.token_start-start.ensures (c.holds_too_deep.ensures.deep c.if-holds_too_deep.true) c.stop_too_deep-then-holds_too_deep.ensures.kind c.stop_too_deep-then-holds_too_deep.ensures.range reading;
    }

pub parse_property-returns-then-holds_too_deep-clause-refused : goal.parse_property-returns-then-holds_too_deep-clause-refused
parse_property-returns-then-holds_too_deep-clause-refused g t c =
    let kept_mid = kept_given c.args.context.now c.parse_name.new.context c.pass_colon.new.self c.in_ok-named.ensures.gives c.in_ok-pass_colon.ensures.kept in
    let kept_at = kept_on c.args.context.now c.pass_colon.new.self c.scan.new.self kept_mid c.in_ok-found.ensures.kept in
    let whole = g.R.Receiver.whole in
    let old = c.args.context.now in
    let named = c.parse_name.new.context in
    let mid = c.pass_colon.new.self in
    let at = c.scan.new.self in
    let found = c.in_ok-found.ensures in
    record {
      refused = inr (property_deep g.R.Receiver.whole c.args.context.now c.args.count (c.holds_too_deep.ensures.whole c.if-holds_too_deep.true) (c.holds_too_deep.ensures.deep c.if-holds_too_deep.true));
      fault = fault_before c.args.context.now c.scan.new.self _ kept_at (told_anyhow c.stop_too_deep.ensures.fault);
      error = property_deep_stops whole old (last old c.args.token) c.requires.token c.in_ok-named.ensures.named.name c.in_ok-named.ensures.named.stands mid (kept_given old named mid c.in_ok-named.ensures.gives c.in_ok-pass_colon.ensures.kept) (colon_given old named mid c.in_ok-named.ensures.gives c.in_ok-pass_colon.ensures.found) at (found_in at c.in_ok-found.found) found.kept found.found found.lexeme c.args.count c.stop_too_deep.new.self.fault c.token_start-start.result (c.holds_too_deep.ensures.whole c.if-holds_too_deep.true) c.token_start-start.ensures (c.holds_too_deep.ensures.deep c.if-holds_too_deep.true) c.stop_too_deep.ensures.kind c.stop_too_deep.ensures.range;
    }

pub parse_element-hand_string-requires-clause-utf8 : goal.parse_element-hand_string-requires-clause-utf8
parse_element-hand_string-requires-clause-utf8 g t c = utf8_there c.args.context.now (g.R.Receiver.source c.args.to.now) c.requires.source

pub parse_element-hand_string-requires-clause-written : goal.parse_element-hand_string-requires-clause-written
parse_element-hand_string-requires-clause-written g t c = string_here c.args.context.now (g.R.Receiver.source c.args.to.now) c.args.token c.take_string-string.result c.range-range.result c.in-String.is c.take_string-string.ensures.string c.requires.source c.requires.token c.requires.lent c.range-range.ensures

pub parse_element-number-requires-clause-stands : goal.parse_element-number-requires-clause-stands
parse_element-number-requires-clause-stands g t c = number_here c.args.context.now (g.R.Receiver.source c.args.to.now) c.args.token c.range-range-in-Number.result c.in-Number.is c.requires.source c.requires.token c.range-range-in-Number.ensures

pub parse_element-string-requires-clause-inside : goal.parse_element-string-requires-clause-inside
parse_element-string-requires-clause-inside g t c = plain_inside c.args.context.now (g.R.Receiver.source c.args.to.now) c.args.token c.range-range-in-Plain.result c.in-Plain.is c.requires.source c.requires.token c.requires.lent c.range-range-in-Plain.ensures

pub parse_element-string-requires-clause-stands : goal.parse_element-string-requires-clause-stands
parse_element-string-requires-clause-stands g t c = plain_here c.args.context.now (g.R.Receiver.source c.args.to.now) c.args.token c.range-range-in-Plain.result c.in-Plain.is c.requires.source c.requires.token c.requires.lent c.range-range-in-Plain.ensures

pub parse_property-parse_value-requires : goal.parse_property-parse_value-requires
parse_property-parse_value-requires g t c κs within =
    let old = c.args.context.now in
    let named = c.parse_name.new.context in
    let mid = c.pass_colon.new.self in
    let at = c.scan.new.self in
    let found = c.in_ok-found.ensures in
    let is = ap (found_in at) c.in-Some.is in
    let kept = kept_given old named mid c.in_ok-named.ensures.gives c.in_ok-pass_colon.ensures.kept in
    let token = subst (IsThere at.scanner) is found.found.1 in
    let same = c.in_ok-named.ensures.source ∙ c.requires.source in
    let small = c.holds_too_deep.ensures.within c.if-holds_too_deep.false in
    let source = found.source ∙ c.in_ok-pass_colon.ensures.source ∙ same in
    let at_old = source_on old at (g.R.Receiver.source c.scan.new.to) (kept_on old mid at kept found.kept) source in
    let follows = follows_in (found.source ∙ c.in_ok-pass_colon.ensures.source ∙ same ∙ source_later old mid kept) refl found.follows in
    let lent = subst (IsLentHere at) c.in-Some.is found.lent in
    (omega (arith, c.around_value-around.ensures, small), (within.0, (within.1.0, (within.1.1.0, (within.1.1.1.0, (within.1.1.1.1.0, (within.1.1.1.1.1.0, (within.1.1.1.1.1.1, (token, (omega (arith, c.around_value-around.ensures, small), (lent, (at_old, follows))))))))))))

pub parse_array-first_item-requires-clause-source : goal.parse_array-first_item-requires-clause-source
parse_array-first_item-requires-clause-source g t c = c.in-Ok.ensures.kept ∙ c.requires.source

pub parse_array-first_item-requires-clause-reached : goal.parse_array-first_item-requires-clause-reached
parse_array-first_item-requires-clause-reached g t c = opened_reached c.args.context.now 0x5B (g.R.Receiver.reached c.open_array.new.self) c.token_start-start.result (omega arith) c.requires.token c.token_start-start.ensures c.in-Ok.ensures.reached

pub parse_object-first_item-requires-clause-source : goal.parse_object-first_item-requires-clause-source
parse_object-first_item-requires-clause-source g t c = c.in-Ok.ensures.kept ∙ c.requires.source

pub parse_object-first_item-requires-clause-reached : goal.parse_object-first_item-requires-clause-reached
parse_object-first_item-requires-clause-reached g t c = opened_reached c.args.context.now 0x7B (g.R.Receiver.reached c.open_object.new.self) c.token_start-start.result (omega arith) c.requires.token c.token_start-start.ensures c.in-Ok.ensures.reached

pub parse_array-next_item-requires-clause-source : goal.parse_array-next_item-requires-clause-source
parse_array-next_item-requires-clause-source g t c =
    let inv = c.loop-next.invariant in
    source_on c.args.context.now c.parse_element.new.context _ (kept_on c.args.context.now c.loop-next.context c.parse_element.new.context inv.so_far.kept c.in_ok-parse_element.ensures.read.kept) (c.in_ok-parse_element.ensures.read.source ∙ inv.same)

pub parse_object-next_item-requires-clause-source : goal.parse_object-next_item-requires-clause-source
parse_object-next_item-requires-clause-source g t c =
    let inv = c.loop-next.invariant in
    source_on c.args.context.now c.parse_property.new.context _ (kept_on c.args.context.now c.loop-next.context c.parse_property.new.context inv.so_far.kept c.in_ok-parse_property.ensures.read.kept) (c.in_ok-parse_property.ensures.read.source ∙ inv.same)

pub parse_property-pass_colon-requires-clause-source : goal.parse_property-pass_colon-requires-clause-source
parse_property-pass_colon-requires-clause-source g t c =
    source_on c.args.context.now c.parse_name.new.context _ (kept_self c.args.context.now c.parse_name.new.context c.in_ok-named.ensures.gives) (c.in_ok-named.ensures.source ∙ c.requires.source)

pub parse_property-pass_colon-requires-clause-reached : goal.parse_property-pass_colon-requires-clause-reached
parse_property-pass_colon-requires-clause-reached g t c = subst (g.R.Receiver.reached c.parse_name.new.to) (ap end_of (sym c.in_ok-named.ensures.gives.scanner)) c.in_ok-named.ensures.reached

pub parse_property-scan-requires-clause-source : goal.parse_property-scan-requires-clause-source
parse_property-scan-requires-clause-source g t c =
    let old = c.args.context.now in
    let mid = c.pass_colon.new.self in
    source_on old mid _ (kept_given old c.parse_name.new.context mid c.in_ok-named.ensures.gives c.in_ok-pass_colon.ensures.kept) (c.in_ok-pass_colon.ensures.source ∙ c.in_ok-named.ensures.source ∙ c.requires.source)

pub parse_property-scan-requires-clause-behind : goal.parse_property-scan-requires-clause-behind
parse_property-scan-requires-clause-behind g t c = behind_in (sym (source_later c.parse_name.new.context c.pass_colon.new.self c.in_ok-pass_colon.ensures.kept)) c.in_ok-pass_colon.ensures.behind

pub parse_property-property-requires : goal.parse_property-property-requires
parse_property-property-requires g t c =
    let (s, i, ms, held) = c.requires.held in
    let n = c.in_ok-named.ensures.named.name in
    let read = c.in_ok-value.ensures.read.found in
    let named = c.in_ok-found.ensures.held.named c.args.to.now _ n (c.in_ok-pass_colon.ensures.held.named c.args.to.now _ n c.in_ok-named.ensures.named.made) in
    let covers : Covers c.new-range.result n read.value = record { starts = c.new-range.ensures.start ∙ c.token_start-start.ensures ∙ ap (λ q. q.start) (sym c.in_ok-named.ensures.named.range); ends = c.new-range.ensures.end ∙ c.token_end.ensures ∙ sym read.reads.ends } in
    record { held = (s, c.args.to.now, c.scan.new.to, i, ms, n, read.value, held, named, read.made, covers) }

pub parse_element-returns-in_err-value-in_default-clause-refused : goal.parse_element-returns-in_err-value-in_default-clause-refused
parse_element-returns-in_err-value-in_default-clause-refused g t c =
    on_err c.from_residual.result c.in_err-value-in_default.ensures.refused

pub parse_value-returns-in-Ok-clause-read : goal.parse_value-returns-in-Ok-clause-read
parse_value-returns-in-Ok-clause-read g t c = c.in-Ok.ensures.read

pub parse_value-returns-in-Ok-parse_object-clause-read : goal.parse_value-returns-in-Ok-parse_object-clause-read
parse_value-returns-in-Ok-parse_object-clause-read g t c = c.in-Ok-parse_object.ensures.read

pub parse_property-returns-clause-read : goal.parse_property-returns-clause-read
parse_property-returns-clause-read g t c =
    let whole = g.R.Receiver.whole in
    let old = c.args.context.now in
    let named = c.parse_name.new.context in
    let mid = c.pass_colon.new.self in
    let at = c.scan.new.self in
    let new = c.parse_value.new.context in
    let read = c.in_ok-value.ensures.read in
    let made = read.found in
    let n = c.in_ok-named.ensures.named.name in
    let colon = c.in_ok-pass_colon.ensures in
    let found = c.in_ok-found.ensures in
    let kept_mid = kept_given old named mid c.in_ok-named.ensures.gives c.in_ok-pass_colon.ensures.kept in
    let starts = c.new-range.ensures.start ∙ c.token_start-start.ensures in
    let ends = c.new-range.ensures.end ∙ c.token_end.ensures in
    record {
      source = c.in-Ok.ensures.kept ∙ read.source ∙ found.source ∙ colon.source ∙ c.in_ok-named.ensures.source;
      reached = c.in-Ok.ensures.reached _ read.reached;
      kept = kept_on old at new (kept_on old mid at kept_mid found.kept) read.kept;
      collects = collects_turn old mid at new kept_mid (collects_given old named mid c.in_ok-named.ensures.gives colon.collects) found.kept found.collects read.collects;
      found = λ s i. record {
        member = record { range = c.new-range.result; name = n; value = made.value };
        reads = member_reads old mid at new n c.new-range.result made.value c.in_ok-named.ensures.named.stands c.in_ok-named.ensures.named.range kept_mid (colon_given old named mid c.in_ok-named.ensures.gives colon.found) found.kept found.found.0 made.reads starts ends;
        within = subst (λ n. size whole (value_at made.value) + n ≤ 512) c.around_value-around.ensures made.within;
        put = λ ms held. c.in-Ok.ensures.held s c.args.to.now c.scan.new.to i ms n made.value held (found.held.named c.args.to.now _ n (colon.held.named c.args.to.now _ n c.in_ok-named.ensures.named.made)) made.made (record { starts = starts ∙ ap (λ q. q.start) (sym c.in_ok-named.ensures.named.range); ends = ends ∙ sym made.reads.ends });
      };
    }

pub parse_value-returns-in_default-clause-read : goal.parse_value-returns-in_default-clause-read
parse_value-returns-in_default-clause-read g t c =
    let old = c.args.context.now in
    let new = c.parse_leaf.new.context in
    ok_all c.parse_leaf.result c.parse_leaf.ensures.gives c.parse_leaf.ensures.source c.parse_leaf.ensures.reached c.parse_leaf.ensures.found (λ i gives source reached h. record {
      source = source;
      reached = reached;
      kept = kept_self old new gives;
      collects = collects_self old new gives;
      found = record {
        value = h.leaf;
        reads = reads_self old new h.leaf gives h.reads;
        within = let none = h.flat g.R.Receiver.whole in omega (arith, none, c.requires.around);
        made = h.made;
      };
    })

pub parse_value-returns-in_default-clause-refused : goal.parse_value-returns-in_default-clause-refused
parse_value-returns-in_default-clause-refused g t c =
    let whole = g.R.Receiver.whole in
    let old = c.args.context.now in
    let t = last old c.args.token in
    let no_bracket : t ≢ lexeme (punctuation 0x5B) = λ e. c.in_default.not-OpenBracket (is_bracket old.scanner old.content c.args.token e) in
    let no_brace : t ≢ lexeme (punctuation 0x7B) = λ e. c.in_default.not-OpenBrace (is_brace old.scanner old.content c.args.token e) in
    stop_all c.parse_leaf.result c.parse_leaf.ensures.refused c.parse_leaf.ensures.fault c.parse_leaf.ensures.error (λ none fault told. record {
      refused = still (leaf_nowhere whole old t c.args.count c.requires.token no_bracket no_brace) none;
      fault = fault;
      error = leaf_told whole old t c.parse_leaf.new.context.fault c.args.count c.requires.token c.requires.around (told (no_bracket, no_brace));
    })

pub parse_element-returns-in-Ok-element-clause-read : goal.parse_element-returns-in-Ok-element-clause-read
parse_element-returns-in-Ok-element-clause-read g t c =
    let whole = g.R.Receiver.whole in
    let old = c.args.context.now in
    let gives : GivesAway old _ = record { scanner = refl; decodes = refl; tokens = refl; comments = refl; apart = refl } in
    record {
      source = c.in-Ok-element.ensures.kept ∙ c.in-Ok.ensures.source;
      reached = c.in-Ok-element.ensures.reached _ (subst (λ r. g.R.Receiver.reached c.hand_string.new.to r.end) c.range-range.ensures c.in-Ok.ensures.reached);
      kept = kept_self old _ gives;
      collects = collects_self old _ gives;
      found = λ s i. element_put old _ (last old c.args.token) c.range-range.result (string (chars (cow_str_bytes c.take_string-string.result))) whole c.args.count (g.R.Receiver.holds_elements s c.args.to.now c.args.elements.now i) _
          c.requires.token (ap (λ k. leaf_value (last old k)) c.in-String.is ∙ ap (λ x. Some (string (chars (cow_str_bytes x)))) (sym c.take_string-string.ensures.string)) c.range-range.ensures gives c.requires.around
          (λ xs held. c.in-Ok-element.ensures.held s c.args.to.now i xs _ held c.in-Ok.ensures.made);
    }

pub parse_element-returns-in-Ok-element-2-clause-read : goal.parse_element-returns-in-Ok-element-2-clause-read
parse_element-returns-in-Ok-element-2-clause-read g t c =
    let whole = g.R.Receiver.whole in
    let old = c.args.context.now in
    let source = g.R.Receiver.source c.args.to.now in
    let r = c.range-range-in-Number.result in
    let gives = gives_nothing old in
    record {
      source = c.in-Ok-element-2.ensures.kept ∙ c.in-Ok-number.ensures.kept;
      reached = c.in-Ok-element-2.ensures.reached _ (subst (λ r. g.R.Receiver.reached c.number.new.self r.end) c.range-range-in-Number.ensures c.in-Ok-number.ensures.reached);
      kept = kept_self old old gives;
      collects = collects_self old old gives;
      found = λ s i. element_put old old (last old c.args.token) r (number (chars_between source r.start r.end)) whole c.args.count (g.R.Receiver.holds_elements s c.args.to.now c.args.elements.now i) _
          c.requires.token (ap (λ k. leaf_value (last old k)) c.in-Number.is ∙ ap (λ x. Some (number x)) (number_means old source c.args.token r c.in-Number.is c.requires.source c.requires.token c.range-range-in-Number.ensures)) c.range-range-in-Number.ensures gives c.requires.around
          (λ xs held. c.in-Ok-element-2.ensures.held s c.args.to.now i xs _ held c.in-Ok-number.ensures.made);
    }

pub parse_element-returns-in-Ok-element-3-clause-read : goal.parse_element-returns-in-Ok-element-3-clause-read
parse_element-returns-in-Ok-element-3-clause-read g t c =
    let whole = g.R.Receiver.whole in
    let old = c.args.context.now in
    let source = g.R.Receiver.source c.args.to.now in
    let r = c.range-range-in-Plain.result in
    let gives = gives_nothing old in
    record {
      source = c.in-Ok-element-3.ensures.kept ∙ c.in-Ok-string.ensures.kept;
      reached = c.in-Ok-element-3.ensures.reached _ (subst (λ r. g.R.Receiver.reached c.string.new.self r.end) c.range-range-in-Plain.ensures c.in-Ok-string.ensures.reached);
      kept = kept_self old old gives;
      collects = collects_self old old gives;
      found = λ s i. element_put old old (last old c.args.token) r (string (chars_between source (r.start + 1) (r.end - 1))) whole c.args.count (g.R.Receiver.holds_elements s c.args.to.now c.args.elements.now i) _
          c.requires.token (ap leaf_value (plain_means old source c.args.token r c.in-Plain.is c.requires.source c.range-range-in-Plain.ensures)) c.range-range-in-Plain.ensures gives c.requires.around
          (λ xs held. c.in-Ok-element-3.ensures.held s c.args.to.now i xs _ held c.in-Ok-string.ensures.made);
    }

pub parse_element-returns-in-Ok-element-4-clause-read : goal.parse_element-returns-in-Ok-element-4-clause-read
parse_element-returns-in-Ok-element-4-clause-read g t c =
    let read = c.in_ok-value-in_default.ensures.read in
    let made = read.found in
    record {
      source = c.in-Ok-element-4.ensures.kept ∙ read.source;
      reached = c.in-Ok-element-4.ensures.reached _ read.reached;
      kept = read.kept;
      collects = read.collects;
      found = λ s i. record {
        element = made.value;
        reads = made.reads;
        within = made.within;
        put = λ xs held. c.in-Ok-element-4.ensures.held s c.args.to.now i xs made.value held made.made;
      };
    }

pub parse_array-next_item-requires-clause-start : goal.parse_array-next_item-requires-clause-start
parse_array-next_item-requires-clause-start g t c =
    let old = c.args.context.now in
    let now = c.loop-next.context in
    let mid = c.parse_element.new.context in
    let so_far = c.loop-next.invariant.so_far in
    let read = c.in_ok-parse_element.ensures.read in
    let made = read.found c.args.to.now c.token_start-start.result in
    from_spans old mid c.token_start-start.result c.told_from-from.result c.told_from-from.ensures.place c.token_start-start.ensures (kept_on old now mid so_far.kept read.kept) (omega (arith, so_far.on, now.scanner.order, made.reads.on))

pub parse_array-loop-next-smaller : goal.parse_array-loop-next-smaller
parse_array-loop-next-smaller g t c =
    let now = c.loop-next.context in
    let mid = c.parse_element.new.context in
    let new = c.next_item.new.self in
    let t = last now c.in-Some.token in
    let hand = subst (AtHand 0x5D now) (ap (found_in now) c.in-Some.is) c.loop-next.invariant.so_far.hand in
    let read = c.in_ok-parse_element.ensures.read in
    let made = read.found c.args.to.now c.token_start-start.result in
    less_left now mid new t hand read.kept made.reads.on c.in_ok-next-2.ensures.kept (leads_on _ _ _ mid new (found_in new c.in_ok-next-2.next) c.in_ok-next-2.ensures.found)

pub parse_object-next_item-requires-clause-start : goal.parse_object-next_item-requires-clause-start
parse_object-next_item-requires-clause-start g t c =
    let old = c.args.context.now in
    let now = c.loop-next.context in
    let mid = c.parse_property.new.context in
    let so_far = c.loop-next.invariant.so_far in
    let read = c.in_ok-parse_property.ensures.read in
    let made = read.found c.args.to.now c.token_start-start.result in
    from_spans old mid c.token_start-start.result c.told_from-from.result c.told_from-from.ensures.place c.token_start-start.ensures (kept_on old now mid so_far.kept read.kept) (omega (arith, so_far.on, now.scanner.order, made.reads.on))

pub parse_object-loop-next-smaller : goal.parse_object-loop-next-smaller
parse_object-loop-next-smaller g t c =
    let now = c.loop-next.context in
    let mid = c.parse_property.new.context in
    let new = c.next_item.new.self in
    let t = last now c.in-Some.token in
    let hand = subst (AtHand 0x7D now) (ap (found_in now) c.in-Some.is) c.loop-next.invariant.so_far.hand in
    let read = c.in_ok-parse_property.ensures.read in
    let made = read.found c.args.to.now c.token_start-start.result in
    less_left now mid new t hand read.kept made.reads.on c.in_ok-next-2.ensures.kept (leads_on _ _ _ mid new (found_in new c.in_ok-next-2.next) c.in_ok-next-2.ensures.found)

pub parse_array-returns-in_default-clause-refused : goal.parse_array-returns-in_default-clause-refused
parse_array-returns-in_default-clause-refused g t c =
    no_memory c.args.context.now c.args.context.now _ (kept_same _) c.stop_for_memory.ensures.fault c.stop_for_memory.ensures.memory (failure _ c.in_default.not-Ok) (λ m q d s many starts. inl m)

pub parse_array-returns-in_default-close_array-clause-refused : goal.parse_array-returns-in_default-close_array-clause-refused
parse_array-returns-in_default-close_array-clause-refused g t c =
    no_memory c.args.context.now c.loop-next.context _ c.loop-next.invariant.so_far.kept c.stop_for_memory-in_default-close_array.ensures.fault c.stop_for_memory-in_default-close_array.ensures.memory (failure _ c.in_default-close_array.not-Ok) (λ m q d s many starts. inl m)

pub parse_object-returns-in_default-clause-refused : goal.parse_object-returns-in_default-clause-refused
parse_object-returns-in_default-clause-refused g t c =
    no_memory c.args.context.now c.args.context.now _ (kept_same _) c.stop_for_memory.ensures.fault c.stop_for_memory.ensures.memory (failure _ c.in_default.not-Ok) (λ m q d s many starts. inl m)

pub parse_object-returns-in_default-close_object-clause-refused : goal.parse_object-returns-in_default-close_object-clause-refused
parse_object-returns-in_default-close_object-clause-refused g t c =
    no_memory c.args.context.now c.loop-next.context _ c.loop-next.invariant.so_far.kept c.stop_for_memory-in_default-close_object.ensures.fault c.stop_for_memory-in_default-close_object.ensures.memory (failure _ c.in_default-close_object.not-Ok) (λ m q d s many starts. inl m)

pub parse_element-returns-in_default-hand_string-clause-refused : goal.parse_element-returns-in_default-hand_string-clause-refused
parse_element-returns-in_default-hand_string-clause-refused g t c =
    no_memory c.args.context.now c.args.context.now _ (kept_same _) c.stop_for_memory.ensures.fault c.stop_for_memory.ensures.memory (failure _ c.in_default-hand_string.not-Ok) (λ m q d s many starts. inl m)

pub parse_element-returns-in_default-element-clause-refused : goal.parse_element-returns-in_default-element-clause-refused
parse_element-returns-in_default-element-clause-refused g t c =
    no_memory c.args.context.now c.args.context.now _ (kept_same _) c.stop_for_memory-in_default-element.ensures.fault c.stop_for_memory-in_default-element.ensures.memory (failure _ c.in_default-element.not-Ok) (λ m q d s many starts. inl m)

pub parse_element-returns-in_default-number-clause-refused : goal.parse_element-returns-in_default-number-clause-refused
parse_element-returns-in_default-number-clause-refused g t c =
    no_memory c.args.context.now c.args.context.now _ (kept_same _) c.stop_for_memory-in_default-number.ensures.fault c.stop_for_memory-in_default-number.ensures.memory (failure _ c.in_default-number.not-Ok) (λ m q d s many starts. inl m)

pub parse_element-returns-in_default-element-2-clause-refused : goal.parse_element-returns-in_default-element-2-clause-refused
parse_element-returns-in_default-element-2-clause-refused g t c =
    no_memory c.args.context.now c.args.context.now _ (kept_same _) c.stop_for_memory-in_default-element-2.ensures.fault c.stop_for_memory-in_default-element-2.ensures.memory (failure _ c.in_default-element-2.not-Ok) (λ m q d s many starts. inl m)

pub parse_element-returns-in_default-string-clause-refused : goal.parse_element-returns-in_default-string-clause-refused
parse_element-returns-in_default-string-clause-refused g t c =
    no_memory c.args.context.now c.args.context.now _ (kept_same _) c.stop_for_memory-in_default-string.ensures.fault c.stop_for_memory-in_default-string.ensures.memory (failure _ c.in_default-string.not-Ok) (λ m q d s many starts. inl m)

pub parse_element-returns-in_default-element-3-clause-refused : goal.parse_element-returns-in_default-element-3-clause-refused
parse_element-returns-in_default-element-3-clause-refused g t c =
    no_memory c.args.context.now c.args.context.now _ (kept_same _) c.stop_for_memory-in_default-element-3.ensures.fault c.stop_for_memory-in_default-element-3.ensures.memory (failure _ c.in_default-element-3.not-Ok) (λ m q d s many starts. inl m)

pub parse_element-returns-in_default-element-4-clause-refused : goal.parse_element-returns-in_default-element-4-clause-refused
parse_element-returns-in_default-element-4-clause-refused g t c =
    no_memory c.args.context.now c.parse_value.new.context _ c.in_ok-value-in_default.ensures.read.kept c.stop_for_memory-in_default-element-4.ensures.fault c.stop_for_memory-in_default-element-4.ensures.memory (failure _ c.in_default-element-4.not-Ok) (λ m q d s many starts. inl m)

pub parse_property-returns-in_default-property-clause-refused : goal.parse_property-returns-in_default-property-clause-refused
parse_property-returns-in_default-property-clause-refused g t c =
    let old = c.args.context.now in
    let kept_mid = kept_given old c.parse_name.new.context c.pass_colon.new.self c.in_ok-named.ensures.gives c.in_ok-pass_colon.ensures.kept in
    let kept_at = kept_on old c.pass_colon.new.self c.scan.new.self kept_mid c.in_ok-found.ensures.kept in
    no_memory old c.parse_value.new.context _ (kept_on old c.scan.new.self c.parse_value.new.context kept_at c.in_ok-value.ensures.read.kept) c.stop_for_memory.ensures.fault c.stop_for_memory.ensures.memory (failure _ c.in_default-property.not-Ok) (λ m q d s many starts. inl m)
