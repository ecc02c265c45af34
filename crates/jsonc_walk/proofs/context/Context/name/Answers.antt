use Rattle.jsonc_walk.specs.Context.{last}
use Rattle.jsonc_walk.proofs.lemmas.MovedTokens.{no_string}
use Rattle.std.proofs.Common.{refl, ◌≡◌, ◌∙◌, sym, ap, Some, None, chars}
use Rattle.jsonc_walk.specs.Scanned.{loose_text}
use Rattle.jsonc_walk.proofs.lemmas.Names.{loose_name_here}
use Rattle.jsonc_walk.proofs.lemmas.Refusals.{name_refused, loose_refused}
use Rattle.jsonc_walk.proofs.lemmas.Stopping.{loose_stops, no_name_stops}
use Rattle.jsonc_walk.proofs.lemmas.Spelling.{word_written}
use Rattle.jsonc_walk.proofs.context.Context.name.Goals as goal

pub returns-else-not-self : goal.returns-else-not-self
returns-else-not-self g c =
    let e : loose_text (last c.args.self.now c.args.token) ≡ Some (chars c.in-Some.value.now) = cc c.in-Some.ensures in
    record { gives = record { scanner = refl; decodes = refl; tokens = refl; comments = refl; apart = refl }; name = loose_name_here c.args.self.now (last c.args.self.now c.args.token) c.requires.token (chars c.in-Some.value.now) c.if-not-self.false e; range = c.range-range.ensures; written = λ lent. word_written c.args.self.now (last c.args.self.now c.args.token) (record { range = c.range-range.result; value = c.in-Some.value }) c.requires.token e c.range-range.ensures; refused = tt; fault = tt; error = tt }

pub returns-in_default-loose_name-clause-refused : goal.returns-in_default-loose_name-clause-refused
returns-in_default-loose_name-clause-refused g c =
    let e : loose_text (last c.args.self.now c.args.token) ≡ None = cc c.in_default-loose_name.ensures in
    name_refused c.args.self.now (last c.args.self.now c.args.token) c.requires.token e (no_string c.args.self.now.scanner c.args.self.now.content c.args.token c.in_default.not-String c.requires.plain c.requires.kept)

pub returns-then-not-self-clause-refused : goal.returns-then-not-self-clause-refused
returns-then-not-self-clause-refused g c =
    let context = c.args.self.now in
    let e : loose_text (last c.args.self.now c.args.token) ≡ Some (chars c.in-Some.value.now) = cc c.in-Some.ensures in
    loose_refused context (last c.args.self.now c.args.token) c.requires.token (chars c.in-Some.value.now) e (ap (λ p. p.loose_names) (sym context.same) ∙ c.if-not-self.true)

pub returns-in_default-loose_name-clause-error : goal.returns-in_default-loose_name-clause-error
returns-in_default-loose_name-clause-error g c =
    let e : loose_text (last c.args.self.now c.args.token) ≡ None = cc c.in_default-loose_name.ensures in
    no_name_stops c.args.self.now (last c.args.self.now c.args.token) c.stop_without_name.new.self.fault e (no_string c.args.self.now.scanner c.args.self.now.content c.args.token c.in_default.not-String c.requires.plain c.requires.kept) c.stop_without_name.ensures.kind c.stop_without_name.ensures.range

pub returns-then-not-self-clause-error : goal.returns-then-not-self-clause-error
returns-then-not-self-clause-error g c =
    let context = c.args.self.now in
    let e : loose_text (last c.args.self.now c.args.token) ≡ Some (chars c.in-Some.value.now) = cc c.in-Some.ensures in
    loose_stops context (last c.args.self.now c.args.token) c.stop_at_loose_name.new.self.fault (chars c.in-Some.value.now) e (ap (λ p. p.loose_names) (sym context.same) ∙ c.if-not-self.true) c.stop_at_loose_name.ensures.kind c.stop_at_loose_name.ensures.range
