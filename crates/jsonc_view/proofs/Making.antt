-- Rows of containers that have not ended, one behind the other, and of one that has.
use Rattle.std.proofs.Common.{◌≡◌, ◌≤◌, ℕ, List, [], ◌∷◌, ◌++◌, length, take, drop, refl, sym, ap, subst, ◌∙◌, length-append, arith, chars, false, Option, None, Some, Result, Ok, Err, IfOk, IfErr}
use Rattle.std.specs.Prelude.{slice_range}
use Rattle.std.proofs.lemmas.List.{append-nil}
use Rattle.jsonc_text.specs.Grammar.{IsDocument}
use Rattle.jsonc_text.specs.declared.errors.ParseError.{ParseError}
use Rattle.jsonc_text.specs.Plain.{Plain, array, object}
use Rattle.jsonc_text.specs.Text.{Spans}
use Rattle.jsonc_walk.specs.Handed.{IsDocumentMade, MadeBetweenGaps, Source}
use Rattle.jsonc_walk.specs.Reached.{FitsIn}
use Rattle.jsonc_walk.proofs.lemmas.Grammar.{located_document}
use Rattle.jsonc_walk.specs.Located.{Located, value_at, items_at, members_at, LocatedMember, items_of, members_of}
use Rattle.jsonc_walk.proofs.lemmas.Stacked.{Parted, parted, behind}
use Rattle.jsonc_view.specs.declared.maker.ViewMaker.{ViewMaker}
use Rattle.jsonc_view.specs.declared.rows.Member.{Member}
use Rattle.jsonc_view.specs.declared.rows.Name.{Name}
use Rattle.jsonc_view.specs.declared.rows.Row.{Row}
use Rattle.jsonc_view.specs.declared.rows.Row.TheVariants.{Object, Array}
use Rattle.jsonc_view.specs.declared.rows.Rows.{Rows}
use Rattle.jsonc_view.specs.declared.rows.Span.{Span}
use Rattle.jsonc_view.specs.declared.view.JsonView.{JsonView}
use Rattle.jsonc_view.specs.Reads.{IsViewed, IsViewOf}
use Rattle.jsonc_view.specs.Made.{Extends, HoldsElements, HoldsMembers, IsGrown, IsMade, IsNamed, Leads, source_in}
use Rattle.jsonc_view.specs.Shown.{Shows, ShowsItems, ShowsMembers, ShowsName, ShowsRoot, Stands}
use Rattle.jsonc_view.proofs.Growing.{grown_none, grown_on, items_grown, members_grown, name_grown, range_last, shows_grown}

-- items behind others stand from where these end
ends_later : {X : Type 0} (xs ys more : List X) → ys ≡ xs ++ more → length xs ≤ length ys
ends_later xs ys more e = omega (arith, ap length e, length-append xs more)

last_ones : {X : Type 0} (xs ys more : List X) (s : Span) → ys ≡ xs ++ more → s.start ≡ length xs → s.end ≡ length ys → slice_range ys s.start s.end ≡ more
last_ones xs ys more s e from to =
    (λ j. slice_range (e j) (from j) (to j)) ∙ ap (λ l. slice_range (xs ++ more) (length xs) (length l)) e ∙ range_last xs more

module _ {A : Type 0} where
  pub item_pushed : (r : Rows A) (es : List Row) (e : Row) (xs : List Located) (x : Located) → ShowsItems r es (items_at (items_of xs)) → Shows r e (value_at x)
      → ShowsItems r (es ++ e ∷ []) (items_at (items_of (xs ++ x ∷ [])))
  item_pushed r [] e [] x h k = (k, tt)
  item_pushed r (d ∷ es) e (y ∷ xs) x h k = (h.0, item_pushed r es e xs x h.1 k)
  item_pushed r _ e _ x h k = absurd h

  pub member_pushed : (r : Rows A) (es : List Member) (e : Member) (ms : List LocatedMember) (m : LocatedMember) → ShowsMembers r es (members_at (members_of ms)) → ShowsName r e.name m.name.name
      → Shows r e.value (value_at m.value) → ShowsMembers r (es ++ e ∷ []) (members_at (members_of (ms ++ m ∷ [])))
  member_pushed r [] e [] m h n k = (n, k, tt)
  member_pushed r (d ∷ es) e (l ∷ ms) m h n k = (h.0, h.1, member_pushed r es e ms m h.2 n k)
  member_pushed r _ e _ m h n k = absurd h

  -- a text stands where its places say
  pub text_shown : (r : Rows A) (s : Span) (i j : ℕ) → s.start ≡ i → s.end ≡ j → Spans r.text.now i j → Stands r s (chars (slice_range r.text.now i j))
  text_shown r s i j a b h =
      (subst (λ k. Spans r.text.now k s.end) (sym a) (subst (λ k. Spans r.text.now i k) (sym b) h), λ k. chars (slice_range r.text.now (sym a k) (sym b k)))

  -- nothing was kept
  pub stays : (s : ViewMaker A) {P : Type 0} → P → Leads s s P
  stays s p = record { source = refl; stacks = (refl, refl); grown = grown_none s.rows; shown = p }

  pub no_element_yet : (s : ViewMaker A) (start : ℕ) → start ≡ length s.elements.items → HoldsElements s s start []
  no_element_yet s start at = record { elements = []; begins = at; stacked = sym (append-nil s.elements.items); same = refl; source = refl; grown = grown_none s.rows; shown = tt }

  pub no_member_yet : (s : ViewMaker A) (start : ℕ) → start ≡ length s.members.items → HoldsMembers s s start []
  no_member_yet s start at = record { members = []; begins = at; stacked = sym (append-nil s.members.items); same = refl; source = refl; grown = grown_none s.rows; shown = tt }

  pub element_stacked : (s m old new : ViewMaker A) (start : ℕ) (v : Row) (xs : List Located) (x : Located) → HoldsElements s m start xs → IsMade m old v x → source_in new ≡ source_in old → new.rows ≡ old.rows
      → new.elements.items ≡ old.elements.items ++ v ∷ [] → new.members.items ≡ old.members.items → HoldsElements s new start (xs ++ x ∷ [])
  element_stacked s m old new start v xs x h made same rows pushed others = record {
    elements = h.elements ++ v ∷ [];
    begins = h.begins;
    stacked = behind old.elements.items s.elements.items h.elements new.elements.items v (made.stacks.0 ∙ h.stacked) pushed;
    same = others ∙ made.stacks.1 ∙ h.same;
    source = same ∙ made.source ∙ h.source;
    grown = subst (IsGrown s.rows) (sym rows) (grown_on s.rows m.rows old.rows h.grown made.grown);
    shown = subst (λ r. ShowsItems r (h.elements ++ v ∷ []) (items_at (items_of (xs ++ x ∷ [])))) (sym rows)
        (item_pushed old.rows h.elements v xs x (items_grown m.rows old.rows made.grown h.elements (items_at (items_of xs)) h.shown) made.shown);
  }

  pub member_stacked : (s m k old new : ViewMaker A) (start : ℕ) (e : Member) (ms : List LocatedMember) (p : LocatedMember)
      → HoldsMembers s m start ms → IsNamed m k e.name p.name → IsMade k old e.value p.value → source_in new ≡ source_in old → new.rows ≡ old.rows
      → new.members.items ≡ old.members.items ++ e ∷ [] → new.elements.items ≡ old.elements.items → HoldsMembers s new start (ms ++ p ∷ [])
  member_stacked s m k old new start e ms p h named made same rows pushed others = record {
    members = h.members ++ e ∷ [];
    begins = h.begins;
    stacked = behind old.members.items s.members.items h.members new.members.items e (made.stacks.1 ∙ named.stacks.1 ∙ h.stacked) pushed;
    same = others ∙ made.stacks.0 ∙ named.stacks.0 ∙ h.same;
    source = same ∙ made.source ∙ named.source ∙ h.source;
    grown = subst (IsGrown s.rows) (sym rows) (grown_on s.rows m.rows old.rows h.grown on);
    shown = subst (λ r. ShowsMembers r (h.members ++ e ∷ []) (members_at (members_of (ms ++ p ∷ [])))) (sym rows)
        (member_pushed old.rows h.members e ms p (members_grown m.rows old.rows on h.members (members_at (members_of ms)) h.shown)
        (name_grown k.rows old.rows made.grown e.name p.name.name named.shown) made.shown);
  }
    where
      on : IsGrown m.rows old.rows
      on = grown_on m.rows k.rows old.rows named.grown made.grown

  -- an array whose elements were moved behind those of others
  pub array_shown : (r q : Rows A) (g : IsGrown r q) (es : List Row) (s : Span) (xs : List Located) → ShowsItems r es (items_at (items_of xs)) → q.elements.items ≡ r.elements.items ++ es
      → s.start ≡ length r.elements.items → s.end ≡ length q.elements.items → Shows q (Array s) (array (items_at (items_of xs)))
  array_shown r q g es s xs h moved from to = (
    (omega (arith, from, to, ends_later r.elements.items q.elements.items es moved), omega (arith, to)),
    subst (λ l. ShowsItems q l (items_at (items_of xs))) (sym (last_ones r.elements.items q.elements.items es s moved from to)) (items_grown r q g es (items_at (items_of xs)) h),
  )

  pub object_shown : (r q : Rows A) (g : IsGrown r q) (es : List Member) (s : Span) (ms : List LocatedMember) → ShowsMembers r es (members_at (members_of ms)) → q.members.items ≡ r.members.items ++ es
      → s.start ≡ length r.members.items → s.end ≡ length q.members.items → Shows q (Object s) (object (members_at (members_of ms)))
  object_shown r q g es s ms h moved from to = (
    (omega (arith, from, to, ends_later r.members.items q.members.items es moved), omega (arith, to)),
    subst (λ l. ShowsMembers q l (members_at (members_of ms))) (sym (last_ones r.members.items q.members.items es s moved from to)) (members_grown r q g es (members_at (members_of ms)) h),
  )

  -- the value of the text, shown by its root
  pub record RootMade (new : ViewMaker A) (s : Source) (found : Option Row) : Type 0 where
    pub value : Option Plain
    pub document : IsDocument s.options (chars s.bytes) value
    pub fits : FitsIn false value
    pub shown : ShowsRoot new.rows found value

  pub root_made : (old new : ViewMaker A) (s : Source) (found : Option Row) → IsDocumentMade s false (MadeBetweenGaps (λ s t. t ≡ s) IsMade old new) found → RootMade new s found
  root_made old new s None h = record { value = None; document = located_document s.options s.bytes None h; fits = tt; shown = tt }
  root_made old new s (Some i) (x, document, small, (m, n, before, made, after)) = record {
    value = Some (value_at x);
    document = located_document s.options s.bytes (Some x) document;
    fits = small;
    shown = subst (λ k. Shows k.rows i (value_at x)) (sym after) made.shown;
  }

  -- what is read is seen
  pub accepted_of : (new : ViewMaker A) (s : Source) (read : Result (Option Row) ParseError) (result : Result (JsonView A) ParseError) → IsViewed new.rows read result
      → IfOk read (RootMade new s) → IfOk result (IsViewOf s.options (chars s.bytes))
  accepted_of new s (Ok root) (Ok view) h k = subst (λ v. IsDocument s.options (chars s.bytes) v × FitsIn false v) (sym (h k.value k.shown)) (k.document, k.fits)
  accepted_of new s (Err e) (Err f) h k = tt
  accepted_of new s _ _ h k = absurd h

  pub refused_of : (r : Rows A) (P : ParseError → Type 0) (read : Result (Option Row) ParseError) (result : Result (JsonView A) ParseError) → IsViewed r read result → IfErr read P → IfErr result P
  refused_of r P (Err e) (Err f) h k = subst P (sym h) k
  refused_of r P (Ok root) (Ok view) h k = tt
  refused_of r P _ _ h k = absurd h
