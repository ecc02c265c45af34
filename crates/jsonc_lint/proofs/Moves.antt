-- What is found in a mended text: that it has places in the text, and what is told so far.
use Rattle.std.proofs.Common.{ℕ, ◌≡◌, ◌+◌, ◌<◌, ◌≤◌, ◌∙◌, ◌⊎◌, inl, inr, sym, ap, subst, refl, Bool, true, false, List, [], ◌∷◌, ◌++◌, length, map, take, get_or, Option, Some, None, arith, chars, string_bytes, IsUtf8, IsCharBoundary, append_assoc, add-one, length-append}
use Rattle.std.specs.Bool.{Decides}
use Rattle.std.specs.List.{All}
use Rattle.std.proofs.lemmas.Bool.{false≢true}
use Rattle.std.proofs.lemmas.List.{append-nil}
use Rattle.std.proofs.lemmas.List.Elements.{All-nil, All-push, All-head, All-tail}
use Rattle.std.proofs.lemmas.Str.{IsUtf8-string_bytes}
use Rattle.std.proofs.Math.Seq.{take-suc}
use Rattle.jsonc_text.specs.Options.{Options}
use Rattle.jsonc_text.specs.declared.errors.ParseError.{ParseError}
use Rattle.jsonc_tree.specs.Order.{in_order, printed_at}
use Rattle.jsonc_tree.specs.OrderedTree.{ordered_tree, printed}
use Rattle.jsonc_tree.specs.Tree.{Node}
use Rattle.jsonc_walk.specs.Refusals.{IsAllocationFailure, NoDocument}
use Rattle.jsonc_cst.specs.Document.{nodes_of}
use Rattle.jsonc_cst.specs.Ranges.{PrintsRange, printed_after}
use Rattle.jsonc_check.specs.Checker.{HasValueWithin}
use Rattle.jsonc_mend.specs.declared.changes.Fault.{Fault}
use Rattle.jsonc_mends.specs.Mends.{IsMended, mended_text}
use Rattle.jsonc_mends.specs.Places.{GoesBack, IsWrittenBy}
use Rattle.jsonc_mends.specs.declared.told.Mend.{Mend}
use Rattle.jsonc_mends.specs.declared.mends.Mends.{Mends}
use Rattle.jsonc_lint.specs.declared.finding.Finding.{Finding}
use Rattle.jsonc_lint.specs.declared.finding.FindingKind.{FindingKind}
use Rattle.jsonc_lint.specs.declared.finding.FindingKind.TheVariants as kinds
use Rattle.jsonc_lint.specs.declared.rules.Rules.{Rules}
use Rattle.jsonc_lint.specs.Findings.{AreFindings, IsOf, none, nothing, one}
use Rattle.jsonc_lint.specs.Linted.{IsFaultOf, IsLinted, read, refused}
use Rattle.jsonc_lint.specs.Moves.{AllLieIn, AreAdded, HasMends, IsKindOf, IsSeen, LiesInText}
use Rattle.jsonc_lint.specs.Whole.{AreFaults, AreInText, IsInText, IsWhole, TellFaults, TellsMend, again, another, equals_last, no_mend}
use Rattle.jsonc_lint.specs.Whole as whole
use Rattle.jsonc_lint.proofs.TextPlaces.{boundary_at, boundary_back}

-- a node's bytes are some of the text that it is in
ends_within : (ns : List Node) (text : List ℕ) (n start end : ℕ) → printed (ordered_tree ns 0) ≡ text → PrintsRange ns n start end → end ≤ length text
ends_within ns text n start end e h =
    let long = sym (ap length e) ∙ ap length h.split ∙ length-append h.before (printed_at ns n ++ printed_after ns n) in
    omega (arith, long, length-append (printed_at ns n) (printed_after ns n), h.ends)

-- a document has no fault
not_refused : (o : Options) (text : List ℕ) (e : ParseError) → IsFaultOf o text e → HasValueWithin true o (chars text) → ⊥
not_refused o text e f (v, d, w) = by_parts f.refused
  where
    by_parts : IsAllocationFailure e ⊎ NoDocument o true (chars text) → ⊥
    by_parts (inl memory) = f.memory memory
    by_parts (inr lacks) = lacks v d w

-- so many mends and one more
take_one : (ms : List Mend) (count : ℕ) (d : Mend) → count < length ms → take (count + 1) ms ≡ take count ms ++ get_or ms count d ∷ []
take_one ms count d l = ap (λ n. take n ms) (add-one count) ∙ take-suc ms count d l

module _ {A : Type 0} where
  kind_of_node : (rules : Rules) (ns : List Node) (text before : List ℕ) (n : ℕ) (kind : FindingKind A) → IsUtf8 text → IsOf rules ns (chars text) before n kind → IsKindOf text kind
  kind_of_node rules ns text before n (kinds.Fault k) u h = h
  kind_of_node rules ns text before n (kinds.RepeatedName name first) u h = boundary_at text first.start first.line first.column u h.2.position
  kind_of_node rules ns text before n kinds.Todo u h = tt
  kind_of_node rules ns text before n kinds.TrailingComma u h = tt

  -- what is found at the nodes of a document lies in its text
  found_lie : (rules : Rules) (ns : List Node) (text row : List ℕ) (found : List (Finding A)) → IsUtf8 text → printed (ordered_tree ns 0) ≡ text → AreFindings rules ns (chars text) row found → All (LiesInText text) found
  found_lie rules ns text row found u e none = All-nil (LiesInText text)
  found_lie rules ns text row found u e (nothing n h clear) = found_lie rules ns text _ found u e h
  found_lie rules ns text row found u e (one {before = before} {found = earlier} n finding h f) =
      All-push (LiesInText text) earlier finding (found_lie rules ns text before earlier u e h) (record {
        kind = kind_of_node rules ns text before n finding.kind u f.kind;
        start = boundary_at text finding.range.start finding.line finding.column u f.position;
        end = ends_within ns text n finding.range.start finding.range.end e f.range;
      })

  pub all_lie : (o : Options) (rules : Rules) (text : List ℕ) (found : List (Finding A)) → IsUtf8 text → HasValueWithin true o (chars text) → IsLinted o rules text found → All (LiesInText text) found
  all_lie o rules text found u d (refused e finding f t) = absurd (not_refused o text e f d)
  all_lie o rules text found u d (read doc row k h) = found_lie rules (nodes_of doc) text (in_order (nodes_of doc) 0) found u k.printed h

  -- of so many mends the faults are told
  pub none_told : (found : List (Finding A)) → found ≡ [] → AreFaults [] None found
  none_told found e = subst (AreFaults [] None) (sym e) no_mend

  pub told_again : (ms : List Mend) (count : ℕ) (d : Mend) (last : Option Fault) (found more : List (Finding A)) → count < length ms → equals_last last (get_or ms count d).fault ≡ true → more ≡ found → AreFaults (take count ms) last found
      → AreFaults (take (count + 1) ms) (Some (get_or ms count d).fault) more
  told_again ms count d last found more l e p h =
      subst (AreFaults (take (count + 1) ms) (Some (get_or ms count d).fault)) (sym p)
      (subst (λ t. AreFaults t (Some (get_or ms count d).fault) found) (sym (take_one ms count d l)) (again (get_or ms count d) h e))

  pub told_one : (ms : List Mend) (count : ℕ) (d : Mend) (last : Option Fault) (finding : Finding A) (found more : List (Finding A)) → count < length ms → equals_last last (get_or ms count d).fault ≡ false
      → TellsMend (get_or ms count d) finding → more ≡ found ++ finding ∷ [] → AreFaults (take count ms) last found → AreFaults (take (count + 1) ms) (Some (get_or ms count d).fault) more
  told_one ms count d last finding found more l e t p h =
      subst (AreFaults (take (count + 1) ms) (Some (get_or ms count d).fault)) (sym p)
      (subst (λ x. AreFaults x (Some (get_or ms count d).fault) (found ++ finding ∷ [])) (sym (take_one ms count d l)) (another (get_or ms count d) finding h e t))

  -- a place of the mended text, and the one of the text that a call answers for it
  abbrev pub AnswersPlace : Mends A → ℕ → ℕ → Type 0
  AnswersPlace r p q = (o : Options) (bytes : List ℕ) → IsUtf8 bytes → IsMended o bytes r → p ≤ length (string_bytes r.text) → GoesBack r.list.items p q

  pub goes_back : (text : List ℕ) (r : Mends A) (p q : ℕ) → HasMends text r → p ≤ length (mended_text r) → AnswersPlace r p q → GoesBack r.list.items p q
  goes_back text r p q h l answer = answer h.options text h.utf8 h.mended l

  pub cut_back : (text : List ℕ) (r : Mends A) (p q : ℕ) → HasMends text r → IsCharBoundary (mended_text r) p → AnswersPlace r p q → IsCharBoundary text q
  cut_back text r p q h b answer = boundary_back text (mended_text r) r.list.items p q h.utf8 (IsUtf8-string_bytes r.text) h.mended.changes b (goes_back text r p q h b.0 answer)

  -- whether one change wrote the bytes
  abbrev pub AnswersWritten : Mends A → Bool → ℕ → ℕ → Type 0
  AnswersWritten r b start end = (o : Options) (bytes : List ℕ) → IsUtf8 bytes → IsMended o bytes r → Decides b (IsWrittenBy r.list.items start end)

  pub seen_written : (text : List ℕ) (r : Mends A) (b : Bool) (start end : ℕ) → HasMends text r → AnswersWritten r b start end → b ≡ true → IsWrittenBy r.list.items start end
  seen_written text r b start end h answer is = (answer h.options text h.utf8 h.mended).0 is

  pub seen_apart : (text : List ℕ) (r : Mends A) (b : Bool) (start end : ℕ) → HasMends text r → AnswersWritten r b start end → b ≡ false → IsWrittenBy r.list.items start end → ⊥
  seen_apart text r b start end h answer is w = false≢true (sym is ∙ (answer h.options text h.utf8 h.mended).1 w)

  -- some findings are passed, and those of them that no change wrote are added
  pub record HasAdded (text : List ℕ) (r : Mends A) (all rest old new : List (Finding A)) : Type 0 where
    pub passed : List (Finding A)
    pub split : all ≡ passed ++ rest
    pub lie : AllLieIn r rest
    pub heres : List (Finding A)
    pub moved : AreInText text r.list.items passed heres
    pub added : new ≡ old ++ heres

  pub none_added : (text : List ℕ) (r : Mends A) (all rest old : List (Finding A)) → rest ≡ all → AllLieIn r all → HasAdded text r all rest old old
  none_added text r all rest old e h = record { passed = []; split = sym e; lie = subst (AllLieIn r) (sym e) h; heres = []; moved = whole.none; added = sym (append-nil old) }

  module _ (text : List ℕ) (r : Mends A) (all rest later old new : List (Finding A)) (x : Finding A) (e : rest ≡ x ∷ later) (h : HasAdded text r all rest old new) where
    pub next_lies : LiesInText (mended_text r) x
    next_lies = All-head (LiesInText (mended_text r)) x later (subst (AllLieIn r) e h.lie)

    later_lie : AllLieIn r later
    later_lie = All-tail (LiesInText (mended_text r)) x later (subst (AllLieIn r) e h.lie)

    split_on : all ≡ (h.passed ++ x ∷ []) ++ later
    split_on = h.split ∙ ap (λ l. h.passed ++ l) e ∙ sym (append_assoc h.passed (x ∷ []) later)

    pub passed_written : IsWrittenBy r.list.items x.range.start x.range.end → HasAdded text r all later old new
    passed_written w = record { passed = h.passed ++ x ∷ []; split = split_on; lie = later_lie; heres = h.heres; moved = whole.written x h.moved w; added = h.added }

    pub passed_here : (here : Finding A) (more : List (Finding A)) → (IsWrittenBy r.list.items x.range.start x.range.end → ⊥) × IsInText text r.list.items x here → more ≡ new ++ here ∷ [] → HasAdded text r all later old more
    passed_here here more s p = record {
      passed = h.passed ++ x ∷ [];
      split = split_on;
      lie = later_lie;
      heres = h.heres ++ here ∷ [];
      moved = whole.one x here h.moved s.0 s.1;
      added = p ∙ ap (λ l. l ++ here ∷ []) h.added ∙ append_assoc old h.heres (here ∷ []);
    }

  pub all_added : (text : List ℕ) (r : Mends A) (all rest old new : List (Finding A)) → rest ≡ [] → HasAdded text r all rest old new → AreAdded text r.list.items all old new
  all_added text r all rest old new e h =
      (h.heres, subst (λ l. AreInText text r.list.items l h.heres) (sym (h.split ∙ ap (λ l. h.passed ++ l) e ∙ append-nil h.passed)) h.moved, h.added)

  -- the text has its mends, by another word for the text
  pub has_mends : (o : Options) (text lines : List ℕ) (r : Mends A) → lines ≡ text → IsUtf8 text → IsMended o text r → HasMends lines r
  has_mends o text lines r e u h = subst (λ t. HasMends t r) (sym e) (record { utf8 = u; options = o; mended = h })

  pub inner_lie : (o : Options) (rules : Rules) (text mended : List ℕ) (r : Mends A) (inner : List (Finding A)) → mended ≡ mended_text r → IsMended o text r → IsLinted o rules mended inner → AllLieIn r inner
  inner_lie o rules text mended r inner e h l =
      all_lie o rules (mended_text r) inner (IsUtf8-string_bytes r.text) h.document (subst (λ t. IsLinted o rules t inner) e l)

  -- all that is found
  pub all_found : (o : Options) (rules : Rules) (text lines mended : List ℕ) (r : Mends A) (list : List Mend) (faults inner found : List (Finding A)) → lines ≡ text → list ≡ r.list.items → mended ≡ mended_text r → IsMended o text r
      → TellFaults list faults → IsLinted o rules mended inner → AreAdded lines r.list.items inner faults found → IsWhole o rules text found
  all_found o rules text lines mended r list faults inner found e f g h told l added = record {
    mends = r;
    mended = h;
    faults = faults;
    told = subst (λ ms. TellFaults ms faults) f told;
    inner = inner;
    linted = subst (λ t. IsLinted o rules t inner) g l;
    rest = added.0;
    moved = subst (λ t. AreInText t r.list.items inner added.0) e added.1;
    split = added.2;
  }
