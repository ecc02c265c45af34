-- A row from which an element is to leave, once the spaces have come that are due there.
use Rattle.std.proofs.Common.{◌≡◌, ℕ, Bool, true, false, not, ◌&&◌, ◌||◌, cond, List, [], ◌∷◌, ◌++◌, reverse, Option, Some, None, IsTrue, if◌then◌else◌, bytes_eq, inl, inr, refl, sym, ap, subst, ◌∙◌, append-nil}
use Rattle.std.proofs.lemmas.Bool.{cases_Bool, cases_eq, ne_eqb}
use Rattle.std.proofs.lemmas.List.{append_assoc, reverse-append}
use Rattle.std.proofs.lemmas.List.Elements.{All-nil, All-cons}
use Rattle.std.proofs.lemmas.List.Folds.{find-append}
use Rattle.std.proofs.lemmas.Slice.Eq.{bytes_eq-Decides}
use Rattle.std.specs.List.{find, All}
use Rattle.std.specs.Option.{option_or}
use Rattle.jsonc_tree.specs.Content.{Content, token}
use Rattle.jsonc_tree.specs.Tree.{Node, content_at, children_at, IsTree}
use Rattle.jsonc_layout.proofs.lemmas.nodes.InTree.{All-reverse}
use Rattle.jsonc_layout.specs.lines.Kinds.{is_array_or_object}
use Rattle.jsonc_layout.specs.nodes.Kinds.{is_comma, is_comma_at}
use Rattle.jsonc_sound.specs.Leaving.{AreInlineTrivia, IsRestOfLine}
use Rattle.jsonc_edit.specs.Due.{is_other, prints, prints_at, nearest, begins_bare, ends_bare, seen_before, space_needed_between, listed}
use Rattle.jsonc_edit.specs.Put.{AreSpaced}
use Rattle.jsonc_edit.specs.remove.Removed.{is_next}
use Rattle.jsonc_edit.proofs.lemmas.remove.Contents.{GoesWith, GoesWithout, apart, no_commas, Gains, apart_behind_gains, commas_gains, goes_with_gains, goes_without_gains}
use Rattle.jsonc_edit.proofs.lemmas.remove.Places.{Come, none_come, one_come, Quiet, OneSpace, one_space, before_in}
use Rattle.jsonc_edit.proofs.lemmas.remove.Stretches.{contents}
use Rattle.jsonc_edit.proofs.lemmas.remove.RemovedStretches.{Edges, Going, with_behind, with_before, with_none}
use Rattle.jsonc_edit.proofs.lemmas.remove.Spaces.{contents_same, nearest_same, spaced_parts, due_parts}
use Rattle.jsonc_edit.proofs.lemmas.remove.PrintedStretches.{find_holds, stretch_prints}
use Rattle.jsonc_edit.proofs.lemmas.remove.Parted.{none_turned}
use Rattle.jsonc_edit.proofs.lemmas.remove.NoSpace.{comma_prints}

-- how the element leaves, and that nothing meets there; without the spaces that have come the row was this
pub data Settled (ns : List Node) (c n open_with last from to : ℕ) : Option ℕ → List ℕ → Type 0 where
  settled_behind : (away near between line rest : List ℕ) (k : ℕ)
      → children_at ns c ≡ (open_with ∷ away) ++ ((near ++ n ∷ (between ++ k ∷ line)) ++ (rest ++ last ∷ []))
      → Edges (near ++ n ∷ (between ++ k ∷ line)) from to → AreInlineTrivia (contents ns near) → IsTrue (apart (contents ns away))
      → IsTrue (is_comma_at ns k) → GoesWith (contents ns between) (contents ns line) (contents ns (rest ++ last ∷ []))
      → Quiet ns (open_with ∷ away) (rest ++ last ∷ [])
      → (back : List ℕ) → Come ns (open_with ∷ away) back (rest ++ last ∷ [])
      → Settled ns c n open_with last from to None ((open_with ∷ away) ++ ((near ++ n ∷ (between ++ k ∷ line)) ++ back))
  settled_before : (away mid near line rest : List ℕ) {k : ℕ}
      → children_at ns c ≡ ((open_with ∷ away) ++ k ∷ mid) ++ ((near ++ n ∷ line) ++ (rest ++ last ∷ []))
      → Edges (near ++ n ∷ line) from to → AreInlineTrivia (contents ns near) → IsTrue (apart (content_at ns k ∷ contents ns mid)) → IsTrue (no_commas (contents ns mid))
      → IsTrue (is_comma_at ns k) → IsRestOfLine (contents ns line) → GoesWithout (contents ns line) (contents ns (rest ++ last ∷ []))
      → Quiet ns (open_with ∷ away) (mid ++ (rest ++ last ∷ [])) → Quiet ns mid (rest ++ last ∷ [])
      → (middle back : List ℕ) → Come ns (open_with ∷ away) middle mid → Come ns ((open_with ∷ away) ++ mid) back (rest ++ last ∷ [])
      → Settled ns c n open_with last from to (Some k) (((open_with ∷ away) ++ k ∷ middle) ++ ((near ++ n ∷ line) ++ back))
  settled_none : (away near line rest : List ℕ)
      → children_at ns c ≡ (open_with ∷ away) ++ ((near ++ n ∷ line) ++ (rest ++ last ∷ []))
      → Edges (near ++ n ∷ line) from to → AreInlineTrivia (contents ns near) → IsTrue (apart (contents ns away)) → IsTrue (no_commas (contents ns away))
      → IsRestOfLine (contents ns line) → GoesWithout (contents ns line) (contents ns (rest ++ last ∷ []))
      → Quiet ns (open_with ∷ away) (rest ++ last ∷ [])
      → (back : List ℕ) → Come ns (open_with ∷ away) back (rest ++ last ∷ [])
      → Settled ns c n open_with last from to None ((open_with ∷ away) ++ ((near ++ n ∷ line) ++ back))

pub record IsSettled (ready spaced : List Node) (c n open_with last from to : ℕ) (o : Option ℕ) : Type 0 where
  pub tree : IsTree spaced
  pub content : (k : ℕ) → content_at spaced k ≡ content_at ready k
  pub settled : Settled spaced c n open_with last from to o (children_at ready c)

-- the spaces that are due, by the comma, where it is the next thing before the stretch or not
abbrev pub DueWith : List Node → ℕ → ℕ → Option ℕ → Bool → List Node → Type 0
DueWith ready from to None next spaced = AreSpaced ready (listed (space_needed_between ready from to)) spaced
DueWith ready from to (Some k) next spaced =
    (next ≡ is_next (seen_before ready from) (Some k)) × AreSpaced ready (listed (if next then None else space_needed_between ready k k) ++ listed (if next then space_needed_between ready k to else space_needed_between ready from to)) spaced

pub comma_is : (content : Content) → IsTrue (is_comma content) → content ≡ token 0x2C
comma_is (token c) h = elim (cases_eq c 0x2C) [ inl e ↦ ap token e | inr ne ↦ absurd (let wrong : true ≡ false = sym h ∙ ne_eqb c 0x2C ne in cc) ]
comma_is content h = cc

some_from_before : (test : ℕ → Bool) (xs : List ℕ) (m : ℕ) → find test (reverse xs) ≡ Some m → (y : ℕ) × (find test xs ≡ Some y)
some_from_before test [] m e = absurd (let wrong : None ≡ Some m = e in cc)
some_from_before test (x ∷ xs) m e =
    by (test x) refl (find test (reverse xs)) refl (sym (ap (find test) (reverse-append (x ∷ []) xs) ∙ find-append test (reverse xs) (x ∷ [])) ∙ e) (some_from_before test xs)
  where
    by : (b : Bool) → test x ≡ b → (o : Option ℕ) → find test (reverse xs) ≡ o → option_or (find test (reverse xs)) (if test x then Some x else None) ≡ Some m → ((k : ℕ) → find test (reverse xs) ≡ Some k → (y : ℕ) × (find test xs ≡ Some y)) → (y : ℕ) × ((if test x then Some x else find test xs) ≡ Some y)
    by true g o f h rest = (x, ap (λ b. if b then Some x else find test xs) g)
    by false g None f h rest = let wrong : None ≡ Some m = sym (ap (λ o. option_or o (if test x then Some x else None)) f ∙ ap (λ b. if b then Some x else None) g) ∙ h in cc
    by false g (Some k) f h rest = let r = rest k f in (r.0, ap (λ b. if b then Some x else find test xs) g ∙ r.1)

commas_each : (ns : List Node) (xs : List ℕ) → IsTrue (no_commas (contents ns xs)) → All (λ m. is_comma_at ns m ≡ false) xs
commas_each ns [] h = All-nil (λ m. is_comma_at ns m ≡ false)
commas_each ns (x ∷ xs) h = by (is_comma_at ns x) refl h (commas_each ns xs)
  where
    by : (b : Bool) → is_comma_at ns x ≡ b → IsTrue (not b && no_commas (contents ns xs)) → (IsTrue (no_commas (contents ns xs)) → All (λ m. is_comma_at ns m ≡ false) xs) → All (λ m. is_comma_at ns m ≡ false) (x ∷ xs)
    by true e k rest = absurd (let wrong : false ≡ true = k in cc)
    by false e k rest = All-cons (λ m. is_comma_at ns m ≡ false) x xs e (rest k)

same_each : (old new : List Node) → ((k : ℕ) → content_at new k ≡ content_at old k) → (xs : List ℕ) → All (λ m. content_at new m ≡ content_at old m) xs
same_each old new f [] = All-nil (λ m. content_at new m ≡ content_at old m)
same_each old new f (x ∷ xs) = All-cons (λ m. content_at new m ≡ content_at old m) x xs (f x) (same_each old new f xs)

-- so it is of nodes that stay what they are
come_same : (old new : List Node) → ((k : ℕ) → content_at new k ≡ content_at old k) → ((o : Option ℕ) → ends_bare new o ≡ ends_bare old o) → ((o : Option ℕ) → begins_bare new o ≡ begins_bare old o)
    → {ahead xs ys : List ℕ} → Come old ahead xs ys → Come new ahead xs ys
come_same old new f ends begins none_come = none_come
come_same old new f ends begins {ahead} (one_come front back x leaf clear is last printed first) =
    one_come front back x leaf (nearest_same old new front (same_each old new f front) ∙ clear) (f leaf ∙ is)
    (ap (ends_bare new) (nearest_same old new (reverse ahead) (same_each old new f (reverse ahead))) ∙ ends (nearest old (reverse ahead)) ∙ last) (ap prints (f x) ∙ printed) (begins (Some x) ∙ first)

-- and behind others that end alike
come_behind : (ns : List Node) {a b xs ys : List ℕ} → nearest ns (reverse b) ≡ nearest ns (reverse a) → Come ns a xs ys → Come ns b xs ys
come_behind ns e none_come = none_come
come_behind ns e (one_come front back x leaf clear is last printed first) = one_come front back x leaf clear is (ap (ends_bare ns) e ∙ last) printed first

-- what prints last of two lists
joined_nearest : (ns : List Node) (xs ys : List ℕ) → nearest ns (reverse (xs ++ ys)) ≡ option_or (nearest ns (reverse ys)) (nearest ns (reverse xs))
joined_nearest ns xs ys = ap (nearest ns) (reverse-append xs ys) ∙ find-append (prints_at ns) (reverse ys) (reverse xs)

-- the space behind the stretch
record Behind (old now : List Node) (c : ℕ) (front stretch part : List ℕ) (last : ℕ) (ahead : List ℕ) : Type 0 where
  tree : IsTree now
  rest : List ℕ
  row : children_at now c ≡ front ++ (stretch ++ (rest ++ last ∷ []))
  gains : Gains (contents now (part ++ last ∷ [])) (contents now (rest ++ last ∷ []))
  come : Come now ahead (part ++ last ∷ []) (rest ++ last ∷ [])
  quiet : Quiet now ahead (rest ++ last ∷ [])
  content : (k : ℕ) → content_at now k ≡ content_at old k
  ends : (o : Option ℕ) → ends_bare now o ≡ ends_bare old o
  begins : (o : Option ℕ) → begins_bare now o ≡ begins_bare old o

one_behind : (old : List Node) → IsTree old → (c : ℕ) → IsTrue (is_array_or_object (content_at old c)) → (front stretch part : List ℕ) (last : ℕ) (ahead : List ℕ) → children_at old c ≡ front ++ (stretch ++ (part ++ last ∷ [])) → (due : Bool)
    → (ends_bare old (nearest old (reverse ahead)) && begins_bare old (nearest old (part ++ last ∷ []))) ≡ due
    → (now : List Node) → AreSpaced old (listed (cond due (nearest old (part ++ last ∷ [])) None)) now → Behind old now c front stretch part last ahead
one_behind old tree c holds front stretch part last ahead row due is now put =
    let whole : children_at old c ≡ (front ++ stretch) ++ ((part ++ last ∷ []) ++ []) = row ∙ sym (append_assoc front stretch (part ++ last ∷ [])) ∙ ap (λ (l : List ℕ). (front ++ stretch) ++ l) (sym (append-nil (part ++ last ∷ []))) in
    let r : OneSpace old now c (front ++ stretch) (part ++ last ∷ []) [] ahead = one_space old tree c (front ++ stretch) (part ++ last ∷ []) [] ahead whole holds due is now put in
    let l = r.last part last refl in
    record {
      tree = r.tree;
      rest = l.0;
      row = r.row ∙ ap (λ (k : List ℕ). (front ++ stretch) ++ k) (append-nil r.given) ∙ append_assoc front stretch r.given ∙ ap (λ (k : List ℕ). front ++ (stretch ++ k)) l.1;
      gains = subst (λ k. Gains (contents now (part ++ last ∷ [])) (contents now k)) l.1 r.gains;
      come = subst (Come now ahead (part ++ last ∷ [])) l.1 r.come;
      quiet = subst (Quiet now ahead) l.1 r.quiet;
      content = r.content;
      ends = r.ends;
      begins = r.begins;
    }

module _ (ready : List Node) (tree : IsTree ready) (c n open_with last from to : ℕ) (holds : IsTrue (is_array_or_object (content_at ready c))) (shown : prints_at ready n ≡ true) where
  -- due where the stretch leaves
  stretch_due : (front near line back : List ℕ) → children_at ready c ≡ front ++ ((near ++ n ∷ line) ++ back) → Edges (near ++ n ∷ line) from to
      → space_needed_between ready from to ≡ cond (ends_bare ready (nearest ready (reverse front)) && begins_bare ready (nearest ready back)) (nearest ready back) None
  stretch_due front near line back row e =
      due_parts ready tree c holds front (e.tail ++ back) (front ++ e.init) back from to (stretch_prints ready tree c front (near ++ n ∷ line) back from to row e n near line refl shown) (row ∙ ap (λ (l : List ℕ). front ++ (l ++ back)) e.first_is)
      (row ∙ ap (λ (l : List ℕ). front ++ (l ++ back)) e.last_is ∙ ap (λ (l : List ℕ). front ++ l) (append_assoc e.init (to ∷ []) back) ∙ sym (append_assoc front e.init (to ∷ back)))

  module _ (spaced : List Node) where
    without : (front near line part : List ℕ) → children_at ready c ≡ front ++ ((near ++ n ∷ line) ++ (part ++ last ∷ [])) → Edges (near ++ n ∷ line) from to → AreSpaced ready (listed (space_needed_between ready from to)) spaced
        → Behind ready spaced c front (near ++ n ∷ line) part last front
    without front near line part row e put =
        one_behind ready tree c holds front (near ++ n ∷ line) part last front row (ends_bare ready (nearest ready (reverse front)) && begins_bare ready (nearest ready (part ++ last ∷ []))) refl spaced
        (subst (λ o. AreSpaced ready (listed o) spaced) (stretch_due front near line (part ++ last ∷ []) row e) put)

    abbrev Done : Option ℕ → Type 0
    Done o = IsSettled ready spaced c n open_with last from to o

    module _ (next : Bool) (away mid near line rest : List ℕ) (k : ℕ) (row : children_at ready c ≡ ((open_with ∷ away) ++ k ∷ mid) ++ ((near ++ n ∷ line) ++ (rest ++ last ∷ []))) (edges : Edges (near ++ n ∷ line) from to)
        (beside : AreInlineTrivia (contents ready near)) (apart_mid : IsTrue (apart (content_at ready k ∷ contents ready mid))) (none_mid : IsTrue (no_commas (contents ready mid))) (comma : IsTrue (is_comma_at ready k))
        (ended : IsRestOfLine (contents ready line)) (first : GoesWithout (contents ready line) (contents ready (rest ++ last ∷ []))) (said : next ≡ is_next (seen_before ready from) (Some k))
        (put : AreSpaced ready (listed (if next then None else space_needed_between ready k k) ++ listed (if next then space_needed_between ready k to else space_needed_between ready from to)) spaced) where
      abbrev stretch : List ℕ
      stretch = near ++ n ∷ line

      abbrev back : List ℕ
      back = rest ++ last ∷ []

      seen_is : nearest ready (reverse ((open_with ∷ away) ++ k ∷ mid)) ≡ option_or (nearest ready (reverse mid)) (Some k)
      seen_is =
          ap (nearest ready) (reverse-append (open_with ∷ away) (k ∷ mid)) ∙ find-append (prints_at ready) (reverse (k ∷ mid)) (reverse (open_with ∷ away))
          ∙ ap (λ o. option_or o (nearest ready (reverse (open_with ∷ away)))) (ap (nearest ready) (reverse-append (k ∷ []) mid) ∙ find-append (prints_at ready) (reverse mid) (k ∷ []) ∙ ap (λ b. option_or (nearest ready (reverse mid)) (cond b (Some k) None)) (comma_prints (content_at ready k) comma))
          ∙ twice (nearest ready (reverse mid)) (nearest ready (reverse (open_with ∷ away)))
        where
          twice : (o p : Option ℕ) → option_or (option_or o (Some k)) p ≡ option_or o (Some k)
          twice None p = refl
          twice (Some x) p = refl

      seen : seen_before ready from ≡ option_or (nearest ready (reverse mid)) (Some k)
      seen = ap (nearest ready) (before_in ready tree c ((open_with ∷ away) ++ k ∷ mid) (edges.tail ++ back) from (row ∙ ap (λ (l : List ℕ). ((open_with ∷ away) ++ k ∷ mid) ++ (l ++ back)) edges.first_is)) ∙ seen_is

      next_is : (o : Option ℕ) → nearest ready (reverse mid) ≡ o → next ≡ is_next (option_or o (Some k)) (Some k)
      next_is o e = said ∙ ap (λ w. is_next w (Some k)) (seen ∙ ap (λ w. option_or w (Some k)) e)

      whole_k : children_at ready c ≡ (open_with ∷ away) ++ k ∷ (mid ++ (stretch ++ back))
      whole_k = row ∙ append_assoc (open_with ∷ away) (k ∷ mid) (stretch ++ back)

      -- from the comma to the last of the stretch
      from_comma : Edges (k ∷ (mid ++ stretch)) k to
      from_comma = record {
        tail = mid ++ stretch;
        init = k ∷ (mid ++ edges.init);
        first_is = refl;
        last_is = ap (λ (l : List ℕ). k ∷ (mid ++ l)) edges.last_is ∙ ap (λ (l : List ℕ). k ∷ l) (sym (append_assoc mid edges.init (to ∷ [])));
      }

      -- nothing prints between the comma and the stretch
      close : nearest ready (reverse mid) ≡ None → AreSpaced ready (listed (space_needed_between ready k to)) spaced → Done (Some k)
      close e put =
          let due : space_needed_between ready k to ≡ cond (ends_bare ready (nearest ready (reverse (open_with ∷ away))) && begins_bare ready (nearest ready back)) (nearest ready back) None =
          due_parts ready tree c holds (open_with ∷ away) (mid ++ (stretch ++ back)) (((open_with ∷ away) ++ k ∷ mid) ++ edges.init) back k to
          (stretch_prints ready tree c (open_with ∷ away) (k ∷ (mid ++ stretch)) back k to (whole_k ∙ ap (λ (l : List ℕ). (open_with ∷ away) ++ k ∷ l) (sym (append_assoc mid stretch back))) from_comma k [] (mid ++ stretch) refl (comma_prints (content_at ready k) comma)) whole_k
          (row ∙ ap (λ (l : List ℕ). ((open_with ∷ away) ++ k ∷ mid) ++ (l ++ back)) edges.last_is ∙ ap (λ (l : List ℕ). ((open_with ∷ away) ++ k ∷ mid) ++ l) (append_assoc edges.init (to ∷ []) back) ∙ sym (append_assoc ((open_with ∷ away) ++ k ∷ mid) edges.init (to ∷ back))) in
          let b = one_behind ready tree c holds ((open_with ∷ away) ++ k ∷ mid) stretch rest last (open_with ∷ away) row (ends_bare ready (nearest ready (reverse (open_with ∷ away))) && begins_bare ready (nearest ready back)) refl spaced (subst (λ o. AreSpaced ready (listed o) spaced) due put) in
          let each : (xs : List ℕ) → All (λ m. content_at spaced m ≡ content_at ready m) xs = same_each ready spaced b.content in
          let same : (xs : List ℕ) → contents ready xs ≡ contents spaced xs = λ xs. sym (contents_same ready spaced xs (each xs)) in
          let blind : nearest spaced (reverse mid) ≡ None = nearest_same ready spaced (reverse mid) (each (reverse mid)) ∙ e in
          let past : nearest spaced (mid ++ (b.rest ++ last ∷ [])) ≡ nearest spaced (b.rest ++ last ∷ []) =
          find-append (prints_at spaced) mid (b.rest ++ last ∷ []) ∙ ap (λ o. option_or o (nearest spaced (b.rest ++ last ∷ []))) (none_turned (prints_at spaced) mid blind) in
          record {
            tree = b.tree;
            content = b.content;
            settled =
                subst (Settled spaced c n open_with last from to (Some k)) (sym row)
                (settled_before away mid near line b.rest b.row edges (subst AreInlineTrivia (same near) beside) (subst (λ l. IsTrue (apart l)) (same (k ∷ mid)) apart_mid) (subst (λ l. IsTrue (no_commas l)) (same mid) none_mid)
                (subst (λ w. IsTrue (is_comma w)) (sym (b.content k)) comma) (subst IsRestOfLine (same line) ended) (goes_without_gains b.gains (subst (GoesWithout (contents spaced line)) (same back) (subst (λ l. GoesWithout l (contents ready back)) (same line) first)))
                (ap (λ o. ends_bare spaced (nearest spaced (reverse (open_with ∷ away))) && begins_bare spaced o) past ∙ b.quiet) (ap (λ o. ends_bare spaced o && begins_bare spaced (nearest spaced (b.rest ++ last ∷ []))) blind) mid back none_come
                (come_behind spaced (joined_nearest spaced (open_with ∷ away) mid ∙ ap (λ o. option_or o (nearest spaced (reverse (open_with ∷ away)))) blind) b.come));
          }

      quiet_kept : (a b : Bool) {d e : Bool} → a && b ≡ false → d ≡ a → (b ≡ false → e ≡ false) → d && e ≡ false
      quiet_kept true b {d} {e} q f g = ap (λ x. x && e) f ∙ g q
      quiet_kept false b {d} {e} q f g = ap (λ x. x && e) f

      -- something does
      far : (m : ℕ) → nearest ready (reverse mid) ≡ Some m → AreSpaced ready (listed (space_needed_between ready k k) ++ listed (space_needed_between ready from to)) spaced → Done (Some k)
      far m e put =
          let two = spaced_parts (listed (space_needed_between ready k k)) (listed (space_needed_between ready from to)) ready spaced put in
          let now : List Node = two.0 in
          let found = some_from_before (prints_at ready) mid m e in
          let nearest_mid : nearest ready (mid ++ (stretch ++ back)) ≡ nearest ready mid = find-append (prints_at ready) mid (stretch ++ back) ∙ ap (λ o. option_or o (nearest ready (stretch ++ back))) found.1 ∙ sym found.1 in
          let due_k : space_needed_between ready k k ≡ cond (ends_bare ready (nearest ready (reverse (open_with ∷ away))) && begins_bare ready (nearest ready mid)) (nearest ready mid) None =
          due_parts ready tree c holds (open_with ∷ away) (mid ++ (stretch ++ back)) (open_with ∷ away) (mid ++ (stretch ++ back)) k k
          (ap (λ b. b || is_other (seen_before ready k) (seen_before ready k)) (comma_prints (content_at ready k) comma)) whole_k whole_k
          ∙ ap (λ o. cond (ends_bare ready (nearest ready (reverse (open_with ∷ away))) && begins_bare ready o) o None) nearest_mid in
          let a : OneSpace ready now c ((open_with ∷ away) ++ k ∷ []) mid (stretch ++ back) (open_with ∷ away) =
          one_space ready tree c ((open_with ∷ away) ++ k ∷ []) mid (stretch ++ back) (open_with ∷ away) (whole_k ∙ sym (append_assoc (open_with ∷ away) (k ∷ []) (mid ++ (stretch ++ back)))) holds
          (ends_bare ready (nearest ready (reverse (open_with ∷ away))) && begins_bare ready (nearest ready mid)) refl now (subst (λ o. AreSpaced ready (listed o) now) due_k two.1) in
          let each_now : (xs : List ℕ) → All (λ m. content_at now m ≡ content_at ready m) xs = same_each ready now a.content in
          let row_now : children_at now c ≡ ((open_with ∷ away) ++ k ∷ a.given) ++ (stretch ++ back) = a.row ∙ append_assoc (open_with ∷ away) (k ∷ []) (a.given ++ (stretch ++ back)) ∙ sym (append_assoc (open_with ∷ away) (k ∷ a.given) (stretch ++ back)) in
          let seen_now : nearest now (reverse a.given) ≡ nearest ready (reverse ((open_with ∷ away) ++ k ∷ mid)) = a.seen ∙ nearest_same ready now (reverse mid) (each_now (reverse mid)) ∙ e ∙ sym (seen_is ∙ ap (λ o. option_or o (Some k)) e) in
          let near_back : nearest ready back ≡ nearest now back = sym (nearest_same ready now back (each_now back)) in
          let due_from : space_needed_between ready from to ≡ cond (ends_bare ready (nearest ready (reverse ((open_with ∷ away) ++ k ∷ mid))) && begins_bare ready (nearest ready back)) (nearest now back) None =
          stretch_due ((open_with ∷ away) ++ k ∷ mid) near line back row edges ∙ ap (λ o. cond (ends_bare ready (nearest ready (reverse ((open_with ∷ away) ++ k ∷ mid))) && begins_bare ready (nearest ready back)) o None) near_back in
          let holds_now : IsTrue (is_array_or_object (content_at now c)) = subst (λ w. IsTrue (is_array_or_object w)) (sym (a.content c)) holds in
          let b = one_behind now a.tree c holds_now ((open_with ∷ away) ++ k ∷ a.given) stretch rest last a.given row_now (ends_bare ready (nearest ready (reverse ((open_with ∷ away) ++ k ∷ mid))) && begins_bare ready (nearest ready back))
          (ap (λ d. d && begins_bare now (nearest now back)) (ap (ends_bare now) seen_now ∙ a.ends (nearest ready (reverse ((open_with ∷ away) ++ k ∷ mid))))
          ∙ ap (λ d. ends_bare ready (nearest ready (reverse ((open_with ∷ away) ++ k ∷ mid))) && d) (ap (begins_bare now) (sym near_back) ∙ a.begins (nearest ready back))) spaced (subst (λ o. AreSpaced now (listed o) spaced) due_from two.2) in
          let content : (x : ℕ) → content_at spaced x ≡ content_at ready x = λ x. b.content x ∙ a.content x in
          let each : (xs : List ℕ) → All (λ m. content_at spaced m ≡ content_at now m) xs = same_each now spaced b.content in
          let same_now : (xs : List ℕ) → contents now xs ≡ contents spaced xs = λ xs. sym (contents_same now spaced xs (each xs)) in
          let same : (xs : List ℕ) → contents ready xs ≡ contents spaced xs = λ xs. sym (contents_same ready spaced xs (same_each ready spaced content xs)) in
          let gains : Gains (contents spaced mid) (contents spaced a.given) = subst (λ l. Gains l (contents spaced a.given)) (same_now mid) (subst (Gains (contents now mid)) (same_now a.given) a.gains) in
          let given_seen : nearest spaced (reverse a.given) ≡ Some m = nearest_same now spaced (reverse a.given) (each (reverse a.given)) ∙ a.seen ∙ nearest_same ready now (reverse mid) (each_now (reverse mid)) ∙ e in
          let given_found = some_from_before (prints_at spaced) a.given m given_seen in
          let front_quiet : Quiet spaced (open_with ∷ away) a.given =
          quiet_kept (ends_bare now (nearest now (reverse (open_with ∷ away)))) (begins_bare now (nearest now a.given)) a.quiet
          (ap (ends_bare spaced) (nearest_same now spaced (reverse (open_with ∷ away)) (each (reverse (open_with ∷ away)))) ∙ b.ends (nearest now (reverse (open_with ∷ away))))
          (λ g. ap (begins_bare spaced) (nearest_same now spaced a.given (each a.given)) ∙ b.begins (nearest now a.given) ∙ g) in
          let past : nearest spaced (a.given ++ (b.rest ++ last ∷ [])) ≡ nearest spaced a.given = find-append (prints_at spaced) a.given (b.rest ++ last ∷ []) ∙ ap (λ o. option_or o (nearest spaced (b.rest ++ last ∷ []))) given_found.1 ∙ sym given_found.1 in
          record {
            tree = b.tree;
            content = content;
            settled =
                subst (Settled spaced c n open_with last from to (Some k)) (sym row)
                (settled_before away a.given near line b.rest b.row edges (subst AreInlineTrivia (same near) beside)
                (apart_behind_gains (content_at spaced k) gains ∙ subst (λ l. IsTrue (apart l)) (same (k ∷ mid)) apart_mid) (commas_gains gains ∙ subst (λ l. IsTrue (no_commas l)) (same mid) none_mid)
                (subst (λ w. IsTrue (is_comma w)) (sym (content k)) comma) (subst IsRestOfLine (same line) ended) (goes_without_gains b.gains (subst (GoesWithout (contents spaced line)) (same back) (subst (λ l. GoesWithout l (contents ready back)) (same line) first)))
                (ap (λ o. ends_bare spaced (nearest spaced (reverse (open_with ∷ away))) && begins_bare spaced o) past ∙ front_quiet) b.quiet mid back (come_same now spaced b.content b.ends b.begins a.come)
                (come_behind spaced (joined_nearest spaced (open_with ∷ away) a.given ∙ ap (λ o. option_or o (nearest spaced (reverse (open_with ∷ away)))) given_seen ∙ sym given_seen) b.come));
          }

      other : (m : ℕ) → nearest ready (reverse mid) ≡ Some m → bytes_eq (m ∷ []) (k ∷ []) ≡ false
      other m e =
          let apart_m : is_comma_at ready m ≡ false = find_holds (λ x. is_comma_at ready x ≡ false) (prints_at ready) (reverse mid) m (All-reverse (λ x. is_comma_at ready x ≡ false) mid (commas_each ready mid none_mid)) e in
          elim (cases_Bool (bytes_eq (m ∷ []) (k ∷ []))) [
            | inl agree ↦ (let both : m ∷ [] ≡ k ∷ [] = (bytes_eq-Decides (m ∷ []) (k ∷ [])).0 agree in let same : m ≡ k = cc in absurd (let wrong : true ≡ false = sym comma ∙ ap (is_comma_at ready) (sym same) ∙ apart_m in cc))
            | inr differ ↦ differ
          ]

      either : (o : Option ℕ) → nearest ready (reverse mid) ≡ o → Done (Some k)
      either None e =
          let agree : next ≡ true = next_is None e ∙ (bytes_eq-Decides (k ∷ []) (k ∷ [])).1 refl in
          close e (subst (λ b. AreSpaced ready (listed (if b then None else space_needed_between ready k k) ++ listed (if b then space_needed_between ready k to else space_needed_between ready from to)) spaced) agree put)
      either (Some m) e =
          let differ : next ≡ false = next_is (Some m) e ∙ other m e in
          far m e (subst (λ b. AreSpaced ready (listed (if b then None else space_needed_between ready k k) ++ listed (if b then space_needed_between ready k to else space_needed_between ready from to)) spaced) differ put)

    pub is_settled : (next : Bool) (o : Option ℕ) → Going ready c n open_with last from to o → DueWith ready from to o next spaced → Done o
    is_settled next _ (with_behind away near between line rest k row edges beside apart_away comma goes) put =
        let b = without (open_with ∷ away) near (between ++ k ∷ line) rest row edges put in
        let same : (xs : List ℕ) → contents ready xs ≡ contents spaced xs = λ xs. sym (contents_same ready spaced xs (same_each ready spaced b.content xs)) in
        record {
          tree = b.tree;
          content = b.content;
          settled =
              subst (Settled spaced c n open_with last from to None) (sym row)
              (settled_behind away near between line b.rest k b.row edges (subst AreInlineTrivia (same near) beside) (subst (λ l. IsTrue (apart l)) (same away) apart_away)
              (subst (λ w. IsTrue (is_comma w)) (sym (b.content k)) comma)
              (goes_with_gains b.gains (subst (GoesWith (contents spaced between) (contents spaced line)) (same (rest ++ last ∷ [])) (subst (λ l. GoesWith (contents spaced between) l (contents ready (rest ++ last ∷ []))) (same line) (subst (λ l. GoesWith l (contents ready line) (contents ready (rest ++ last ∷ []))) (same between) goes)))) b.quiet (rest ++ last ∷ []) b.come);
        }
    is_settled next _ (with_none away near line rest row edges beside apart_away none_away ended first) put =
        let b = without (open_with ∷ away) near line rest row edges put in
        let same : (xs : List ℕ) → contents ready xs ≡ contents spaced xs = λ xs. sym (contents_same ready spaced xs (same_each ready spaced b.content xs)) in
        record {
          tree = b.tree;
          content = b.content;
          settled =
              subst (Settled spaced c n open_with last from to None) (sym row)
              (settled_none away near line b.rest b.row edges (subst AreInlineTrivia (same near) beside) (subst (λ l. IsTrue (apart l)) (same away) apart_away) (subst (λ l. IsTrue (no_commas l)) (same away) none_away) (subst IsRestOfLine (same line) ended)
              (goes_without_gains b.gains (subst (GoesWithout (contents spaced line)) (same (rest ++ last ∷ [])) (subst (λ l. GoesWithout l (contents ready (rest ++ last ∷ []))) (same line) first))) b.quiet (rest ++ last ∷ []) b.come);
        }
    is_settled next _ (with_before away mid near line rest {k = k} row edges beside apart_mid none_mid comma ended first) (said, put) =
        either next away mid near line rest k row edges beside apart_mid none_mid comma ended first said put (nearest ready (reverse mid)) refl
