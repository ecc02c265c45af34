-- The smallest change that neither begins nor ends inside a CR LF.
use Rattle.std.proofs.Common.{◌≡◌, ◌≢◌, ◌∙◌, inl, inr, refl, sym, ap, subst, arith, ℕ, ◌+◌, ◌-◌, ◌<◌, ◌≤◌, List, [], ◌∷◌, ◌++◌, length, drop, take, get_or, chars, slice_range, IsUtf8, IsCharBoundary, encode_utf8_all, length-append, length-drop, Bool, true, false}
use Rattle.std.proofs.Math.Seq.{get_or-append_seam}
use Rattle.std.proofs.lemmas.List.Folds.{drop_split}
use Rattle.std.specs.Bool.{Decides}
use Rattle.std.proofs.lemmas.Bool.{cases_lt}
use Rattle.std.proofs.lemmas.List.{append-nil, append_assoc, same_from_push, take_at}
use Rattle.std.proofs.lemmas.Str.{IsCharBoundary-start, IsCharBoundary-before_ascii, IsUtf8-take, chars-append, chars_past_char, encode_ascii, encodes-append, encodes-chars, len_utf8_ascii, len_utf8_bounds}
use Rattle.jsonc_text.specs.Text.{byte_length, rest, Spans}
use Rattle.jsonc_text.proofs.Cuts.{byte_length-append, byte_length-one, rest_past, slice_chars}
use Rattle.jsonc_parser.specs.Changes.{BeginsApart, EndsApart, EndsOutside, IsChange, IsChangeOutside, IsInsideCrLf, IsLeastOutside, StartsOutside}
use Rattle.jsonc_parser.proofs.Changes.{Later, boundary_behind, chars_before_char, in_front, later, no_longer, size_of, spanned}

-- two beginnings of one text with as many bytes are one
no_bytes : (xs : List ℕ) → byte_length xs ≡ 0 → xs ≡ []
no_bytes [] e = refl
no_bytes (x ∷ xs) e = absurd (omega (arith, e, byte_length-append (x ∷ []) xs, byte_length-one x, (len_utf8_bounds x).0))

same_cut : (a b c d : List ℕ) → a ++ b ≡ c ++ d → byte_length a ≡ byte_length c → (a ≡ c) × (b ≡ d)
same_cut a b c d e size = go (later a b c d e)
  where
    go : Later a b c d → (a ≡ c) × (b ≡ d)
    go (Later.first_later h p q) =
        let none : h ≡ [] = no_bytes h (omega (arith, size, ap byte_length p, byte_length-append c h)) in
        (p ∙ ap (λ t. c ++ t) none ∙ append-nil c, sym (q ∙ ap (λ t. t ++ b) none))
    go (Later.second_later h p q) =
        let none : h ≡ [] = no_bytes h (omega (arith, size, ap byte_length p, byte_length-append a h)) in
        (sym (p ∙ ap (λ t. a ++ t) none ∙ append-nil a), q ∙ ap (λ t. t ++ d) none)

-- a place inside a CR LF, and any other way to cut the text there
pub cut_inside : (t front back : List ℕ) (place : ℕ) → t ≡ front ++ back → place ≡ byte_length front → (i : IsInsideCrLf t place) → (front ≡ i.before ++ 0x0D ∷ []) × (back ≡ 0x0A ∷ i.after)
cut_inside t front back place e at i =
    same_cut front back (i.before ++ 0x0D ∷ []) (0x0A ∷ i.after) (sym e ∙ i.split ∙ sym (append_assoc i.before (0x0D ∷ []) (0x0A ∷ i.after))) (sym at ∙ i.at)

byte_length-pushed : (xs : List ℕ) (c : ℕ) → c < 128 → byte_length (xs ++ c ∷ []) ≡ byte_length xs + 1
byte_length-pushed xs c low = byte_length-append xs (c ∷ []) ∙ ap (λ n. byte_length xs + n) (byte_length-one c ∙ len_utf8_ascii c low)

-- an ASCII character is its byte
encodes-ascii : (c : ℕ) (r : List ℕ) → c < 128 → encode_utf8_all (c ∷ r) ≡ c ∷ encode_utf8_all r
encodes-ascii c r low = ap (λ t. t ++ encode_utf8_all r) (encode_ascii c low)

-- where a change may begin: after the one beginning of both texts, and as late as any
pub record Begun (old new : List ℕ) (start : ℕ) : Type 0 where
  pub front : List ℕ
  pub xs : List ℕ
  pub ys : List ℕ
  pub before : old ≡ front ++ xs
  pub after : new ≡ front ++ ys
  pub at : start ≡ byte_length front
  pub outside : ¬ (IsInsideCrLf old start)
  pub latest : (s e : ℕ) (n : List ℕ) → IsChangeOutside old new s e n → s ≤ start

module _ (old new xs ys : List ℕ) (begins : BeginsApart old new xs ys) (place : ℕ) (at : place ≡ byte_length begins.0) where
  -- no change begins after what both begin with
  no_later_start : (s e : ℕ) (n : List ℕ) → IsChange old new s e n → s ≤ place
  no_later_start s e n (f, w, b, r, from, to) =
      let inner = in_front begins.0 xs ys f (w ++ b) (n ++ b) (sym begins.1 ∙ r.before) (sym begins.2 ∙ r.after) begins.3 in
      omega (arith, at, from, ap byte_length inner.1, byte_length-append f inner.0)

  pub begun : (start : ℕ) → StartsOutside old place start → Begun old new start
  begun start (inl (out, is)) = record {
    front = begins.0;
    xs = xs;
    ys = ys;
    before = begins.1;
    after = begins.2;
    at = is ∙ at;
    outside = subst (λ p. ¬ (IsInsideCrLf old p)) (sym is) out;
    latest = λ s e n c. subst (λ p. s ≤ p) (sym is) (no_later_start s e n c.change);
  }
  begun start (inr (i, is)) =
      let cut = cut_inside old begins.0 xs place begins.1 at i in
      record {
        front = i.before;
        xs = 0x0D ∷ 0x0A ∷ i.after;
        ys = 0x0D ∷ ys;
        before = i.split;
        after = begins.2 ∙ ap (λ t. t ++ ys) cut.0 ∙ append_assoc i.before (0x0D ∷ []) ys;
        at = omega (arith, is, i.at, byte_length-pushed i.before 0x0D (omega arith));
        outside = λ j. (let again = cut_inside old i.before (0x0D ∷ 0x0A ∷ i.after) start i.split (omega (arith, is, i.at, byte_length-pushed i.before 0x0D (omega arith))) j in
            let wrong : 0x0D ∷ 0x0A ∷ i.after ≡ 0x0A ∷ j.after = again.1 in cc);
        latest = λ s e n c. earlier s (no_later_start s e n c.change) (λ same. c.begins (subst (IsInsideCrLf old) (sym same) i));
      }
    where
      earlier : (s : ℕ) → s ≤ place → s ≢ place → s ≤ start
      earlier s h ne = elim (cases_lt s place) [ inl less ↦ omega (arith, less, is) | inr more ↦ absurd (ne (omega (arith, h, more))) ]

-- the change that begins there, once what follows has been parted from the end that both have
module _ (old new : List ℕ) (start : ℕ) (b : Begun old new start) (was now : List ℕ) (ends : EndsApart b.xs b.ys was now) (place : ℕ) (at : place ≡ start + byte_length was) where
  place_at : place ≡ byte_length (b.front ++ was)
  place_at = omega (arith, at, b.at, byte_length-append b.front was)

  old_parts : old ≡ (b.front ++ was) ++ ends.0
  old_parts = b.before ∙ ap (λ t. b.front ++ t) ends.1 ∙ sym (append_assoc b.front was ends.0)

  -- a change that begins there ends no earlier than what the texts end with
  no_sooner : (s e : ℕ) (n : List ℕ) → IsChange old new s e n → s ≡ start → place ≤ e
  no_sooner s e n (f, w, r, c, from, to) same =
      let size : byte_length f ≡ byte_length b.front = omega (arith, from, same, b.at) in
      let olds = same_cut f (w ++ r) b.front b.xs (sym c.before ∙ b.before) size in
      let news = same_cut f (n ++ r) b.front b.ys (sym c.after ∙ b.after) size in
      let left : was ++ ends.0 ≡ w ++ r = sym ends.1 ∙ sym olds.1 in
      let right : now ++ ends.0 ≡ n ++ r = sym ends.2 ∙ sym news.1 in
      let longer = no_longer [] was now ends.0 w n r left right ends.3 (later was ends.0 w r left) in
      omega (arith, at, to, same, from, longer, byte_length-append f w)

  -- what is new, and what both texts end with after it
  pub record Ended (end : ℕ) : Type 0 where
    pub mid : List ℕ
    pub back : List ℕ
    pub after : new ≡ b.front ++ (mid ++ back)
    pub size : byte_length old ≡ end + byte_length back
    pub least : IsLeastOutside old new start end mid

  pub ended : (end : ℕ) → EndsOutside old place end → Ended end
  ended end (inl (out, is)) = record {
    mid = now;
    back = ends.0;
    after = b.after ∙ ap (λ t. b.front ++ t) ends.2;
    size = omega (arith, is, place_at, ap byte_length old_parts, byte_length-append (b.front ++ was) ends.0);
    least = record {
      outside = record {
        change = (b.front, was, ends.0, record { before = b.before ∙ ap (λ t. b.front ++ t) ends.1; after = b.after ∙ ap (λ t. b.front ++ t) ends.2 }, b.at, is ∙ place_at);
        begins = b.outside;
        ends = subst (λ p. ¬ (IsInsideCrLf old p)) (sym is) out;
      };
      least = λ s e n c. (b.latest s e n c, λ same. subst (λ p. p ≤ e) (sym is) (no_sooner s e n c.change same));
    };
  }
  ended end (inr (i, is)) =
      let cut = cut_inside old (b.front ++ was) ends.0 place old_parts place_at i in
      let pushed : List ℕ = was ++ 0x0A ∷ [] in
      let before : old ≡ b.front ++ (pushed ++ i.after) =
      b.before ∙ ap (λ t. b.front ++ t) (ends.1 ∙ ap (λ t. was ++ t) cut.1 ∙ sym (append_assoc was (0x0A ∷ []) i.after)) in
      let after : new ≡ b.front ++ ((now ++ 0x0A ∷ []) ++ i.after) =
      b.after ∙ ap (λ t. b.front ++ t) (ends.2 ∙ ap (λ t. now ++ t) cut.1 ∙ sym (append_assoc now (0x0A ∷ []) i.after)) in
      let to : end ≡ byte_length (b.front ++ pushed) =
      omega (arith, is, place_at, byte_length-append b.front was, byte_length-append b.front pushed, byte_length-pushed was 0x0A (omega arith)) in
      record {
        mid = now ++ 0x0A ∷ [];
        back = i.after;
        after = after;
        size = omega (arith, to, ap byte_length before, byte_length-append b.front (pushed ++ i.after), byte_length-append pushed i.after, byte_length-append b.front pushed);
        least = record {
          outside = record {
            change = (b.front, pushed, i.after, record { before = before; after = after }, b.at, to);
            begins = b.outside;
            ends = λ j. (let again = cut_inside old (b.front ++ pushed) i.after end (before ∙ sym (append_assoc b.front pushed i.after)) to j in
                let last = same_from_push (b.front ++ was) j.before 0x0A 0x0D (append_assoc b.front was (0x0A ∷ []) ∙ again.0) in
                let wrong : 0x0A ≡ 0x0D = last.1 in cc);
          };
          least = λ s e n c. (b.latest s e n c, λ same. further s e n c (no_sooner s e n c.change same));
        };
      }
    where
      further : (s e : ℕ) (n : List ℕ) → IsChangeOutside old new s e n → place ≤ e → end ≤ e
      further s e n c h = elim (cases_lt place e) [ inl less ↦ omega (arith, less, is) | inr more ↦ absurd (c.ends (subst (IsInsideCrLf old) (omega (arith, h, more)) i)) ]

-- the bytes of what is new, in the new text
pub middle : (bytes front mid back : List ℕ) (i j : ℕ) → IsUtf8 bytes → chars bytes ≡ front ++ (mid ++ back) → i ≡ byte_length front → j ≡ byte_length (front ++ mid) → Spans bytes i j × (chars (slice_range bytes i j) ≡ mid)
middle bytes front mid back i j u e from to =
    let zero : 0 + byte_length front ≡ i = omega (arith, from) in
    let far : i + byte_length mid ≡ j = omega (arith, from, to, byte_length-append front mid) in
    let first = subst (λ k. (rest bytes k ≡ mid ++ back) × IsCharBoundary bytes k) zero (rest_past bytes front (mid ++ back) 0 u (IsCharBoundary-start bytes u) e) in
    let second = subst (λ k. (rest bytes k ≡ back) × IsCharBoundary bytes k) far (rest_past bytes mid back i u first.1 first.0) in
    (record { from = first.1; to = second.1; order = omega (arith, far) }, slice_chars bytes mid i j u first.1 second.1 (first.0 ∙ ap (λ t. mid ++ t) (sym second.0)))

-- the bytes around a place inside a CR LF
module _ (bytes front back : List ℕ) (place : ℕ) (whole : bytes ≡ front ++ back) (size : length front ≡ place) (u : IsUtf8 front) (v : IsUtf8 back) where
  parts : chars bytes ≡ chars front ++ chars back
  parts = ap chars whole ∙ chars-append front back u

  place_at_front : place ≡ byte_length (chars front)
  place_at_front = sym size ∙ sym (size_of front u)

  pub cr_lf_bytes : (i : IsInsideCrLf (chars bytes) place) → (front ≡ encode_utf8_all i.before ++ 0x0D ∷ []) × (back ≡ 0x0A ∷ encode_utf8_all i.after)
  cr_lf_bytes i =
      let cut = cut_inside (chars bytes) (chars front) (chars back) place parts place_at_front i in (
        sym (encodes-chars front u) ∙ ap encode_utf8_all cut.0 ∙ encodes-append i.before (0x0D ∷ []) ∙ ap (λ t. encode_utf8_all i.before ++ t) (encodes-ascii 0x0D [] (omega arith)),
        sym (encodes-chars back v) ∙ ap encode_utf8_all cut.1 ∙ encodes-ascii 0x0A i.after (omega arith),
      )

  -- after an LF that a place is before is the rest
  lf_there : (t : List ℕ) → get_or t 0 0 ≡ 0x0A → (r : List ℕ) × (t ≡ 0x0A ∷ r)
  lf_there [] e = absurd (omega (arith, e))
  lf_there (b ∷ r) e = (r, ap (λ k. k ∷ r) e)

  module _ (before : List ℕ) (cr : front ≡ before ++ 0x0D ∷ []) where
    utf8_before : IsUtf8 before
    utf8_before =
        let there : get_or front (length before) 0 ≡ 0x0D = ap (λ t. get_or t (length before) 0) cr ∙ get_or-append_seam before 0x0D [] 0 in
        let many : length front ≡ length before + 1 = ap length cr ∙ length-append before (0x0D ∷ []) in
        let bound = IsCharBoundary-before_ascii front (length before) (omega (arith, many)) (omega (arith, there)) in
        subst IsUtf8 (ap (take (length before)) cr ∙ take_at before (0x0D ∷ []) (length before) refl) (IsUtf8-take front (length before) u bound)

    pub cr_lf_there : get_or back 0 0 ≡ 0x0A → IsInsideCrLf (chars bytes) place
    cr_lf_there lf =
        let r = lf_there back lf in
        let fronts : chars front ≡ chars before ++ 0x0D ∷ [] = chars_before_char front before 0x0D u utf8_before (cr ∙ ap (λ t. before ++ t) (sym (encode_ascii 0x0D (omega arith)))) in
        let backs : chars back ≡ 0x0A ∷ chars r.0 = chars_past_char back r.0 0x0A v (r.1 ∙ ap (λ t. t ++ r.0) (sym (encode_ascii 0x0A (omega arith)))) in
        record {
          before = chars before;
          after = chars r.0;
          split = parts ∙ ap (λ t. t ++ chars back) fronts ∙ ap (λ t. (chars before ++ 0x0D ∷ []) ++ t) backs ∙ append_assoc (chars before) (0x0D ∷ []) (0x0A ∷ chars r.0);
          at = place_at_front ∙ ap byte_length fronts;
        }

-- whether the tests of the bytes pass
module _ (bytes front back : List ℕ) (place : ℕ) (at : front ≡ slice_range bytes 0 place) (from : back ≡ drop place bytes) (b : IsCharBoundary bytes place) (u : IsUtf8 front) (v : IsUtf8 back) (ends starts : Bool)
    (cr : (ends ≡ true → front ≡ take (length front - 1) front ++ 0x0D ∷ []) × ((before : List ℕ) → front ≡ before ++ 0x0D ∷ [] → ends ≡ true)) where
  all_bytes : bytes ≡ front ++ back
  all_bytes = drop_split bytes 0 place (omega arith) ∙ ap (λ t. t ++ drop place bytes) (sym at) ∙ ap (λ t. front ++ t) (sym from)

  front_size : length front ≡ place
  front_size = omega (arith, ap length all_bytes, length-append front back, ap length from, length-drop place bytes, b.0)

  pub no_cr : ends ≡ false → IsInsideCrLf (chars bytes) place → false ≡ true
  no_cr e i = sym e ∙ cr.1 (encode_utf8_all i.before) (cr_lf_bytes bytes front back place all_bytes front_size u v i).0

  pub cr_and_lf : ends ≡ true → Decides starts (get_or back 0 0 ≡ 0x0A) → Decides starts (IsInsideCrLf (chars bytes) place)
  cr_and_lf e lf = (
    λ s. cr_lf_there bytes front back place all_bytes front_size u v (take (length front - 1) front) (cr.0 e) (lf.0 s),
    λ i. lf.1 (ap (λ t. get_or t 0 0) (cr_lf_bytes bytes front back place all_bytes front_size u v i).1),
  )

-- a place inside a CR LF is neither the first nor the last
pub inside_bounds : (bytes : List ℕ) (place : ℕ) → IsUtf8 bytes → IsInsideCrLf (chars bytes) place → (1 ≤ place) × (place + 1 ≤ length bytes)
inside_bounds bytes place u i =
    let split : length bytes ≡ byte_length i.before + byte_length (0x0D ∷ 0x0A ∷ i.after) = sym (size_of bytes u) ∙ ap byte_length i.split ∙ byte_length-append i.before (0x0D ∷ 0x0A ∷ i.after) in
    let two : byte_length (0x0D ∷ 0x0A ∷ i.after) ≡ 1 + (1 + byte_length i.after) =
    byte_length-append (0x0D ∷ []) (0x0A ∷ i.after) ∙ ap (λ n. n + byte_length (0x0A ∷ i.after)) (byte_length-one 0x0D ∙ len_utf8_ascii 0x0D (omega arith))
    ∙ ap (λ n. 1 + n) (byte_length-append (0x0A ∷ []) i.after ∙ ap (λ n. n + byte_length i.after) (byte_length-one 0x0A ∙ len_utf8_ascii 0x0A (omega arith))) in
    (omega (arith, i.at, byte_length-pushed i.before 0x0D (omega arith)), omega (arith, split, two, i.at, byte_length-pushed i.before 0x0D (omega arith)))

-- where a change begins, by the bytes
begun_place : (bytes xs : List ℕ) (new ys : List ℕ) (place : ℕ) → IsUtf8 bytes → IsUtf8 xs → (begins : BeginsApart (chars bytes) new (chars xs) ys) → place ≡ length bytes - length xs → place ≡ byte_length begins.0
begun_place bytes xs new ys place u v begins e =
    omega (arith, e, size_of bytes u, size_of xs v, ap byte_length begins.1, byte_length-append begins.0 (chars xs))

pub begun_there : (bytes xs : List ℕ) (new ys : List ℕ) (place start : ℕ) → IsUtf8 bytes → IsUtf8 xs → BeginsApart (chars bytes) new (chars xs) ys → place ≡ length bytes - length xs → StartsOutside (chars bytes) place start
    → Begun (chars bytes) new start
begun_there bytes xs new ys place start u v begins e outside = begun (chars bytes) new (chars xs) ys begins place (begun_place bytes xs new ys place u v begins e) start outside

pub begun_boundary : (bytes xs : List ℕ) (new ys : List ℕ) (place : ℕ) → IsUtf8 bytes → IsUtf8 xs → BeginsApart (chars bytes) new (chars xs) ys → place ≡ length bytes - length xs → IsCharBoundary bytes place
begun_boundary bytes xs new ys place u v begins e =
    subst (IsCharBoundary bytes) (sym (begun_place bytes xs new ys place u v begins e)) (boundary_behind bytes begins.0 (chars xs) u begins.1)

-- what is after the place where both texts have the same characters before it
pub behind_front : (bytes tail front xs : List ℕ) (start : ℕ) → IsUtf8 bytes → chars bytes ≡ front ++ xs → start ≡ byte_length front → tail ≡ drop start bytes → chars tail ≡ xs
behind_front bytes tail front xs start u e at from =
    let zero : 0 + byte_length front ≡ start = omega (arith, at) in
    ap chars from ∙ subst (λ k. rest bytes k ≡ xs) zero (rest_past bytes front xs 0 u (IsCharBoundary-start bytes u) e).0

pub front_boundary : (bytes front xs : List ℕ) (start : ℕ) → IsUtf8 bytes → chars bytes ≡ front ++ xs → start ≡ byte_length front → IsCharBoundary bytes start
front_boundary bytes front xs start u e at = subst (IsCharBoundary bytes) (sym at) (boundary_behind bytes front xs u e)

-- the whole of it, by the bytes: o and n are the texts, s and t what is in them after the start, and was and now what is left of these before the common end
module _ (o n s t was now : List ℕ) (start : ℕ) (uo : IsUtf8 o) (un : IsUtf8 n) (uw : IsUtf8 was) (b : Begun (chars o) (chars n) start) (from : s ≡ drop start o) (to : t ≡ drop start n)
    (ends : EndsApart (chars s) (chars t) (chars was) (chars now)) where
  apart : EndsApart b.xs b.ys (chars was) (chars now)
  apart =
      subst (λ l. EndsApart l b.ys (chars was) (chars now)) (behind_front o s b.front b.xs start uo b.before b.at from)
      (subst (λ l. EndsApart (chars s) l (chars was) (chars now)) (behind_front n t b.front b.ys start un b.after b.at to) ends)

  pub end_boundary : IsCharBoundary o (start + length was)
  end_boundary =
      front_boundary o (b.front ++ chars was) apart.0 (start + length was) uo (b.before ∙ ap (λ l. b.front ++ l) apart.1 ∙ sym (append_assoc b.front (chars was) apart.0))
      (omega (arith, b.at, size_of was uw, byte_length-append b.front (chars was)))

  module _ (end : ℕ) (outside : EndsOutside (chars o) (start + length was) end) where
    it : Ended (chars o) (chars n) start b (chars was) (chars now) apart (start + length was) (ap (λ k. start + k) (sym (size_of was uw))) end
    it = ended (chars o) (chars n) start b (chars was) (chars now) apart (start + length was) (ap (λ k. start + k) (sym (size_of was uw))) end outside

    news : length n ≡ byte_length b.front + (byte_length it.mid + byte_length it.back)
    news = sym (size_of n un) ∙ ap byte_length it.after ∙ byte_length-append b.front (it.mid ++ it.back) ∙ ap (λ k. byte_length b.front + k) (byte_length-append it.mid it.back)

    pub kept_within : end ≤ length o
    kept_within = omega (arith, it.size, size_of o uo)

    pub kept_in_new : length o - end ≤ length n
    kept_in_new = omega (arith, it.size, size_of o uo, news)

    ends_at : length n - (length o - end) ≡ byte_length (b.front ++ it.mid)
    ends_at = omega (arith, it.size, size_of o uo, news, byte_length-append b.front it.mid)

    new_text : Spans n start (length n - (length o - end)) × (chars (slice_range n start (length n - (length o - end))) ≡ it.mid)
    new_text = middle n b.front it.mid it.back start (length n - (length o - end)) un it.after b.at ends_at

    pub new_spans : Spans n start (length n - (length o - end))
    new_spans = new_text.0

    pub least_there : (text : List ℕ) → text ≡ slice_range n start (length n - (length o - end)) → IsLeastOutside (chars o) (chars n) start end (chars text)
    least_there text e = subst (λ l. IsLeastOutside (chars o) (chars n) start end l) (sym (ap chars e ∙ new_text.1)) it.least

    pub spans_there : Spans o start end
    spans_there = spanned o (chars n) start end it.mid uo it.least.outside.change
