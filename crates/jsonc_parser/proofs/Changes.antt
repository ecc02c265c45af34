-- Beginnings and ends that two lists have in common, and the smallest change between them.
use Rattle.std.proofs.Common.{◌≡◌, ◌∙◌, refl, sym, ap, subst, arith, ℕ, ◌+◌, ◌-◌, ◌≤◌, List, [], ◌∷◌, ◌++◌, length, chars, IsUtf8, encode_utf8_all, IsCharBoundary}
use Rattle.std.specs.Char.{encode_utf8}
use Rattle.std.proofs.lemmas.List.{append_cancel_left, append_cancel_right, append-nil, same_from_push, append_assoc}
use Rattle.std.proofs.lemmas.Str.{chars-append, chars-nil, chars_past_char, encodes-chars, IsUtf8-past_char, IsCharBoundary-start}
use Rattle.jsonc_text.specs.Text.{byte_length, Spans}
use Rattle.jsonc_text.proofs.Cuts.{byte_length-append, rest_past}
use Rattle.jsonc_parser.specs.Changes.{Replaces, IsChange, IsLeastChange, BeginsApart, EndsApart, HaveNoFirst, HaveNoLast}

-- what follows some characters in a text is one
utf8_behind : (xs bs t : List ℕ) → IsUtf8 bs → bs ≡ encode_utf8_all xs ++ t → IsUtf8 t
utf8_behind [] bs t u e = subst IsUtf8 e u
utf8_behind (x ∷ xs) bs t u e =
    let parts : bs ≡ encode_utf8 x ++ (encode_utf8_all xs ++ t) = e ∙ append_assoc (encode_utf8 x) (encode_utf8_all xs) t in
    utf8_behind xs (encode_utf8_all xs ++ t) t (IsUtf8-past_char bs (encode_utf8_all xs ++ t) x u parts) refl

-- the characters of a text before its last one
pub chars_before_char : (bs r : List ℕ) (c : ℕ) → IsUtf8 bs → IsUtf8 r → bs ≡ r ++ encode_utf8 c → chars bs ≡ chars r ++ c ∷ []
chars_before_char bs r c u v e =
    let last = utf8_behind (chars r) bs (encode_utf8 c) u (e ∙ ap (λ t. t ++ encode_utf8 c) (sym (encodes-chars r v))) in
    ap chars e ∙ chars-append r (encode_utf8 c) v ∙ ap (λ t. chars r ++ t) (chars_past_char (encode_utf8 c) [] c last (sym (append-nil (encode_utf8 c))) ∙ ap (λ t. c ∷ t) chars-nil)

-- a text of no bytes has no characters
pub no_chars : (bs : List ℕ) → length bs ≡ 0 → chars bs ≡ []
no_chars [] e = chars-nil
no_chars (b ∷ bs) e = cc

-- a step from the front, and one from the back
pub front_step : (old front bs r : List ℕ) (c : ℕ) → IsUtf8 bs → old ≡ front ++ chars bs → bs ≡ encode_utf8 c ++ r → old ≡ (front ++ c ∷ []) ++ chars r
front_step old front bs r c u e f = e ∙ ap (λ t. front ++ t) (chars_past_char bs r c u f) ∙ sym (append_assoc front (c ∷ []) (chars r))

pub back_step : (old back bs r : List ℕ) (c : ℕ) → IsUtf8 bs → IsUtf8 r → old ≡ chars bs ++ back → bs ≡ r ++ encode_utf8 c → old ≡ chars r ++ (c ∷ back)
back_step old back bs r c u v e f = e ∙ ap (λ t. t ++ back) (chars_before_char bs r c u v f) ∙ append_assoc (chars r) (c ∷ []) back

-- an empty list has no last element
empty_has_none : (a : List ℕ) (c : ℕ) → [] ≡ a ++ c ∷ [] → ⊥
empty_has_none [] c e = cc
empty_has_none (d ∷ a) c e = cc

-- nothing is last in an empty list, and so no character is last in both
pub none_last : (xs ys : List ℕ) → xs ≡ [] → HaveNoLast xs ys
none_last xs ys e c a b p q = empty_has_none a c (sym e ∙ p)

pub last_none : (xs ys : List ℕ) → ys ≡ [] → HaveNoLast xs ys
last_none xs ys e c a b p q = empty_has_none b c (sym e ∙ q)

-- other characters are last
pub others_last : (xs ys r t : List ℕ) (x y : ℕ) → xs ≡ r ++ x ∷ [] → ys ≡ t ++ y ∷ [] → (y ≡ x → ⊥) → HaveNoLast xs ys
others_last xs ys r t x y p q other c a b e f =
    let left = same_from_push r a x c (sym p ∙ e) in
    let right = same_from_push t b y c (sym q ∙ f) in
    other (right.1 ∙ sym left.1)

-- a list is empty, or has a last element
pub data Back (xs : List ℕ) : Type 0 where
  empty : xs ≡ [] → Back xs
  ends : (a : List ℕ) (c : ℕ) → xs ≡ a ++ c ∷ [] → Back xs

back_behind : (x : ℕ) (xs : List ℕ) → Back xs → Back (x ∷ xs)
back_behind x xs (Back.empty e) = Back.ends [] x (ap (λ t. x ∷ t) e)
back_behind x xs (Back.ends a c e) = Back.ends (x ∷ a) c (ap (λ t. x ∷ t) e)

pub back_of : (xs : List ℕ) → Back xs
back_of [] = Back.empty refl
back_of (x ∷ xs) = back_behind x xs (back_of xs)

-- of two ways to cut a list one cuts it later
pub data Later (a b c d : List ℕ) : Type 0 where
  first_later : (h : List ℕ) → a ≡ c ++ h → d ≡ h ++ b → Later a b c d
  second_later : (h : List ℕ) → c ≡ a ++ h → b ≡ h ++ d → Later a b c d

later_behind : (x y : ℕ) (a b c d : List ℕ) → x ≡ y → Later a b c d → Later (x ∷ a) b (y ∷ c) d
later_behind x y a b c d s (Later.first_later h p q) = Later.first_later h (cc) q
later_behind x y a b c d s (Later.second_later h p q) = Later.second_later h (cc) q

pub later : (a b c d : List ℕ) → a ++ b ≡ c ++ d → Later a b c d
later [] b c d e = Later.second_later c refl e
later (x ∷ a) b [] d e = Later.first_later (x ∷ a) refl (sym e)
later (x ∷ a) b (y ∷ c) d e = later_behind x y a b c d (cc) (later a b c d (cc))

-- what both texts begin with is a beginning of the longest such
pub in_front : (front xs ys f p q : List ℕ) → front ++ xs ≡ f ++ p → front ++ ys ≡ f ++ q → HaveNoFirst xs ys → (g : List ℕ) × (front ≡ f ++ g)
in_front front xs ys [] p q e h apart = (front, refl)
in_front [] xs ys (c ∷ f) p q e h apart = absurd (apart c (f ++ p) (f ++ q) e h)
in_front (d ∷ front) xs ys (c ∷ f) p q e h apart =
    let inner = in_front front xs ys f p q (cc) (cc) apart in
    (inner.0, cc)

-- What was replaced is no longer than w, where the one list ends with h after w, and the other with h after n.
no_later : (g was now w n h : List ℕ) → g ++ was ≡ w ++ h → g ++ now ≡ n ++ h → HaveNoLast was now → Back was → Back now → Back h → byte_length was ≤ byte_length w
no_later g was now w n h e f apart (Back.empty z) o k = rw (z) omega (arith)
no_later g was now w n h e f apart x (Back.empty z) k =
    let seen : byte_length g ≡ byte_length n + byte_length h = ap byte_length (sym (append-nil g) ∙ ap (λ t. g ++ t) (sym z) ∙ f) ∙ byte_length-append n h in
    let sizes : byte_length g + byte_length was ≡ byte_length w + byte_length h = sym (byte_length-append g was) ∙ ap byte_length e ∙ byte_length-append w h in
    omega (arith, seen, sizes)
no_later g was now w n h e f apart x y (Back.empty z) =
    let sizes : byte_length g + byte_length was ≡ byte_length w = sym (byte_length-append g was) ∙ ap byte_length (e ∙ ap (λ t. w ++ t) z ∙ append-nil w) in
    omega (arith, sizes)
no_later g was now w n h e f apart (Back.ends a c p) (Back.ends b d q) (Back.ends k l r) =
    let left = same_from_push (g ++ a) (w ++ k) c l (append_assoc g a (c ∷ []) ∙ ap (λ t. g ++ t) (sym p) ∙ e ∙ ap (λ t. w ++ t) r ∙ sym (append_assoc w k (l ∷ []))) in
    let right = same_from_push (g ++ b) (n ++ k) d l (append_assoc g b (d ∷ []) ∙ ap (λ t. g ++ t) (sym q) ∙ f ∙ ap (λ t. n ++ t) r ∙ sym (append_assoc n k (l ∷ []))) in
    absurd (apart l a b (p ∙ ap (λ t. a ++ t ∷ []) left.1) (q ∙ ap (λ t. b ++ t ∷ []) right.1))

-- the same of any change after g
pub no_longer : (g was now back w n b : List ℕ) → g ++ (was ++ back) ≡ w ++ b → g ++ (now ++ back) ≡ n ++ b → HaveNoLast was now
    → Later (g ++ was) back w b → byte_length was ≤ byte_length w
no_longer g was now back w n b e f apart (Later.second_later h p q) =
    let sizes : byte_length w ≡ byte_length (g ++ was) + byte_length h = ap byte_length p ∙ byte_length-append (g ++ was) h in
    omega (arith, sizes, byte_length-append g was)
no_longer g was now back w n b e f apart (Later.first_later h p q) =
    let behind : g ++ now ≡ n ++ h = append_cancel_right (g ++ now) (n ++ h) back (append_assoc g now back ∙ f ∙ ap (λ t. n ++ t) q ∙ sym (append_assoc n h back)) in
    no_later g was now w n h p behind apart (back_of was) (back_of now) (back_of h)

-- the bytes of a text are those of its characters
pub size_of : (bs : List ℕ) → IsUtf8 bs → byte_length (chars bs) ≡ length bs
size_of bs u = ap length (encodes-chars bs u)

-- after a beginning there is no more than in all
pub no_more : (old xs : List ℕ) (new ys : List ℕ) → IsUtf8 old → IsUtf8 xs → BeginsApart (chars old) new (chars xs) ys → length xs ≤ length old
no_more old xs new ys u v begins =
    let sizes : byte_length (chars old) ≡ byte_length begins.0 + byte_length (chars xs) = ap byte_length begins.1 ∙ byte_length-append begins.0 (chars xs) in
    omega (arith, sizes, size_of old u, size_of xs v)

-- the change between two texts, once what they begin and end with has been passed
module _ (old new xs ys was now : List ℕ) (begins : BeginsApart old new xs ys) (ends : EndsApart xs ys was now) (start : ℕ) (at : start + byte_length xs ≡ byte_length old) where
  starts : start ≡ byte_length begins.0
  starts =
      let sizes : byte_length old ≡ byte_length begins.0 + byte_length xs = ap byte_length begins.1 ∙ byte_length-append begins.0 xs in
      omega (arith, at, sizes)

  stops : start + byte_length was ≡ byte_length (begins.0 ++ was)
  stops = ap (λ n. n + byte_length was) starts ∙ sym (byte_length-append begins.0 was)

  replaces : Replaces old new begins.0 was now ends.0
  replaces = record { before = begins.1 ∙ ap (λ t. begins.0 ++ t) ends.1; after = begins.2 ∙ ap (λ t. begins.0 ++ t) ends.2 }

  least : (s e : ℕ) (n : List ℕ) → IsChange old new s e n → (s ≤ start) × (start + byte_length was - start ≤ e - s)
  least s e n (f, w, b, r, from, to) =
      let inner = in_front begins.0 xs ys f (w ++ b) (n ++ b) (sym begins.1 ∙ r.before) (sym begins.2 ∙ r.after) begins.3 in
      let g = inner.0 in
      let rest_old : g ++ (was ++ ends.0) ≡ w ++ b =
      append_cancel_left f (g ++ (was ++ ends.0)) (w ++ b) (sym (append_assoc f g (was ++ ends.0)) ∙ ap (λ t. t ++ (was ++ ends.0)) (sym inner.1) ∙ sym replaces.before ∙ r.before) in
      let rest_new : g ++ (now ++ ends.0) ≡ n ++ b =
      append_cancel_left f (g ++ (now ++ ends.0)) (n ++ b) (sym (append_assoc f g (now ++ ends.0)) ∙ ap (λ t. t ++ (now ++ ends.0)) (sym inner.1) ∙ sym replaces.after ∙ r.after) in
      let longer = no_longer g was now ends.0 w n b rest_old rest_new ends.3 (later (g ++ was) ends.0 w b (append_assoc g was ends.0 ∙ rest_old)) in
      let front_size : byte_length begins.0 ≡ byte_length f + byte_length g = ap byte_length inner.1 ∙ byte_length-append f g in
      (omega (arith, starts, from, front_size), omega (arith, from, to, longer, byte_length-append f w))

  pub least_change : (end : ℕ) → end ≡ start + byte_length was → IsLeastChange old new start end now
  least_change end to = subst (λ k. IsLeastChange old new start k now) (sym to) (record { change = (begins.0, was, ends.0, replaces, starts, stops); least = least })

-- the place after some characters at the front of a text is on a boundary
pub boundary_behind : (bytes front r : List ℕ) → IsUtf8 bytes → chars bytes ≡ front ++ r → IsCharBoundary bytes (byte_length front)
boundary_behind bytes front r u e = let zero : 0 + byte_length front ≡ byte_length front = omega (arith) in subst (IsCharBoundary bytes) zero (rest_past bytes front r 0 u (IsCharBoundary-start bytes u) e).1

-- a change replaces whole characters
pub spanned : (bytes new : List ℕ) (start end : ℕ) (now : List ℕ) → IsUtf8 bytes → IsChange (chars bytes) new start end now → Spans bytes start end
spanned bytes new start end now u (front, was, back, r, from, to) = record {
  from = subst (IsCharBoundary bytes) (sym from) (boundary_behind bytes front (was ++ back) u r.before);
  to = subst (IsCharBoundary bytes) (sym to) (boundary_behind bytes (front ++ was) back u (r.before ∙ sym (append_assoc front was back)));
  order = omega (arith, from, to, byte_length-append front was);
}
