-- Lines and columns: a walk over a text, the place of a line and a column, and the line and column of a place.
use Rattle.std.proofs.Common.{◌≡◌, ◌∙◌, refl, sym, ap, subst, arith, ℕ, ◌+◌, ◌-◌, ◌<◌, ◌≤◌, List, [], ◌∷◌, ◌++◌, length, drop, chars, slice_range, IsUtf8, IsCharBoundary, Bool, true, false, cond, ◌&&◌, ◌||◌, ◌==◌, ◌⊎◌, inl, inr, Option, None, Some, IfSome, IfNone}
use Rattle.std.proofs.lemmas.Bool.{cases_lt, lt-ltb, le-ltb, ne_eqb}
use Rattle.std.proofs.lemmas.List.{append-nil, same_from_push, append_assoc, length-drop}
use Rattle.std.proofs.lemmas.Str.{len_utf8_bounds, IsCharBoundary-start}
use Rattle.std.specs.Char.{len_utf8}
use Rattle.jsonc_text.specs.Text.{byte_length, next, no, rest, Spans}
use Rattle.jsonc_text.specs.Places.{ends_line, walked, LineColumn}
use Rattle.jsonc_text.specs.declared.line.LineAndColumn.{LineAndColumn}
use Rattle.jsonc_text.proofs.Cuts.{byte_length-append, byte_length-one, chars_between, rest_past}
use Rattle.jsonc_parser.specs.declared.places.ColumnUnit.{ColumnUnit}
use Rattle.jsonc_parser.specs.declared.places.ColumnUnit.TheVariants.{Character, Utf16}
use Rattle.jsonc_parser.specs.Places.{past, walked_by, LineColumnBy, utf16_units, units}
use Rattle.jsonc_parser.proofs.Changes.{Back, Later, back_of, boundary_behind, later, size_of}

-- no character takes more units of a column than bytes
abbrev pub IsNarrow : (ℕ → ℕ) → Type 0
IsNarrow w = (c : ℕ) → w c ≤ len_utf8 c

-- a character takes two UTF-16 code units above U+FFFF, and one otherwise
pub one_unit : (c : ℕ) → c < 0x1_0000 → utf16_units c ≡ 1
one_unit c h = rw (lt-ltb c 0x1_0000 h) refl

-- neither an LF nor a CR is a character after them
no_end_there : (c : ℕ) (r : List ℕ) → 0x20 ≤ c → ends_line c r ≡ false
no_end_there c r h =
    let lf : c == 0x0A ≡ false = ne_eqb c 0x0A (λ e. omega (arith, h, e)) in
    let cr : c == 0x0D ≡ false = ne_eqb c 0x0D (λ e. omega (arith, h, e)) in
    let lone = no (λ d. d == 0x0A) (next r) in
    ap (λ b. b || (c == 0x0D && lone)) lf ∙ ap (λ b. b && lone) cr

-- a plain character leads one column further, whatever a column counts
pub plain_past : (u : ColumnUnit) (h k c : ℕ) (r : List ℕ) → 0x20 ≤ c → c < 0x7F → (h, k + 1) ≡ past (units u) (h, k) c r
plain_past Character h k c r low high = ap (λ b. cond {A = ℕ × ℕ} b (h + 1, 1) (h, k + 1)) (sym (no_end_there c r low))
plain_past Utf16 h k c r low high =
    let one : utf16_units c ≡ 1 = one_unit c (omega (arith, high)) in
    ap (λ n. (h, k + n)) (sym one) ∙ ap (λ b. cond {A = ℕ × ℕ} b (h + 1, 1) (h, k + utf16_units c)) (sym (no_end_there c r low))

pub two_units : (c : ℕ) → 0x1_0000 ≤ c → utf16_units c ≡ 2
two_units c h = rw (le-ltb c 0x1_0000 h) refl

utf16_is_narrow : (c : ℕ) → (c < 0x1_0000) ⊎ (0x1_0000 ≤ c) → utf16_units c ≤ len_utf8 c
utf16_is_narrow c (inl h) = omega (arith, one_unit c h, (len_utf8_bounds c).0)
utf16_is_narrow c (inr h) =
    let past_one : 0x80 ≤ c = omega (arith, h) in
    let past_two : 0x800 ≤ c = omega (arith, h) in
    let four : len_utf8 c ≡ 4 = rw (le-ltb c 0x80 past_one, le-ltb c 0x800 past_two, le-ltb c 0x1_0000 h) refl in
    omega (arith, two_units c h, four)

pub narrow : (u : ColumnUnit) → IsNarrow (units u)
narrow Character c = (len_utf8_bounds c).0
narrow Utf16 c = utf16_is_narrow c (cases_lt c 0x1_0000)

-- a walk over some characters and then others is the two walks, one after the other
pub walked_append : (w : ℕ → ℕ) (p : ℕ × ℕ) (s v r : List ℕ) → walked_by w p (s ++ v) r ≡ walked_by w (walked_by w p s (v ++ r)) v r
walked_append w p [] v r = refl
walked_append w p (d ∷ s) v r = ap (λ t. walked_by w (past w p d t) (s ++ v) r) (append_assoc s v r) ∙ walked_append w (past w p d (s ++ (v ++ r))) s v r

-- where each character takes one unit, columns are counted in characters
of_cond : {A B : Type 0} (f : A → B) (b : Bool) (x y : A) → f (cond b x y) ≡ cond b (f x) (f y)
of_cond f true x y = refl
of_cond f false x y = refl

by_characters : (line column : ℕ) (s r : List ℕ) → walked_by (units Character) (line, column) s r ≡ walked line column s r
by_characters line column [] r = refl
by_characters line column (c ∷ s) r =
    of_cond (λ p. walked_by (units Character) p s r) (ends_line c (s ++ r)) (line + 1, 1) (line, column + 1)
    ∙ ap (λ t. cond (ends_line c (s ++ r)) t (walked_by (units Character) (line, column + 1) s r)) (by_characters (line + 1) 1 s r)
    ∙ ap (λ t. cond (ends_line c (s ++ r)) (walked (line + 1) 1 s r) t) (by_characters line (column + 1) s r)

pub in_characters : (t : List ℕ) (p line column : ℕ) → LineColumnBy (units Character) t p line column → LineColumn t p line column
in_characters t p line column x = record { before = x.before; after = x.after; split = x.split; at = x.at; position = x.position ∙ by_characters 1 1 x.before x.after }

pub of_characters : (t : List ℕ) (p line column : ℕ) → LineColumn t p line column → LineColumnBy (units Character) t p line column
of_characters t p line column x = record { before = x.before; after = x.after; split = x.split; at = x.at; position = x.position ∙ sym (by_characters 1 1 x.before x.after) }

pub found_in_characters : (t : List ℕ) (line column : ℕ) (r : Option ℕ) → IfSome r (λ p. LineColumnBy (units Character) t p line column) → IfSome r (λ p. LineColumn t p line column)
found_in_characters t line column None h = h
found_in_characters t line column (Some p) h = in_characters t p line column h

pub position_in_characters : (t : List ℕ) (p : ℕ) (r : Option LineAndColumn) → IfSome r (λ at. LineColumnBy (units Character) t p at.line at.column) → IfSome r (λ at. LineColumn t p at.line at.column)
position_in_characters t p None h = h
position_in_characters t p (Some at) h = in_characters t p at.line at.column h

pub none_in_characters : (t : List ℕ) (line column : ℕ) (r : Option ℕ) → IfNone r ((p : ℕ) → LineColumnBy (units Character) t p line column → ⊥) → IfNone r ((p : ℕ) → LineColumn t p line column → ⊥)
none_in_characters t line column None h = λ p x. h p (of_characters t p line column x)
none_in_characters t line column (Some p) h = h

-- a text begins in line 1, column 1
pub text_start : (w : ℕ → ℕ) (t : List ℕ) → LineColumnBy w t 0 1 1
text_start w t = record { before = []; after = t; split = refl; at = refl; position = refl }

-- a walk over a text has passed these characters, and is at this line and column
pub record Walked (w : ℕ → ℕ) (text rest : List ℕ) (line column : ℕ) : Type 0 where
  pub passed : List ℕ
  pub split : text ≡ passed ++ rest
  pub position : (line, column) ≡ walked_by w (1, 1) passed rest
  pub few : (line ≤ byte_length passed + 1) × (column ≤ byte_length passed + 1)

few_past : (b : Bool) (u size n h k : ℕ) → u ≤ size → 1 ≤ size → (h ≤ n + 1) × (k ≤ n + 1) → ((cond {A = ℕ × ℕ} b (h + 1, 1) (h, k + u)).0 ≤ n + size + 1) × ((cond {A = ℕ × ℕ} b (h + 1, 1) (h, k + u)).1 ≤ n + size + 1)
few_past true u size n h k least some few = (omega (arith, few.0), omega arith)
few_past false u size n h k least some few = (omega (arith, few.0), omega (arith, few.1))

-- lines and columns are no more than one and the bytes that were passed
few_by : (w : ℕ → ℕ) (n : ℕ) (p : ℕ × ℕ) (s r : List ℕ) → IsNarrow w → (p.0 ≤ n + 1) × (p.1 ≤ n + 1) → ((walked_by w p s r).0 ≤ n + byte_length s + 1) × ((walked_by w p s r).1 ≤ n + byte_length s + 1)
few_by w n p [] r least few = (omega (arith, few.0), omega (arith, few.1))
few_by w n p (c ∷ s) r least few =
    let size : byte_length (c ∷ s) ≡ len_utf8 c + byte_length s = byte_length-append (c ∷ []) s ∙ ap (λ k. k + byte_length s) (byte_length-one c) in
    let more = few_by w (n + len_utf8 c) (past w p c (s ++ r)) s r least (few_past (ends_line c (s ++ r)) (w c) (len_utf8 c) n p.0 p.1 (least c) (len_utf8_bounds c).0 few) in
    (omega (arith, size, more.0), omega (arith, size, more.1))

-- what is after a place whose line and column are known
pub behind_place : (w : ℕ → ℕ) (text : List ℕ) (p line column : ℕ) → IsUtf8 text → (x : LineColumnBy w (chars text) p line column) → rest text p ≡ x.after
behind_place w text p line column u x =
    let zero : 0 + byte_length x.before ≡ p = omega (arith, x.at) in
    subst (λ k. rest text k ≡ x.after) zero (rest_past text x.before x.after 0 u (IsCharBoundary-start text u) x.split).0

-- a place whose line and column are known is on a boundary
pub place_boundary : (w : ℕ → ℕ) (text : List ℕ) (p line column : ℕ) → IsUtf8 text → LineColumnBy w (chars text) p line column → IsCharBoundary text p
place_boundary w text p line column u x = subst (IsCharBoundary text) x.at (boundary_behind text x.before x.after u x.split)

-- a walk that begins there
pub walked_from : (w : ℕ → ℕ) (text : List ℕ) (p line column : ℕ) → IsNarrow w → IsUtf8 text → LineColumnBy w (chars text) p line column → Walked w (chars text) (rest text p) line column
walked_from w text p line column least u x =
    let behind = behind_place w text p line column u x in
    let few = few_by w 0 (1, 1) x.before x.after least (omega arith, omega arith) in
    record {
      passed = x.before;
      split = x.split ∙ ap (λ t. x.before ++ t) (sym behind);
      position = x.position ∙ ap (λ t. walked_by w (1, 1) x.before t) (sym behind);
      few = (omega (arith, few.0, ap (λ q. q.0) x.position), omega (arith, few.1, ap (λ q. q.1) x.position));
    }

-- one character further
pub walked_on : (w : ℕ → ℕ) (text rest : List ℕ) (c : ℕ) (r : List ℕ) (h k h' k' : ℕ) → IsNarrow w → Walked w text rest h k → rest ≡ c ∷ r → (h', k') ≡ past w (h, k) c r → Walked w text r h' k'
walked_on w text rest c r h k h' k' least walk e to =
    let size : byte_length (walk.passed ++ c ∷ []) ≡ byte_length walk.passed + len_utf8 c = byte_length-append walk.passed (c ∷ []) ∙ ap (λ n. byte_length walk.passed + n) (byte_length-one c) in
    let few = few_past (ends_line c r) (w c) (len_utf8 c) (byte_length walk.passed) h k (least c) (len_utf8_bounds c).0 walk.few in
    record {
      passed = walk.passed ++ c ∷ [];
      split = walk.split ∙ ap (λ t. walk.passed ++ t) e ∙ sym (append_assoc walk.passed (c ∷ []) r);
      position = to ∙ ap (λ q. past w q c r) (walk.position ∙ ap (λ t. walked_by w (1, 1) walk.passed t) e) ∙ sym (walked_append w (1, 1) walk.passed (c ∷ []) r);
      few = (omega (arith, ap (λ q. q.0) to, few.0, size), omega (arith, ap (λ q. q.1) to, few.1, size));
    }

-- the bytes of a text are those of what was passed, and of the rest
pub passed_size : (text rest passed : List ℕ) → IsUtf8 text → IsUtf8 rest → chars text ≡ passed ++ chars rest → length text ≡ byte_length passed + length rest
passed_size text rest passed u v e = sym (size_of text u) ∙ ap byte_length e ∙ byte_length-append passed (chars rest) ∙ ap (λ n. byte_length passed + n) (size_of rest v)

-- lines and columns are no more than the bytes
pub walked_fits : (w : ℕ → ℕ) (text rest : List ℕ) (h k : ℕ) → IsUtf8 text → IsUtf8 rest → Walked w (chars text) (chars rest) h k → (h ≤ length text + 1) × (k ≤ length text + 1)
walked_fits w text rest h k u v walk =
    let size = passed_size text rest walk.passed u v walk.split in
    (omega (arith, size, walk.few.0), omega (arith, size, walk.few.1))

-- the place that the walk is at
pub walked_place : (w : ℕ → ℕ) (text rest : List ℕ) (place h k : ℕ) → IsUtf8 text → IsUtf8 rest → place ≡ length text - length rest → Walked w (chars text) (chars rest) h k → LineColumnBy w (chars text) place h k
walked_place w text rest place h k u v e walk =
    record { before = walk.passed; after = chars rest; split = walk.split; at = omega (arith, e, passed_size text rest walk.passed u v walk.split); position = walk.position }

pub walked_boundary : (w : ℕ → ℕ) (text rest : List ℕ) (h k : ℕ) → IsUtf8 text → IsUtf8 rest → Walked w (chars text) (chars rest) h k → IsCharBoundary text (length text - length rest)
walked_boundary w text rest h k u v walk =
    let place : byte_length walk.passed ≡ length text - length rest = omega (arith, passed_size text rest walk.passed u v walk.split) in
    subst (IsCharBoundary text) place (boundary_behind text walk.passed (chars rest) u walk.split)

-- no beginning of what was passed ends in this line and column
abbrev pub NotYet : (ℕ → ℕ) → List ℕ → List ℕ → ℕ → ℕ → Type 0
NotYet w passed r line column = (b : List ℕ) (x : ℕ) (m : List ℕ) → passed ≡ b ++ x ∷ m → (line, column) ≡ walked_by w (1, 1) b (x ∷ (m ++ r)) → ⊥

-- a walk that has not met the one line and column, and is at the other
pub record HasWalked (w : ℕ → ℕ) (text rest : List ℕ) (line column here_line here_column : ℕ) : Type 0 where
  pub walk : Walked w text rest here_line here_column
  pub not_yet : NotYet w walk.passed rest line column

-- a walk begins at a place before which none is in that line and column
pub walk_begins : (w : ℕ → ℕ) (text : List ℕ) (p h k line column : ℕ) → IsNarrow w → IsUtf8 text → LineColumnBy w (chars text) p h k → ((q : ℕ) → LineColumnBy w (chars text) q line column → p ≤ q)
    → HasWalked w (chars text) (rest text p) line column h k
unfolding walked_from
walk_begins w text p h k line column least u x ahead = record {
  walk = walked_from w text p h k least u x;
  not_yet = λ b y m e g.
      (let behind = behind_place w text p h k u x in
      let split : chars text ≡ b ++ (y ∷ (m ++ rest text p)) = x.split ∙ ap (λ t. x.before ++ t) (sym behind) ∙ ap (λ t. t ++ rest text p) e ∙ append_assoc b (y ∷ m) (rest text p) in
      let there : LineColumnBy w (chars text) (byte_length b) line column = record { before = b; after = y ∷ (m ++ rest text p); split = split; at = refl; position = g } in
      let size : byte_length x.before ≡ byte_length b + (byte_length (y ∷ []) + byte_length m) = ap byte_length e ∙ byte_length-append b (y ∷ m) ∙ ap (λ n. byte_length b + n) (byte_length-append (y ∷ []) m) in
      omega (arith, ahead (byte_length b) there, x.at, size, byte_length-one y, (len_utf8_bounds y).0));
}

not_yet_after : (w : ℕ → ℕ) (passed : List ℕ) (c : ℕ) (r : List ℕ) (line column : ℕ) → NotYet w passed (c ∷ r) line column → ((line, column) ≡ walked_by w (1, 1) passed (c ∷ r) → ⊥)
    → (b : List ℕ) (x : ℕ) (m : List ℕ) → Back m → passed ++ c ∷ [] ≡ b ++ x ∷ m → (line, column) ≡ walked_by w (1, 1) b (x ∷ (m ++ r)) → ⊥
not_yet_after w passed c r line column before here b x m (Back.empty z) e p =
    let same = same_from_push passed b c x (e ∙ ap (λ t. b ++ x ∷ t) z) in
    here (p ∙ ap (λ t. walked_by w (1, 1) b (x ∷ (t ++ r))) z ∙ ap (λ t. walked_by w (1, 1) t (x ∷ r)) (sym same.0) ∙ ap (λ k. walked_by w (1, 1) passed (k ∷ r)) (sym same.1))
not_yet_after w passed c r line column before here b x m (Back.ends n d z) e p =
    let same = same_from_push passed (b ++ x ∷ n) c d (e ∙ ap (λ t. b ++ x ∷ t) z ∙ sym (append_assoc b (x ∷ n) (d ∷ []))) in
    before b x n same.0 (p ∙ ap (λ t. walked_by w (1, 1) b (x ∷ (t ++ r))) z ∙ ap (λ t. walked_by w (1, 1) b (x ∷ t)) (append_assoc n (d ∷ []) r) ∙ ap (λ k. walked_by w (1, 1) b (x ∷ (n ++ k ∷ r))) (sym same.1))

-- the walk is at another line and column
abbrev pub IsElsewhere : ℕ → ℕ → ℕ → ℕ → Type 0
IsElsewhere line column h k = (line ≡ h) × (column ≡ k) → ⊥

not_here : (w : ℕ → ℕ) (text rest : List ℕ) (line column h k : ℕ) (walk : Walked w text rest h k) → IsElsewhere line column h k → (line, column) ≡ walked_by w (1, 1) walk.passed rest → ⊥
not_here w text rest line column h k walk other e = let same : (line, column) ≡ (h, k) = e ∙ sym walk.position in other (ap (λ q. q.0) same, ap (λ q. q.1) same)

-- one character further
pub walk_goes_on : (w : ℕ → ℕ) (text rest : List ℕ) (c : ℕ) (r : List ℕ) (line column h k h' k' : ℕ) → IsNarrow w → HasWalked w text rest line column h k → rest ≡ c ∷ r
    → IsElsewhere line column h k → (h', k') ≡ past w (h, k) c r → HasWalked w text r line column h' k'
unfolding walked_on
walk_goes_on w text rest c r line column h k h' k' least x e other to = record {
  walk = walked_on w text rest c r h k h' k' least x.walk e to;
  not_yet = λ b y m g p. not_yet_after w x.walk.passed c r line column (subst (λ t. NotYet w x.walk.passed t line column) e x.not_yet) (λ q. not_here w text rest line column h k x.walk other (q ∙ ap (λ t. walked_by w (1, 1) x.walk.passed t) (sym e))) b y m (back_of m) g p;
}

-- at the end of the text no place is in that line and column
pub walk_ends : (w : ℕ → ℕ) (text rest : List ℕ) (line column h k : ℕ) → HasWalked w text rest line column h k → rest ≡ [] → IsElsewhere line column h k → (p : ℕ) → LineColumnBy w text p line column → ⊥
walk_ends w text rest line column h k x e other p at = by at.before at.after (sym at.split ∙ x.walk.split ∙ ap (λ t. x.walk.passed ++ t) e ∙ append-nil x.walk.passed) at.position
  where
    by : (b a : List ℕ) → b ++ a ≡ x.walk.passed → (line, column) ≡ walked_by w (1, 1) b a → ⊥
    by b [] g q = not_here w text rest line column h k x.walk other (q ∙ ap (λ t. walked_by w (1, 1) t []) (sym (append-nil b) ∙ g) ∙ ap (λ t. walked_by w (1, 1) x.walk.passed t) (sym e))
    by b (y ∷ m) g q = x.not_yet b y m (sym g) (q ∙ ap (λ t. walked_by w (1, 1) b (y ∷ t)) (sym (append-nil m) ∙ ap (λ t. m ++ t) (sym e)))

-- a walk that is at a line and column, and has these characters ahead before the last ones
pub record WalksTo (w : ℕ → ℕ) (text rest last : List ℕ) (line column : ℕ) : Type 0 where
  pub walk : Walked w text rest line column
  pub ahead : List ℕ
  pub still : rest ≡ ahead ++ last

pub walks_to_start : (w : ℕ → ℕ) (text : List ℕ) (from place h k : ℕ) → IsNarrow w → IsUtf8 text → Spans text from place → LineColumnBy w (chars text) from h k → WalksTo w (chars text) (rest text from) (rest text place) h k
walks_to_start w text from place h k least u spans x = record {
  walk = walked_from w text from h k least u x;
  ahead = chars (slice_range text from place);
  still = chars_between text from place u spans;
}

still_past : (ahead last rest : List ℕ) (c : ℕ) (r : List ℕ) → rest ≡ ahead ++ last → rest ≡ c ∷ r → byte_length last < byte_length rest → (m : List ℕ) × (r ≡ m ++ last)
still_past [] last rest c r e f more = absurd (omega (arith, ap byte_length e))
still_past (x ∷ m) last rest c r e f more = (m, cc)

-- one character further, before the last ones
pub walks_to_on : (w : ℕ → ℕ) (text rest last : List ℕ) (c : ℕ) (r : List ℕ) (h k h' k' : ℕ) → IsNarrow w → WalksTo w text rest last h k → rest ≡ c ∷ r → byte_length last < byte_length rest
    → (h', k') ≡ past w (h, k) c r → WalksTo w text r last h' k'
walks_to_on w text rest last c r h k h' k' least x e more to =
    let behind = still_past x.ahead last rest c r x.still e more in
    record { walk = walked_on w text rest c r h k h' k' least x.walk e to; ahead = behind.0; still = behind.1 }

-- the walk is at the place once no more than the last ones is left
pub walks_to_end : (w : ℕ → ℕ) (text left : List ℕ) (place h k : ℕ) → IsUtf8 text → IsUtf8 left → IsCharBoundary text place → IsUtf8 (drop place text) → WalksTo w (chars text) (chars left) (rest text place) h k → length left ≤ length (drop place text)
    → LineColumnBy w (chars text) place h k
walks_to_end w text left place h k u v b d x few =
    let ahead : byte_length (chars left) ≡ byte_length x.ahead + byte_length (rest text place) = ap byte_length x.still ∙ byte_length-append x.ahead (rest text place) in
    walked_place w text left place h k u v (omega (arith, ahead, few, size_of left v, size_of (drop place text) d, length-drop place text, b.0)) x.walk

-- a walk leads to no line before the one where it begins
past_rises : (w : ℕ → ℕ) (p : ℕ × ℕ) (c : ℕ) (b : Bool) → p.0 ≤ (cond {A = ℕ × ℕ} b (p.0 + 1, 1) (p.0, p.1 + w c)).0
past_rises w p c true = omega arith
past_rises w p c false = omega arith

pub lines_rise : (w : ℕ → ℕ) (p : ℕ × ℕ) (s r : List ℕ) → p.0 ≤ (walked_by w p s r).0
lines_rise w p [] r = omega arith
lines_rise w p (c ∷ s) r = omega (arith, past_rises w p c (ends_line c (s ++ r)), lines_rise w (past w p c (s ++ r)) s r)

-- once the walk is past the line, no place in it and that column is left
pub walk_leaves : (w : ℕ → ℕ) (text rest : List ℕ) (line column h k : ℕ) → HasWalked w text rest line column h k → line < h → (p : ℕ) → LineColumnBy w text p line column → ⊥
walk_leaves w text rest line column h k x more p at = by (later at.before at.after x.walk.passed rest (sym at.split ∙ x.walk.split))
  where
    here : (b a : List ℕ) → b ≡ x.walk.passed → a ≡ rest → (line, column) ≡ walked_by w (1, 1) b a → ⊥
    here b a e f g =
        let same : (line, column) ≡ (h, k) = g ∙ ap (λ t. walked_by w (1, 1) t a) e ∙ ap (λ t. walked_by w (1, 1) x.walk.passed t) f ∙ sym x.walk.position in
        omega (arith, more, ap (λ q. q.0) same)

    behind : (g : List ℕ) → x.walk.passed ≡ at.before ++ g → at.after ≡ g ++ rest → ⊥
    behind [] e f = here at.before at.after (sym (append-nil at.before) ∙ sym e) f at.position
    behind (y ∷ m) e f = x.not_yet at.before y m e (at.position ∙ ap (λ t. walked_by w (1, 1) at.before t) f)

    by : Later at.before at.after x.walk.passed rest → ⊥
    by (Later.second_later g e f) = behind g e f
    by (Later.first_later g e f) =
        let on : (line, column) ≡ walked_by w (h, k) g at.after =
        at.position ∙ ap (λ t. walked_by w (1, 1) t at.after) e ∙ walked_append w (1, 1) x.walk.passed g at.after ∙ ap (λ t. walked_by w (walked_by w (1, 1) x.walk.passed t) g at.after) (sym f) ∙ ap (λ q. walked_by w q g at.after) (sym x.walk.position) in
        omega (arith, more, lines_rise w (h, k) g at.after, ap (λ q. q.0) on)
