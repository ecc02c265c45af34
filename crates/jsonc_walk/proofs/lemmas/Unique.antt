-- One step leads on from a place, or one fault is told there.
use Rattle.std.proofs.Common.{ℕ, ◌≡◌, ◌∙◌, sym, ap, refl, Bool, true, false, cond, not, ◌==◌, List, [], ◌∷◌, Some, None, IsTrue, inl, inr}
use Rattle.jsonc_text.specs.declared.errors.ParseErrorKind.{ParseErrorKind}
use Rattle.jsonc_text.specs.Gaps.{Gap, IsComment, is_blank}
use Rattle.jsonc_text.specs.Text.{next, starts}
use Rattle.jsonc_text.specs.Grammar.{literal_value, may_name}
use Rattle.jsonc_text.specs.Lexemes.{LexemeKind, Lexeme, lexeme, punctuation, string}
use Rattle.jsonc_text.specs.Options.{Options}
use Rattle.jsonc_text.specs.Plain.{Plain}
use Rattle.jsonc_text.proofs.LexemesAlone.{some_text}
use Rattle.jsonc_text.proofs.UniqueGaps.{comment_unique, comment_begins}
use Rattle.jsonc_text.proofs.UniqueLexemes.{lexeme_unique}
use Rattle.jsonc_scan.specs.Faults.{LexemeFault}
use Rattle.jsonc_scan.proofs.OneFault.{one_fault as one_lexeme_fault}
use Rattle.jsonc_walk.specs.declared.container.Container.{Container}
use Rattle.jsonc_walk.specs.declared.container.Container.TheVariants.{Array, Object}
use Rattle.jsonc_walk.specs.Containers.{closing}
use Rattle.jsonc_walk.specs.Scanned.{begins_value}
use Rattle.jsonc_walk.specs.Reached.{Opened, container, property, Due, document, end, first, further, comma, colon, value, Place, at, ItemMayCome, first_item, further_item, without_comma, ValueMayCome, of_text, of_array, of_property, CloseMayCome, empty, after_item, after_comma, Step, takes_literal, opens, closes, takes_comma, takes_name, takes_colon, after_value, is_deep}
use Rattle.jsonc_walk.specs.Faults.{Fault, fault, is_mark, wrong, wrong_value, wrong_name, wrong_item, Stops, no_lexeme, wrong_lexeme, wrong_ending}
use Rattle.jsonc_walk.proofs.lemmas.EndsOfGaps.{gap_end, lexeme_ends, end_ends, comment_ends, tells_ends, tells_first, tells_no_lexeme, tells_no_comment, comment_no_lexeme}
use Rattle.jsonc_walk.proofs.lemmas.ReadLexemes.{closing_mark}

-- the place after a lexeme that may stand there
pub past_value : LexemeKind → List Opened → List ℕ → List ℕ → Place
past_value (punctuation c) q u r = cond (c == 0x5B) (at (container Array u ∷ q) (first Array) r) (at (container Object u ∷ q) (first Object) r)
past_value _ q u r = after_value q r

pub past_item : Container → LexemeKind → List Opened → List ℕ → List ℕ → Place
past_item Array l q u r = past_value l q u r
past_item Object l q u r = at (property u ∷ q) colon r

pub past_close : List Opened → List ℕ → Place
past_close [] r = at [] end r
past_close (x ∷ q) r = after_value q r

abbrev pub past : Due → LexemeKind → List Opened → List ℕ → List ℕ → Place
past document l q u r = past_value l q u r
past end l q u r = at q end r
past (first k) l q u r = cond (is_mark (closing k) l) (past_close q r) (past_item k l q u r)
past (further k c) l q u r = cond (is_mark (closing k) l) (past_close q r) (past_item k l q u r)
past (comma k e) l q u r = cond (is_mark (closing k) l) (past_close q r) (cond (is_mark 0x2C l) (at q (further k u) r) (past_item k l q u r))
past colon l q u r = at q value r
past value l q u r = past_value l q u r

-- one lexeme that may stand there, and the place after it
pub data Canon (o : Options) (whole : Bool) : Place → Place → Type 0 where
  canon : {q : List Opened} {d : Due} {t u : List ℕ} {p : Place} (l : LexemeKind) (r : List ℕ) → Gap o t u → Lexeme o l u r → wrong o whole q d l u r ≡ None → p ≡ past d l q u r → Canon o whole (at q d t) p

literal_no_mark : (c : ℕ) (l : LexemeKind) {v : Plain} → literal_value l ≡ Some v → is_mark c l ≡ false
literal_no_mark c (LexemeKind.string s) e = refl
literal_no_mark c (LexemeKind.number s) e = refl
literal_no_mark c (LexemeKind.word s) e = refl
literal_no_mark c (LexemeKind.keyword s) e = refl
literal_no_mark c (LexemeKind.punctuation d) e = cc

literal_begins : (l : LexemeKind) {v : Plain} → literal_value l ≡ Some v → begins_value (lexeme l) ≡ true
literal_begins (LexemeKind.string s) e = refl
literal_begins (LexemeKind.number s) e = refl
literal_begins (LexemeKind.word s) e = cc
literal_begins (LexemeKind.keyword s) e = refl
literal_begins (LexemeKind.punctuation d) e = cc

literal_past : (l : LexemeKind) {v : Plain} (q : List Opened) (u r : List ℕ) → literal_value l ≡ Some v → past_value l q u r ≡ after_value q r
unfolding past_value
literal_past (LexemeKind.string s) q u r e = refl
literal_past (LexemeKind.number s) q u r e = refl
literal_past (LexemeKind.word s) q u r e = refl
literal_past (LexemeKind.keyword s) q u r e = refl
literal_past (LexemeKind.punctuation d) q u r e = cc

name_no_mark : (c : ℕ) (l : LexemeKind) → IsTrue (may_name l) → is_mark c l ≡ false
name_no_mark c (LexemeKind.string s) e = refl
name_no_mark c (LexemeKind.number s) e = refl
name_no_mark c (LexemeKind.word s) e = refl
name_no_mark c (LexemeKind.keyword s) e = refl
name_no_mark c (LexemeKind.punctuation d) e = cc

name_right : (o : Options) (l : LexemeKind) (u r : List ℕ) → IsTrue o.loose_names → IsTrue (may_name l) → wrong_name o l u r ≡ None
name_right o (LexemeKind.string s) u r f e = refl
name_right o (LexemeKind.number s) u r f e = rw f refl
name_right o (LexemeKind.word s) u r f e = rw f refl
name_right o (LexemeKind.keyword s) u r f e = rw f refl
name_right o (LexemeKind.punctuation d) u r f e = cc

module _ (o : Options) (whole : Bool) (q : List Opened) (l : LexemeKind) (u r : List ℕ) where
  item_wrong : (k : Container) {d : Due} → ItemMayCome o k d → is_mark (closing k) l ≡ false → is_mark 0x2C l ≡ false → wrong o whole q d l u r ≡ wrong_item o whole k q l u r
  item_wrong k first_item a b = rw a refl
  item_wrong k further_item a b = rw a refl
  item_wrong k (without_comma f) a b = rw (a, b, f) refl

  item_past : (k : Container) {d : Due} → ItemMayCome o k d → is_mark (closing k) l ≡ false → is_mark 0x2C l ≡ false → past d l q u r ≡ past_item k l q u r
  item_past k first_item a b = rw a refl
  item_past k further_item a b = rw a refl
  item_past k (without_comma f) a b = rw (a, b) refl

  value_wrong : {d : Due} → ValueMayCome o d → is_mark 0x5D l ≡ false → is_mark 0x2C l ≡ false → wrong o whole q d l u r ≡ wrong_value whole q l u r
  value_wrong of_text a b = refl
  value_wrong (of_array m) a b = item_wrong Array m a b
  value_wrong of_property a b = refl

  value_past : {d : Due} → ValueMayCome o d → is_mark 0x5D l ≡ false → is_mark 0x2C l ≡ false → past d l q u r ≡ past_value l q u r
  unfolding past_item
  value_past of_text a b = refl
  value_past (of_array m) a b = item_past Array m a b
  value_past of_property a b = refl

  value_right : is_deep whole q l ≡ false → begins_value (lexeme l) ≡ true → wrong_value whole q l u r ≡ None
  value_right n b = rw (n, b) refl

close_right : (o : Options) (whole : Bool) (q : List Opened) (k : Container) (u r : List ℕ) {d : Due} → CloseMayCome o k d → wrong o whole q d (punctuation (closing k)) u r ≡ None
close_right o whole q Array u r empty = refl
close_right o whole q Object u r empty = refl
close_right o whole q Array u r after_item = refl
close_right o whole q Object u r after_item = refl
close_right o whole q Array u r (after_comma f) = rw f refl
close_right o whole q Object u r (after_comma f) = rw f refl

close_past : (o : Options) (q : List Opened) (k : Container) (u r : List ℕ) {d : Due} → CloseMayCome o k d → past d (punctuation (closing k)) q u r ≡ past_close q r
close_past o q Array u r empty = refl
close_past o q Object u r empty = refl
close_past o q Array u r after_item = refl
close_past o q Object u r after_item = refl
close_past o q Array u r (after_comma f) = refl
close_past o q Object u r (after_comma f) = refl

pub canonical : {o : Options} {whole : Bool} {p r : Place} → Step o whole p r → Canon o whole p r
unfolding past_value past_item past_close
canonical {o} {whole} (takes_literal {q = q} {u = u} l r m n g x v) =
    let a = literal_no_mark 0x5D l v in
    let b = literal_no_mark 0x2C l v in
    canon l r g x (value_wrong o whole q l u r m a b ∙ value_right o whole q l u r n (literal_begins l v)) (sym (value_past o whole q l u r m a b ∙ literal_past l q u r v))
canonical {o} {whole} (opens {q = q} {r = r} Array m n g) =
    let l : LexemeKind = punctuation 0x5B in
    canon l r g (refl, refl) (value_wrong o whole q l (0x5B ∷ r) r m refl refl ∙ value_right o whole q l (0x5B ∷ r) r n refl) (sym (value_past o whole q l (0x5B ∷ r) r m refl refl))
canonical {o} {whole} (opens {q = q} {r = r} Object m n g) =
    let l : LexemeKind = punctuation 0x7B in
    canon l r g (refl, refl) (value_wrong o whole q l (0x7B ∷ r) r m refl refl ∙ value_right o whole q l (0x7B ∷ r) r n refl) (sym (value_past o whole q l (0x7B ∷ r) r m refl refl))
canonical {o} {whole} (closes {q = q} {a = a} {r = r} k m g) =
    canon (punctuation (closing k)) r g (closing_mark o k r) (close_right o whole (container k a ∷ q) k (closing k ∷ r) r m) (sym (close_past o (container k a ∷ q) k (closing k ∷ r) r m))
canonical (takes_comma {r = r} Array g) = canon (punctuation 0x2C) r g (refl, refl) refl refl
canonical (takes_comma {r = r} Object g) = canon (punctuation 0x2C) r g (refl, refl) refl refl
canonical {o} {whole} (takes_name {q = q} {n = n} {u = u} {r = r} m g (inl x)) =
    let l : LexemeKind = string n in
    canon l r g x (item_wrong o whole q l u r Object m refl refl) (sym (item_past o whole q l u r Object m refl refl))
canonical {o} {whole} (takes_name {q = q} {n = n} {u = u} {r = r} m g (inr x)) =
    let l = x.2 in
    let a = name_no_mark 0x7D l x.3 in
    let b = name_no_mark 0x2C l x.3 in
    canon l r g x.4 (item_wrong o whole q l u r Object m a b ∙ name_right o l u r x.0 x.3) (sym (item_past o whole q l u r Object m a b))
canonical (takes_colon {r = r} g) = canon (punctuation 0x3A) r g (refl, refl) refl refl

canon_unique : {o : Options} {whole : Bool} {p a b : Place} → Canon o whole p a → Canon o whole p b → a ≡ b
canon_unique {o} (canon {q = q} {d = d} {u = u} l r g x w e) (canon {u = v} k s h y z f) =
    let same = gap_end g h (lexeme_ends l r x) (lexeme_ends k s y) in
    let one = lexeme_unique o l k u r s x (rw same y) in
    e ∙ ap (λ m. past d m q u r) one.0 ∙ ap (λ m. past d k q m r) same ∙ ap (λ m. past d k q v m) one.1 ∙ sym f

pub step_unique : {o : Options} {whole : Bool} {p a b : Place} → Step o whole p a → Step o whole p b → a ≡ b
step_unique x y = canon_unique (canonical x) (canonical y)

-- nothing stands at the end
no_end : (p : ℕ → Bool) {u : List ℕ} → [] ≡ u → IsTrue (starts p (next u)) → ⊥
no_end p {u = []} e h = cc
no_end p {u = c ∷ u} e h = cc

pub lexeme_no_end : (o : Options) (l : LexemeKind) {u : List ℕ} (r : List ℕ) → [] ≡ u → Lexeme o l u r → ⊥
lexeme_no_end o l r e x = let s = some_text o (lexeme l) _ r x in let f = e ∙ s.2 in cc

pub comment_no_end : {u r : List ℕ} → [] ≡ u → IsComment u r → ⊥
comment_no_end e c = no_end (λ c. c == 0x2F) e (comment_begins c)

pub tells_no_end : {o : Options} {k : ParseErrorKind} {u a b : List ℕ} → [] ≡ u → LexemeFault o k u a b → ⊥
tells_no_end e x = no_end (λ c. not (is_blank c)) e (tells_first x)

fault_same : {k l : ParseErrorKind} {t u r v : List ℕ} → (k ≡ l) × (t ≡ u) × (r ≡ v) → fault k t r ≡ fault l u v
fault_same (a, b, c) = cc

some_same : {f g : Fault} → Some f ≡ Some g → f ≡ g
some_same e = cc

none_some : {f : Fault} → None ≡ Some f → ⊥
none_some e = cc

-- where reading stops, it does not go on
pub stops_no_step : {o : Options} {whole : Bool} {p n : Place} {f : Fault} → Stops o whole p f → Step o whole p n → ⊥
stops_no_step s x = go s (canonical x)
  where
    go : {o : Options} {whole : Bool} {p n : Place} {f : Fault} → Stops o whole p f → Canon o whole p n → ⊥
    go (no_lexeme g x) (canon l r h y w e) = tells_no_lexeme l r x (rw (gap_end g h (tells_ends x) (lexeme_ends l r y)) y)
    go {o} (Stops.comment s off g x) (canon l r h y w e) = comment_no_lexeme o l r x (rw (gap_end g h (comment_ends off x) (lexeme_ends l r y)) y)
    go {o} {whole} (wrong_lexeme {q = q} {d = d} {u = u} k s g x v) (canon {u = z} l r h y w e) =
        let same = gap_end g h (lexeme_ends k s x) (lexeme_ends l r y) in
        let one = lexeme_unique o k l u s r x (rw same y) in
        none_some (sym w ∙ sym (ap (λ m. wrong o whole q d m u s) one.0 ∙ ap (λ m. wrong o whole q d l m s) same ∙ ap (λ m. wrong o whole q d l z m) one.1) ∙ v)
    go {o} (wrong_ending g v) (canon l r h y w e) = lexeme_no_end o l r (gap_end g h end_ends (lexeme_ends l r y)) y

-- and one fault is told
pub stops_unique : {o : Options} {whole : Bool} {p : Place} {f g : Fault} → Stops o whole p f → Stops o whole p g → f ≡ g
stops_unique {o} (no_lexeme {u = u} g x) (no_lexeme h y) = fault_same (one_lexeme_fault o u _ _ _ _ _ _ x (rw (gap_end g h (tells_ends x) (tells_ends y)) y))
stops_unique (no_lexeme g x) (Stops.comment s off h y) = absurd (tells_no_comment s x (rw (gap_end g h (tells_ends x) (comment_ends off y)) y))
stops_unique (no_lexeme g x) (wrong_lexeme l r h y v) = absurd (tells_no_lexeme l r x (rw (gap_end g h (tells_ends x) (lexeme_ends l r y)) y))
stops_unique (no_lexeme g x) (wrong_ending h v) = absurd (tells_no_end (gap_end h g end_ends (tells_ends x)) x)
stops_unique (Stops.comment s off h y) (no_lexeme g x) = absurd (tells_no_comment s x (rw (gap_end g h (tells_ends x) (comment_ends off y)) y))
stops_unique (Stops.comment s off g x) (Stops.comment t on h y) =
    let same = gap_end g h (comment_ends off x) (comment_ends on y) in
    fault_same (refl, same, comment_unique x (rw same y))
stops_unique {o} (Stops.comment s off g x) (wrong_lexeme l r h y v) = absurd (comment_no_lexeme o l r x (rw (gap_end g h (comment_ends off x) (lexeme_ends l r y)) y))
stops_unique (Stops.comment s off g x) (wrong_ending h v) = absurd (comment_no_end (gap_end h g end_ends (comment_ends off x)) x)
stops_unique (wrong_lexeme l r h y v) (no_lexeme g x) = absurd (tells_no_lexeme l r x (rw (gap_end g h (tells_ends x) (lexeme_ends l r y)) y))
stops_unique {o} (wrong_lexeme l r h y v) (Stops.comment s off g x) = absurd (comment_no_lexeme o l r x (rw (gap_end g h (comment_ends off x) (lexeme_ends l r y)) y))
stops_unique {o} {whole} (wrong_lexeme {q = q} {d = d} {u = u} k s g x v) (wrong_lexeme {u = z} l r h y w) =
    let same = gap_end g h (lexeme_ends k s x) (lexeme_ends l r y) in
    let one = lexeme_unique o k l u s r x (rw same y) in
    some_same (sym v ∙ ap (λ m. wrong o whole q d m u s) one.0 ∙ ap (λ m. wrong o whole q d l m s) same ∙ ap (λ m. wrong o whole q d l z m) one.1 ∙ w)
stops_unique {o} (wrong_lexeme l r h y v) (wrong_ending g w) = absurd (lexeme_no_end o l r (gap_end g h end_ends (lexeme_ends l r y)) y)
stops_unique (wrong_ending g v) (no_lexeme h x) = absurd (tells_no_end (gap_end g h end_ends (tells_ends x)) x)
stops_unique (wrong_ending g v) (Stops.comment s off h x) = absurd (comment_no_end (gap_end g h end_ends (comment_ends off x)) x)
stops_unique {o} (wrong_ending g v) (wrong_lexeme l r h y w) = absurd (lexeme_no_end o l r (gap_end g h end_ends (lexeme_ends l r y)) y)
stops_unique (wrong_ending g v) (wrong_ending h w) = some_same (sym v ∙ w)
