-- A number at the start of a text, and whether it is all of it.
use Rattle.std.proofs.Common.{arith, chars, encode_utf8_all, ◌↔◌, nat_eq, subst, IsUtf8, IsCharBoundary, length-drop, eqb-true, ℕ, ◌≡◌, ◌∙◌, sym, ap, Bool, true, false, List, [], Option, Some, None, Result, Ok, Err, IfErr, IsTrue, IfSome, IfNone, length, codes}
use Rattle.std.specs.Result.{result_ok}
use Rattle.jsonc_text.specs.Options.{Options}
use Rattle.jsonc_text.specs.Numbers.{Number, NumberLit}
use Rattle.jsonc_text.proofs.Cuts.{rest_encodes}
use Rattle.jsonc_text.proofs.CharacterSteps.{rest_end}
use Rattle.jsonc_text.proofs.UniqueNumbers.{number_unique}
use Rattle.jsonc_text.specs.Text.{rest}
use Rattle.jsonc_text.specs.string.Between.{Between, NoneFrom}
use Rattle.jsonc_scan.specs.Between.{IsWhole}
use Rattle.jsonc_scan.specs.Reads.{begins_number, NoNames, NoNumber}
use Rattle.jsonc_scan.proofs.NoLexemes.{number_name}
use Rattle.jsonc_scan.proofs.Reading.{nan_whole}

pub is_off : (b : Bool) → b ≡ false → IsTrue b → ⊥
is_off true e a = let wrong : false ≡ true = sym e in cc
is_off false e a = let wrong : false ≡ true = a in cc

pub none_begins : {E : Type 0} (o : Options) (bytes : List ℕ) (r : Result ℕ E) → NoNames bytes 0 → IfErr r (λ _. NoNumber o bytes 0) → IfNone (result_ok r) (NoneFrom (Number o) bytes 0)
none_begins o bytes (Ok end) names h = tt
none_begins o bytes (Err e) names h = h names

pub nan_found : (o : Options) (bytes : List ℕ) (i : ℕ) (found : Option ℕ) → IsTrue o.non_finite_numbers → IfSome found (Between (IsWhole (codes "NaN")) bytes i) → IfSome found (Between (Number o) bytes i)
nan_found o bytes i None a h = tt
nan_found o bytes i (Some j) a h = nan_whole bytes i j h o a

pub none_found : (o : Options) (bytes : List ℕ) (found : Option ℕ) → begins_number (rest bytes 0) ≡ false → NoneFrom (IsWhole (codes "Infinity")) bytes 0 → IfNone found (NoneFrom (IsWhole (codes "NaN")) bytes 0) → IfNone found (NoneFrom (Number o) bytes 0)
none_found o bytes (Some j) begins infinity nan = tt
none_found o bytes None begins infinity nan = λ r x. number_name begins (λ a s w. infinity s w) (λ a s w. nan s w) x

pub none_whole : (o : Options) (bytes : List ℕ) → NoneFrom (Number o) bytes 0 → IsTrue false ↔ NumberLit o (chars bytes)
none_whole o bytes none = ((λ a. absurd (let wrong : false ≡ true = a in cc)), λ x. absurd (none [] x))

at_end : (bytes : List ℕ) (end : ℕ) → IsUtf8 bytes → IsCharBoundary bytes end → rest bytes end ≡ [] → end ≡ length bytes
at_end bytes end u b e = omega (arith, b.0, length-drop end bytes, ap length (sym (rest_encodes bytes end u b) ∙ ap encode_utf8_all e))

-- what is left is nothing exactly at the end
pub is_whole : (o : Options) (bytes : List ℕ) (end : ℕ) → IsUtf8 bytes → Between (Number o) bytes 0 end → IsTrue (nat_eq end (length bytes)) ↔ NumberLit o (chars bytes)
is_whole o bytes end u found = (
  λ e. subst (Number o (chars bytes)) (rest_end bytes end (omega (arith, eqb-true end (length bytes) e))) found.piece,
  λ x. let e : end ≡ length bytes = at_end bytes end u found.boundary (number_unique found.piece x) in grind (arith, e),
)
